-- The slot room: one word for each base slot, then three for each extension slot.
-- Assumes nothing.
use Rattle.std.specs.Prelude.{List, [], ◌∷◌, ◌≡◌, ℕ, ◌+◌, ◌*◌, ◌<◌, length, get_or, take, drop, Option, None, Some}
use Rattle.field.specs.Base.{p, ◌≈◌}
use Rattle.extension.specs.Ext.{limb, Near}
use Rattle.blob_rules.specs.declared.blob.BlobCounts.{BlobCounts}
use Rattle.blob_rules.specs.Blob.{base_slots_of, ext_slots_of}
use Rattle.device.specs.StepRule.{Slots}

-- where the three words of an extension slot begin
abbrev pub ext_word : BlobCounts → ℕ → ℕ
ext_word c k = base_slots_of c + 3 * k

-- the words of all slots
abbrev pub slot_words : BlobCounts → ℕ
slot_words c = base_slots_of c + 3 * ext_slots_of c

-- three words from a place on
abbrev pub limbs_at : List ℕ → ℕ → List ℕ
limbs_at l k = take 3 (drop k l)

-- what a base slot holds; 0 where nobody filled it
abbrev pub held_word : Option ℕ → ℕ
held_word None = 0
held_word (Some x) = x

-- of an extension slot: three zeros where it was never filled
abbrev pub held_limbs : Option (List ℕ) → List ℕ
held_limbs None = 0 ∷ 0 ∷ 0 ∷ []
held_limbs (Some x) = x

-- the room after a walk: each slot's words stand for what it holds and are below p; words past the slots stay
pub record SlotsEnd (c : BlobCounts) (m : Slots ℕ (List ℕ)) (old new : List ℕ) : Type 0 where
  pub base_slot : (k : ℕ) → k < base_slots_of c → get_or new k 0 ≈ held_word (m.bases k)
  pub ext_slot : (k : ℕ) → k < ext_slots_of c → Near 3 (limbs_at new (ext_word c k)) (held_limbs (m.exts k))
  pub base_low : (k : ℕ) → k < base_slots_of c → get_or new k 0 < p
  pub ext_low : (k : ℕ) → k < ext_slots_of c → (i : ℕ) → i < 3 → limb (limbs_at new (ext_word c k)) i < p
  pub rest : drop (slot_words c) new ≡ drop (slot_words c) old
  pub long : length new ≡ length old
