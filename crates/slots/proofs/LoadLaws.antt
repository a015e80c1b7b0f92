-- What operand words read.
-- Assumes nothing.
use mathlib.Core.Bool.{Bool, true, false}
use mathlib.Core.List.{List}
use Rattle.std.specs.Prelude.{Option, None, Some}
use mathlib.Core.Path.{◌≡◌, refl}
use Prim.Native.Nat.{ℕ, zero, suc, ◌*◌, ◌<◌, ◌≤◌}
use native.Mathlib.Omega.{arith}
use lib.Dec.{eqb, ltb}
use lib.ListN.{get_or}
use borrow.Author.Tests.{ltb-true}
use Rattle.laws.specs.Options.{after, on1, only_if, at}
use Rattle.laws.proofs.Folds.{none_some}
use Rattle.laws.proofs.Tests.{clash, and_left}
use Rattle.field.specs.Base.{◌≈◌}
use Rattle.extension.specs.Ext.{embedded, Near, Limbs}
use Rattle.extension.specs.Tower.{goldilocks}
use Rattle.field.proofs.Laws.{reduced}
use Rattle.extension.proofs.ExtLaws.{near_trans, limbs_near, embedded_near, remainders_near}
use Rattle.ir.specs.declared.frame.Shape.{Shape}
use Rattle.values.specs.Values.{Value, base, ext, to_ext}
use Rattle.values.specs.Frame.{Lent, word, triple}
use Rattle.blob_rules.specs.declared.blob.BlobCounts.{BlobCounts}
use Rattle.blob_rules.specs.Blob.{base_slots_of, ext_slots_of, kind_of, payload_of, kinds, tags}
use Rattle.device.specs.StepRule.{Slots, only_base, base_operand, ext_operand}
use Rattle.blob_rules.specs.Check.{Filled, kind_ok, operand_ok}
use Rattle.slots.specs.Slots.{ext_word, limbs_at}
use Rattle.slots.specs.Steps.{Holds, BaseLegal, ExtLegal, ReadsBase, ReadsExt}
use Rattle.std.proofs.lemmas.Option.{same_Some}

-- ---- a base operand

module _ (c : BlobCounts) (s : Shape) (f : Filled) where
  -- a base slot that there is, or else a base constant that there is
  base_kind : (k q : ℕ) → kind_ok tags kinds c s f false (at kinds k) q ≡ true → (k ≡ 0 → q < base_slots_of c) × ((k ≡ 0 → ⊥) → (k ≡ 2) × (q < c.bases))
  base_kind zero q h = (λ e. ltb-true q (base_slots_of c) (and_left (ltb q (base_slots_of c)) (f.bases q) h), λ n. absurd (n refl))
  base_kind (suc zero) q h = clash h refl
  base_kind (suc (suc zero)) q h = (λ e. absurd (omega arith), λ n. (refl, ltb-true q c.bases h))
  base_kind (suc (suc (suc zero))) q h = clash h refl
  base_kind (suc (suc (suc (suc zero)))) q h = clash h refl
  base_kind (suc (suc (suc (suc (suc zero))))) q h = clash h refl
  base_kind (suc (suc (suc (suc (suc (suc zero)))))) q h = clash h refl
  base_kind (suc (suc (suc (suc (suc (suc (suc k))))))) q h = clash h refl

pub base_legal : (c : BlobCounts) (w : ℕ) → BaseLegal c w → (kind_of w ≡ 0 → payload_of w < base_slots_of c) × ((kind_of w ≡ 0 → ⊥) → (kind_of w ≡ 2) × (payload_of w < c.bases))
unfolding operand_ok
base_legal c w h = base_kind c h.shape h.filled (kind_of w) (payload_of w) h.ok

-- a base value that is held
held_base : (o : Option ℕ) {x : ℕ} → after (on1 {B = Value ℕ (List ℕ)} base o) only_base ≡ Some x → o ≡ Some x
held_base None h = none_some refl h
held_base (Some y) h = h

pub reads_base_slot : (c : BlobCounts) (consts room : List ℕ) (w : ℕ) → kind_of w ≡ 0 → ReadsBase c consts room w (get_or room (payload_of w) 0)
unfolding base_operand
reads_base_slot c consts room w e =
    record { follows = λ s u t m x h z. (h.bases (payload_of w) x (held_base (m.bases (payload_of w)) (rw e at z))).1 }

pub reads_base_const : (c : BlobCounts) (consts room : List ℕ) (w : ℕ) → kind_of w ≡ 2 → ReadsBase c consts room w (get_or consts (payload_of w) 0)
unfolding base_operand
reads_base_const c consts room w e =
    record { follows = λ s u t m x h z. const_word (ltb (payload_of w) c.bases) (t (payload_of w)) (rw e at z) }
  where
    const_word : (b : Bool) {v x : ℕ} → v ≡ word consts (payload_of w) → after (only_if {A = Value ℕ (List ℕ)} b (Some (base v))) only_base ≡ Some x → get_or consts (payload_of w) 0 ≈ x
    const_word true {v} {x} q z = rw (← same_Some v x z, q) reduced
    const_word false q z = none_some refl z

-- ---- an extension operand

-- by its kind, a place inside its table
pub record ExtIn (c : BlobCounts) (s : Shape) (k q : ℕ) : Type 0 where
  pub base_slot : k ≡ 0 → q < base_slots_of c
  pub ext_slot : k ≡ 1 → q < ext_slots_of c
  pub base_const : k ≡ 2 → q < c.bases
  pub ext_const : k ≡ 3 → q < c.exts
  pub challenge : k ≡ 4 → q < s.challenges
  pub alpha : k ≡ 5 → q < s.alphas
  pub known : k ≤ 6

module _ (c : BlobCounts) (s : Shape) (f : Filled) where
  abbrev ok : ℕ → ℕ → Type 0
  ok k q = kind_ok tags kinds c s f true (at kinds k) q ≡ true

  kind_known : (k q : ℕ) → ok k q → k ≤ 6
  kind_known zero q h = omega arith
  kind_known (suc zero) q h = omega arith
  kind_known (suc (suc zero)) q h = omega arith
  kind_known (suc (suc (suc zero))) q h = omega arith
  kind_known (suc (suc (suc (suc zero)))) q h = omega arith
  kind_known (suc (suc (suc (suc (suc zero))))) q h = omega arith
  kind_known (suc (suc (suc (suc (suc (suc zero)))))) q h = omega arith
  kind_known (suc (suc (suc (suc (suc (suc (suc k))))))) q h = clash h refl

  ext_in : (k q : ℕ) → ok k q → ExtIn c s k q
  ext_in k q h =
      record {
        base_slot = λ e. let z : ok 0 q = rw e at h in ltb-true q (base_slots_of c) (and_left (ltb q (base_slots_of c)) (f.bases q) z);
        ext_slot = λ e. let z : ok 1 q = rw e at h in ltb-true q (ext_slots_of c) (and_left (ltb q (ext_slots_of c)) (f.exts q) z);
        base_const = λ e. let z : ok 2 q = rw e at h in ltb-true q c.bases z;
        ext_const = λ e. let z : ok 3 q = rw e at h in ltb-true q c.exts z;
        challenge = λ e. let z : ok 4 q = rw e at h in ltb-true q s.challenges z;
        alpha = λ e. let z : ok 5 q = rw e at h in ltb-true q s.alphas z;
        known = kind_known k q h;
      }

pub ext_legal : (c : BlobCounts) (s : Shape) (w : ℕ) → ExtLegal c s w → ExtIn c s (kind_of w) (payload_of w)
unfolding operand_ok
ext_legal c s w h = ext_in c s h.filled (kind_of w) (payload_of w) h.ok

-- a base word, embedded
embedded_word : {r x : ℕ} {l : List ℕ} → r ≈ x → Limbs 3 (embedded 3 r) l → Near 3 l (to_ext goldilocks (base x))
embedded_word {x = x} e h = near_trans (limbs_near h) (near_trans (embedded_near 3 e) (remainders_near 3 (embedded 3 x)))

module _ (c : BlobCounts) (s : Shape) (l : Lent) (room : List ℕ) (w : ℕ) where
  abbrev Reads : List ℕ → Type 0
  Reads = ReadsExt c s l room w

  pub ext_base_slot : {r : List ℕ} → kind_of w ≡ 0 → Limbs 3 (embedded 3 (get_or room (payload_of w) 0)) r → Reads r
  unfolding ext_operand
  ext_base_slot {r} e h = record { follows = λ u t m x held z. from_slot (m.bases (payload_of w)) refl held (rw e at z) }
    where
      from_slot : {m : Slots ℕ (List ℕ)} {x : List ℕ} (o : Option ℕ) → m.bases (payload_of w) ≡ o → Holds c m room → on1 (to_ext goldilocks) (on1 base o) ≡ Some x → Near 3 r x
      from_slot None q held z = none_some refl z
      from_slot {m} {x} (Some y) q held z = rw (← same_Some (to_ext goldilocks (base y)) x z) (embedded_word (held.bases (payload_of w) y q).1 h)

  pub ext_ext_slot : {r : List ℕ} → kind_of w ≡ 1 → r ≡ limbs_at room (ext_word c (payload_of w)) → Reads r
  unfolding ext_operand
  ext_ext_slot {r} e h = record { follows = λ u t m x held z. from_slot (m.exts (payload_of w)) refl held (rw e at z) }
    where
      from_slot : {m : Slots ℕ (List ℕ)} {x : List ℕ} (o : Option (List ℕ)) → m.exts (payload_of w) ≡ o → Holds c m room → on1 (to_ext goldilocks) (on1 ext o) ≡ Some x → Near 3 r x
      from_slot None q held z = none_some refl z
      from_slot {m} {x} (Some y) q held z = rw (← same_Some y x z, h) (held.exts (payload_of w) y q).1

  -- a uniform of a table, under its test
  uniform : (b : Bool) (v : Value ℕ (List ℕ)) {r x : List ℕ} → Near 3 r (to_ext goldilocks v) → on1 (to_ext goldilocks) (only_if b (Some v)) ≡ Some x → Near 3 r x
  uniform true v {r} {x} n z = rw (← same_Some (to_ext goldilocks v) x z) n
  uniform false v n z = none_some refl z

  pub ext_base_const : {r : List ℕ} → kind_of w ≡ 2 → Limbs 3 (embedded 3 (get_or l.bases (payload_of w) 0)) r → Reads r
  unfolding ext_operand
  ext_base_const {r} e h =
      record { follows = λ u t m x held z. uniform (ltb (payload_of w) c.bases) (base (u.base_const (payload_of w))) (rw (t.base_const (payload_of w)) (embedded_word reduced h)) (rw e at z) }

  -- three words of a table, and what they stand for
  words_stand : (t : List ℕ) (k : ℕ) {r : List ℕ} → r ≡ limbs_at t (3 * k) → Near 3 r (triple t k)
  words_stand t k e = rw e (remainders_near 3 (limbs_at t (3 * k)))

  pub ext_ext_const : {r : List ℕ} → kind_of w ≡ 3 → r ≡ limbs_at l.exts (3 * payload_of w) → Reads r
  unfolding ext_operand
  ext_ext_const {r} e h =
      record { follows = λ u t m x held z. uniform (ltb (payload_of w) c.exts) (ext (u.ext_const (payload_of w))) (rw (t.ext_const (payload_of w)) (words_stand l.exts (payload_of w) h)) (rw e at z) }

  pub ext_challenge : {r : List ℕ} → kind_of w ≡ 4 → r ≡ limbs_at l.challenges (3 * payload_of w) → Reads r
  unfolding ext_operand
  ext_challenge {r} e h =
      record { follows = λ u t m x held z. uniform (ltb (payload_of w) s.challenges) (ext (u.challenge (payload_of w))) (rw (t.challenge (payload_of w)) (words_stand l.challenges (payload_of w) h)) (rw e at z) }

  pub ext_alpha : {r : List ℕ} → kind_of w ≡ 5 → r ≡ limbs_at l.alphas (3 * payload_of w) → Reads r
  unfolding ext_operand
  ext_alpha {r} e h =
      record { follows = λ u t m x held z. uniform (ltb (payload_of w) s.alphas) (ext (u.alpha (payload_of w))) (rw (t.alpha (payload_of w)) (words_stand l.alphas (payload_of w) h)) (rw e at z) }

  pub ext_offset : kind_of w ≡ 6 → Reads l.offset
  unfolding ext_operand
  ext_offset e =
      record { follows = λ u t m x held z. uniform (eqb (payload_of w) 0) (ext u.table_offset) (rw t.table_offset (remainders_near 3 l.offset)) (rw e at z) }

-- a kind that is none of the others
pub last_kind : {k : ℕ} → k ≤ 6 → (k ≡ 0 → ⊥) → (k ≡ 1 → ⊥) → (k ≡ 2 → ⊥) → (k ≡ 3 → ⊥) → (k ≡ 4 → ⊥) → (k ≡ 5 → ⊥) → k ≡ 6
last_kind {k} l a b c d e f = last (first a b c) l d e f
  where
    first : {k : ℕ} → (k ≡ 0 → ⊥) → (k ≡ 1 → ⊥) → (k ≡ 2 → ⊥) → 3 ≤ k
    first a b c = omega arith

    last : {k : ℕ} → 3 ≤ k → k ≤ 6 → (k ≡ 3 → ⊥) → (k ≡ 4 → ⊥) → (k ≡ 5 → ⊥) → k ≡ 6
    last h l d e f = omega arith
