-- The promise of the walk leaves one answer and one memory, and its rows stand in document 01's order.
-- Assumes nothing.
use Rattle.std.specs.Prelude.{Result}
use Rattle.ir.specs.declared.refusal.Refusal.{Refusal}
use mathlib.Core.Bool.{true}
use mathlib.Core.List.{List}
use mathlib.Core.Path.{◌≡◌, refl, sym, ap, ◌∙◌}
use Prim.Native.Nat.{ℕ, ◌+◌, ◌-◌, ◌/◌, ◌%◌, ◌<◌, ◌≤◌}
use native.Mathlib.Omega.{arith}
use lib.Dec.{ltb}
use lib.ListN.{length, get_or, drop}
use lib.Seq.{ext_get_or, get_or-take, get_or-drop}
use borrow.Author.Tests.{ltb-true, ltb-false}
use Rattle.laws.proofs.Cases.{by_test}
use Rattle.extension.specs.Ext.{limb}
use Rattle.ir.specs.declared.frame.Shape.{Shape}
use Rattle.ir.specs.Refusals.{in_order, any_holds}
use Rattle.ir.proofs.Single.{outcome_single}
use Rattle.values.specs.Frame.{Lent}
use Rattle.evaluation.proofs.EvalLaws.{one_word}
use Rattle.blob_rules.specs.declared.blob.BlobCounts.{BlobCounts}
use Rattle.blob_rules.specs.Blob.{Blob, base_slots_of, ext_slots_of}
use Rattle.device.specs.StepRule.{Slots}
use Rattle.blob_rules.specs.Check.{blob_order}
use Rattle.slots.specs.Slots.{ext_word, slot_words, limbs_at, SlotsEnd}
use Rattle.walk.specs.Walk.{walk_rows, WalkAnswer}

-- a limb of an extension slot is a word of the room
limb_word : (l : List ℕ) (e i : ℕ) → i < 3 → limb (limbs_at l e) i ≡ get_or l (e + i) 0
limb_word l e i h = get_or-take 3 (drop e l) i 0 h ∙ get_or-drop e l i 0

module _ (c : BlobCounts) (m : Slots ℕ (List ℕ)) (old a b : List ℕ) (f : SlotsEnd c m old a) (g : SlotsEnd c m old b) where
  base_same : (k : ℕ) → k < base_slots_of c → get_or a k 0 ≡ get_or b k 0
  base_same k h = one_word (f.base_slot k h) (g.base_slot k h) (f.base_low k h) (g.base_low k h)

  limb_same : (k i : ℕ) → k < ext_slots_of c → i < 3 → get_or a (ext_word c k + i) 0 ≡ get_or b (ext_word c k + i) 0
  limb_same k i h l =
      sym (limb_word a (ext_word c k) i l)
      ∙ one_word ((f.ext_slot k h).limb_near i l) ((g.ext_slot k h).limb_near i l) (f.ext_low k h i l) (g.ext_low k h i l)
      ∙ limb_word b (ext_word c k) i l

  ext_same : (j : ℕ) → base_slots_of c ≤ j → j < slot_words c → get_or a j 0 ≡ get_or b j 0
  ext_same j l h =
      let d = j - base_slots_of c in
      let e : ext_word c (d / 3) + d % 3 ≡ j = omega arith in
      ap (λ (n : ℕ). get_or a n 0) (sym e) ∙ limb_same (d / 3) (d % 3) (omega arith) (omega arith) ∙ ap (λ (n : ℕ). get_or b n 0) e

  rest_same : (j : ℕ) → slot_words c ≤ j → get_or a j 0 ≡ get_or b j 0
  rest_same j h =
      let d = j - slot_words c in
      let e : slot_words c + d ≡ j = omega arith in
      ap (λ (n : ℕ). get_or a n 0) (sym e)
      ∙ sym (get_or-drop (slot_words c) a d 0)
      ∙ ap (λ (l : List ℕ). get_or l d 0) (f.rest ∙ sym g.rest)
      ∙ get_or-drop (slot_words c) b d 0
      ∙ ap (λ (n : ℕ). get_or b n 0) e

  pub slots_single : a ≡ b
  slots_single =
      ext_get_or 0 a b (f.long ∙ sym g.long) λ j h.
      by_test (ltb j (base_slots_of c)) (get_or a j 0 ≡ get_or b j 0)
      (λ t. base_same j (ltb-true j (base_slots_of c) t))
      λ t. by_test (ltb j (slot_words c)) (get_or a j 0 ≡ get_or b j 0)
      (λ z. ext_same j (ltb-false j (base_slots_of c) t) (ltb-true j (slot_words c) z))
      λ z. rest_same j (ltb-false j (slot_words c) z)

pub walk_single : {b : Blob} {s : Shape} {l : Lent} {r r' : Result (Unit {0}) Refusal} {base base₁ base₂ ext ext₁ ext₂ marks marks₁ marks₂ slots slots₁ slots₂ : List ℕ}
    → WalkAnswer b s l r base base₁ ext ext₁ marks marks₁ slots slots₁ → WalkAnswer b s l r' base base₂ ext ext₂ marks marks₂ slots slots₂
    → (r ≡ r') × (base₁ ≡ base₂) × (ext₁ ≡ ext₂) × (marks₁ ≡ marks₂) × (slots₁ ≡ slots₂)
walk_single {b} {s} {l} {r} {r'} {base} {base₁} {base₂} {ext} {ext₁} {ext₂} {marks} {marks₁} {marks₂} {slots} {slots₁} {slots₂} f g = (
  outcome_single r r' (f.said ∙ sym g.said),
  f.base_evals ∙ sym g.base_evals,
  f.ext_evals ∙ sym g.ext_evals,
  f.marks_end ∙ sym g.marks_end,
  by_test (any_holds (walk_rows b s l (length marks) (length slots) (length base) (length ext))) (slots₁ ≡ slots₂)
      (λ t. f.slots_kept t ∙ sym (g.slots_kept t))
      (λ t. slots_single b.counts _ slots slots₁ slots₂ (f.slots_end t) (g.slots_end t)),
)

pub walk_in_order : (b : Blob) (s : Shape) (l : Lent) (marks slots base ext : ℕ) → in_order (walk_rows b s l marks slots base ext) blob_order ≡ true
walk_in_order b s l marks slots base ext = refl
