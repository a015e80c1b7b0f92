-- Operations on operands that stand for values.
-- Assumes nothing.
use mathlib.Core.Bool.{cond}
use mathlib.Core.List.{List, [], ◌∷◌}
use Rattle.std.specs.Prelude.{Option, None, Some}
use mathlib.Core.Path.{◌≡◌, refl, ap}
use Prim.Native.Nat.{ℕ, ◌+◌, ◌*◌, ◌<◌, ◌≤◌}
use native.Mathlib.Omega.{arith}
use lib.Dec.{eqb}
use borrow.Author.Tests.{eqb-true, eqb-false}
use Rattle.laws.proofs.Cases.{by_test}
use Rattle.laws.specs.Options.{on1, on2, at}
use Rattle.laws.proofs.Folds.{none_some}
use Rattle.laws.proofs.Options.{only_some}
use Rattle.field.specs.Base.{p, ◌≈◌, Is}
use Rattle.field.specs.Base as Field
use Rattle.extension.specs.Ext.{sums, minuses, product, Near, Limbs, LeastLimbs}
use Rattle.extension.specs.Tower.{goldilocks}
use Rattle.field.proofs.Laws.{◌then◌, reduced, add≈, mul≈, minus≈, stands}
use Rattle.extension.proofs.ExtLaws.{near_trans, limbs_stand, least_limbs, sums_near, minuses_near, product_near, remainders_near}
use Rattle.ir.specs.declared.frame.Shape.{Shape}
use Rattle.values.specs.Values.{base, ext}
use Rattle.values.specs.Frame.{Lent}
use Rattle.values.specs.Room.{ValueIs}
use Rattle.values.proofs.ValueLaws.{base_is, ext_is}
use Rattle.blob_rules.specs.declared.blob.BlobCounts.{BlobCounts}
use Rattle.blob_rules.specs.Blob.{Instr, Binary, plus, minus, times, binary, tags, kinds}
use Rattle.device.specs.StepRule.{base_operand, ext_operand, op₀, op₁}
use Rattle.slots.specs.Steps.{ReadsBase, ReadsExt, BaseGives, ExtGives}
use Rattle.std.proofs.lemmas.Option.{same_Some}

-- ---- answers that are there

two : {A C : Type 0} (f : A → A → C) (o r : Option A) {v : C} → on2 f o r ≡ Some v → (x : A) × (y : A) × (o ≡ Some x) × (r ≡ Some y) × (f x y ≡ v)
two f None r h = none_some refl h
two f (Some x) None h = none_some refl h
two f (Some x) (Some y) {v} h = (x, y, refl, refl, same_Some (f x y) v h)

one : {A C : Type 0} (f : A → C) (o : Option A) {v : C} → on1 f o ≡ Some v → (x : A) × (o ≡ Some x) × (f x ≡ v)
one f None h = none_some refl h
one f (Some x) {v} h = (x, refl, same_Some (f x) v h)

-- ---- the field's promises, by operation

-- what the base field promises of words
abbrev pub Is₀ : Binary → ℕ → ℕ → ℕ → Type 0
Is₀ plus a b r = Is (a + b) r
Is₀ minus a b r = Is (a + Field.minus b) r
Is₀ times a b r = Is (a * b) r

-- and the extension
abbrev pub Is₁ : Binary → List ℕ → List ℕ → List ℕ → Type 0
Is₁ plus a b r = Limbs 3 (sums 3 a b) r
Is₁ minus a b r = Limbs 3 (sums 3 a (minuses 3 b)) r
Is₁ times a b r = Limbs 3 (product a b) r

base_result : (o : Binary) {a b x y r : ℕ} → a ≈ x → b ≈ y → Is₀ o a b r → ValueIs (base (op₀ goldilocks o x y)) 0 (r ∷ 0 ∷ 0 ∷ [])
base_result plus e f h = base_is (stands h (add≈ e f then reduced))
base_result minus e f h = base_is (stands h (add≈ e (minus≈ f) then reduced))
base_result times e f h = base_is (stands h (mul≈ e f then reduced))

ext_result : (o : Binary) {a b x y r : List ℕ} → Near 3 a x → Near 3 b y → Is₁ o a b r → ValueIs (ext (op₁ goldilocks o x y)) 1 r
ext_result plus e f h = ext_is (limbs_stand h (near_trans (sums_near 3 e f) (remainders_near 3 _)))
ext_result minus e f h = ext_is (limbs_stand h (near_trans (sums_near 3 e (minuses_near 3 f)) (remainders_near 3 _)))
ext_result times e f h = ext_is (limbs_stand h (near_trans (product_near e f) (remainders_near 3 _)))

-- ---- base results

is_add : {k : ℕ} → 6 ≤ k → k < 9 → (k ≡ 8 → ⊥) → (k ≡ 7 → ⊥) → k ≡ 6
is_add l h a b = omega arith

module _ (c : BlobCounts) (consts room : List ℕ) (w : Instr) {x r : ℕ} where
  pub base_binary_gives : (o : Binary) {y : ℕ} → at tags w.op ≡ Some (binary o) → ReadsBase c consts room w.a x → ReadsBase c consts room w.b y → Is₀ o x y r → BaseGives c consts room w r
  base_binary_gives o e f g h =
      record {
        follows = λ s u t m v res held wide z.
            let q = two (λ i j. base (op₀ goldilocks o i j)) (base_operand kinds c s u m w.a) (base_operand kinds c s u m w.b) (rw (e, wide) at z) in
            rw (← q.4) (base_result o (f.follows s u t m q.0 held q.2) (g.follows s u t m q.1 held q.3) h);
      }

  -- the result that is chosen out of all three
  pub base_chosen_gives : {y sum difference made : ℕ} → 6 ≤ w.op → w.op < 9 → ReadsBase c consts room w.a x → ReadsBase c consts room w.b y
      → Is₀ plus x y sum → Is₀ minus x y difference → Is₀ times x y made → r ≡ cond (eqb w.op 8) made (cond (eqb w.op 7) difference sum) → BaseGives c consts room w r
  base_chosen_gives l h f g s d m e =
      by_test (eqb w.op 8) _ (λ t. base_binary_gives times (ap (at tags) (eqb-true w.op 8 t)) f g (rw (rw t at e) m))
      λ t. by_test (eqb w.op 7) _ (λ z. base_binary_gives minus (ap (at tags) (eqb-true w.op 7 z)) f g (rw (rw (t, z) at e) d))
      λ z. base_binary_gives plus (ap (at tags) (is_add l h (eqb-false w.op 8 t) (eqb-false w.op 7 z))) f g (rw (rw (t, z) at e) s)

  pub base_negation_gives : w.op ≡ 9 → ReadsBase c consts room w.a x → Is (Field.minus x) r → BaseGives c consts room w r
  base_negation_gives e f h =
      record {
        follows = λ s u t m v res held wide z.
            let k = only_some (eqb w.b 0) (on1 (λ i. base (goldilocks.neg₀ i)) (base_operand kinds c s u m w.a)) (rw (e, wide) at z) in
            let q = one (λ i. base (goldilocks.neg₀ i)) (base_operand kinds c s u m w.a) k.1 in
            rw (← q.2) (base_is (stands h (minus≈ (f.follows s u t m q.0 held q.1) then reduced)));
      }

-- ---- extension results

module _ (c : BlobCounts) (s : Shape) (l : Lent) (room : List ℕ) (w : Instr) where
  abbrev Reads : ℕ → List ℕ → Type 0
  Reads = ReadsExt c s l room

  abbrev Gives : List ℕ → Type 0
  Gives = ExtGives c s l room w

  pub ext_binary_gives : (o : Binary) {x y r : List ℕ} → at tags w.op ≡ Some (binary o) → Reads w.a x → Reads w.b y → Is₁ o x y r → Gives r
  ext_binary_gives o e f g h =
      record {
        follows = λ u t m v res held wide z.
            let q = two (λ i j. ext (op₁ goldilocks o i j)) (ext_operand kinds c s u goldilocks m w.a) (ext_operand kinds c s u goldilocks m w.b) (rw (e, wide) at z) in
            rw (← q.4) (ext_result o (f.follows u t m q.0 held q.2) (g.follows u t m q.1 held q.3) h);
      }

  -- the sum or the difference, whichever is chosen
  pub ext_either_gives : {x y sum difference r : List ℕ} → 6 ≤ w.op → w.op < 9 → (w.op ≡ 8 → ⊥) → Reads w.a x → Reads w.b y → Is₁ plus x y sum → Is₁ minus x y difference
      → r ≡ cond (eqb w.op 7) difference sum → Gives r
  ext_either_gives l h n f g s d e =
      by_test (eqb w.op 7) _ (λ z. ext_binary_gives minus (ap (at tags) (eqb-true w.op 7 z)) f g (rw (rw z at e) d))
      λ z. ext_binary_gives plus (ap (at tags) (is_add l h n (eqb-false w.op 7 z))) f g (rw (rw z at e) s)

  pub ext_negation_gives : {x r : List ℕ} → w.op ≡ 9 → Reads w.a x → Limbs 3 (minuses 3 x) r → Gives r
  ext_negation_gives e f h =
      record {
        follows = λ u t m v res held wide z.
            let k = only_some (eqb w.b 0) (on1 (λ i. ext (goldilocks.neg₁ i)) (ext_operand kinds c s u goldilocks m w.a)) (rw (e, wide) at z) in
            let q = one (λ i. ext (goldilocks.neg₁ i)) (ext_operand kinds c s u goldilocks m w.a) k.1 in
            rw (← q.2) (ext_is (limbs_stand h (near_trans (minuses_near 3 (f.follows u t m q.0 held q.1)) (remainders_near 3 _))));
      }

  pub ext_embedding_gives : {x r : List ℕ} → w.op ≡ 10 → Reads w.a x → LeastLimbs 3 x r → Gives r
  ext_embedding_gives e f h =
      record {
        follows = λ u t m v res held wide z.
            let k = only_some (eqb w.b 0) (on1 ext (ext_operand kinds c s u goldilocks m w.a)) (rw e at z) in
            let q = one ext (ext_operand kinds c s u goldilocks m w.a) k.1 in
            rw (← q.2) (ext_is (limbs_stand (least_limbs h) (f.follows u t m q.0 held q.1)));
      }

-- ---- which operation it is, once the others are left out

pub is_neg : {k : ℕ} → 9 ≤ k → k < 10 → k ≡ 9
is_neg l h = omega arith

pub is_embed : {k : ℕ} → 9 ≤ k → k ≤ 10 → (k ≡ 9 → ⊥) → k ≡ 10
is_embed l h a = omega arith
