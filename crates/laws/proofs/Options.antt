-- Laws of answers that may be missing: of a step that asks for several, whether one is.
-- Assumes nothing.
use mathlib.Core.Bool.{Bool, true, false, not, ◌&&◌}
use Rattle.std.specs.Prelude.{Option, None, Some}
use mathlib.Core.Path.{◌≡◌, refl}
use Rattle.laws.specs.Options.{after, on1, on2, only_if, missing}
use Rattle.laws.proofs.Folds.{none_some}
use Rattle.laws.proofs.Tests.{clash}

pub missing_only : {A : Type 0} (t : Bool) (a : A) → missing (only_if t (Some a)) ≡ not t
missing_only true a = refl
missing_only false a = refl

-- an answer that is not missing is there
pub present : {A : Type 0} (o : Option A) → missing o ≡ false → (a : A) × (o ≡ Some a)
present None h = clash refl h
present (Some a) h = (a, refl)

-- a test and an answer that were not stopped
pub only_some : {A : Type 0} (t : Bool) (o : Option A) {a : A} → only_if t o ≡ Some a → (t ≡ true) × (o ≡ Some a)
only_some true o h = (refl, h)
only_some false o h = none_some refl h

pub after_some : {A B : Type 0} (o : Option A) (f : A → Option B) {b : B} → after o f ≡ Some b → (a : A) × (o ≡ Some a) × (f a ≡ Some b)
after_some None f h = none_some refl h
after_some (Some a) f h = (a, refl, h)

pub missing_on1 : {A B : Type 0} (f : A → B) (o : Option A) → missing (on1 f o) ≡ missing o
missing_on1 f None = refl
missing_on1 f (Some a) = refl

-- what follows an answer F, where it stops exactly if z fails
module _ {C R : Type 0} (F : C → Option R) (z : Bool) where
  pub stop_only : (t : Bool) (v : C) → missing (F v) ≡ not z → missing (after (only_if t (Some v)) F) ≡ not (t && z)
  stop_only true v h = h
  stop_only false v h = refl

  pub stop_twice : (t q : Bool) (v : C) → missing (F v) ≡ not z → missing (after (only_if t (only_if q (Some v))) F) ≡ not (q && t && z)
  stop_twice true true v h = h
  stop_twice true false v h = refl
  stop_twice false true v h = refl
  stop_twice false false v h = refl

  -- one answer of A, which is there exactly if p holds
  pub stop_on1 : {A : Type 0} (g : A → C) (t p : Bool) (o : Option A) → missing o ≡ not p → ((x : A) → missing (F (g x)) ≡ not z) → missing (after (only_if t (on1 g o)) F) ≡ not (p && t && z)
  stop_on1 g true true None h k = clash refl h
  stop_on1 g true false None h k = refl
  stop_on1 g true true (Some x) h k = k x
  stop_on1 g true false (Some x) h k = clash h refl
  stop_on1 g false true o h k = refl
  stop_on1 g false false o h k = refl

  -- two answers
  pub stop_on2 : {A : Type 0} (g : A → A → C) (p q : Bool) (o r : Option A) → missing o ≡ not p → missing r ≡ not q → ((x y : A) → missing (F (g x y)) ≡ not z) → missing (after (on2 g o r) F) ≡ not (p && q && z)
  stop_on2 g true q None r h j k = clash refl h
  stop_on2 g false q None r h j k = refl
  stop_on2 g true true (Some x) None h j k = clash refl j
  stop_on2 g true false (Some x) None h j k = refl
  stop_on2 g true true (Some x) (Some y) h j k = k x y
  stop_on2 g true false (Some x) (Some y) h j k = clash j refl
  stop_on2 g false q (Some x) r h j k = clash h refl
