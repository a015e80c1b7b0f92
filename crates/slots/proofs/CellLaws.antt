-- Cells of a trace.
-- Assumes nothing.
use mathlib.Core.Bool.{Bool, true, false, cond, ◌&&◌}
use mathlib.Core.List.{List}
use Rattle.std.specs.Prelude.{Some}
use mathlib.Core.Path.{◌≡◌, refl}
use Prim.Native.Nat.{ℕ, ◌+◌, ◌*◌, ◌%◌, ◌<◌}
use lib.Dec.{eqb, ltb}
use borrow.Author.Tests.{ltb-true}
use Rattle.laws.specs.Options.{only_if}
use Rattle.laws.proofs.Folds.{none_some}
use Rattle.laws.proofs.Tests.{and_left, and_right}
use Rattle.ir.specs.declared.frame.Shape.{Shape}
use Rattle.ir.specs.Words.{main_of, offset_of, row_of}
use Rattle.values.specs.Values.{Value, base}
use Rattle.values.specs.Frame.{Lent, word}
use Rattle.values.specs.Room.{ValueIs}
use Rattle.blob_rules.specs.Check.{cell_ok}
use Rattle.slots.specs.Trace.{row_at}
use Rattle.slots.specs.Steps.{CellGives}
use Rattle.std.proofs.lemmas.Option.{same_Some}

-- what the check tells of a cell
pub record CellIn (s : Shape) (x y : ℕ) : Type 0 where
  pub step_in : offset_of y < s.steps
  pub col_in : x < cond (main_of y) s.main s.aux

pub cell_in : (s : Shape) (x y : ℕ) → cell_ok s x y ≡ true → CellIn s x y
unfolding cell_ok
cell_in s x y h =
    let a = ltb x 65536 && ltb y 131072 && eqb (y % 256) 0 in
    let b = ltb (offset_of y) s.steps in
    let d = ltb x (cond (main_of y) s.main s.aux) in
    record {
      step_in = ltb-true (offset_of y) s.steps (and_right a b (and_left (a && b) d h));
      col_in = ltb-true x (cond (main_of y) s.main s.aux) (and_right (a && b) d h);
    }

-- the value under its tests is the only one
pub one_value : (t q : Bool) {v w : Value ℕ (List ℕ)} → only_if t (only_if q (Some v)) ≡ Some w → v ≡ w
one_value true true {v} {w} h = same_Some v w h
one_value true false h = none_some refl h
one_value false q h = none_some refl h

module _ (s : Shape) (rows row : ℕ) (l : Lent) (x y : ℕ) where
  pub main_gives : {class : ℕ} {limbs : List ℕ} → main_of y ≡ true → ValueIs (base (word l.main (row_at rows row (offset_of y) * s.main + x))) class limbs → CellGives s rows row l x y class limbs
  main_gives e h =
      record {
        follows = λ u k v z.
            rw (← one_value (ltb x 65536 && ltb y 131072 && eqb (row_of y) 0 && ltb (offset_of y) s.steps) (ltb x s.main) (rw e at z), k.main_cell (offset_of y) x) h;
      }
