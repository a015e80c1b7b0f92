use Rattle.values.specs.Frame.{lent_in}
use Rattle.slots.proofs.CellLaws.{cell_in, main_gives}
use Rattle.values.proofs.ValueLaws.{main_mark, aux_mark}
use native.Mathlib.Omega.{arith}
use Rattle.slots.proofs.cell.cell.Goals as goal

pub cell_place-requires : goal.cell_place-requires
cell_place-requires c = let a = c.args in let p = c.requires in let i = cell_in a.s a.x a.y p.0 in let e = main_mark a.y c.if-y-ne0.true in (p.1.row_in (omega (arith, i.step_in)), omega arith, rw e at i.col_in, p.1.main_few)

pub cell_place-requires-else-y-ne0 : goal.cell_place-requires-else-y-ne0
cell_place-requires-else-y-ne0 c = let a = c.args in let p = c.requires in let i = cell_in a.s a.x a.y p.0 in let e = aux_mark a.y c.if-y-ne0.false in (p.1.row_in (omega (arith, i.step_in)), omega arith, rw e at i.col_in, p.1.aux_few)

pub returns-then-y-ne0 : goal.returns-then-y-ne0
returns-then-y-ne0 c = let a = c.args in let p = c.requires in main_gives a.s a.t.rows a.t.row (lent_in a.inputs.now) a.x a.y (main_mark a.y c.if-y-ne0.true) (rw c.cell_place.ensures.0 at c.base_leaf.ensures)
