-- `row_rest` meets its contract: each return has the rows that led there.
-- Assumes nothing.
use Rattle.interp.proofs.OutcomeLaws.{form_passed}
use Rattle.values.specs.Frame.{row_limits}
use native.Mathlib.Omega.{arith}
use Rattle.interp.proofs.interp.row_rest.Goals as goal

pub root_is_ext-requires : goal.root_is_ext-requires
root_is_ext-requires c =
    let a = c.args in
    let q = c.requires in
    let h = rw c.row_limits.ensures at c.form_refusal.ensures in
    let f = form_passed a.c (row_limits a.width) a.nodes.now a.roots.now h c.in_ok-form_refusal.was in
    let b = f.formed.root a.asked c.if-c-asked.false in
    omega (arith, q.nodes_long, b)
