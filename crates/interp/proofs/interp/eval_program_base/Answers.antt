-- `eval_program_base` meets its contract.
-- Assumes nothing.
use Rattle.std.proofs.lemmas.Result.{err_from_is_err_and}
use Rattle.interp.proofs.AnswerLaws.{row_refused, row_done, row_ready}
use Rattle.evaluation.specs.Evaluation.{row_rows, lengths}
use Rattle.values.specs.Frame.{row_lent, row_limits}
use native.Mathlib.Omega.{arith}
use mathlib.Core.Path.{refl}
use Rattle.interp.proofs.interp.eval_program_base.Goals as goal

pub run-requires : goal.run-requires
run-requires c = let a = c.args in let k = row_ready a.c a.width a.asked a.nodes.now a.roots.now (row_lent a.bases.now a.exts.now a.row.now) a.room.now (rw c.lengths-l.ensures at c.row_refusal.ensures) c.in_ok-row_refusal.was in k.pass

pub offset_bounds-roots-asked : goal.offset_bounds-roots-asked
offset_bounds-roots-asked c = let a = c.args in let k = row_ready a.c a.width a.asked a.nodes.now a.roots.now (row_lent a.bases.now a.exts.now a.row.now) a.room.now (rw c.lengths-l.ensures at c.row_refusal.ensures) c.in_ok-row_refusal.was in omega (arith, k.asked_below, k.roots_long, c.well_formed)

pub bounds-roots-asked : goal.bounds-roots-asked
bounds-roots-asked c = let a = c.args in let k = row_ready a.c a.width a.asked a.nodes.now a.roots.now (row_lent a.bases.now a.exts.now a.row.now) a.room.now (rw c.lengths-l.ensures at c.row_refusal.ensures) c.in_ok-row_refusal.was in omega (arith, k.asked_below, k.roots_long)

pub bounds-room-root : goal.bounds-room-root
bounds-room-root c = let a = c.args in let k = row_ready a.c a.width a.asked a.nodes.now a.roots.now (row_lent a.bases.now a.exts.now a.row.now) a.room.now (rw c.lengths-l.ensures at c.row_refusal.ensures) c.in_ok-row_refusal.was in omega (arith, k.root_below, k.room_long, c.run.ensures.long)

pub returns-in_err-row_refusal : goal.returns-in_err-row_refusal
returns-in_err-row_refusal c =
    let a = c.args in
    let p = err_from_is_err_and c.from_residual.result c.from_residual.ensures.1 in
    rw (p.1, p.2) (row_refused (row_rows a.c a.width a.asked (lengths a.nodes.now a.roots.now (row_lent a.bases.now a.exts.now a.row.now) a.room.now) (row_limits a.width) a.nodes.now a.roots.now) (rw c.lengths-l.ensures at c.row_refusal.ensures) c.in_err-row_refusal.was)

pub returns : goal.returns
returns c =
    let a = c.args in
    let k = row_ready a.c a.width a.asked a.nodes.now a.roots.now (row_lent a.bases.now a.exts.now a.row.now) a.room.now (rw c.lengths-l.ensures at c.row_refusal.ensures) c.in_ok-row_refusal.was in
    row_done (row_rows a.c a.width a.asked (lengths a.nodes.now a.roots.now (row_lent a.bases.now a.exts.now a.row.now) a.room.now) (row_limits a.width) a.nodes.now a.roots.now) (rw c.lengths-l.ensures at c.row_refusal.ensures) refl c.in_ok-row_refusal.was c.run.ensures k.root_below c.reduce.ensures
