-- `eval_in_steps` meets its contract.
-- Assumes nothing.
use Rattle.std.proofs.lemmas.Result.{err_from_is_err_and}
use Rattle.interp.proofs.AnswerLaws.{answer_refused, answer_done, prover_ok, prover_asked}
use Rattle.evaluation.specs.Evaluation.{prover_rows, lengths}
use Rattle.values.specs.Frame.{lent_in, frame_limits}
use Rattle.ir.proofs.RefusalLaws.{done_rows}
use lib.ListN.{length}
use mathlib.Core.Path.{refl}
use Rattle.interp.proofs.interp.eval_in_steps.Goals as goal

pub evaluate-requires : goal.evaluate-requires
evaluate-requires c =
    let a = c.args in
    let l = lent_in a.inputs.now in
    let k = lengths a.nodes.now a.roots.now l a.room.now in
    let m = frame_limits a.s in
    rw c.strides.ensures
    (prover_asked a.c a.s a.nodes.now a.roots.now l a.base.now a.ext.now a.room.now
    (prover_ok a.c a.s k (length a.base.now) (length a.ext.now) m a.nodes.now a.roots.now
    (done_rows (prover_rows a.c a.s k (length a.base.now) (length a.ext.now) m a.nodes.now a.roots.now) refl c.in_ok-prover_refusal.was (rw c.lengths-l.ensures at c.prover_refusal.ensures))))

pub returns-in_err-prover_refusal : goal.returns-in_err-prover_refusal
returns-in_err-prover_refusal c =
    let a = c.args in
    let k = lengths a.nodes.now a.roots.now (lent_in a.inputs.now) a.room.now in
    let p = err_from_is_err_and c.from_residual.result c.from_residual.ensures.1 in
    rw (p.1, p.2) (answer_refused (prover_rows a.c a.s k (length a.base.now) (length a.ext.now) (frame_limits a.s) a.nodes.now a.roots.now) (rw c.lengths-l.ensures at c.prover_refusal.ensures) c.in_err-prover_refusal.was)

pub returns : goal.returns
returns c =
    let a = c.args in
    let k = lengths a.nodes.now a.roots.now (lent_in a.inputs.now) a.room.now in
    answer_done (prover_rows a.c a.s k (length a.base.now) (length a.ext.now) (frame_limits a.s) a.nodes.now a.roots.now) (rw c.lengths-l.ensures at c.prover_refusal.ensures) refl c.in_ok-prover_refusal.was (rw c.strides.ensures at c.evaluate.ensures)
