-- `eval_program_verifier` meets its contract.
-- Assumes nothing.
use Rattle.std.proofs.lemmas.Result.{err_from_is_err_and}
use Rattle.interp.proofs.AnswerLaws.{verifier_refused, verifier_done, verifier_asked}
use Rattle.evaluation.specs.Evaluation.{verifier_rows, lengths}
use Rattle.values.specs.Frame.{lent_in, frame_limits}
use Rattle.ir.proofs.RefusalLaws.{done_rows}
use lib.ListN.{length}
use mathlib.Core.Path.{refl}
use Rattle.interp.proofs.interp.eval_program_verifier.Goals as goal

pub evaluate-requires : goal.evaluate-requires
evaluate-requires c =
    let a = c.args in
    let l = lent_in a.inputs.now in
    rw c.strides.ensures
    (verifier_asked a.c a.s a.nodes.now a.roots.now l _ a.ext.now a.room.now
    (done_rows (verifier_rows a.c a.s (lengths a.nodes.now a.roots.now l a.room.now) (length a.ext.now) (frame_limits a.s) a.nodes.now a.roots.now) refl c.in_ok-verifier_refusal.was (rw c.lengths-l.ensures at c.verifier_refusal.ensures)))

pub returns-in_err-verifier_refusal : goal.returns-in_err-verifier_refusal
returns-in_err-verifier_refusal c =
    let a = c.args in
    let p = err_from_is_err_and c.from_residual.result c.from_residual.ensures.1 in
    rw (p.1, p.2) (verifier_refused (verifier_rows a.c a.s (lengths a.nodes.now a.roots.now (lent_in a.inputs.now) a.room.now) (length a.ext.now) (frame_limits a.s) a.nodes.now a.roots.now) (rw c.lengths-l.ensures at c.verifier_refusal.ensures) c.in_err-verifier_refusal.was)

pub returns : goal.returns
returns c =
    let a = c.args in
    verifier_done (verifier_rows a.c a.s (lengths a.nodes.now a.roots.now (lent_in a.inputs.now) a.room.now) (length a.ext.now) (frame_limits a.s) a.nodes.now a.roots.now) (rw c.lengths-l.ensures at c.verifier_refusal.ensures) refl c.in_ok-verifier_refusal.was (rw c.strides.ensures at c.evaluate.ensures)
