-- `eval_small` meets its contract: the attempt's answer, or that of `eval_large`.
-- Assumes nothing.
use Rattle.interp.proofs.AttemptLaws.{attempt_roots, attempt_done}
use Rattle.values.specs.Frame.{lent_in}
use Rattle.interp.proofs.interp.eval_small.Goals as goal

pub write_roots-requires : goal.write_roots-requires
write_roots-requires c =
    let a = c.args in
    attempt_roots a.c a.s a.nodes.now a.roots.now (lent_in a.inputs.now) a.base.now a.ext.now a.room.now _ c.attempt.ensures c.if-attempt.true

pub returns-then-attempt : goal.returns-then-attempt
returns-then-attempt c =
    let a = c.args in
    attempt_done a.c a.s a.nodes.now a.roots.now (lent_in a.inputs.now) a.base.now a.ext.now a.room.now _ _ _ c.attempt.ensures c.if-attempt.true c.write_roots.ensures
