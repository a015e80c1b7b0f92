-- `eval_large` meets its contract: the attempt's answer, or that of the steps.
-- Assumes nothing.
use Rattle.interp.proofs.AttemptLaws.{attempt_roots, attempt_done}
use Rattle.values.specs.Frame.{lent_in}
use Rattle.interp.proofs.interp.eval_large.Goals as goal

pub write_roots-requires : goal.write_roots-requires
write_roots-requires c =
    let a = c.args in
    attempt_roots a.c a.s a.nodes.now a.roots.now (lent_in a.inputs.now) a.base.now a.ext.now a.room.now _ c.attempt_large.ensures c.if-attempt_large.true

pub returns-then-attempt_large : goal.returns-then-attempt_large
returns-then-attempt_large c =
    let a = c.args in
    attempt_done a.c a.s a.nodes.now a.roots.now (lent_in a.inputs.now) a.base.now a.ext.now a.room.now _ _ _ c.attempt_large.ensures c.if-attempt_large.true c.write_roots.ensures
