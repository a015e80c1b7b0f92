-- `attempt` meets its contract.
-- Assumes nothing.
use Rattle.interp.proofs.AttemptLaws.{prover_tryable, attempt_made}
use Rattle.values.specs.Frame.{lent_in}
use Rattle.interp.proofs.interp.attempt.Goals as goal

pub try_in-requires : goal.try_in-requires
try_in-requires g c =
    let a = c.args in
    (rw (c.frame_limits.ensures, c.strides.ensures) (prover_tryable a.c a.s a.nodes.now a.roots.now a.room.now (lent_in a.inputs.now) a.base a.ext (rw c.lengths-l.ensures at (c.sufficient.ensures c.if-sufficient.true))), c.requires.0, c.requires.1)

pub returns-then-sufficient : goal.returns-then-sufficient
returns-then-sufficient g c =
    let a = c.args in
    attempt_made a.c a.s a.nodes.now a.roots.now (lent_in a.inputs.now) a.base a.ext a.room.now _ _ (rw c.lengths-l.ensures at (c.sufficient.ensures c.if-sufficient.true)) (rw (c.frame_limits.ensures, c.strides.ensures) at c.try_in.ensures)
