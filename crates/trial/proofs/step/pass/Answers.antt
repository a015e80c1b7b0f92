use Rattle.trial_parts.proofs.StepLaws.{standing, steps_more, steps_all}
use Rattle.values.specs.Frame.{lent_in}
use borrow.Author.Count.{below_more}
use borrow.Author.Tests.{not-false}
use native.Mathlib.Omega.{arith}
use mathlib.Core.Path.{◌≡◌}
use Rattle.trial.proofs.step.pass.Goals as goal

pub step-requires : goal.step-requires
step-requires c = let l = c.loop-i in let a = c.args in standing a.s (lent_in a.inputs.now) a.nodes.now a.room.now a.m a.c c.requires.0 c.requires.1 l.room l.i (omega arith) l.invariant.0

pub loop-i-preserved : goal.loop-i-preserved
loop-i-preserved c = let l = c.loop-i in let a = c.args in let k = c.step.ensures (not-false _ c.if-not-step.false-raw) in (steps_more a.s (lent_in a.inputs.now) a.nodes.now a.room.now a.m a.c c.requires.0.fits l.room _ l.i (omega (arith, c.requires.0.room_long, l.invariant.0.long)) l.invariant.0 k, below_more _ _ l.invariant.1 k.fits)

pub returns : goal.returns
returns c = let l = c.loop-i in let a = c.args in let e : l.i ≡ a.c.nodes = omega arith in λ t. steps_all a.s (lent_in a.inputs.now) a.nodes.now a.room.now a.m a.c l.room (rw e at l.invariant.0) (rw e at l.invariant.1)
