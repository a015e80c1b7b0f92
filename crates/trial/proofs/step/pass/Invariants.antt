-- `pass` meets its contract: the nodes below i passed, and have their values in the room.
-- Assumes nothing.
use Rattle.trial_parts.proofs.StepLaws.{StepsPassed}
use Rattle.values.specs.Frame.{lent_in}
use Rattle.trial_parts.specs.Trial.{NodeFits}
use Rattle.ir.specs.Words.{node_at}
use Prim.Native.Nat.{ℕ, ◌<◌}
use Rattle.trial.proofs.step.pass.Given as goal

abbrev pub invariant-loop-i : goal.invariant-loop-i
invariant-loop-i l = StepsPassed l.s (lent_in l.inputs) l.nodes l.initial.room l.room l.i × ((j : ℕ) → j < l.i → NodeFits l.c l.m l.nodes j (node_at l.nodes j))
