-- `run` meets its contract: the nodes below i have their values in the room.
-- Assumes nothing.
use Rattle.values.proofs.RunLaws.{Passed}
use Rattle.values.specs.Frame.{lent_in}
use Rattle.values.proofs.run.run.Given as goal

abbrev pub invariant-loop-i : goal.invariant-loop-i
invariant-loop-i l = Passed l.s (lent_in l.inputs) l.nodes l.initial.room l.room l.i
