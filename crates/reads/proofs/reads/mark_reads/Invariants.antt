-- `mark_reads` meets its contract: the map after i nodes.
-- Assumes nothing.
use Rattle.reads.specs.Marks.{Marked}
use Rattle.reads.proofs.reads.mark_reads.Given as goal

abbrev pub invariant-loop-i : goal.invariant-loop-i
invariant-loop-i l = Marked l.nodes l.i l.width.columns l.initial.map l.map
