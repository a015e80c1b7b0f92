-- `find` meets its contract.
-- Assumes nothing.
use Rattle.node_table.specs.Words.{words_of}
use Rattle.node_table.proofs.Seeks.{Seeking}
use Rattle.node_table.proofs.table.find.Given as goal

abbrev pub invariant-loop-left : goal.invariant-loop-left
invariant-loop-left l = Seeking l.nodes l.count l.places (words_of l.w) l.at l.left

abbrev pub decreases-loop-left : goal.decreases-loop-left
decreases-loop-left l = l.left
