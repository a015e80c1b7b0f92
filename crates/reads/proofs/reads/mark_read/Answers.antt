-- `mark_read` meets its contract.
-- Assumes nothing.
use native.Mathlib.Omega.{arith}
use Rattle.reads.proofs.ReadsLaws.{found_below}
use Rattle.reads.proofs.reads.mark_read.Goals as goal

pub bounds-map-column : goal.bounds-map-column
bounds-map-column c = omega (arith, found_below _ _ _ (rw c.in-Some.is at c.next_read.ensures))
