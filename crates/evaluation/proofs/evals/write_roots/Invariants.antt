-- `write_roots` meets its contract: the roots below c are written.
-- Assumes nothing.
use Rattle.evaluation.specs.Writes.{WritesRoots}
use Rattle.evaluation.proofs.evals.write_roots.Given as goal

abbrev pub invariant-loop-c : goal.invariant-loop-c
invariant-loop-c l = WritesRoots l.c l.leading l.roots l.room l.initial.bases l.bases l.initial.exts l.exts
