-- `write_roots` meets its contract: the first i roots are written.
-- Assumes nothing.
use mathlib.Core.Path.{◌≡◌}
use Rattle.blob_rules.specs.Blob.{lent_blob}
use Rattle.slots.specs.Steps.{RootsWritten}
use Rattle.slots.proofs.evals.write_roots.Given as goal

abbrev pub invariant-loop-i : goal.invariant-loop-i
invariant-loop-i l = (l.count ≡ l.blob.counts.roots) × RootsWritten (lent_blob l.blob) l.i l.slots l.initial.bases l.bases l.initial.exts l.exts
