-- `walk_nodes` meets its contract: the first i nodes are walked.
-- Assumes nothing.
use mathlib.Core.Path.{◌≡◌}
use Rattle.values.specs.Frame.{lent_in}
use Rattle.blob_rules.specs.Blob.{lent_blob}
use Rattle.slots.specs.Steps.{RowWalked}
use Rattle.walk.proofs.row.walk_nodes.Given as goal

abbrev pub invariant-loop-i : goal.invariant-loop-i
invariant-loop-i l = (l.n ≡ l.blob.counts.nodes) × RowWalked (lent_blob l.blob) l.s l.t.rows l.t.row (lent_in l.inputs) l.i l.initial.slots l.slots
