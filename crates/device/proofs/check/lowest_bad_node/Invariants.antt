-- `lowest_bad_node` meets its contract: no node below i is at fault, and their slots are marked.
-- Assumes nothing.
use mathlib.Core.Path.{◌≡◌}
use Rattle.blob_rules.proofs.MarkLaws.{Checking}
use Rattle.device.proofs.check.lowest_bad_node.Given as goal

abbrev pub invariant-loop-i : goal.invariant-loop-i
invariant-loop-i l = (l.n ≡ l.c.nodes) × Checking l.c l.s l.nodes l.initial.marks l.marks l.i
