-- `lowest_bad_root` meets its contract: no root below i is at fault.
-- Assumes nothing.
use Prim.Native.Nat.{ℕ}
use mathlib.Core.Path.{◌≡◌}
use mathlib.Core.Bool.{Bool, not}
use Rattle.std.specs.Prelude.{None}
use mathlib.Core.List.{List}
use lib.ListN.{get_or}
use Rattle.blob_rules.specs.declared.blob.BlobCounts.{BlobCounts}
use Rattle.laws.specs.Folds.{lowest}
use Rattle.blob_rules.specs.Check.{root_ok}
use Rattle.blob_rules.specs.Marks.{marked}
use Rattle.device.proofs.check.lowest_bad_root.Given as goal

abbrev pub bad : BlobCounts → List ℕ → List ℕ → ℕ → Bool
bad c roots marks k = not (root_ok c (marked c marks) (get_or roots k 0))

abbrev pub invariant-loop-i : goal.invariant-loop-i
invariant-loop-i l = (l.count ≡ l.c.roots) × (lowest (bad l.c l.roots l.marks) l.i ≡ None)
