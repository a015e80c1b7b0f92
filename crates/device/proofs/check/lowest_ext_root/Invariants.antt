-- `lowest_ext_root` meets its contract: no root below i is one.
-- Assumes nothing.
use Prim.Native.Nat.{ℕ}
use mathlib.Core.Path.{◌≡◌}
use mathlib.Core.Bool.{Bool, ◌&&◌}
use Rattle.std.specs.Prelude.{None}
use mathlib.Core.List.{List}
use lib.ListN.{get_or}
use Rattle.laws.specs.Folds.{lowest}
use lib.Dec.{ltb}
use Rattle.blob_rules.specs.Blob.{is_ext}
use Rattle.device.proofs.check.lowest_ext_root.Given as goal

abbrev pub bad : ℕ → List ℕ → ℕ → Bool
bad leading roots k = ltb k leading && is_ext (get_or roots k 0)

abbrev pub invariant-loop-i : goal.invariant-loop-i
invariant-loop-i l = lowest (bad l.leading l.roots) l.i ≡ None
