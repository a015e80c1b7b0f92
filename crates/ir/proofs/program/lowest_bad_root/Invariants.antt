-- `lowest_bad_root` meets its contract: no root below i is at fault.
-- Assumes nothing.
use Rattle.laws.specs.Folds.{lowest}
use lib.ListN.{get_or}
use lib.Dec.{leb}
use Prim.Native.Nat.{ℕ}
use mathlib.Core.Path.{◌≡◌}
use Rattle.std.specs.Prelude.{None}
use mathlib.Core.List.{List}
use mathlib.Core.Bool.{Bool}
use Rattle.ir.proofs.program.lowest_bad_root.Given as goal

abbrev pub bad : ℕ → List ℕ → ℕ → Bool
bad n roots i = leb n (get_or roots i 0)

abbrev pub invariant-loop-i : goal.invariant-loop-i
invariant-loop-i l = lowest (bad l.c.nodes l.roots) l.i ≡ None
