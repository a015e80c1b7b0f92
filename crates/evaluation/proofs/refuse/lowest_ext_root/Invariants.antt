-- `lowest_ext_root` meets its contract: no root below i that has to be base is extension.
-- Assumes nothing.
use Rattle.evaluation.specs.Evaluation.{root_dim}
use Rattle.laws.specs.Folds.{lowest}
use lib.Dec.{eqb, ltb}
use Prim.Native.Nat.{ℕ}
use mathlib.Core.Path.{◌≡◌}
use Rattle.std.specs.Prelude.{None}
use mathlib.Core.List.{List}
use mathlib.Core.Bool.{Bool, not, ◌&&◌}
use Rattle.evaluation.proofs.refuse.lowest_ext_root.Given as goal

abbrev pub wrong : ℕ → List ℕ → List ℕ → ℕ → Bool
wrong leading nodes roots r = ltb r leading && not (eqb (root_dim nodes roots r) 0)

abbrev pub invariant-loop-i : goal.invariant-loop-i
invariant-loop-i l = lowest (wrong l.leading l.nodes l.roots) l.i ≡ None
