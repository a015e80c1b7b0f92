-- `lowest_bad_node` meets its contract: no node below i is at fault.
-- Assumes nothing.
use Rattle.ir.specs.Program.{node_ok}
use Rattle.ir.specs.declared.program.Counts.{Counts}
use Rattle.laws.specs.Folds.{lowest}
use Prim.Native.Nat.{ℕ}
use mathlib.Core.Path.{◌≡◌}
use Rattle.std.specs.Prelude.{None}
use mathlib.Core.List.{List}
use mathlib.Core.Bool.{Bool, not}
use Rattle.ir.proofs.program.lowest_bad_node.Given as goal

abbrev pub bad : Counts → List ℕ → ℕ → Bool
bad c nodes i = not (node_ok c nodes i)

abbrev pub invariant-loop-i : goal.invariant-loop-i
invariant-loop-i l = lowest (bad l.c l.nodes) l.i ≡ None
