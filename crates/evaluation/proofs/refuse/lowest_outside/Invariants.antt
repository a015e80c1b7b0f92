-- `lowest_outside` meets its contract: no leaf below i is outside.
-- Assumes nothing.
use Rattle.values.specs.Frame.{node_outside}
use Rattle.laws.specs.Folds.{lowest}
use mathlib.Core.Path.{◌≡◌}
use Rattle.std.specs.Prelude.{None}
use Rattle.evaluation.proofs.refuse.lowest_outside.Given as goal

abbrev pub invariant-loop-i : goal.invariant-loop-i
invariant-loop-i l = lowest (node_outside l.m l.nodes) l.i ≡ None
