use Rattle.lower_parts.proofs.OutLaws.{laid}
use Rattle.field.specs.Base.{p}
use lib.ListN.{get_or}
use mathlib.Core.Path.{◌≡◌}
use Prim.Native.Nat.{◌%◌}
use Rattle.lower_parts.proofs.parts.copy_constants.Given as goal

abbrev pub invariant-loop-k : goal.invariant-loop-k
invariant-loop-k l = l.to ≡ laid l.k (λ j. get_or l.from j 0 % p) l.initial.to
