use Rattle.lower_parts.proofs.OutLaws.{laid}
use Rattle.lower_parts.specs.Lower.{root_word}
use lib.ListN.{get_or}
use mathlib.Core.Path.{◌≡◌}
use Rattle.lower_parts.proofs.parts.write_roots.Given as goal

abbrev pub invariant-loop-r : goal.invariant-loop-r
invariant-loop-r l = l.out ≡ laid l.r (λ i. root_word l.nodes (λ k. get_or l.slot_of k 0) (get_or l.roots i 0)) l.initial.out
