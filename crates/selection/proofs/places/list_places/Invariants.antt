use mathlib.Core.Path.{◌≡◌}
use lib.ListN.{take}
use Rattle.std.specs.Prelude.{count_by}
use Rattle.selection.proofs.PlaceLaws.{Put}
use Rattle.selection.proofs.places.list_places.Given as goal

abbrev pub invariant-loop-place : goal.invariant-loop-place
invariant-loop-place g l = l.count ≡ count_by g.says.0 (take l.place l.items)

abbrev pub invariant-loop-i : goal.invariant-loop-i
invariant-loop-i g l = Put g.says.0 l.items g.says.1 l.initial.out l.i l.at l.out
