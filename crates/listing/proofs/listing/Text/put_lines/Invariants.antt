use Prim.Native.Nat.{◌+◌, ◌*◌}
use lib.ListN.{length}
use Rattle.listing.specs.Listing.{lines, Adds}
use Rattle.listing.proofs.listing.Text.put_lines.Given as goal

abbrev pub invariant-loop-i : goal.invariant-loop-i
invariant-loop-i g l = Adds ((length l.name + 21 * l.n) * l.i) (lines l.name l.n l.i (g.T.Table.numbers l.table)) l.initial.self l.self
