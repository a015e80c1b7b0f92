use mathlib.Core.Path.{◌≡◌}
use Prim.Native.Nat.{◌-◌, ◌*◌}
use lib.ListN.{drop, take}
use Rattle.listing.specs.Listing.{numbers, Puts}
use Rattle.listing.proofs.listing.Text.put_numbers.Given as goal

abbrev pub invariant-loop-i : goal.invariant-loop-i
invariant-loop-i g l =
    record {
      room : l.self.room.ghost_name ≡ l.initial.self.room.ghost_name;
      len : l.self.len ≡ l.initial.self.len;
      puts : Puts l.initial.self.room.now l.initial.self.len (21 * (l.i - l.from)) (numbers (l.end - l.i) (take (l.i - l.from) (drop l.from (g.T.Table.numbers l.table)))) l.self.room.now l.at;
    }
