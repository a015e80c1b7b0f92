use mathlib.Core.Path.{◌≡◌}
use Prim.Native.Nat.{◌-◌}
use native.Mathlib.Omega.{arith}
use Rattle.listing.proofs.ListLaws.{number_step}
use Rattle.listing.proofs.listing.Text.put_numbers.Goals as goal

pub loop-i-preserved : goal.loop-i-preserved
loop-i-preserved g c =
    let so_far = c.loop-i.invariant in
    record { room = so_far.room; len = so_far.len; puts = number_step (g.T.Table.numbers c.args.table.now) c.args.from c.args.end c.loop-i.i c.number.result (omega arith) (omega arith) (omega arith) c.number.ensures so_far.puts c.put_ended-at.ensures }

pub returns : goal.returns
returns g c =
    let last : c.loop-i.i ≡ c.args.end = omega arith in
    let none : c.args.end - c.args.end ≡ 0 = omega arith in
    record { room = c.loop-i.invariant.room; puts = rw none at (rw last at c.loop-i.invariant.puts) }
