use Prim.Native.Nat.{◌+◌, ◌*◌, ◌/◌}
use lib.ListN.{length}
use mathlib.Core.Path.{◌∙◌}
use native.Mathlib.Omega.{arith}
use Rattle.listing.proofs.ListLaws.{puts_room, line_room, line_step}
use Rattle.listing.proofs.listing.Text.put_lines.Goals as goal

pub put-requires : goal.put-requires
put-requires g c =
    let next = line_room (length c.args.name.now + 21 * c.args.n) c.loop-i.i (length (g.T.Table.numbers c.args.table.now) / c.args.n) (rw c.len.ensures at c.loop-i-test.true) in
    omega (arith, next, c.requires.room, c.loop-i.invariant.puts.small, puts_room c.loop-i.invariant.puts)

pub put_numbers-requires-clause-room : goal.put_numbers-requires-clause-room
put_numbers-requires-clause-room g c =
    let next = line_room (length c.args.name.now + 21 * c.args.n) c.loop-i.i (length (g.T.Table.numbers c.args.table.now) / c.args.n) (rw c.len.ensures at c.loop-i-test.true) in
    omega (arith, next, c.requires.room, c.loop-i.invariant.puts.small, puts_room c.loop-i.invariant.puts, c.put.ensures.puts.small, puts_room c.put.ensures.puts)

pub loop-i-preserved : goal.loop-i-preserved
loop-i-preserved g c = record { room = c.put_numbers.ensures.room ∙ c.put.ensures.room ∙ c.loop-i.invariant.room; puts = line_step c.args.name.now c.args.n c.loop-i.i (g.T.Table.numbers c.args.table.now) (omega arith) c.loop-i.invariant.puts c.put.ensures.puts c.put_numbers.ensures.puts }
