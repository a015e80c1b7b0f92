use mathlib.Core.Path.{◌∙◌}
use native.Mathlib.Omega.{arith}
use Rattle.listing.proofs.ListLaws.{puts_room, counted, blob_listed}
use Rattle.listing.proofs.listing.Text.put_blob.Goals as goal

pub put_lines-requires-2 : goal.put_lines-requires-2
put_lines-requires-2 c =
    let n = counted c.requires.fits c.of-blob.ensures in
    omega (arith, n, c.requires, puts_room c.put_lines.ensures.puts, c.put_lines.ensures.puts.small)

pub put_lines-requires-3 : goal.put_lines-requires-3
put_lines-requires-3 c =
    let n = counted c.requires.fits c.of-blob.ensures in
    omega (arith, n, c.requires, puts_room c.put_lines.ensures.puts, puts_room c.put_lines-2.ensures.puts, c.put_lines.ensures.puts.small, c.put_lines-2.ensures.puts.small)

pub put_lines-requires-4 : goal.put_lines-requires-4
put_lines-requires-4 c =
    let n = counted c.requires.fits c.of-blob.ensures in
    omega (arith, n, c.requires, puts_room c.put_lines.ensures.puts, puts_room c.put_lines-2.ensures.puts, puts_room c.put_lines-3.ensures.puts, c.put_lines.ensures.puts.small, c.put_lines-2.ensures.puts.small, c.put_lines-3.ensures.puts.small)

pub put_lines-requires-5 : goal.put_lines-requires-5
put_lines-requires-5 c =
    let n = counted c.requires.fits c.of-blob.ensures in
    omega (arith, n, c.requires, puts_room c.put_lines.ensures.puts, puts_room c.put_lines-2.ensures.puts, puts_room c.put_lines-3.ensures.puts, puts_room c.put_lines-4.ensures.puts, c.put_lines.ensures.puts.small, c.put_lines-2.ensures.puts.small, c.put_lines-3.ensures.puts.small, c.put_lines-4.ensures.puts.small)

pub put-requires : goal.put-requires
put-requires c =
    let n = counted c.requires.fits c.of-blob.ensures in
    omega (arith, n, c.requires, puts_room c.put_lines.ensures.puts, puts_room c.put_lines-2.ensures.puts, puts_room c.put_lines-3.ensures.puts, puts_room c.put_lines-4.ensures.puts, puts_room c.put_lines-5.ensures.puts, c.put_lines.ensures.puts.small, c.put_lines-2.ensures.puts.small, c.put_lines-3.ensures.puts.small, c.put_lines-4.ensures.puts.small, c.put_lines-5.ensures.puts.small)

pub returns : goal.returns
returns c =
    record {
      room = c.put.ensures.room ∙ c.put_lines-5.ensures.room ∙ c.put_lines-4.ensures.room ∙ c.put_lines-3.ensures.room ∙ c.put_lines-2.ensures.room ∙ c.put_lines.ensures.room;
      puts = blob_listed c.requires.fits c.of-blob.ensures c.put_lines.ensures.puts c.put_lines-2.ensures.puts c.put_lines-3.ensures.puts c.put_lines-4.ensures.puts c.put_lines-5.ensures.puts c.put.ensures.puts;
    }
