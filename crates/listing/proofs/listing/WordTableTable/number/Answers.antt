use mathlib.Core.Path.{sym, ◌∙◌}
use Prim.Native.Nat.{◌/◌}
use lib.ListN.{length}
use native.Mathlib.Omega.{arith}
use Rattle.listing.proofs.ListLaws.{word_table_long, word_at}
use Rattle.listing.proofs.listing.WordTableTable.number.Goals as goal

pub overflow_mul-i : goal.overflow_mul-i
overflow_mul-i c = omega (arith, c.requires, word_table_long c.args.self.now.0.now)

pub read_at-requires : goal.read_at-requires
read_at-requires c = omega (arith, c.requires, word_table_long c.args.self.now.0.now)

pub returns : goal.returns
returns c =
    let file = c.args.self.now.0.now in
    c.from.ensures ∙ c.read_at.ensures ∙ sym (word_at 4 (length file / 4) c.args.i file (omega (arith, c.requires, word_table_long file)))
