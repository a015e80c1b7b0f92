use mathlib.Core.Path.{sym}
use Rattle.listing.proofs.ListLaws.{word_table_long}
use Rattle.listing.proofs.listing.WordTableTable.len.Goals as goal

pub returns : goal.returns
returns c = sym (word_table_long c.args.self.now.0.now)
