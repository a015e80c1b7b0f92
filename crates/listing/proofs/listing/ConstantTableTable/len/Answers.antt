use mathlib.Core.Path.{sym}
use Rattle.listing.proofs.ListLaws.{constant_table_long}
use Rattle.listing.proofs.listing.ConstantTableTable.len.Goals as goal

pub returns : goal.returns
returns c = sym (constant_table_long c.args.self.now.0.now)
