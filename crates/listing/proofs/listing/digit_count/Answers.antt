use Rattle.listing.proofs.ListLaws.{decimal_long}
use Rattle.listing.proofs.listing.digit_count.Goals as goal

pub returns : goal.returns
returns c = decimal_long c.args.n c.ilog10.result c.ilog10.ensures.bound (rw c.max.ensures at c.ilog10.ensures.power_le) (rw c.max.ensures at c.ilog10.ensures.next_power_gt)
