use Rattle.listing.proofs.ListLaws.{cut_up}
use Rattle.listing.proofs.listing.Sections.of.Goals as goal

pub returns : goal.returns
returns c = cut_up c.requires c.split_at.ensures.back c.split_at-2.ensures.back c.split_at-3.ensures.back c.split_at-4.ensures.back c.split_at.ensures.front c.split_at-2.ensures.front c.split_at-3.ensures.front c.split_at-4.ensures.front c.split_at-5.ensures.front
