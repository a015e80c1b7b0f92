-- `gap_report` meets its contract.
-- Assumes nothing.
use Rattle.gaps.proofs.GapLaws.{gaps_short, gaps_listed}
use Rattle.gaps.proofs.gaps.gap_report.Goals as goal

pub returns-then-roots-k : goal.returns-then-roots-k
returns-then-roots-k c = gaps_short _ _ _ c.if-roots-k.true

pub returns : goal.returns
returns c = gaps_listed _ _ _ c.if-roots-k.false c.list_places.ensures
