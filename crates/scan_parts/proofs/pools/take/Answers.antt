use Rattle.scan_parts.proofs.PoolLaws.{takes_new, takes_last}
use Rattle.scan_parts.proofs.pools.take.Goals as goal

pub returns-then-top-eq0 : goal.returns-then-top-eq0
returns-then-top-eq0 c = takes_new _ _ _ _ c.requires.known c.requires.pairs c.if-top-eq0.true

pub returns : goal.returns
returns c = takes_last _ _ _ _ c.requires.known c.requires.pairs c.if-top-eq0.false
