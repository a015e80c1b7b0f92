use Rattle.const_table.proofs.PositionLaws.{scanning_start, scanning_more, scanning_here, scanning_end}
use Rattle.const_table.proofs.constants.position.Goals as goal

pub loop-j-init : goal.loop-j-init
loop-j-init g c = scanning_start _ _

pub returns-then-is_at : goal.returns-then-is_at
returns-then-is_at g c = scanning_here _ _ _ c.loop-j.invariant _ c.loop-j-test.true c.is_at.ensures c.if-is_at.true

pub loop-j-preserved : goal.loop-j-preserved
loop-j-preserved g c = scanning_more _ _ _ c.loop-j.invariant _ c.loop-j-test.true c.is_at.ensures c.if-is_at.false

pub returns : goal.returns
returns g c = scanning_end _ _ _ c.loop-j.invariant c.loop-j-test.false
