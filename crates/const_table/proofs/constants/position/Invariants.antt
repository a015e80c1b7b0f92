-- `position` meets its contract.
-- Assumes nothing.
use Rattle.const_table.proofs.PositionLaws.{Scanning}
use Rattle.const_table.proofs.constants.position.Given as goal

abbrev pub invariant-loop-j : goal.invariant-loop-j
invariant-loop-j g l = Scanning (g.C.Constant.same l.v l.words) l.m l.j
