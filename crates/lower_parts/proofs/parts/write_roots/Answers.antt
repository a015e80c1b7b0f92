use Rattle.lower_parts.proofs.OutLaws.{laid_more}
use native.Mathlib.Omega.{arith}
use Rattle.lower_parts.proofs.parts.write_roots.Goals as goal

pub loop-r-preserved : goal.loop-r-preserved
loop-r-preserved c = let l = c.loop-r in rw l.invariant (laid_more _ c.args.out.now l.r _ (omega (arith, c.loop-r-test.true, c.requires.1)) c.root_word.ensures)
