use Rattle.lower_parts.proofs.OutLaws.{laid_more}
use Rattle.field.proofs.Laws.{least_exact}
use native.Mathlib.Omega.{arith}
use Rattle.lower_parts.proofs.parts.copy_constants.Goals as goal

pub loop-k-preserved : goal.loop-k-preserved
loop-k-preserved c = let l = c.loop-k in rw l.invariant (laid_more _ c.args.to.now l.k _ (omega (arith, c.loop-k-test.true, c.requires.1)) (least_exact c.reduce.ensures))
