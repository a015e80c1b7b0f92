use Rattle.evaluation.proofs.EvalLaws.{writes_none, writes_more}
use Rattle.evaluation.proofs.evals.write_roots.Goals as goal

pub loop-c-init : goal.loop-c-init
loop-c-init c = writes_none _ _ _ _ _

pub loop-c-preserved : goal.loop-c-preserved
loop-c-preserved c = let l = c.loop-c in writes_more _ _ _ _ _ l.c _ _ _ _ l.invariant c.write_root.ensures
