-- `write_root` meets its contract.
-- Assumes nothing.
use Rattle.evaluation.proofs.EvalLaws.{base_written, ext_written}
use Rattle.evaluation.proofs.evals.write_root.Goals as goal

pub returns-then-c-leading : goal.returns-then-c-leading
returns-then-c-leading c = base_written _ _ _ _ _ _ _ c.if-c-leading.true c.reduce.ensures

pub returns-else-c-leading : goal.returns-else-c-leading
returns-else-c-leading c = ext_written _ _ _ _ _ _ _ _ _ c.if-c-leading.false c.load.ensures c.reduce-v.ensures c.store.ensures
