-- `row_refusal` meets its contract.
-- Assumes nothing.
use Rattle.interp.proofs.OutcomeLaws.{tables_ok}
use Rattle.evaluation.specs.Evaluation.{row_shape}
use Rattle.interp.proofs.interp.row_refusal.Goals as goal

pub row_rest-requires : goal.row_rest-requires
row_rest-requires c = let a = c.args in let q = c.requires in tables_ok a.c (row_shape a.width) 1 a.l c.memory_refusal.ensures q.0 q.1 c.in_ok-memory_refusal.was
