-- `prover_refusal` meets its contract.
-- Assumes nothing.
use Rattle.interp.proofs.OutcomeLaws.{tables_ok}
use Rattle.interp.proofs.interp.prover_refusal.Goals as goal

pub prover_rest-requires : goal.prover_rest-requires
prover_rest-requires c = let a = c.args in let q = c.requires in tables_ok a.c a.s 1 a.l c.memory_refusal.ensures q.0 q.1 c.in_ok-memory_refusal.was
