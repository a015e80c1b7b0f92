-- `verifier_refusal` meets its contract.
-- Assumes nothing.
use Rattle.interp.proofs.OutcomeLaws.{tables_ok}
use Rattle.interp.proofs.interp.verifier_refusal.Goals as goal

pub verifier_rest-requires : goal.verifier_rest-requires
verifier_rest-requires c = let a = c.args in let q = c.requires in tables_ok a.c a.s 3 a.l c.memory_refusal.ensures q.0 q.1 c.in_ok-memory_refusal.was
