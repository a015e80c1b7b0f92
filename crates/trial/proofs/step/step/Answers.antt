-- `step` meets its contract.
-- Assumes nothing.
use Rattle.trial_parts.proofs.TrialLaws.{leaf_passed, operation_passed}
use Rattle.trial_parts.proofs.StepLaws.{operation_fits}
use Rattle.values.proofs.OperationLaws.{leaf_computes, operation_computes}
use Rattle.trial.proofs.step.step.Goals as goal

pub returns-then-tag-lt-OP_ADD : goal.returns-then-tag-lt-OP_ADD
returns-then-tag-lt-OP_ADD c = let a = c.args in let t = c.if-tag-lt-OP_ADD.true in λ e. let h = c.step_leaf.ensures e in record { limbs = h.1.limbs; fits = leaf_passed a.c a.m a.nodes.now a.i _ t h.0; computes = leaf_computes t h.1.value_is; stored = h.1.stored }

pub returns : goal.returns
returns c = let a = c.args in let t = c.if-tag-lt-OP_ADD.false in λ e. let h = c.step_operation.ensures e in record { limbs = h.1.limbs; fits = operation_passed a.c a.m a.nodes.now a.i _ t (operation_fits a.room.now a.i _ _ _ _ a.nodes.now c.requires.classes h.0 h.1.operands_ok); computes = operation_computes t h.1.operates; stored = h.1.stored }
