-- `cir_eval_program_base` meets its contract: it is the evaluator's.
-- Assumes nothing.
use Rattle.host.proofs.ProgramCallLaws.{base_called, base_rejected}
use Rattle.host.proofs.program_calls.cir_eval_program_base.Goals as goal

pub returns-in-Ok : goal.returns-in-Ok
returns-in-Ok c =
    base_called (rw c.counts_of-c.ensures at c.eval_program_base.ensures) c.in-Ok.is

pub returns-in-Err : goal.returns-in-Err
returns-in-Err c =
    base_rejected (rw c.counts_of-c.ensures at c.eval_program_base.ensures) c.in-Err.is c.coded_refusal.ensures
