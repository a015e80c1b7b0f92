-- `cir_eval_program` meets its contract: it is the evaluator's.
-- Assumes nothing.
use Rattle.host.proofs.program_calls.cir_eval_program.Goals as goal

pub returns : goal.returns
returns c =
    record {
      outcome = c.eval_program.result;
      promised = rw (c.counts_of.ensures, c.shape_of.ensures, c.ext_of.ensures) at c.eval_program.ensures;
      answered = c.coded_outcome.ensures;
    }
