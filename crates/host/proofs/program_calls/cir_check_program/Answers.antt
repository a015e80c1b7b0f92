-- `cir_check_program` meets its contract: it is the check's.
-- Assumes nothing.
use Rattle.host_answer.specs.Answer.{answer_of}
use mathlib.Core.Path.{ap, ◌∙◌}
use Rattle.host.proofs.program_calls.cir_check_program.Goals as goal

pub returns : goal.returns
returns c =
    c.coded_outcome.ensures ∙ ap answer_of (rw c.counts_of-c.ensures at c.check_program.ensures)
