-- `cir_next_row_trace_reads` meets its contract: it is the library's.
-- Assumes nothing.
use Rattle.host.proofs.ProgramCallLaws.{reads_called, reads_rejected}
use Rattle.host.proofs.program_calls.cir_next_row_trace_reads.Goals as goal

pub returns-in-Ok : goal.returns-in-Ok
returns-in-Ok c =
    reads_called (rw c.counts_of-c.ensures at c.next_row_trace_reads.ensures) c.in-Ok.is

pub returns-in-Err : goal.returns-in-Err
returns-in-Err c =
    reads_rejected (rw c.counts_of-c.ensures at c.next_row_trace_reads.ensures) c.in-Err.is c.coded_refusal.ensures
