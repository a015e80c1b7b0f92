-- The rows of `next_row_trace_reads` stand in document 01's one order.
-- Assumes nothing.
use mathlib.Core.Bool.{true}
use mathlib.Core.Path.{◌≡◌, refl}
use Prim.Native.Nat.{ℕ}
use Rattle.ir.specs.Program.{Program}
use Rattle.reads.specs.Reads.{reads_rows}
use Rattle.ir.specs.Refusals.{in_order, program_order}

pub reads_in_order : (p : Program) (width room : ℕ) → in_order (reads_rows p width room) program_order ≡ true
reads_in_order p width room = refl
