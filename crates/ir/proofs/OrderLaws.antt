-- The rows of the program check stand in document 01's one order.
-- Assumes nothing.
use mathlib.Core.Bool.{true}
use mathlib.Core.Path.{◌≡◌, refl}
use Rattle.ir.specs.Program.{Program, check_rows}
use Rattle.ir.specs.Refusals.{in_order, program_order}

pub check_in_order : (p : Program) → in_order (check_rows p) program_order ≡ true
check_in_order p = refl
