-- The rows of each evaluator stand in document 01's one order.
-- Assumes nothing.
use mathlib.Core.Bool.{true}
use mathlib.Core.List.{List}
use mathlib.Core.Path.{◌≡◌, refl}
use Prim.Native.Nat.{ℕ}
use Rattle.ir.specs.declared.program.Counts.{Counts}
use Rattle.ir.specs.declared.frame.Shape.{Shape}
use Rattle.ir.specs.Refusals.{in_order, program_order}
use Rattle.values.specs.declared.frame.Limits.{Limits}
use Rattle.evaluation.specs.declared.frame.Lengths.{Lengths}
use Rattle.evaluation.specs.Evaluation.{prover_rows, verifier_rows, row_rows}

module _ (c : Counts) (s : Shape) (l : Lengths) (m : Limits) (nodes roots : List ℕ) where
  pub prover_in_order : (base ext : ℕ) → in_order (prover_rows c s l base ext m nodes roots) program_order ≡ true
  prover_in_order base ext = refl

  pub verifier_in_order : (ext : ℕ) → in_order (verifier_rows c s l ext m nodes roots) program_order ≡ true
  verifier_in_order ext = refl

  pub row_in_order : (width asked : ℕ) → in_order (row_rows c width asked l m nodes roots) program_order ≡ true
  row_in_order width asked = refl
