-- The answers of the shared refusals, in the evaluators around them.
-- Assumes nothing.
use Rattle.std.specs.Prelude.{Result, Ok}
use mathlib.Core.List.{List, []}
use mathlib.Core.Path.{◌≡◌, refl}
use Prim.Native.Nat.{ℕ}
use Rattle.ir.specs.declared.program.Counts.{Counts}
use Rattle.ir.specs.declared.frame.Shape.{Shape}
use Rattle.ir.specs.declared.refusal.Refusal.{Refusal}
use Rattle.ir.specs.Refusals.{gives, said_of_outcome, first}
use Rattle.ir.proofs.RefusalLaws.{done_rows}
use Rattle.values.specs.declared.frame.Limits.{Limits}
use Rattle.evaluation.specs.declared.frame.Lengths.{Lengths}
use Rattle.evaluation.specs.Evaluation.{memory_rows, form_rows, TablesOk}
use Rattle.evaluation.proofs.RefuseLaws.{MemoryOk, memory_ok, FormOk, form_ok_lem}

-- the first rows: 8, 9, 2, 1
module _ (c : Counts) (s : Shape) (limbs : ℕ) (l : Lengths) {o : Result (Unit {0}) Refusal} (h : said_of_outcome o ≡ first (memory_rows c s limbs l) (gives [])) where
  pub memory_passed : o ≡ Ok tt → MemoryOk c s limbs l
  memory_passed e = memory_ok c s limbs l (done_rows (memory_rows c s limbs l) refl e h)

  pub tables_ok : {nodes roots : ℕ} → l.nodes ≡ nodes → l.roots ≡ roots → o ≡ Ok tt → TablesOk c nodes roots
  tables_ok a b e =
      let m = memory_passed e in
      record { few_roots = m.roots_few; nodes_long = rw a at m.tables_long.nodes_long; roots_long = rw b at m.tables_long.roots_long }

-- the rows of the program and the frame: 7, 13
module _ (c : Counts) (m : Limits) (nodes roots : List ℕ) {o : Result (Unit {0}) Refusal} (h : said_of_outcome o ≡ first (form_rows c m nodes roots) (gives [])) where
  pub form_passed : o ≡ Ok tt → FormOk c m nodes roots
  form_passed e = form_ok_lem c m nodes roots (done_rows (form_rows c m nodes roots) refl e h)
