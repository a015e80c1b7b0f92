-- The promise of the blob check leaves one answer and one memory, and its rows stand in document 01's order.
-- Assumes nothing.
use Rattle.std.specs.Prelude.{Result}
use Rattle.ir.specs.declared.refusal.Refusal.{Refusal}
use mathlib.Core.Bool.{true}
use mathlib.Core.List.{List}
use mathlib.Core.Path.{◌≡◌, refl, sym, ◌∙◌}
use Prim.Native.Nat.{ℕ}
use Rattle.ir.specs.declared.frame.Shape.{Shape}
use Rattle.ir.specs.Refusals.{in_order}
use Rattle.ir.proofs.Single.{outcome_single}
use Rattle.blob_rules.specs.Blob.{Blob}
use Rattle.blob_rules.specs.Check.{blob_order, check_rows, CheckAnswer}

pub check_blob_single : {b : Blob} {s : Shape} {r r' : Result (Unit {0}) Refusal} {old new new' : List ℕ} → CheckAnswer b s r old new → CheckAnswer b s r' old new' → (r ≡ r') × (new ≡ new')
check_blob_single {r = r} {r' = r'} f g = (outcome_single r r' (f.said ∙ sym g.said), f.marks_end ∙ sym g.marks_end)

pub check_in_order : (b : Blob) (s : Shape) (marks : ℕ) → in_order (check_rows b s marks) blob_order ≡ true
check_in_order b s marks = refl
