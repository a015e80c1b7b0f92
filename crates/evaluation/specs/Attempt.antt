-- The plain evaluator's attempt: what it looks at before the trial, and what it gives. Only inner functions cite this file: no
-- public promise rests on it.
-- Assumes nothing.
use Rattle.std.specs.Prelude.{Bool, true, false, List, ◌≡◌, ℕ, leb, get_or, None}
use Rattle.laws.specs.Folds.{lowest}
use Rattle.extension.specs.Tower.{goldilocks}
use Rattle.ir.specs.declared.program.Counts.{Counts}
use Rattle.ir.specs.declared.frame.Shape.{Shape}
use Rattle.ir.specs.Refusals.{Row, any_holds}
use Rattle.values.specs.Values.{Value, values}
use Rattle.values.specs.Frame.{Lent, leaves, prover_strides, frame_limits}
use Rattle.values.specs.Room.{RoomHolds}
use Rattle.evaluation.specs.declared.frame.Lengths.{Lengths}
use Rattle.evaluation.specs.Evaluation.{short_evals, ext_root, memory_rows, prover_rows, lengths}

-- what it looks at in the roots and the eval buffers: 14 and 12 let them through, and so does 7
pub record RootsFit (c : Counts) (base ext : ℕ) (nodes roots : List ℕ) : Type 0 where
  pub evals_long : short_evals c base ext ≡ false
  pub roots_below : lowest (λ r. leb c.nodes (get_or roots r 0)) c.roots ≡ None
  pub roots_base : ext_root c nodes roots ≡ None

-- what is lent suffices, and the roots and evals are let through
pub record Sufficient (c : Counts) (s : Shape) (l : Lengths) (base ext : ℕ) (nodes roots : List ℕ) : Type 0 where
  pub memory : any_holds (memory_rows c s 1 l) ≡ false
  pub roots_fit : RootsFit c base ext nodes roots

-- no row refuses, and the room has the values; or the room is as it was
pub record Attempt (rows : List Row) (env : ℕ → Value ℕ (List ℕ)) (n : ℕ) (old new : List ℕ) (passed : Bool) : Type 0 where
  pub quiet : passed ≡ true → any_holds rows ≡ false
  pub holds : passed ≡ true → RoomHolds env n old new
  pub kept : passed ≡ false → new ≡ old

-- the plain evaluator's
abbrev pub ProverAttempt : Counts → Shape → (nodes roots : List ℕ) → Lent → (base ext : ℕ) → (old new : List ℕ) → Bool → Type 0
ProverAttempt c s nodes roots l base ext old new passed =
    Attempt (prover_rows c s (lengths nodes roots l old) base ext (frame_limits s) nodes roots)
    (values goldilocks (leaves (prover_strides s) l) nodes c.nodes) c.nodes old new passed
