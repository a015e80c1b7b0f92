-- What a built program can be used for: it lowers, and its walk gives the plain evaluator's values. Of the refusals of `lower` and of
-- `eval_program` those are left that do not hang on the builder. The proof is in proofs/ServesLaws.antt.
-- Assumes nothing.
use Rattle.ir.specs.declared.refusal.Refusal.{Refusal}
use Rattle.blob_rules.specs.declared.blob.BlobCounts.{BlobCounts}
use Rattle.std.specs.Prelude.{◌||◌, List, [], ◌∷◌, ◌≡◌, ℕ, ◌*◌, ltb, length, Result, Ok}
use Rattle.laws.specs.Folds.{lowest}
use Rattle.ir.specs.declared.frame.Shape.{Shape}
use Rattle.ir.specs.Program.{Program, too_many_roots}
use Rattle.ir.specs.Refusals.{Row, row, row_at, first, gives}
use Rattle.ir.specs.Shape.{over_shape}
use Rattle.values.specs.Frame.{Lent, node_outside, frame_limits}
use Rattle.evaluation.specs.Evaluation.{short_frame, short_evals, ext_root, lengths, prover_rows, ProverAnswer}
use Rattle.lower_parts.specs.Answer.{Lists, Output, lowering, short_lists, short_output, counts_of, lower_said, LowerAnswer}
use Rattle.lower_parts.specs.Lower.{blob_of}
use Rattle.lowered.specs.Faithful.{with_constants, Faithful}
use Rattle.node_table.specs.Hashing.{Start}
use Rattle.built.specs.Draft.{Call}
use Rattle.built.specs.Memory.{Memory}
use Rattle.built.specs.History.{reached, program_of, OfHistories}

-- ---- what is left of the refusals

-- the rows of `lower` that a built program leaves open
abbrev pub lower_left : Program → Lists → Output → List Row
lower_left q b o = row (too_many_roots q.counts) 9 ∷ row (short_lists q.counts.nodes b) 1 ∷ row (short_output (lowering q) o) 10 ∷ []

-- and those of `eval_program`, over a shape and a frame, with so many words of base and extension evals, and a room
abbrev pub eval_left : Program → Shape → Lent → (base ext : ℕ) → List ℕ → List Row
eval_left q s l base ext room =
    row (too_many_roots q.counts) 9
    ∷ row (over_shape s) 2
    ∷ row (short_frame s 1 (lengths q.nodes q.roots l room) || ltb (length room) (4 * q.counts.nodes)) 1
    ∷ row (short_evals q.counts base ext) 14
    ∷ row_at (lowest (node_outside (frame_limits s) q.nodes) q.counts.nodes) 13
    ∷ row_at (ext_root q.counts q.nodes q.roots) 12
    ∷ []

-- what a built program is good for
pub record Serves (q : Program) : Type 0 where
  pub lowers : (b : Lists) (o : Output) → lower_said q b o ≡ first (lower_left q b o) (gives (counts_of (blob_of q.counts (lowering q)).counts))
  pub evaluates :
      (s : Shape) (l : Lent) (base ext : ℕ) (room : List ℕ)
      → first (prover_rows q.counts s (lengths q.nodes q.roots (with_constants q.bases q.exts l) room) base ext (frame_limits s) q.nodes q.roots) (gives [])
      ≡ first (eval_left q s l base ext room) (gives [])
  -- where both answer 0, the check passes the blob, and its walk leaves the evaluator's words
  pub faithful :
      (s : Shape) (l : Lent) (base base₁ ext ext₁ room room₁ : List ℕ)
      → ProverAnswer q.counts s q.nodes q.roots (with_constants q.bases q.exts l) (Ok tt) base base₁ ext ext₁ room room₁
      → (b b' : Lists) (o o' : Output) (a : Result BlobCounts Refusal) → LowerAnswer q b o a b' o' → Faithful q s l base base₁ ext ext₁ b o a o'

-- of any history, with any num_base
pub record BuiltServes (start : Start) (m : Memory) (cs : List Call) : Type 0 where
  pub serves : (base : ℕ) → Serves (program_of (reached start m cs) base)

-- stated of any calls from a fresh builder
abbrev pub BuiltProgramsServe : Type 0
BuiltProgramsServe = OfHistories BuiltServes
