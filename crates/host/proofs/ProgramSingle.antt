-- Each call on programs leaves one answer and one memory. (Of `cir_check_program` the promise is an equation.)
-- Assumes nothing.
use Rattle.std.specs.Prelude.{Result}
use Rattle.ir.specs.declared.refusal.Refusal.{Refusal}
use mathlib.Core.List.{List}
use mathlib.Core.Path.{◌≡◌, sym, ap, ◌∙◌}
use Prim.Native.Nat.{ℕ}
use Rattle.ir.specs.declared.program.Counts.{Counts}
use Rattle.ir.specs.declared.frame.Shape.{Shape}
use Rattle.ir.specs.Program.{Program}
use Rattle.reads.specs.Reads.{ReadsAnswer, said_of_columns}
use Rattle.ir.specs.Refusals.{said_of_outcome}
use Rattle.reads.proofs.Single.{next_row_trace_reads_single}
use Rattle.values.specs.Frame.{Lent}
use Rattle.evaluation.specs.Evaluation.{said_of_evaluated, ProverAnswer, VerifierAnswer, RowAnswer}
use Rattle.interp.proofs.Single.{eval_program_single, eval_program_verifier_single, eval_program_base_single}
use Rattle.host_answer.specs.Answer.{answer_of, value_on_done}
use Rattle.host.specs.ProgramCalls.{CalledBase, CalledReads}
use Rattle.host_answer.specs.Called.{Called}

module _ (c : Counts) (s : Shape) (nodes roots : List ℕ) (l : Lent) {a a' : ℕ} {ext ext₁ ext₂ room room₁ room₂ : List ℕ} where
  pub cir_eval_program_single : {base base₁ base₂ : List ℕ} → Called (λ o. ProverAnswer c s nodes roots l o base base₁ ext ext₁ room room₁) a → Called (λ o. ProverAnswer c s nodes roots l o base base₂ ext ext₂ room room₂) a' → (a ≡ a') × (base₁ ≡ base₂) × (ext₁ ≡ ext₂) × (room₁ ≡ room₂)
  cir_eval_program_single f g =
      let q = eval_program_single c s nodes roots l f.promised g.promised in
      (f.answered ∙ ap (λ (o : Result (Unit {0}) Refusal). answer_of (said_of_outcome o)) q.0 ∙ sym g.answered, q.1, q.2, q.3)

  pub cir_eval_program_verifier_single : Called (λ o. VerifierAnswer c s nodes roots l o ext ext₁ room room₁) a → Called (λ o. VerifierAnswer c s nodes roots l o ext ext₂ room room₂) a' → (a ≡ a') × (ext₁ ≡ ext₂) × (room₁ ≡ room₂)
  cir_eval_program_verifier_single f g =
      let q = eval_program_verifier_single c s nodes roots l f.promised g.promised in
      (f.answered ∙ ap (λ (o : Result (Unit {0}) Refusal). answer_of (said_of_outcome o)) q.0 ∙ sym g.answered, q.1, q.2)

pub cir_eval_program_base_single : (c : Counts) (width asked : ℕ) (nodes roots : List ℕ) (l : Lent) {room room₁ room₂ : List ℕ} {a a' value value₁ value₂ : ℕ} → CalledBase (λ o. RowAnswer c width asked nodes roots l o room room₁) a value value₁ → CalledBase (λ o. RowAnswer c width asked nodes roots l o room room₂) a' value value₂ → (a ≡ a') × (value₁ ≡ value₂) × (room₁ ≡ room₂)
cir_eval_program_base_single c width asked nodes roots l {value} f g =
    let q = eval_program_base_single c width asked nodes roots l f.promised g.promised in (
      f.answered ∙ ap (λ (o : Result ℕ Refusal). answer_of (said_of_evaluated o)) q.0 ∙ sym g.answered,
      f.written ∙ ap (λ (o : Result ℕ Refusal). value_on_done (said_of_evaluated o) 0 value) q.0 ∙ sym g.written,
      q.1,
    )

pub cir_next_row_trace_reads_single : {p : Program} {width : ℕ} {out out₁ out₂ : List ℕ} {a a' count count₁ count₂ : ℕ} → CalledReads (λ o. ReadsAnswer p width out out₁ o) a count count₁ → CalledReads (λ o. ReadsAnswer p width out out₂ o) a' count count₂ → (a ≡ a') × (count₁ ≡ count₂) × (out₁ ≡ out₂)
cir_next_row_trace_reads_single {count} f g =
    let q = next_row_trace_reads_single f.promised g.promised in (
      f.answered ∙ ap (λ (o : Result ℕ Refusal). answer_of (said_of_columns o)) q.0 ∙ sym g.answered,
      f.written ∙ ap (λ (o : Result ℕ Refusal). value_on_done (said_of_columns o) 0 count) q.0 ∙ sym g.written,
      q.1,
    )
