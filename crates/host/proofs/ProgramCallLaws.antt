-- A call with a value: done and refused.
-- Assumes nothing.
use Rattle.std.specs.Prelude.{Result, Ok, Err}
use mathlib.Core.Path.{◌≡◌, refl}
use Prim.Native.Nat.{ℕ}
use Rattle.ir.specs.declared.refusal.Refusal.{Refusal}
use Rattle.ir.specs.Refusals.{said_of}
use Rattle.host_answer.specs.Answer.{answer_of}
use Rattle.host_answer.proofs.ValueLaws.{value_kept}
use Rattle.host.specs.ProgramCalls.{CalledBase, CalledReads}

module _ {P : Result ℕ Refusal → Type 0} {o : Result ℕ Refusal} {old : ℕ} (p : P o) where
  pub base_called : {v : ℕ} → o ≡ Ok v → CalledBase P 0 old v
  base_called {v} e = record { outcome = Ok v; promised = rw e at p; answered = refl; written = refl }

  pub base_rejected : {why : Refusal} {a : ℕ} → o ≡ Err why → a ≡ answer_of (said_of why) → CalledBase P a old old
  base_rejected {why} e q = record { outcome = Err why; promised = rw e at p; answered = q; written = value_kept why 0 old }

module _ {P : Result ℕ Refusal → Type 0} {o : Result ℕ Refusal} {old : ℕ} (p : P o) where
  pub reads_called : {n : ℕ} → o ≡ Ok n → CalledReads P 0 old n
  reads_called {n} e = record { outcome = Ok n; promised = rw e at p; answered = refl; written = refl }

  pub reads_rejected : {why : Refusal} {a : ℕ} → o ≡ Err why → a ≡ answer_of (said_of why) → CalledReads P a old old
  reads_rejected {why} e q = record { outcome = Err why; promised = rw e at p; answered = q; written = value_kept why 0 old }
