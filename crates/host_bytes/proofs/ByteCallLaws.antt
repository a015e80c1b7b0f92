-- Each call on bytes leaves one answer and one memory.
-- Assumes nothing.
use Rattle.std.specs.Prelude.{Result}
use Rattle.ir.specs.declared.refusal.Refusal.{Refusal}
use mathlib.Core.List.{List}
use mathlib.Core.Path.{◌≡◌, sym, ap, ◌∙◌}
use Prim.Native.Nat.{ℕ}
use Rattle.ir.specs.declared.program.Counts.{Counts}
use Rattle.ir.specs.declared.frame.Shape.{Shape}
use Rattle.ir.specs.Refusals.{said_of_outcome}
use Rattle.lower_parts.specs.Answer.{Lists, Output}
use Rattle.stored_parts.specs.Form.{Tables}
use Rattle.stored.specs.Answer.{said_of_stored}
use Rattle.bytewise.specs.Checking.{CheckStored}
use Rattle.bytewise.specs.Lowering.{LowerStored}
use Rattle.byte_walk.specs.Walking.{Frame, Memory, WalkStored}
use Rattle.bytewise.proofs.Single.{check_stored_single, lower_stored_single}
use Rattle.byte_walk.proofs.Single.{walk_stored_single}
use Rattle.host_answer.specs.Answer.{answer_of, value_on_done}
use Rattle.host_answer.specs.Called.{Called}
use Rattle.host_bytes.specs.ByteCalls.{CalledStored}

pub cir_check_stored_single : {s : Shape} {file : List ℕ} {rooms rooms₁ rooms₂ : Tables} {marks marks₁ marks₂ : List ℕ} {a a' : ℕ}
    → Called (λ o. CheckStored s file rooms marks o rooms₁ marks₁) a → Called (λ o. CheckStored s file rooms marks o rooms₂ marks₂) a'
    → (a ≡ a') × (rooms₁ ≡ rooms₂) × (marks₁ ≡ marks₂)
cir_check_stored_single f g =
    let q = check_stored_single f.promised g.promised in
    (f.answered ∙ ap (λ (o : Result (Unit {0}) Refusal). answer_of (said_of_outcome o)) q.0 ∙ sym g.answered, q.1, q.2)

pub cir_lower_stored_single : {c : Counts} {t rooms rooms₁ rooms₂ : Tables} {lists lists₁ lists₂ : Lists} {out out₁ out₂ : Output} {file file₁ file₂ : List ℕ} {a a' length length₁ length₂ : ℕ}
    → CalledStored (λ o. LowerStored c t rooms lists out file o rooms₁ lists₁ out₁ file₁) a length length₁ → CalledStored (λ o. LowerStored c t rooms lists out file o rooms₂ lists₂ out₂ file₂) a' length length₂
    → (a ≡ a') × (rooms₁ ≡ rooms₂) × (lists₁ ≡ lists₂) × (out₁ ≡ out₂) × (file₁ ≡ file₂) × (length₁ ≡ length₂)
cir_lower_stored_single {length} f g =
    let q = lower_stored_single f.promised g.promised in (
      f.answered ∙ ap (λ (o : Result ℕ Refusal). answer_of (said_of_stored o)) q.0 ∙ sym g.answered,
      q.1,
      q.2,
      q.3,
      q.4,
      f.written ∙ ap (λ (o : Result ℕ Refusal). value_on_done (said_of_stored o) 0 length) q.0 ∙ sym g.written,
    )

pub cir_walk_stored_single : {s : Shape} {offset file : List ℕ} {rooms rooms₁ rooms₂ : Tables} {frame : Frame} {m m₁ m₂ : Memory} {a a' : ℕ}
    → Called (λ o. WalkStored s offset file rooms frame m o rooms₁ m₁) a → Called (λ o. WalkStored s offset file rooms frame m o rooms₂ m₂) a'
    → (a ≡ a') × (rooms₁ ≡ rooms₂) × (m₁ ≡ m₂)
cir_walk_stored_single f g =
    let q = walk_stored_single f.promised g.promised in
    (f.answered ∙ ap (λ (o : Result (Unit {0}) Refusal). answer_of (said_of_outcome o)) q.0 ∙ sym g.answered, q.1, q.2)
