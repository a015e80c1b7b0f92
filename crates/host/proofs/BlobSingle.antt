-- Each call on blobs leaves one answer and one memory.
-- Assumes nothing.
use Rattle.std.specs.Prelude.{Result}
use Rattle.ir.specs.declared.refusal.Refusal.{Refusal}
use mathlib.Core.List.{List}
use mathlib.Core.Path.{◌≡◌, sym, ap, ◌∙◌}
use Prim.Native.Nat.{ℕ}
use Rattle.ir.specs.declared.frame.Shape.{Shape}
use Rattle.ir.specs.Refusals.{said_of_outcome}
use Rattle.values.specs.Frame.{Lent}
use Rattle.blob_rules.specs.Blob.{Blob}
use Rattle.blob_rules.specs.Check.{CheckAnswer}
use Rattle.device.proofs.Single.{check_blob_single}
use Rattle.walk.specs.Walk.{WalkAnswer}
use Rattle.walk.proofs.Single.{walk_single}
use Rattle.host_answer.specs.Answer.{answer_of}
use Rattle.host_answer.specs.Called.{Called}

pub cir_check_blob_single : {b : Blob} {s : Shape} {marks marks₁ marks₂ : List ℕ} {a a' : ℕ} → Called (λ o. CheckAnswer b s o marks marks₁) a → Called (λ o. CheckAnswer b s o marks marks₂) a' → (a ≡ a') × (marks₁ ≡ marks₂)
cir_check_blob_single f g =
    let q = check_blob_single f.promised g.promised in
    (f.answered ∙ ap (λ (o : Result (Unit {0}) Refusal). answer_of (said_of_outcome o)) q.0 ∙ sym g.answered, q.1)

pub cir_walk_single : {b : Blob} {s : Shape} {l : Lent} {base base₁ base₂ ext ext₁ ext₂ marks marks₁ marks₂ slots slots₁ slots₂ : List ℕ} {a a' : ℕ}
    → Called (λ o. WalkAnswer b s l o base base₁ ext ext₁ marks marks₁ slots slots₁) a → Called (λ o. WalkAnswer b s l o base base₂ ext ext₂ marks marks₂ slots slots₂) a'
    → (a ≡ a') × (base₁ ≡ base₂) × (ext₁ ≡ ext₂) × (marks₁ ≡ marks₂) × (slots₁ ≡ slots₂)
cir_walk_single f g =
    let q = walk_single f.promised g.promised in
    (f.answered ∙ ap (λ (o : Result (Unit {0}) Refusal). answer_of (said_of_outcome o)) q.0 ∙ sym g.answered, q.1, q.2, q.3, q.4)
