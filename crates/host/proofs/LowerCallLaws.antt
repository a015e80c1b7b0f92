-- The promise of the call that lowers leaves one answer and one memory; number and place can be read back.
-- Assumes nothing.
use Rattle.std.specs.Prelude.{Result}
use Rattle.ir.specs.declared.refusal.Refusal.{Refusal}
use Rattle.blob_rules.specs.declared.blob.BlobCounts.{BlobCounts}
use mathlib.Core.Path.{◌≡◌, sym, ap, ◌∙◌}
use Prim.Native.Nat.{ℕ}
use Rattle.ir.specs.Program.{Program}
use Rattle.lower_parts.specs.Answer.{Lists, Output, said_of_lowering, lower_said, LowerAnswer}
use Rattle.lower.proofs.Single.{lower_single}
use Rattle.host_answer.specs.Answer.{answer_of, value_on_done}
use Rattle.host.specs.LowerCalls.{CalledLower}
use Rattle.host.proofs.PlaceLaws.{Parts, parts_of, lower_fits}

pub cir_lower_single : {p : Program} {b b₁ b₂ : Lists} {o o₁ o₂ : Output} {a a' count count₁ count₂ bs bs₁ bs₂ xs xs₁ xs₂ : ℕ}
    → CalledLower (λ w. LowerAnswer p b o w b₁ o₁) a count count₁ bs bs₁ xs xs₁ → CalledLower (λ w. LowerAnswer p b o w b₂ o₂) a' count count₂ bs bs₂ xs xs₂
    → (a ≡ a') × (b₁ ≡ b₂) × (o₁ ≡ o₂) × (count₁ ≡ count₂) × (bs₁ ≡ bs₂) × (xs₁ ≡ xs₂)
cir_lower_single {count} {bs} {xs} f g =
    let q = lower_single f.promised g.promised in (
      f.answered ∙ ap (λ (w : Result BlobCounts Refusal). answer_of (said_of_lowering w)) q.0 ∙ sym g.answered,
      q.1,
      q.2,
      f.counted ∙ ap (λ (w : Result BlobCounts Refusal). value_on_done (said_of_lowering w) 0 count) q.0 ∙ sym g.counted,
      f.base_slots ∙ ap (λ (w : Result BlobCounts Refusal). value_on_done (said_of_lowering w) 5 bs) q.0 ∙ sym g.base_slots,
      f.ext_slots ∙ ap (λ (w : Result BlobCounts Refusal). value_on_done (said_of_lowering w) 6 xs) q.0 ∙ sym g.ext_slots,
    )

-- number and place can be read back from an answer
pub cir_lower_parts : {p : Program} {b b' : Lists} {o o' : Output} {a count count' bs bs' xs xs' : ℕ} → CalledLower (λ w. LowerAnswer p b o w b' o') a count count' bs bs' xs xs' → Parts a (lower_said p b o)
cir_lower_parts {p} {b} {b'} {o} f = parts_of (lower_said p b o) (lower_fits p b o) (f.answered ∙ ap answer_of f.promised.said)
