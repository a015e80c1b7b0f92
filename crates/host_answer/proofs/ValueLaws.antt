-- A value that a call hands out: a refusal leaves it as it was lent.
-- Assumes nothing.
use mathlib.Core.Path.{◌≡◌}
use Prim.Native.Nat.{ℕ}
use borrow.Author.Tests.{ne_eqb}
use Rattle.ir.specs.declared.refusal.Refusal.{Refusal}
use Rattle.ir.specs.Refusals.{said_of}
use Rattle.ir.proofs.RefusalLaws.{refusal_number}
use Rattle.host_answer.specs.Answer.{value_on_done}

pub value_kept : (why : Refusal) (k old : ℕ) → old ≡ value_on_done (said_of why) k old
value_kept why k old = rw (ne_eqb (said_of why).number 0 (refusal_number why))
