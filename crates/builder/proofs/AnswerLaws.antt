-- An answer is 0 where it is no refusal, and what a call's first test tells of the nodes.
-- Assumes nothing.
use mathlib.Core.Bool.{Bool, false}
use mathlib.Core.Path.{◌≡◌, refl, sym, ◌∙◌}
use Rattle.std.specs.Prelude.{Result, Ok, Err, is_ok}
use Rattle.builder.specs.Answers.{said_of_answer}
use Rattle.builder.specs.Roots.{said_of_emitted}
use Rattle.builder.specs.declared.ir_builder.IrBuilder.{IrBuilder}
use Rattle.builder.specs.declared.ir_builder.Made.{Made}
use Prim.Native.Nat.{ℕ, ◌*◌, ◌/◌, ◌≤◌}
use native.Mathlib.Omega.{arith}
use lib.Dec.{eqb, ltb}
use borrow.Author.Tests.{ltb-false, ne_eqb}
use Rattle.laws.proofs.Tests.{or_left}
use Rattle.ir.specs.declared.refusal.Refusal.{Refusal}
use Rattle.ir.specs.Refusals.{said_of}
use Rattle.ir.proofs.RefusalLaws.{refusal_number}
use Rattle.builder.specs.Answers.{short_b}

-- the number of a refusal is not 0
pub refused_not_0 : (why : Refusal) → false ≡ eqb (said_of why).number 0
refused_not_0 why = sym (ne_eqb (said_of why).number 0 (refusal_number why))

-- an answer is 0 where it is no refusal
pub made_said : (r : Result Made Refusal) → is_ok r ≡ eqb (said_of_answer r).number 0
made_said (Ok m) = refl
made_said (Err why) = refused_not_0 why

pub rooted_said : (r : Result IrBuilder Refusal) → is_ok r ≡ eqb (said_of_emitted r).number 0
rooted_said (Ok b) = refl
rooted_said (Err why) = refused_not_0 why

pub long_nodes : (ln lp n : ℕ) (s : Bool) → s ≡ short_b ln lp n → s ≡ false → 4 * n ≤ ln
unfolding short_b
long_nodes ln lp n s e q = omega (arith, ltb-false (ln / 4) n (or_left (ltb (ln / 4) n) (ltb lp n) (sym e ∙ q)))
