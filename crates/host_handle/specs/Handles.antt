-- A builder's counts and handles, as the calls on words and on bytes take and give them.
-- Assumes nothing.
use Rattle.std.specs.Prelude.{◌≡◌, ℕ}
use Rattle.ir.specs.Refusals.{Said}
use Rattle.builder.specs.declared.ir_builder.Expr.{Expr}
use Rattle.builder.specs.declared.ir_builder.IrBuilder.{IrBuilder}
use Rattle.host_answer.specs.Answer.{answer_of, value_on_done}

-- a handle, from its two numbers
abbrev pub handle : (id dim : ℕ) → Expr
handle id dim = record { id = id; dim = dim }

-- a builder, from its counts
abbrev pub lent_counts : (n b x r : ℕ) → IrBuilder
lent_counts n b x r = record { nodes = n; bases = b; exts = x; roots = r }

-- the answer of what is said; the handle's id is value 0, its dim value 1
pub record Handed (s : Said) (answer id id' dim dim' : ℕ) : Type 0 where
  pub answered : answer ≡ answer_of s
  pub id_written : id' ≡ value_on_done s 0 id
  pub dim_written : dim' ≡ value_on_done s 1 dim
