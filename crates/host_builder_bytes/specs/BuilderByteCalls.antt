-- What the builder's calls on bytes promise: each answers as the function of `builder_bytes` does, whose promise is P of its
-- outcome.
-- Assumes nothing.
use Rattle.ir.specs.declared.refusal.Refusal.{Refusal}
use Rattle.std.specs.Prelude.{◌≡◌, ℕ, Result}
use Rattle.builder.specs.declared.ir_builder.Made.{Made}
use Rattle.builder.specs.declared.ir_builder.IrBuilder.{IrBuilder}
use Rattle.builder.specs.Answers.{said_of_answer, builder_after}
use Rattle.gaps.specs.Gaps.{said_of_gaps}
use Rattle.builder.specs.Roots.{said_of_emitted, builder_emitted}
use Rattle.host_answer.specs.Answer.{answer_of, value_on_done}
use Rattle.host_handle.specs.Handles.{Handed}

-- a node: the handle is written on 0 alone, and the node count is that of the builder b after the call
pub record HandsNodeBytes (P : Result Made Refusal → Type 0) (b : IrBuilder) (answer id id' dim dim' n' : ℕ) : Type 0 where
  pub outcome : Result Made Refusal
  pub promised : P outcome
  pub handed : Handed (said_of_answer outcome) answer id id' dim dim'
  pub counted : n' ≡ (builder_after b outcome).nodes

-- a constant's node: so is the count of constants, base or extension
pub record HandsConstBytes (P : Result Made Refusal → Type 0) (b : IrBuilder) (constants : IrBuilder → ℕ) (answer id id' dim dim' n' m' : ℕ) : Type 0 where
  pub outcome : Result Made Refusal
  pub promised : P outcome
  pub handed : Handed (said_of_answer outcome) answer id id' dim dim'
  pub counted : n' ≡ (builder_after b outcome).nodes
  pub held : m' ≡ constants (builder_after b outcome)

-- a root: the answer, and the root count
pub record HandsRootBytes (P : Result IrBuilder Refusal → Type 0) (b : IrBuilder) (answer k' : ℕ) : Type 0 where
  pub outcome : Result IrBuilder Refusal
  pub promised : P outcome
  pub answered : answer ≡ answer_of (said_of_emitted outcome)
  pub counted : k' ≡ (builder_emitted b outcome).roots

-- the gap report: the answer, and how many gaps there are, which is written on 0 alone
pub record HandsGapsBytes (P : Result ℕ Refusal → Type 0) (answer count count' : ℕ) : Type 0 where
  pub outcome : Result ℕ Refusal
  pub promised : P outcome
  pub answered : answer ≡ answer_of (said_of_gaps outcome)
  pub written : count' ≡ value_on_done (said_of_gaps outcome) 0 count
