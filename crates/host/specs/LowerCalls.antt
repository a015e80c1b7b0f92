-- What the call that lowers promises: the answer as one number, and each lent word.
-- Assumes nothing.
use Rattle.ir.specs.declared.refusal.Refusal.{Refusal}
use Rattle.blob_rules.specs.declared.blob.BlobCounts.{BlobCounts}
use Rattle.std.specs.Prelude.{◌≡◌, ℕ, Result}
use Rattle.lower_parts.specs.Answer.{said_of_lowering}
use Rattle.host_answer.specs.Answer.{answer_of, value_on_done}

-- the call answers as `lower` does, whose promise is P of its outcome; the nodes of the blob are value 0, its base slots
-- value 5, its extension slots value 6
pub record CalledLower (P : Result BlobCounts Refusal → Type 0) (answer count count' bs bs' xs xs' : ℕ) : Type 0 where
  pub outcome : Result BlobCounts Refusal
  pub promised : P outcome
  pub answered : answer ≡ answer_of (said_of_lowering outcome)
  pub counted : count' ≡ value_on_done (said_of_lowering outcome) 0 count
  pub base_slots : bs' ≡ value_on_done (said_of_lowering outcome) 5 bs
  pub ext_slots : xs' ≡ value_on_done (said_of_lowering outcome) 6 xs
