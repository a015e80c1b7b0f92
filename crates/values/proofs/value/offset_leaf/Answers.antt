-- `offset_leaf` meets its contract: the remainders are kept.
-- Assumes nothing.
use Rattle.values.proofs.ValueLaws.{ext_is}
use Rattle.extension.proofs.ExtLaws.{least_limbs, limbs_stand, remainders_near}
use Rattle.values.proofs.value.offset_leaf.Goals as goal

pub returns : goal.returns
returns c = rw c.of_ext.ensures (ext_is (limbs_stand (least_limbs c.reduce.ensures) (remainders_near 3 _)))
