-- `base_leaf` meets its contract: the remainder is kept.
-- Assumes nothing.
use Rattle.values.proofs.ValueLaws.{base_is}
use Rattle.field.proofs.Laws.{reduced, least_stands}
use Rattle.values.proofs.value.base_leaf.Goals as goal

pub returns : goal.returns
returns c = rw c.of_base.ensures (base_is (least_stands c.reduce.ensures reduced))
