-- `ext_leaf` meets its contract: the remainders are kept.
-- Assumes nothing.
use Rattle.values.proofs.ValueLaws.{ext_leaf_is}
use Rattle.values.proofs.value.ext_leaf.Goals as goal

pub returns : goal.returns
returns c = let a = c.args in rw c.of_ext.ensures (ext_leaf_is a.s.now a.k c.load.ensures c.reduce.ensures)
