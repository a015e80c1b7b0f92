-- `ext_sum` meets its contract, limb by limb.
-- Assumes nothing.
use Rattle.extension.specs.Ext.{sums}
use Rattle.extension.proofs.ExtLaws.{limbs_of_lem}
use Rattle.trial_parts.proofs.parts.ext_sum.Goals as goal

pub returns : goal.returns
unfolding sums
returns c = limbs_of_lem c.add_reduced.ensures c.add_reduced-2.ensures c.add_reduced-3.ensures
