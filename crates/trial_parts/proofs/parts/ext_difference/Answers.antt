-- `ext_difference` meets its contract, limb by limb.
-- Assumes nothing.
use Rattle.extension.specs.Ext.{sums, minuses}
use Rattle.extension.proofs.ExtLaws.{limbs_of_lem}
use Rattle.trial_parts.proofs.parts.ext_difference.Goals as goal

pub returns : goal.returns
unfolding sums minuses
returns c = limbs_of_lem c.sub_reduced.ensures c.sub_reduced-2.ensures c.sub_reduced-3.ensures
