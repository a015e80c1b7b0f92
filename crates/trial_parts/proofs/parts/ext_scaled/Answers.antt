-- `ext_scaled` meets its contract, limb by limb.
-- Assumes nothing.
use Rattle.extension.specs.Ext.{scaled}
use Rattle.extension.proofs.ExtLaws.{limbs_of_lem}
use Rattle.trial_parts.proofs.parts.ext_scaled.Goals as goal

pub returns : goal.returns
unfolding scaled
returns c = limbs_of_lem c.mul.ensures c.mul-2.ensures c.mul-3.ensures
