-- `put_base` meets its contract.
-- Assumes nothing.
use Rattle.trial_parts.proofs.StepLaws.{base_put}
use Rattle.trial_parts.proofs.parts.put_base.Goals as goal

pub returns : goal.returns
returns c = base_put c.args.room.now c.args.i c.args.v c.requires
