-- `read_constant_front` meets its contract.
-- Assumes nothing.
use Rattle.stored.proofs.FormLaws.{constants_put}
use Rattle.stored.proofs.read.read_constant_front.Goals as goal

pub returns : goal.returns
returns c = let a = c.args in constants_put 8 a.count a.room.now a.bytes.now c.requires.0 c.read_constants.ensures
