-- `read_front` meets its contract.
-- Assumes nothing.
use Rattle.stored.proofs.FormLaws.{words_put}
use Rattle.stored.proofs.read.read_front.Goals as goal

pub returns : goal.returns
returns c = let a = c.args in words_put 4 a.count a.room.now a.bytes.now c.requires.0 c.read_words.ensures
