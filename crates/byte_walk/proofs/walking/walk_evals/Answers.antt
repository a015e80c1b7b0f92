use Rattle.byte_walk.proofs.WalkLaws.{walked_in}
use Rattle.byte_walk.proofs.walking.walk_evals.Goals as goal

pub returns : goal.returns
returns c = let a = c.args in walked_in (record { base = a.base.now; ext = a.ext.now }) (record { base = a.bw.now; ext = a.xw.now }) c.requires c.unpack.ensures c.unpack-2.ensures c.walk_words.ensures c.walk_words.auto.bw c.walk_words.auto.xw
