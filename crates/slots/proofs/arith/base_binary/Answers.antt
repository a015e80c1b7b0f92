use Rattle.blob_rules.specs.Blob.{instr_of}
use Rattle.slots.proofs.ArithLaws.{base_chosen_gives}
use Rattle.slots.proofs.arith.base_binary.Goals as goal

pub returns : goal.returns
returns c = let a = c.args in let p = c.requires in base_chosen_gives a.c a.bases.now a.slots.now (instr_of a.w) p.0 p.1 c.load_base-x.ensures c.load_base-y.ensures c.add.ensures c.sub.ensures c.mul.ensures c.chosen.ensures
