use Rattle.blob_rules.specs.Blob.{instr_of}
use Rattle.slots.proofs.ArithLaws.{base_negation_gives, is_neg}
use Rattle.slots.proofs.arith.base_arith.Goals as goal

pub returns-else-w-lt-OP_NEG : goal.returns-else-w-lt-OP_NEG
returns-else-w-lt-OP_NEG c = let a = c.args in let p = c.requires in base_negation_gives a.c a.bases.now a.slots.now (instr_of a.w) (is_neg c.if-w-lt-OP_NEG.false p.1) c.load_base.ensures c.neg.ensures
