use Rattle.values.specs.Frame.{lent_in}
use Rattle.blob_rules.specs.Blob.{instr_of}
use Rattle.slots.proofs.ArithLaws.{ext_negation_gives, ext_embedding_gives, is_embed}
use Rattle.slots.proofs.arith.ext_arith.Goals as goal

pub returns-then-w-eq-OP_NEG : goal.returns-then-w-eq-OP_NEG
returns-then-w-eq-OP_NEG c = let a = c.args in let p = c.requires in ext_negation_gives a.c a.s (lent_in a.inputs.now) a.slots.now (instr_of a.w) c.if-w-eq-OP_NEG.true c.load_ext-x.ensures c.neg.ensures

pub returns-else-w-eq-OP_NEG : goal.returns-else-w-eq-OP_NEG
returns-else-w-eq-OP_NEG c = let a = c.args in let p = c.requires in ext_embedding_gives a.c a.s (lent_in a.inputs.now) a.slots.now (instr_of a.w) (is_embed c.if-w-lt-OP_NEG.false p.1 c.if-w-eq-OP_NEG.false) c.load_ext-x.ensures c.reduce.ensures
