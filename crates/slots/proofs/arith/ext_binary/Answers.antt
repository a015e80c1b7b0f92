use Rattle.values.specs.Frame.{lent_in}
use Rattle.blob_rules.specs.Blob.{instr_of}
use Rattle.slots.proofs.ArithLaws.{ext_binary_gives, ext_either_gives}
use Rattle.blob_rules.specs.Blob.{times, tags}
use Rattle.laws.specs.Options.{at}
use mathlib.Core.Path.{ap}
use Rattle.slots.proofs.arith.ext_binary.Goals as goal

pub returns-then-w-eq-OP_MUL : goal.returns-then-w-eq-OP_MUL
returns-then-w-eq-OP_MUL c = let a = c.args in ext_binary_gives a.c a.s (lent_in a.inputs.now) a.slots.now (instr_of a.w) times (ap (at tags) c.if-w-eq-OP_MUL.true) c.load_ext-x.ensures c.load_ext-y.ensures c.mul.ensures

pub returns-else-w-eq-OP_MUL : goal.returns-else-w-eq-OP_MUL
returns-else-w-eq-OP_MUL c = let a = c.args in let p = c.requires in ext_either_gives a.c a.s (lent_in a.inputs.now) a.slots.now (instr_of a.w) p.0 p.1 c.if-w-eq-OP_MUL.false c.load_ext-x.ensures c.load_ext-y.ensures c.add.ensures c.sub.ensures c.either.ensures
