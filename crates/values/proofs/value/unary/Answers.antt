-- `unary` meets its contract.
-- Assumes nothing.
use Rattle.values.proofs.OperationLaws.{embedding, negation_base, negation_ext}
use Rattle.values.proofs.value.unary.Goals as goal

pub returns-then-tag-ne-OP_NEG : goal.returns-then-tag-ne-OP_NEG
returns-then-tag-ne-OP_NEG c = rw c.of_ext.ensures (embedding _ _ _ _ c.requires.0 c.requires.1 c.if-tag-ne-OP_NEG.true c.load.ensures c.reduce.ensures)

pub returns-then-room-at-eq-BASE : goal.returns-then-room-at-eq-BASE
returns-then-room-at-eq-BASE c = rw c.of_base.ensures (negation_base _ _ _ _ c.if-tag-ne-OP_NEG.false c.if-room-at-eq-BASE.true c.neg.ensures)

pub returns : goal.returns
returns c = rw c.of_ext-2.ensures (negation_ext _ _ _ _ c.if-tag-ne-OP_NEG.false c.if-room-at-eq-BASE.false c.load-2.ensures c.neg-2.ensures)
