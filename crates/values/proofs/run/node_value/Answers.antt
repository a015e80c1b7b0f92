-- `node_value` meets its contract.
-- Assumes nothing.
use Rattle.values.proofs.OperationLaws.{leaf_computes, operation_computes}
use Rattle.values.proofs.run.node_value.Goals as goal

pub returns-then-tag-lt-OP_ADD : goal.returns-then-tag-lt-OP_ADD
returns-then-tag-lt-OP_ADD c = leaf_computes c.if-tag-lt-OP_ADD.true c.leaf.ensures

pub returns-else-tag-lt-OP_ADD : goal.returns-else-tag-lt-OP_ADD
returns-else-tag-lt-OP_ADD c = operation_computes c.if-tag-lt-OP_ADD.false c.operation.ensures
