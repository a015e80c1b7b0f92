use Rattle.walk.proofs.RowLaws.{leaf_node, operation_node}
use Rattle.blob_rules.specs.Blob.{instr_of}
use Rattle.values.specs.Frame.{lent_in}
use Rattle.walk.proofs.row.node_value.Goals as goal

pub returns-then-w-lt-OP_ADD : goal.returns-then-w-lt-OP_ADD
returns-then-w-lt-OP_ADD c = let a = c.args in leaf_node a.c a.s a.t.rows a.t.row (lent_in a.inputs.now) a.slots.now (instr_of a.w) c.leaf.ensures

pub returns-else-w-lt-OP_ADD : goal.returns-else-w-lt-OP_ADD
returns-else-w-lt-OP_ADD c = let a = c.args in operation_node a.c a.s a.t.rows a.t.row (lent_in a.inputs.now) a.slots.now (instr_of a.w) c.operation.ensures
