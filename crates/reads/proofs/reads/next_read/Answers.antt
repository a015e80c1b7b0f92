-- `next_read` meets its contract: each return has the tests that led there.
-- Assumes nothing.
use borrow.Author.Tests.{ne_eqb}
use Rattle.reads.specs.Reads.{reads_next, column_at}
use Rattle.reads.proofs.reads.next_read.Goals as goal

pub returns-then-nodes-at-ne-OP_VAR : goal.returns-then-nodes-at-ne-OP_VAR
unfolding reads_next
returns-then-nodes-at-ne-OP_VAR c = rw (ne_eqb _ _ c.if-nodes-at-ne-OP_VAR.true)

pub returns-then-is_later : goal.returns-then-is_later
unfolding reads_next column_at
returns-then-is_later c =
    let later = rw c.unpack_var-v.ensures at c.is_later.ensures in
    let column = rw c.unpack_var-v.ensures at c.column_in.ensures in
    rw (c.if-nodes-at-ne-OP_VAR.false, ← later, c.if-is_later.true, column)

pub returns-else-is_later : goal.returns-else-is_later
unfolding reads_next
returns-else-is_later c = let later = rw c.unpack_var-v.ensures at c.is_later.ensures in rw (c.if-nodes-at-ne-OP_VAR.false, ← later, c.if-is_later.false)
