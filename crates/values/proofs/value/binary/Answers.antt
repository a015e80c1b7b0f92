-- `binary` meets its contract.
-- Assumes nothing.
use Rattle.values.proofs.OperationLaws.{binary_base, binary_ext}
use Rattle.values.proofs.value.binary.Goals as goal
use Rattle.values.proofs.value.binary.Goals.{else-room-at-eq-BASE-via-then-room-at-eq-BASE+else-room-to-eq-BASE, else-room-at-eq-BASE-via-else-room-at-eq-BASE}

pub returns-then-room-to-eq-BASE : goal.returns-then-room-to-eq-BASE
returns-then-room-to-eq-BASE c = rw c.of_base.ensures (binary_base _ _ _ _ c.requires.0 c.requires.1 c.if-room-at-eq-BASE.true c.if-room-to-eq-BASE.true c.base_operation-r.ensures)

pub returns : goal.returns
returns c =
    rw c.of_ext.ensures
    (binary_ext _ _ _ _ c.requires.0 c.requires.1
    (λ u v. elim c.else-room-at-eq-BASE.branch [
      | else-room-at-eq-BASE-via-then-room-at-eq-BASE+else-room-to-eq-BASE w ↦ w.if-room-to-eq-BASE.false v
      | else-room-at-eq-BASE-via-else-room-at-eq-BASE w ↦ w.if-room-at-eq-BASE.false u
    ])
    c.load-a.ensures c.load-b.ensures c.ext_operation.ensures)
