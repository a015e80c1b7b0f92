use Rattle.scan_parts.proofs.SpellLaws.{has_first, has_second}
use Rattle.scan.proofs.StepLaws.{give_ok_after, released_one, released_two}
use Rattle.scan.proofs.scan.release.Goals as goal

pub give_back-requires : goal.give_back-requires
give_back-requires c = let a = c.args in c.requires.1.operand _ (has_first a.nodes.now a.i c.if-op-lt-OP_ADD.false)

pub give_back-requires-then-op-lt-OP_NEG : goal.give_back-requires-then-op-lt-OP_NEG
give_back-requires-then-op-lt-OP_NEG c =
    let a = c.args in
    let e = c.give_back.ensures in
    rw e.nexts_value (give_ok_after a.i _ _ _ _ _ _ _ _ _ (c.requires.1.operand _ (has_second a.nodes.now a.i c.if-op-lt-OP_ADD.false c.if-op-lt-OP_NEG.true)) e.gives)

pub returns-then-op-lt-OP_NEG-clause-released : goal.returns-then-op-lt-OP_NEG-clause-released
returns-then-op-lt-OP_NEG-clause-released c =
    let a = c.args in
    let s = a.scan.now in
    let e = c.give_back.ensures in
    released_two a.i a.nodes.now _ _ s.slot_of.now s.free.now s.tops s.nexts c.if-op-lt-OP_ADD.false _ _ _ e.gives _ _ _ c.if-op-lt-OP_NEG.true (rw e.nexts_value at c.give_back-then-op-lt-OP_NEG.ensures.gives)

pub returns-else-op-lt-OP_NEG-clause-released : goal.returns-else-op-lt-OP_NEG-clause-released
returns-else-op-lt-OP_NEG-clause-released c =
    let a = c.args in
    let s = a.scan.now in
    released_one a.i a.nodes.now _ _ s.slot_of.now s.free.now s.tops s.nexts c.if-op-lt-OP_ADD.false _ _ _ c.give_back.ensures.gives c.if-op-lt-OP_NEG.false
