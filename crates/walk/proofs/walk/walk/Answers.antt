use Rattle.std.proofs.lemmas.Result.{err_from_is_err_and}
use mathlib.Core.Path.{refl}
use Rattle.ir.proofs.RefusalLaws.{done_rows}
use Rattle.values.specs.Frame.{lent_in}
use Rattle.blob_rules.specs.Blob.{lent_blob}
use Rattle.walk.proofs.WalkLaws.{before, room_ok, row_ready, legal_done, walk_refused, walk_illegal, walk_done}
use Rattle.walk.proofs.walk.walk.Goals as goal

pub returns-in_err-memory_refusal : goal.returns-in_err-memory_refusal
returns-in_err-memory_refusal c =
    let a = c.args in
    let e = err_from_is_err_and c.from_residual.result c.from_residual.ensures.1 in
    rw (e.1, e.2) (walk_refused (lent_blob a.blob.now) a.s (lent_in a.inputs.now) a.base.now a.ext.now a.marks.now a.slots.now c.in_err-memory_refusal.was c.memory_refusal.ensures)

pub legal_refusal-requires : goal.legal_refusal-requires
legal_refusal-requires c =
    let a = c.args in
    let quiet = done_rows (before (lent_blob a.blob.now) a.s (lent_in a.inputs.now) a.base.now a.ext.now a.marks.now a.slots.now) refl c.in_ok-memory_refusal.was c.memory_refusal.ensures in
    let k = (room_ok (lent_blob a.blob.now) a.s (lent_in a.inputs.now) _ _ _ _ quiet).long.check_long in
    (k.nodes_long, k.roots_long, k.marks_long)

pub returns-in_err-legal_refusal : goal.returns-in_err-legal_refusal
returns-in_err-legal_refusal c =
    let a = c.args in
    let e = err_from_is_err_and c.from_residual-in_err-legal_refusal.result c.from_residual-in_err-legal_refusal.ensures.1 in
    let quiet = done_rows (before (lent_blob a.blob.now) a.s (lent_in a.inputs.now) a.base.now a.ext.now a.marks.now a.slots.now) refl c.in_ok-memory_refusal.was c.memory_refusal.ensures in
    rw (e.1, e.2) (walk_illegal (lent_blob a.blob.now) a.s (lent_in a.inputs.now) a.base.now a.ext.now a.marks.now a.slots.now quiet c.in_err-legal_refusal.was c.legal_refusal.ensures)

pub walk_frame-requires : goal.walk_frame-requires
walk_frame-requires c =
    let a = c.args in
    let quiet = done_rows (before (lent_blob a.blob.now) a.s (lent_in a.inputs.now) a.base.now a.ext.now a.marks.now a.slots.now) refl c.in_ok-memory_refusal.was c.memory_refusal.ensures in
    row_ready (lent_blob a.blob.now) a.s (lent_in a.inputs.now) _ _ _ _ (room_ok (lent_blob a.blob.now) a.s (lent_in a.inputs.now) _ _ _ _ quiet) (legal_done (lent_blob a.blob.now) a.s (lent_in a.inputs.now) a.base.now a.ext.now a.marks.now a.slots.now quiet c.in_ok-legal_refusal.was c.legal_refusal.ensures)

pub returns : goal.returns
returns c =
    let a = c.args in
    let quiet = done_rows (before (lent_blob a.blob.now) a.s (lent_in a.inputs.now) a.base.now a.ext.now a.marks.now a.slots.now) refl c.in_ok-memory_refusal.was c.memory_refusal.ensures in
    walk_done (lent_blob a.blob.now) a.s (lent_in a.inputs.now) a.base.now a.ext.now a.marks.now a.slots.now quiet c.in_ok-legal_refusal.was c.legal_refusal.ensures c.walk_frame.ensures
