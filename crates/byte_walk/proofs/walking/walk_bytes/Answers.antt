use mathlib.Core.Path.{sym, ◌∙◌}
use Rattle.byte_walk.specs.Walking.{Frame, Memory, frame_in}
use Rattle.byte_walk.proofs.WalkLaws.{bytes_done}
use Rattle.byte_walk.proofs.walking.walk_bytes.Goals as goal

pub returns : goal.returns
returns c =
    let a = c.args in
    let rooms : Frame = record { main = a.mw.now; aux = a.aw.now; challenges = a.cw.now; alphas = a.pw.now } in
    let m : Memory = record { evals = record { base = a.base.now; ext = a.ext.now }; frame_rooms = rooms; eval_rooms = record { base = a.bw.now; ext = a.xw.now }; marks = a.marks.now; slots = a.slots.now } in
    bytes_done a.s (frame_in a.frame.now) m (sym c.over_shape.ensures ∙ c.if-over_shape.false) (rw (sym c.short_frame_rooms.ensures ∙ c.if-short_frame_rooms.false, sym c.short_eval_rooms.ensures ∙ c.if-short_eval_rooms.false)) c.unpack_frame.ensures c.walk_evals.ensures
