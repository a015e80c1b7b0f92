-- `on_words` meets its contract.
-- Assumes nothing.
use mathlib.Core.Path.{refl}
use Rattle.byte_words.specs.Rooms.{lent}
use Rattle.builder_bytes.proofs.PromiseLaws.{ran_on_words}
use Rattle.builder_bytes.proofs.constants.on_words.Goals as goal

pub returns : goal.returns
returns g c =
    let a = c.args in
    ran_on_words _ (lent a.nodes.now a.nw.now) (lent a.places.now a.pw.now) (lent a.consts.now a.cw.now) c.short_rooms.ensures c.if-short_rooms.false c.is_tight.ensures c.if-is_tight.false
    c.unpack.ensures c.unpack-2.ensures c.unpack-3.ensures c.call-r.ensures refl refl refl refl refl refl c.call-r.auto.arg2 c.call-r.auto.arg3 c.call-r.auto.arg4
    c.is_made-done.ensures c.pack_front.ensures c.pack_front-2.ensures c.pack_front-3.ensures
