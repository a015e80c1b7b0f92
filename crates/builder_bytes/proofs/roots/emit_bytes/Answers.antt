-- `emit_bytes` meets its contract.
-- Assumes nothing.
use Rattle.builder_bytes.proofs.PromiseLaws.{emit_done}
use Rattle.byte_words.specs.Rooms.{lent}
use Rattle.builder.specs.Roots.{emit_of}
use Rattle.builder_bytes.proofs.roots.emit_bytes.Goals as goal

pub returns : goal.returns
returns c = emit_done (λ ns ts. emit_of ns c.args.builder.nodes ts c.args.builder.roots c.args.c c.args.e) c.args.builder (lent c.args.nodes.now c.args.nw.now) (lent c.args.roots.now c.args.tw.now) c.short_rooms.ensures c.if-short_rooms.false c.unpack.ensures c.unpack-2.ensures c.emit-r.ensures c.emit-r.auto.roots c.is_rooted-done.ensures c.pack_front.ensures
