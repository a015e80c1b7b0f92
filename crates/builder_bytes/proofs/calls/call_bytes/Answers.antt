-- `call_bytes` meets its contract.
-- Assumes nothing.
use Rattle.builder_bytes.proofs.PromiseLaws.{gives_done}
use Rattle.byte_words.specs.Rooms.{lent}
use Rattle.builder_call.specs.CallData.{call_of}
use Rattle.node_table.specs.Hashing.{start_of}
use Rattle.builder_bytes.proofs.calls.call_bytes.Goals as goal

pub returns : goal.returns
returns c = gives_done (call_of start_of c.args.c) c.args.builder (lent c.args.nodes.now c.args.nw.now) (lent c.args.places.now c.args.pw.now) c.short_rooms.ensures c.if-short_rooms.false c.unpack.ensures c.unpack-2.ensures c.perform-r.ensures c.perform-r.auto.nodes c.perform-r.auto.places c.is_made-done.ensures c.pack_front.ensures c.pack_front-2.ensures
