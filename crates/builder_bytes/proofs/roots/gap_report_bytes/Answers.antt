-- `gap_report_bytes` meets its contract.
-- Assumes nothing.
use Rattle.builder_bytes.proofs.PromiseLaws.{gaps_done}
use Rattle.byte_words.specs.Rooms.{lent}
use Rattle.builder_bytes.proofs.roots.gap_report_bytes.Goals as goal

pub returns : goal.returns
returns c = gaps_done c.args.builder.roots (lent c.args.roots.now c.args.tw.now) (lent c.args.out.now c.args.ow.now) c.short_rooms.ensures c.if-short_rooms.false c.unpack.ensures c.unpack-2.ensures c.gap_report-r.ensures c.gap_report-r.auto.out c.is_ok.ensures.value c.pack_front.ensures
