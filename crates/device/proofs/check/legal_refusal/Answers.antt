use Rattle.blob_rules.specs.Blob.{lent_blob}
use Rattle.device.proofs.CallLaws.{legal_checked}
use Rattle.blob_rules.proofs.MarkLaws.{alike_cleared, cleared_long, filled_front}
use Rattle.blob_rules.specs.Check.{slot_count}
use Rattle.device.proofs.check.legal_refusal.Goals as goal

pub search-found-requires : goal.search-found-requires
search-found-requires c = let a = c.args in let p = c.requires in let e = filled_front (slot_count a.blob.now.counts) a.marks.now _ p.2 (c.fill.ensures.after (λ y q. q)) in (p.0, p.1, rw (e, cleared_long _ _ p.2) p.2, rw e (alike_cleared a.blob.now.counts a.marks.now a.blob.now.nodes.now))

pub returns : goal.returns
returns c =
    let a = c.args in
    let p = c.requires in
    let e = filled_front (slot_count a.blob.now.counts) a.marks.now _ p.2 (c.fill.ensures.after (λ y q. q)) in
    let f = c.search-found.ensures in
    legal_checked (lent_blob a.blob.now) a.s a.marks.now _ _ _ e f
    (filled_front (slot_count a.blob.now.counts) c.search-found.new.marks _ (rw (f.long, e, cleared_long _ _ p.2) p.2) (c.fill-2.ensures.after (λ y q. q)))
