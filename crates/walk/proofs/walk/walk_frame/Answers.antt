use Prim.Native.Nat.{◌≤◌}
use lib.ListN.{length}
use Rattle.blob_rules.proofs.MarkLaws.{cleared_long, filled_front}
use Rattle.walk.proofs.walk.walk_frame.Goals as goal

pub walk_row-requires : goal.walk_row-requires
walk_row-requires c =
    let p = c.requires in
    let long : c.slot_words-n.result ≤ length c.args.slots.now = rw c.slot_words-n.ensures p.slots_long in
    let e = filled_front _ _ _ long (c.fill.ensures.after (λ y q. q)) in
    record { nodes_legal = p.nodes_legal; lent_long = p.lent_long; roots_ready = p.roots_ready; slots_long = rw (e, cleared_long _ _ long) p.slots_long }

pub returns : goal.returns
returns c =
    let long : c.slot_words-n.result ≤ length c.args.slots.now = rw c.slot_words-n.ensures c.requires.slots_long in
    let e = filled_front _ _ _ long (c.fill.ensures.after (λ y q. q)) in
    record { done = rw (e, c.slot_words-n.ensures) at c.walk_row.ensures }
