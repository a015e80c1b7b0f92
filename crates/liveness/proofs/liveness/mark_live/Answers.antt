use Rattle.liveness.proofs.MarkLaws.{readers_none, rooted_none, alive}
use Rattle.liveness.proofs.liveness.mark_live.Goals as goal

pub mark_readers-requires : goal.mark_readers-requires
mark_readers-requires c = let g = c.requires in (g.nodes_ok, g.few, readers_none _ _ _ _ _ _ g)

pub mark_roots-requires : goal.mark_roots-requires
mark_roots-requires c = let g = c.requires in (g.roots_ok, rw c.mark_readers.ensures.readers.1 (rooted_none _ _ _ _ _ _ g))

pub returns-clause-alive : goal.returns-clause-alive
returns-clause-alive c =
    let r = c.mark_readers.ensures.readers in
    let m = c.mark_roots.ensures.rooted in
    let e = c.mark_emitted.ensures.emitted in
    rw (e.2, e.1, m.2) (alive _ _ _ _ _ _ c.requires _ _ _ _ _ r.0 m.0 (rw m.1 at e.0))
