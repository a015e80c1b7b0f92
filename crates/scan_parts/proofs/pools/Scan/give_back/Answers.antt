use Rattle.scan_parts.proofs.PoolLaws.{gone, top_room, gives_one}
use Rattle.scan_parts.proofs.pools.Scan.give_back.Goals as goal

pub push-requires : goal.push-requires
push-requires c = let g = c.requires in record { known = g.class.dim; pair = g.pairs.0; room = top_room c.args.i _ _ _ _ _ _ _ _ g c.if-slot-ne0.true }

pub returns-then-marks-at-clause-gives : goal.returns-then-marks-at-clause-gives
returns-then-marks-at-clause-gives c =
    let g = c.requires in
    let n = c.if-slot-ne0.true in
    let e = c.push.ensures in
    rw (e.free_after, e.tops_value, e.rest.1) (gives_one _ _ _ _ _ _ _ _ _ g n (gone _ _ _ _ _ _ _ _ _ g n c.if-marks-at-eq0.true c.if-marks-at.true))
