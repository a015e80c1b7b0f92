use Rattle.node_table.specs.Words.{words_of}
use Rattle.node_table.proofs.Seeks.{no_places, seeking_start, seeking_more, seeking_here, seeking_end}
use Rattle.node_table.proofs.table.find.Goals as goal

pub returns-then-k-eq0 : goal.returns-then-k-eq0
returns-then-k-eq0 c =
    let a = c.args in
    no_places a.nodes.now a.count a.places.now (words_of a.w) c.if-k-eq0.true

pub loop-left-init : goal.loop-left-init
loop-left-init c = seeking_start _ _ _ _ _ c.if-k-eq0.false c.hash.ensures

pub loop-left-preserved : goal.loop-left-preserved
loop-left-preserved c = seeking_more _ _ _ _ _ _ c.loop-left.invariant _ _ c.if-left-eq0.false c.stops.ensures c.if-stops.false c.next-at.ensures

pub returns-then-left-eq0 : goal.returns-then-left-eq0
returns-then-left-eq0 c = seeking_end _ _ _ _ _ _ c.loop-left.invariant c.if-left-eq0.true

pub returns-then-stops : goal.returns-then-stops
returns-then-stops c = seeking_here _ _ _ _ _ _ c.loop-left.invariant _ c.if-left-eq0.false c.stops.ensures c.if-stops.true
