use mathlib.Core.Path.{refl}
use native.Mathlib.Omega.{arith}
use borrow.Author.Rules.{rules}
use Rattle.blob_rules.proofs.MarkLaws.{checking_start, checking_more, checking_stops, checking_ends, node_slot_in}
use Rattle.device.proofs.check.lowest_bad_node.Goals as goal

pub loop-i-init : goal.loop-i-init
loop-i-init c = (refl, checking_start _ _ _ _ c.requires.2)

pub node_ok-requires : goal.node_ok-requires
node_ok-requires c = let l = c.loop-i in let p = c.requires in (omega (arith, p.0, l.invariant.0), rw l.invariant.1.long p.1)

pub returns-then-not-node_ok : goal.returns-then-not-node_ok
returns-then-not-node_ok c = let l = c.loop-i in let a = c.args in checking_stops a.c a.s a.nodes.now a.marks.now l.marks l.i l.invariant.1 (omega (arith, l.invariant.0)) c.node_ok.ensures c.if-not-node_ok.true-raw

pub bounds-nodes-i : goal.bounds-nodes-i
bounds-nodes-i c = let l = c.loop-i in let p = c.requires in omega (arith, p.0, l.invariant.0)

pub set_mark-requires : goal.set_mark-requires
set_mark-requires c = let l = c.loop-i in let a = c.args in let p = c.requires in (node_slot_in a.c a.s a.nodes.now a.marks.now l.marks l.i l.invariant.1 c.node_ok.ensures c.if-not-node_ok.false-raw, rw l.invariant.1.long p.1)

pub loop-i-preserved : goal.loop-i-preserved
loop-i-preserved c = let l = c.loop-i in let a = c.args in let p = c.requires in (search rules, checking_more a.c a.s a.nodes.now a.marks.now l.marks l.i l.invariant.1 p.1 c.node_ok.ensures c.if-not-node_ok.false-raw c.set_mark.ensures)

pub returns : goal.returns
returns c = let l = c.loop-i in let a = c.args in checking_ends a.c a.s a.nodes.now a.marks.now l.marks l.i l.invariant.1 (omega (arith, l.invariant.0))
