use mathlib.Core.Path.{◌≡◌, refl}
use Prim.Native.Nat.{◌<◌}
use native.Mathlib.Omega.{arith}
use Rattle.walk.proofs.RowLaws.{walked_none, walked_more}
use Rattle.walk.proofs.row.walk_nodes.Goals as goal

pub loop-i-init : goal.loop-i-init
loop-i-init c = (refl, walked_none _ _ _ _ _ _)

pub at-w-requires : goal.at-w-requires
at-w-requires c = omega (arith, c.requires.0.nodes_long, c.loop-i.invariant.0)

pub step-requires : goal.step-requires
step-requires c = let l = c.loop-i in let p = c.requires in let t : l.i < c.args.blob.now.counts.nodes = omega (arith, l.invariant.0) in (rw c.at-w.ensures (record { filled = _; ok = p.0.node l.i t }), p.1, rw l.invariant.1.long p.2)

pub loop-i-preserved : goal.loop-i-preserved
loop-i-preserved c = let l = c.loop-i in (l.invariant.0, walked_more _ _ _ _ _ _ _ _ l.i (rw l.invariant.1.long c.requires.2) l.invariant.1 (rw c.at-w.ensures at c.step.ensures))

pub returns : goal.returns
returns c = let l = c.loop-i in let e : l.i ≡ c.args.blob.now.counts.nodes = omega (arith, l.invariant.0, l.auto.i-end, c.loop-i-test.false) in rw e at l.invariant.1
