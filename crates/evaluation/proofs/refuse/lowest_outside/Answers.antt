use Rattle.values.specs.Frame.{node_outside}
use Rattle.laws.proofs.Folds.{lowest_start, lowest_on, lowest_at, lowest_stays}
use native.Mathlib.Omega.{arith}
use Prim.Native.Nat.{◌+◌}
use mathlib.Core.Path.{◌≡◌, sym}
use Rattle.evaluation.proofs.refuse.lowest_outside.Goals as goal

pub loop-i-init : goal.loop-i-init
loop-i-init c = lowest_start _

pub returns-then-leaf_outside : goal.returns-then-leaf_outside
returns-then-leaf_outside c =
    let a = c.args in
    let l = c.loop-i in
    sym (lowest_stays (node_outside a.m a.nodes.now) (l.i + 1) (omega arith) (lowest_at _ l.i l.invariant (rw c.leaf_outside.ensures at c.if-leaf_outside.true)))

pub loop-i-preserved : goal.loop-i-preserved
loop-i-preserved c = let l = c.loop-i in lowest_on _ l.i l.invariant (rw c.leaf_outside.ensures at c.if-leaf_outside.false)

pub returns : goal.returns
returns c = let l = c.loop-i in let e : l.i ≡ c.args.n = omega arith in sym (rw e at l.invariant)
