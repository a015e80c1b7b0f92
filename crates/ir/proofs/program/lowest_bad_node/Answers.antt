use Rattle.laws.proofs.Folds.{lowest_start, lowest_on, lowest_at, lowest_stays}
use native.Mathlib.Omega.{arith}
use Prim.Native.Nat.{◌+◌}
use mathlib.Core.Path.{◌≡◌, sym}
use Rattle.ir.proofs.program.lowest_bad_node.Invariants.{bad}
use Rattle.ir.proofs.program.lowest_bad_node.Goals as goal

pub loop-i-init : goal.loop-i-init
loop-i-init c = lowest_start _

pub node_ok-requires : goal.node_ok-requires
node_ok-requires c = omega (arith, c.requires)

pub returns-then-not-node_ok : goal.returns-then-not-node_ok
returns-then-not-node_ok c =
    let a = c.args in
    let l = c.loop-i in
    sym (lowest_stays (bad a.c a.nodes.now) (l.i + 1) (omega arith) (lowest_at _ l.i l.invariant (rw c.node_ok.ensures at c.if-not-node_ok.true-raw)))

pub loop-i-preserved : goal.loop-i-preserved
loop-i-preserved c = let l = c.loop-i in lowest_on _ l.i l.invariant (rw c.node_ok.ensures at c.if-not-node_ok.false-raw)

pub returns : goal.returns
returns c = let l = c.loop-i in let e : l.i ≡ c.args.c.nodes = omega arith in sym (rw e at l.invariant)
