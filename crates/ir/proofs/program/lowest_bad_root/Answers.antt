use Rattle.laws.proofs.Folds.{lowest_start, lowest_on, lowest_at, lowest_stays}
use borrow.Author.Tests.{le-leb, lt-leb}
use native.Mathlib.Omega.{arith}
use Prim.Native.Nat.{◌+◌}
use mathlib.Core.Path.{◌≡◌, sym}
use Rattle.ir.proofs.program.lowest_bad_root.Invariants.{bad}
use Rattle.ir.proofs.program.lowest_bad_root.Goals as goal

pub loop-i-init : goal.loop-i-init
loop-i-init c = lowest_start _

pub returns-then-c-roots : goal.returns-then-c-roots
returns-then-c-roots c =
    let l = c.loop-i in
    sym (lowest_stays (bad c.args.c.nodes c.args.roots.now) (l.i + 1) (omega arith) (lowest_at _ l.i l.invariant (le-leb _ _ c.if-c-roots.true)))

pub loop-i-preserved : goal.loop-i-preserved
loop-i-preserved c = let l = c.loop-i in lowest_on _ l.i l.invariant (lt-leb _ _ c.if-c-roots.false)

pub returns : goal.returns
returns c = let l = c.loop-i in let e : l.i ≡ c.args.c.roots = omega arith in sym (rw e at l.invariant)
