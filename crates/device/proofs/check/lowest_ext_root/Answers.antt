use Prim.Native.Nat.{◌+◌}
use mathlib.Core.Path.{◌≡◌, sym}
use native.Mathlib.Omega.{arith}
use Rattle.laws.proofs.Folds.{lowest_start, lowest_on, lowest_at, lowest_stays}
use Rattle.blob_rules.specs.Check.{ext_root}
use Rattle.device.proofs.check.lowest_ext_root.Invariants.{bad}
use Rattle.device.proofs.check.lowest_ext_root.Goals as goal

pub loop-i-init : goal.loop-i-init
loop-i-init c = lowest_start _

pub bounds-roots-i : goal.bounds-roots-i
bounds-roots-i c = omega (arith, c.requires)

pub returns-then-i-leading : goal.returns-then-i-leading
unfolding ext_root
returns-then-i-leading c = let l = c.loop-i in let a = c.args in sym (lowest_stays (bad a.c.num_base a.roots.now) (l.i + 1) (omega arith) (lowest_at _ l.i l.invariant (rw c.is_ext.ensures at c.if-i-leading.true)))

pub loop-i-preserved : goal.loop-i-preserved
loop-i-preserved c = let l = c.loop-i in lowest_on _ l.i l.invariant (rw c.is_ext.ensures at c.if-i-leading.false)

pub returns : goal.returns
unfolding ext_root
returns c = let l = c.loop-i in let e : l.i ≡ c.args.c.roots = omega arith in sym (rw e at l.invariant)
