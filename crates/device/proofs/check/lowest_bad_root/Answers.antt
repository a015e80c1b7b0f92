use Prim.Native.Nat.{◌+◌}
use mathlib.Core.Path.{◌≡◌, refl, sym}
use native.Mathlib.Omega.{arith}
use Rattle.laws.proofs.Folds.{lowest_start, lowest_on, lowest_at, lowest_stays}
use borrow.Author.Rules.{rules}
use Rattle.device.proofs.check.lowest_bad_root.Invariants.{bad}
use Rattle.device.proofs.check.lowest_bad_root.Goals as goal

pub loop-i-init : goal.loop-i-init
loop-i-init c = (refl, lowest_start _)

pub bounds-roots-i : goal.bounds-roots-i
bounds-roots-i c = omega (arith, c.requires.0, c.loop-i.invariant.0)

pub root_ok-requires : goal.root_ok-requires
root_ok-requires c = c.requires.1

pub returns-then-not-root_ok : goal.returns-then-not-root_ok
returns-then-not-root_ok c = let l = c.loop-i in let a = c.args in sym (lowest_stays (bad a.c a.roots.now a.marks.now) (l.i + 1) (omega (arith, l.invariant.0)) (lowest_at _ l.i l.invariant.1 (rw c.root_ok.ensures at c.if-not-root_ok.true-raw)))

pub loop-i-preserved : goal.loop-i-preserved
loop-i-preserved c = let l = c.loop-i in (search rules, lowest_on _ l.i l.invariant.1 (rw c.root_ok.ensures at c.if-not-root_ok.false-raw))

pub returns : goal.returns
returns c = let l = c.loop-i in let e : l.i ≡ c.args.c.roots = omega (arith, l.invariant.0) in sym (rw e at l.invariant.1)
