use Rattle.evaluation.specs.Evaluation.{ext_root}
use Rattle.laws.proofs.Folds.{lowest_start, lowest_on, lowest_at, lowest_stays}
use native.Mathlib.Omega.{arith}
use Prim.Native.Nat.{◌+◌}
use mathlib.Core.Path.{◌≡◌, sym}
use Rattle.evaluation.proofs.refuse.lowest_ext_root.Invariants.{wrong}
use Rattle.evaluation.proofs.refuse.lowest_ext_root.Goals as goal

pub loop-i-init : goal.loop-i-init
loop-i-init c = lowest_start _

pub offset_bounds-roots-i : goal.offset_bounds-roots-i
offset_bounds-roots-i c = omega (arith, c.requires.roots_long)

pub bounds-roots-i : goal.bounds-roots-i
bounds-roots-i c = omega (arith, c.requires.roots_long)

pub wrong_class-requires : goal.wrong_class-requires
wrong_class-requires c = let q = c.requires in let h = q.root_below c.loop-i.i (omega arith) in omega (arith, q.nodes_long, h)

pub returns-then-wrong_class : goal.returns-then-wrong_class
unfolding ext_root
returns-then-wrong_class c =
    let a = c.args in
    let l = c.loop-i in
    sym (lowest_stays (wrong a.c.num_base a.nodes.now a.roots.now) (l.i + 1) (omega arith) (lowest_at _ l.i l.invariant (rw c.wrong_class.ensures at c.if-wrong_class.true)))

pub loop-i-preserved : goal.loop-i-preserved
loop-i-preserved c = let l = c.loop-i in lowest_on _ l.i l.invariant (rw c.wrong_class.ensures at c.if-wrong_class.false)

pub returns : goal.returns
unfolding ext_root
returns c = let l = c.loop-i in let e : l.i ≡ c.args.c.roots = omega arith in sym (rw e at l.invariant)
