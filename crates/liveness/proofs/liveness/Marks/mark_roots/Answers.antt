use Rattle.liveness.proofs.MarkLaws.{rooted_more}
use Rattle.std.proofs.lemmas.List.{get_or-take, length-take-le}
use Prim.Native.Nat.{◌<◌}
use native.Mathlib.Omega.{arith}
use mathlib.Core.Path.{refl}
use Rattle.liveness.proofs.liveness.Marks.mark_roots.Goals as goal

pub loop-j-preserved : goal.loop-j-preserved
loop-j-preserved c =
    let l = c.loop-j in
    let k = l.j-index in
    let b : k < c.args.count = omega (arith, c.loop-j-test.true, length-take-le c.args.count c.args.roots.now c.requires.0.roots_long) in
    record {
      rooted = rooted_more c.args.roots.now k _ _ _ (c.requires.0.below k b) (rw (get_or-take c.args.count c.args.roots.now k 0 b) refl) l.invariant.rooted;
      used = l.invariant.used;
      last = l.invariant.last;
      same = l.invariant.same;
    }
