use Prim.Native.Nat.{◌<◌}
use native.Mathlib.Omega.{arith}
use mathlib.Core.Path.{refl}
use Rattle.slots.proofs.RootLaws.{roots_none, roots_more}
use Rattle.slots.proofs.evals.write_roots.Goals as goal

pub loop-i-init : goal.loop-i-init
loop-i-init c = (refl, roots_none _ _ _ _)

pub write_root-requires : goal.write_root-requires
write_root-requires c = let l = c.loop-i in let p = c.requires in let t : l.i < c.args.blob.now.counts.roots = omega (arith, l.invariant.0) in (p.0.legal l.i t, p.1, rw (l.invariant.1.bases_long, l.invariant.1.exts_long) (p.0.place l.i t))

pub loop-i-preserved : goal.loop-i-preserved
loop-i-preserved c = let l = c.loop-i in (l.invariant.0, roots_more _ _ _ _ l.i _ _ _ _ l.invariant.1 c.write_root.ensures)
