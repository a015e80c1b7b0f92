use Rattle.scan_parts.proofs.SpellLaws.{overwritten}
use native.Mathlib.Omega.{arith}
use Prim.Native.Nat.{◌+◌, ◌-◌, ◌*◌}
use mathlib.Core.List.{[], ◌∷◌}
use mathlib.Core.Path.{◌≡◌}
use Rattle.scan_parts.proofs.spelling.put.Goals as goal

pub returns : goal.returns
returns c =
    let a = c.args in
    let e : 4 * a.k + 4 - 4 * a.k ≡ 4 = omega arith in
    rw (e, c.copy_from_slice.ensures.after) (overwritten (a.w.op ∷ a.w.a ∷ a.w.b ∷ a.res ∷ []) a.out.now (4 * a.k) c.requires)
