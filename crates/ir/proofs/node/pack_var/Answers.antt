-- `pack_var` meets its contract.
-- Assumes nothing.
use Rattle.ir.specs.Words.{bit}
use mir.Val.{bool_byte}
use lib.Dec.{lit≤}
use native.Mathlib.Omega.{arith}
use Prim.Native.Nat.{◌≤◌}
use mathlib.Core.Path.{◌≡◌, refl}
use mathlib.Core.Bool.{Bool, true, false}
use Rattle.ir.proofs.node.pack_var.Goals as goal

mark-small : (b : Bool) → bool_byte b ≤ 1
mark-small true = lit≤ tt
mark-small false = lit≤ tt

mark-bit : (b : Bool) → bool_byte b ≡ bit b
mark-bit true = refl
mark-bit false = refl

pub overflow_mul-result : goal.overflow_mul-result
overflow_mul-result c = omega (arith, mark-small c.args.v.main)

pub overflow_add-result : goal.overflow_add-result
overflow_add-result c = omega (arith, mark-small c.args.v.main)

pub overflow_add-result-2 : goal.overflow_add-result-2
overflow_add-result-2 c = omega (arith, mark-small c.args.v.main)

pub returns : goal.returns
returns c = rw (mark-bit c.args.v.main)
