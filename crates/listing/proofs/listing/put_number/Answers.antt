use mathlib.Core.Path.{refl, ap}
use Prim.Native.Nat.{◌+◌}
use lib.ListN.{length}
use native.Mathlib.Omega.{arith}
use Rattle.std.proofs.lemmas.Fmt.{length-decimal-le}
use Rattle.std.specs.Fmt as Fmt
use Rattle.listing.proofs.ListLaws.{decimal_is, decimal_short, byte_put, number_put, digits_put, puts_as, puts_within}
use Rattle.listing.proofs.listing.put_number.Goals as goal

pub returns-then-n-lt10 : goal.returns-then-n-lt10
returns-then-n-lt10 c = puts_within (puts_as (byte_put c.args.out.now c.args.at (48 + c.args.n)) (decimal_short c.args.n c.if-n-lt10.true)) (omega arith)

pub overflow_add-end : goal.overflow_add-end
overflow_add-end c = omega (arith, ap length (decimal_is c.args.n (omega arith)), length-decimal-le 20 c.args.n (omega arith) (omega arith) (omega arith))

pub write_digits-requires : goal.write_digits-requires
write_digits-requires c = omega (arith, ap length (decimal_is c.args.n (omega arith)), length-decimal-le 20 c.args.n (omega arith) (omega arith) (omega arith))

pub returns : goal.returns
returns c =
    let n = c.args.n in
    let e = c.write_digits.ensures in
    let long = ap length (decimal_is n (omega arith)) in
    let short = length-decimal-le 20 n (omega arith) (omega arith) (omega arith) in
    number_put n (omega arith) refl (digits_put c.args.out.now c.args.at (c.args.at + c.digit_count.result) c.write_digits.result (Fmt.decimal n) (omega (arith, long)) (omega (arith, long, short)) e.start e.written e.before)
