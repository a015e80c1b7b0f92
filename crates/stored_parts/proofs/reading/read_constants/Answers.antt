use Rattle.std.proofs.Common.{ℕ, ◌%◌, ◌∙◌, ap, arith}
use Rattle.field.proofs.Laws.{least_exact}
use Rattle.field.specs.Base.{p}
use Rattle.stored_parts.proofs.WordLaws.{constants_more, constants_read}
use Rattle.stored_parts.proofs.reading.read_constants.Goals as goal

pub loop-i-preserved : goal.loop-i-preserved
loop-i-preserved c =
    let l = c.loop-i in
    let least = least_exact c.reduce.ensures ∙ ap (λ (x : ℕ). x % p) c.read_at.ensures in
    constants_more 8 c.args.bytes.now c.args.to.now l.i c.reduce.result least l.invariant

pub returns : goal.returns
returns c = constants_read 8 c.args.bytes.now c.args.to.now c.loop-i.i (omega arith) c.loop-i.invariant
