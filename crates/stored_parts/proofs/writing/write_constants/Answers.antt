use Rattle.std.proofs.Common.{arith}
use Rattle.field.proofs.Laws.{least_exact}
use Rattle.stored_parts.proofs.WordLaws.{constants_set}
use Rattle.stored_parts.proofs.writing.write_constants.Goals as goal

pub loop-i-preserved : goal.loop-i-preserved
loop-i-preserved c =
    let l = c.loop-i in
    constants_set c.args.out.now c.args.words.now l.i c.reduce.result (omega arith) (least_exact c.reduce.ensures) l.invariant c.write_at.ensures
