use Rattle.std.proofs.Common.{◌<◌, length, arith}
use Rattle.stored_parts.proofs.WordLaws.{number_at, numbers_long, spread_set}
use Rattle.stored_parts.proofs.writing.write_words.Goals as goal

pub loop-i-preserved : goal.loop-i-preserved
loop-i-preserved g c =
    let w = g.W.Word in
    let i = c.loop-i.i in
    let words = c.args.words.now in
    let each = g.met.W.Word.one_by_one in
    let inside : i < length words = omega arith in
    let same = number_at w.number w.numbers each words i inside c.index-words-i.is in
    let longer : i < length (w.numbers words) = rw (numbers_long w.number w.numbers each words) inside in
    spread_set w.BYTES c.args.out.now (w.numbers words) i longer c.loop-i.invariant (rw (c.BYTES.ensures, same) at c.write_at.ensures)
