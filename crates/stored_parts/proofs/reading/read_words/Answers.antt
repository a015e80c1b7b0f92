use Rattle.std.proofs.Common.{◌∙◌, ◌≡◌, length, arith}
use Rattle.stored_parts.proofs.WordLaws.{number_set, numbers_long, words_set, words_read}
use Rattle.stored_parts.proofs.reading.read_words.Goals as goal

pub loop-i-preserved : goal.loop-i-preserved
loop-i-preserved g c =
    let w = g.W.Word in
    let l = c.loop-i in
    let read = rw c.BYTES.ensures at c.read_at.ensures in
    number_set w.number w.numbers g.met.W.Word.one_by_one l.to l.i c.read_at.result
    ∙ words_set w.BYTES c.args.bytes.now (w.numbers c.args.to.now) l.i (w.number c.read_at.result) read l.invariant

pub returns : goal.returns
returns g c =
    let w = g.W.Word in
    let to = c.args.to.now in
    let long : length (w.numbers to) ≡ length to = numbers_long w.number w.numbers g.met.W.Word.one_by_one to in
    let all : length (w.numbers to) ≡ c.loop-i.i = omega (arith, long) in
    rw long at (words_read w.BYTES c.args.bytes.now (w.numbers to) c.loop-i.i all c.loop-i.invariant)
