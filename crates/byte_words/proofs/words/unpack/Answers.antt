-- `unpack` meets its contract.
-- Assumes nothing.
use Rattle.std.proofs.Common.{ℕ, ◌/◌, ◌≤◌, ◌∙◌, ap, length, arith}
use lib.Seq.{length-take-le}
use Rattle.stored_parts.specs.Form.{words}
use Rattle.stored_parts.proofs.WordLaws.{numbers_long, numbers_put, words_long}
use Rattle.stored.proofs.PartLaws.{front_put}
use Rattle.byte_words.proofs.words.unpack.Goals as goal

pub returns : goal.returns
returns g c =
    let w = g.W.Word in
    let each = g.met.W.Word.one_by_one in
    let bytes = c.args.bytes.now in
    let to = c.args.to.now in
    let k = length bytes / w.BYTES in
    let roomy : k ≤ length (w.numbers to) = omega (arith, numbers_long w.number w.numbers each to) in
    let read = rw c.BYTES.ensures at c.read_words.ensures in
    rw c.BYTES.ensures (numbers_put w.number w.numbers each c.read_words.new.to to k)
    ∙ front_put (w.numbers to) k (words w.BYTES k bytes) (words_long w.BYTES k bytes) roomy (read ∙ ap (λ (m : ℕ). words w.BYTES m bytes) (length-take-le k to c.requires))
