-- `write_stored` meets its contract.
-- Assumes nothing.
use Prim.Native.Nat.{◌*◌}
use lib.ListN.{length}
use Rattle.stored_parts.specs.Form.{spread, trailer_words}
use Rattle.stored.specs.Answer.{lent_tables}
use Rattle.stored.proofs.PartLaws.{tail_put}
use Rattle.stored.proofs.AnswerLaws.{roomy, write_short, write_crowded, write_done}
use mathlib.Core.Path.{sym, ◌∙◌}
use native.Mathlib.Omega.{arith}
use Rattle.stored.proofs.write.write_stored.Goals as goal

pub returns-then-short_tables : goal.returns-then-short_tables
returns-then-short_tables c = let a = c.args in write_short a.c (lent_tables a.tables.now) a.out.now c.short_tables.ensures c.if-short_tables.true

pub returns-then-no_room : goal.returns-then-no_room
returns-then-no_room c = let a = c.args in write_crowded a.c (lent_tables a.tables.now) a.out.now c.short_tables.ensures c.if-short_tables.false c.body_words-words.ensures c.no_room.ensures c.if-no_room.true

pub returns : goal.returns
returns c = let a = c.args in let q = roomy c.body_words-words.result (length a.out.now) (sym c.no_room.ensures ∙ c.if-no_room.false) in let trailer = tail_put c.write_body.new.out (4 * c.body_words-words.result) (spread 4 (trailer_words a.c)) (omega (arith, q.1, c.write_body.auto)) c.write_trailer.ensures in write_done a.c (lent_tables a.tables.now) a.out.now c.short_tables.ensures c.if-short_tables.false c.body_words-words.ensures c.no_room.ensures c.if-no_room.false c.write_body.ensures trailer
