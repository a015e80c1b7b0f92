-- `write_body` meets its contract.
-- Assumes nothing.
use Rattle.stored.specs.Answer.{lent_tables}
use Rattle.stored.proofs.FormLaws.{body_put}
use Rattle.stored.proofs.write.write_body.Goals as goal

pub returns : goal.returns
returns c = let a = c.args in body_put a.c (lent_tables a.tables.now) c.requires.0 a.out.now c.requires.1 c.write_words.ensures c.write_constants.ensures c.write_constants-2.ensures c.write_words-2.ensures
