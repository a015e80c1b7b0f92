-- `read_stored` meets its contract.
-- Assumes nothing.
use Rattle.stored.specs.Answer.{rooms_of}
use Rattle.stored.proofs.AnswerLaws.{read_misframed, read_short, read_done}
use Rattle.stored.proofs.read.read_stored.Goals as goal

pub returns-then-bad_framing-clause-answer : goal.returns-then-bad_framing-clause-answer
returns-then-bad_framing-clause-answer c = let a = c.args in read_misframed a.file.now (rooms_of a.rooms.now) c.bad_framing.ensures c.if-bad_framing.true

pub returns-then-short_tables-clause-answer : goal.returns-then-short_tables-clause-answer
returns-then-short_tables-clause-answer c = let a = c.args in read_short a.file.now (rooms_of a.rooms.now) c.bad_framing.ensures c.if-bad_framing.false c.counts_in-c.ensures c.short_tables.ensures c.if-short_tables.true

pub returns-clause-answer : goal.returns-clause-answer
returns-clause-answer c = let a = c.args in read_done a.file.now (rooms_of a.rooms.now) c.bad_framing.ensures c.if-bad_framing.false c.counts_in-c.ensures c.short_tables.ensures c.if-short_tables.false c.read_tables.ensures.tables_read
