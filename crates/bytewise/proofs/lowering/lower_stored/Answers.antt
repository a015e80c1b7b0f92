-- `lower_stored` meets its contract.
-- Assumes nothing.
use Rattle.stored.specs.Answer.{rooms_of}
use Rattle.byte_words.proofs.WordLaws.{front_long}
use Rattle.bytewise.specs.Lowering.{bytes_of}
use Rattle.bytewise.proofs.AnswerLaws.{unpacked_fit, lower_done, told}
use borrow.Author.Rules.{rules}
use Rattle.bytewise.proofs.lowering.lower_stored.Goals as goal

pub slice_bounds-program-end : goal.slice_bounds-program-end
slice_bounds-program-end c = front_long _ _ (unpacked_fit c.args.c (bytes_of c.args.tables.now) (rooms_of c.args.rooms.now) c.refused_early.ensures c.if-refused_early.false c.unpack_tables.ensures.unpacked).nodes_fit

pub slice_bounds-program-end-2 : goal.slice_bounds-program-end-2
slice_bounds-program-end-2 c = front_long _ _ (unpacked_fit c.args.c (bytes_of c.args.tables.now) (rooms_of c.args.rooms.now) c.refused_early.ensures c.if-refused_early.false c.unpack_tables.ensures.unpacked).bases_fit

pub slice_bounds-program-end-3 : goal.slice_bounds-program-end-3
slice_bounds-program-end-3 c = front_long _ _ (unpacked_fit c.args.c (bytes_of c.args.tables.now) (rooms_of c.args.rooms.now) c.refused_early.ensures c.if-refused_early.false c.unpack_tables.ensures.unpacked).exts_fit

pub slice_bounds-program-end-4 : goal.slice_bounds-program-end-4
slice_bounds-program-end-4 c = front_long _ _ (unpacked_fit c.args.c (bytes_of c.args.tables.now) (rooms_of c.args.rooms.now) c.refused_early.ensures c.if-refused_early.false c.unpack_tables.ensures.unpacked).roots_fit

pub returns-clause-answer : goal.returns-clause-answer
returns-clause-answer c =
    let a = c.args in
    told (rooms_of c.unpack_tables.new.rooms) _ _ _ _ (search rules) (search rules) (search rules) (search rules)
    (lower_done a.c (bytes_of a.tables.now) (rooms_of a.rooms.now) c.refused_early.ensures c.if-refused_early.false c.unpack_tables.ensures.unpacked c.lower_file.ensures.answer)
