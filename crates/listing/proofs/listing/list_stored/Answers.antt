use Rattle.listing.proofs.ListLaws.{puts_end, list_long, list_misframed, list_framed}
use Rattle.std.proofs.Common.{rules}
use Rattle.listing.proofs.listing.list_stored.Goals as goal

pub returns-then-file-gt-LONGEST_FILE : goal.returns-then-file-gt-LONGEST_FILE
returns-then-file-gt-LONGEST_FILE c = puts_end (list_long c.args.file.now c.if-file-gt-LONGEST_FILE.true c.put_refused.ensures.puts) (search rules)

pub returns-then-bad_framing : goal.returns-then-bad_framing
returns-then-bad_framing c = puts_end (list_misframed c.args.file.now c.if-file-gt-LONGEST_FILE.false c.bad_framing.ensures c.if-bad_framing.true c.put_refused-then-bad_framing.ensures.puts) (search rules)

pub returns : goal.returns
returns c = puts_end (list_framed c.args.file.now c.if-file-gt-LONGEST_FILE.false c.bad_framing.ensures c.if-bad_framing.false c.counts_in.ensures c.put_blob.ensures.puts) (search rules)
