-- `read_words` meets its contract.
-- Assumes nothing.
use Rattle.std.proofs.Common.{◌≡◌}
use Rattle.std.proofs.lemmas.List.Edits.{sets}
use Rattle.stored_parts.specs.Form.{words}
use Rattle.stored_parts.proofs.reading.read_words.Given as goal

abbrev pub invariant-loop-i : goal.invariant-loop-i
invariant-loop-i g l = let w = g.W.Word in w.numbers l.to ≡ sets (w.numbers l.initial.to) 0 (words w.BYTES l.i l.bytes)
