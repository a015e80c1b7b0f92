-- `write_words` meets its contract.
-- Assumes nothing.
use Rattle.std.proofs.Common.{◌≡◌, take}
use Rattle.std.proofs.lemmas.List.Edits.{sets}
use Rattle.stored_parts.specs.Form.{spread}
use Rattle.stored_parts.proofs.writing.write_words.Given as goal

abbrev pub invariant-loop-i : goal.invariant-loop-i
invariant-loop-i g l = let w = g.W.Word in l.out ≡ sets l.initial.out 0 (spread w.BYTES (take l.i (w.numbers l.words)))
