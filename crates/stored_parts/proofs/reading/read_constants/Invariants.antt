-- `read_constants` meets its contract.
-- Assumes nothing.
use Rattle.std.proofs.Common.{◌≡◌}
use Rattle.std.proofs.lemmas.List.Edits.{sets}
use Rattle.stored_parts.specs.Form.{words, below_p}
use Rattle.stored_parts.proofs.reading.read_constants.Given as goal

abbrev pub invariant-loop-i : goal.invariant-loop-i
invariant-loop-i l = l.to ≡ sets l.initial.to 0 (below_p (words 8 l.i l.bytes))
