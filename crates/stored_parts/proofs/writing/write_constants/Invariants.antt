-- `write_constants` meets its contract.
-- Assumes nothing.
use Rattle.std.proofs.Common.{◌≡◌, take}
use Rattle.std.proofs.lemmas.List.Edits.{sets}
use Rattle.stored_parts.specs.Form.{spread, below_p}
use Rattle.stored_parts.proofs.writing.write_constants.Given as goal

abbrev pub invariant-loop-i : goal.invariant-loop-i
invariant-loop-i l = l.out ≡ sets l.initial.out 0 (spread 8 (take l.i (below_p l.words)))
