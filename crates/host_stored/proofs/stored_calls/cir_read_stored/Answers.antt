-- `cir_read_stored` meets its contract.
-- Assumes nothing.
use Rattle.stored.specs.Answer.{rooms_of}
use Rattle.host_stored.proofs.StoredCallLaws.{reads, told}
use borrow.Author.Rules.{rules}
use Rattle.host_stored.proofs.stored_calls.cir_read_stored.Goals as goal

pub returns-in-Ok : goal.returns-in-Ok
returns-in-Ok c = told (rooms_of c.read_stored.new.rooms) _ _ _ _ (search rules) (search rules) (search rules) (search rules) (reads c.read_stored.ensures.answer c.in-Ok.is)
