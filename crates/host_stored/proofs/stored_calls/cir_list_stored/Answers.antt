-- `cir_list_stored` meets its contract.
-- Assumes nothing.
use Rattle.host_stored.proofs.StoredCallLaws.{lists_not, lists}
use Rattle.host_stored.proofs.stored_calls.cir_list_stored.Goals as goal

pub returns-then-out-lt-LISTING_ROOM : goal.returns-then-out-lt-LISTING_ROOM
returns-then-out-lt-LISTING_ROOM c = lists_not _ _ c.if-out-lt-LISTING_ROOM.true c.coded_refusal.ensures

pub returns : goal.returns
returns c = lists _ _ c.if-out-lt-LISTING_ROOM.false c.list_stored.ensures
