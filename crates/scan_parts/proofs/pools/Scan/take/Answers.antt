use Rattle.scan_parts.proofs.pools.Scan.take.Goals as goal

pub take-slot-requires : goal.take-slot-requires
take-slot-requires c = rw c.free_slots.ensures c.requires

pub returns-clause-takes : goal.returns-clause-takes
returns-clause-takes c = rw c.free_slots.ensures at c.take-slot.ensures
