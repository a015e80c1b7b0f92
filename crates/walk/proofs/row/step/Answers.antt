use Rattle.blob_rules.proofs.MarkLaws.{node_slot}
use Rattle.blob_rules.specs.Blob.{instr_of, tags, kinds}
use Rattle.walk.proofs.row.step.Goals as goal

pub store-requires : goal.store-requires
store-requires c = let a = c.args in let p = c.requires in (node_slot tags kinds a.c a.s p.0.filled (instr_of a.w) p.0.ok, p.2)
