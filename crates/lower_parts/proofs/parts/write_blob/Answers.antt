use Rattle.lower_parts.proofs.BlobLaws.{begins_ok, roots_ok, blob_written}
use Rattle.lower_parts.proofs.parts.write_blob.Goals as goal

pub scan_nodes-place-requires : goal.scan_nodes-place-requires
scan_nodes-place-requires c = begins_ok _ _ _ _ _ _ _ _ _ _ _ _ _ _ _ c.requires

pub write_roots-requires : goal.write_roots-requires
write_roots-requires c =
    let e = c.scan_nodes-place.ensures in
    (roots_ok _ _ _ _ _ _ _ _ _ _ _ _ _ _ _ c.requires _ _ _ _ _ _ e.scanned e.slot_of_len_unchanged, c.requires.room.3)

pub returns-clause-blob_written : goal.returns-clause-blob_written
returns-clause-blob_written c =
    let e = c.scan_nodes-place.ensures in
    blob_written _ _ _ _ _ _ _ _ _ _ _ _ _ _ _ c.requires _ _ _ _ _ _ e.scanned e.slot_of_len_unchanged _ _ _ c.write_roots.ensures c.copy_constants.ensures c.copy_constants-2.ensures
