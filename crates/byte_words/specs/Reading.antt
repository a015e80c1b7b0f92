-- A blob as it was read.
-- Assumes nothing.
use Rattle.blob_rules.specs.declared.blob.BlobCounts.{BlobCounts}
use Rattle.blob_rules.specs.Blob.{Blob}
use Rattle.stored_parts.specs.Form.{Tables}

-- a blob, from its counts and the rooms that it was read into
abbrev pub blob_in : BlobCounts → Tables → Blob
blob_in c t = record { counts = c; nodes = t.nodes; roots = t.roots }
