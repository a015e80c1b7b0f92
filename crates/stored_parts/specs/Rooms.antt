-- Whether tables are long enough for the counts, and a room for the file.
-- Assumes nothing.
use Rattle.std.specs.Prelude.{Bool, ◌||◌, ℕ, ◌+◌, ◌*◌, ◌≤◌, ltb, length}
use Rattle.blob_rules.specs.declared.blob.BlobCounts.{BlobCounts}
use Rattle.stored_parts.specs.Form.{Tables}

-- a table is shorter than the counts say
abbrev pub short : BlobCounts → ℕ → ℕ → ℕ → ℕ → Bool
short c nodes bases exts roots =
    ltb nodes (4 * c.nodes) || ltb bases c.bases || ltb exts (3 * c.exts) || ltb roots c.roots

-- a table that is shorter than its count: 1 in writing, 10 in reading
abbrev pub short_tables : BlobCounts → Tables → Bool
short_tables c t = short c (length t.nodes) (length t.bases) (length t.exts) (length t.roots)

-- and none is
pub record Long (c : BlobCounts) (t : Tables) : Type 0 where
  pub nodes_long : 4 * c.nodes ≤ length t.nodes
  pub bases_long : c.bases ≤ length t.bases
  pub exts_long : 3 * c.exts ≤ length t.exts
  pub roots_long : c.roots ≤ length t.roots

-- 10: the body's words pass 32 bits, or the file has no room
abbrev pub no_room : ℕ → ℕ → Bool
no_room body room = ltb 4294967295 body || ltb room (4 * body + 32)
