-- Laws of a file that was read.
-- Assumes nothing.
use Rattle.std.specs.Prelude.{Result, Ok}
use mathlib.Core.Path.{◌≡◌, ap}
use lib.ListN.{length}
use Rattle.ir.specs.declared.refusal.Refusal.{Refusal}
use Rattle.blob_rules.specs.declared.blob.BlobCounts.{BlobCounts}
use Rattle.stored_parts.specs.Form.{Tables}
use Rattle.stored.specs.Answer.{put}
use Rattle.stored_parts.proofs.WordLaws.{sets_long}

pub read_counts : (r : Result BlobCounts Refusal) {c c' : BlobCounts} → r ≡ Ok c → r ≡ Ok c' → c ≡ c'
read_counts r p q = cc

-- rooms are as long as before
pub record AsLong (old new : Tables) : Type 0 where
  pub nodes_as : length new.nodes ≡ length old.nodes
  pub bases_as : length new.bases ≡ length old.bases
  pub exts_as : length new.exts ≡ length old.exts
  pub roots_as : length new.roots ≡ length old.roots

pub as_long : (t rooms : Tables) {rooms' : Tables} → rooms' ≡ put t rooms → AsLong rooms rooms'
as_long t rooms e =
    record {
      nodes_as = sets_long rooms.nodes 0 t.nodes (ap (λ (r : Tables). r.nodes) e);
      bases_as = sets_long rooms.bases 0 t.bases (ap (λ (r : Tables). r.bases) e);
      exts_as = sets_long rooms.exts 0 t.exts (ap (λ (r : Tables). r.exts) e);
      roots_as = sets_long rooms.roots 0 t.roots (ap (λ (r : Tables). r.roots) e);
    }
