-- What the calls on form A promise: the answer as one number, and each lent word and byte.
-- Assumes nothing.
use Rattle.std.specs.Prelude.{Bool, cond, List, [], ◌∷◌, ◌≡◌, ℕ, eqb, ltb, length}
use Rattle.std.proofs.lemmas.List.Edits.{sets}
use Rattle.ir.specs.Refusals.{Said, row, first, gives}
use Rattle.blob_rules.specs.declared.blob.BlobCounts.{BlobCounts}
use Rattle.stored_parts.specs.Form.{Tables, stored, counts_in, tables_in}
use Rattle.stored.specs.Answer.{write_said, read_said, put}
use Rattle.listing.specs.Listing.{blob_list}
use Rattle.host_answer.specs.Answer.{answer_of, value_on_done}

-- the lent tables
abbrev pub tables : (nodes bases exts roots : List ℕ) → Tables
tables nodes bases exts roots = record { nodes = nodes; bases = bases; exts = exts; roots = roots }

-- whether a call was done
abbrev pub is_done : Said → Bool
is_done s = eqb s.number 0

-- on 0 the file stands at the front of the room, and its length is written
pub record WritesFile (c : BlobCounts) (t : Tables) (file : List ℕ) (old answer : ℕ) (file' : List ℕ) (new : ℕ) : Type 0 where
  pub answered : answer ≡ answer_of (write_said c t file)
  pub wrote : file' ≡ cond (is_done (write_said c t file)) (sets file 0 (stored c t)) file
  pub measured : new ≡ value_on_done (write_said c t file) 0 old

-- on 0 the file's tables stand at the front of the rooms, and its counts are written
pub record ReadsFile (file : List ℕ) (rooms : Tables) (old : BlobCounts) (answer : ℕ) (rooms' : Tables) (new : BlobCounts) : Type 0 where
  pub answered : answer ≡ answer_of (read_said file rooms)
  pub wrote : rooms' ≡ cond (is_done (read_said file rooms)) (put (tables_in (counts_in file) file) rooms) rooms
  pub counted : new ≡ cond (is_done (read_said file rooms)) (counts_in file) old

-- 10: less room than the listing of the longest file needs; else what `blob-list` prints of the file
unfoldable pub list_said : List ℕ → List ℕ → Said
list_said file out = first (row (ltb (length out) 524288) 10 ∷ []) (gives (length (blob_list file) ∷ []))

-- on 0 the listing stands at the front of the room, and its length is written
pub record ListsFile (file out : List ℕ) (old answer : ℕ) (out' : List ℕ) (new : ℕ) : Type 0 where
  pub answered : answer ≡ answer_of (list_said file out)
  pub wrote : out' ≡ cond (is_done (list_said file out)) (sets out 0 (blob_list file)) out
  pub measured : new ≡ value_on_done (list_said file out) 0 old
