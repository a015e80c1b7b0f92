-- What writing and reading form A say, and what they write.
-- Assumes nothing.
use Rattle.ir.specs.declared.refusal.Refusal.{Refusal}
use Rattle.stored_parts.specs.Rooms.{short_tables, no_room}
use Rattle.std.specs.Prelude.{cond, List, [], ◌∷◌, ◌≡◌, ℕ, eqb, length, Result, Ok, Err}
use Rattle.std.proofs.lemmas.List.Edits.{sets}
use Rattle.ir.specs.Refusals.{Said, Row, row, first, gives, said_of}
use Rattle.blob_rules.specs.declared.blob.BlobCounts.{BlobCounts}
use Rattle.blob_rules.specs.declared.blob.TableRooms.{TableRooms}
use Rattle.stored.specs.declared.write.TablesRef.{TablesRef}
use Rattle.stored_parts.specs.Form.{Tables, distance, size, stored, counts_in, bad_framing, tables_in}

-- the tables that are lent for writing
abbrev pub lent_tables : TablesRef → Tables
lent_tables t = record { nodes = t.nodes.now; bases = t.bases.now; exts = t.exts.now; roots = t.roots.now }

-- what the rooms hold that are lent for reading
abbrev pub rooms_of : TableRooms → Tables
rooms_of r = record { nodes = r.nodes.now; bases = r.bases.now; exts = r.exts.now; roots = r.roots.now }

-- ---- writing

-- the refusals in order: 1, then 10
abbrev pub write_rows : BlobCounts → Tables → List ℕ → List Row
write_rows c t out = row (short_tables c t) 1 ∷ row (no_room (distance c) (length out)) 10 ∷ []

-- on 0 the file's length
unfoldable pub write_said : BlobCounts → Tables → List ℕ → Said
write_said c t out = first (write_rows c t out) (gives (size c ∷ []))

-- the same of an answer
abbrev pub said_of_stored : Result ℕ Refusal → Said
said_of_stored (Ok bytes) = gives (bytes ∷ [])
said_of_stored (Err r) = said_of r

-- the promise: what is said; on 0 the file stands at the front of the room, else nothing is written
pub record WriteAnswer (c : BlobCounts) (t : Tables) (out : List ℕ) (answer : Result ℕ Refusal) (out' : List ℕ) : Type 0 where
  pub said : said_of_stored answer ≡ write_said c t out
  pub wrote : out' ≡ cond (eqb (write_said c t out).number 0) (sets out 0 (stored c t)) out

-- ---- reading

-- the refusals in order: 15, then 10
abbrev pub read_rows : List ℕ → Tables → List Row
read_rows file rooms = row (bad_framing file) 15 ∷ row (short_tables (counts_in file) rooms) 10 ∷ []

-- a blob's counts as values
abbrev pub counts_of : BlobCounts → List ℕ
counts_of c =
    c.nodes ∷ c.bases ∷ c.exts ∷ c.roots ∷ c.num_base ∷ c.base_slots ∷ c.ext_slots ∷ []

-- on 0 the counts
unfoldable pub read_said : List ℕ → Tables → Said
read_said file rooms = first (read_rows file rooms) (gives (counts_of (counts_in file)))

-- the same of an answer
abbrev pub said_of_read : Result BlobCounts Refusal → Said
said_of_read (Ok c) = gives (counts_of c)
said_of_read (Err r) = said_of r

-- tables at the front of the rooms
abbrev pub put : Tables → Tables → Tables
put t rooms =
    record {
      nodes = sets rooms.nodes 0 t.nodes;
      bases = sets rooms.bases 0 t.bases;
      exts = sets rooms.exts 0 t.exts;
      roots = sets rooms.roots 0 t.roots;
    }

-- the promise: what is said; on 0 the file's tables stand at the front of the rooms, else nothing is written
pub record ReadAnswer (file : List ℕ) (rooms : Tables) (answer : Result BlobCounts Refusal) (rooms' : Tables) : Type 0 where
  pub said : said_of_read answer ≡ read_said file rooms
  pub wrote : rooms' ≡ cond (eqb (read_said file rooms).number 0) (put (tables_in (counts_in file) file) rooms) rooms
