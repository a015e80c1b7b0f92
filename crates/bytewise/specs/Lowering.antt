-- Lowering over bytes: a program's words are unpacked, lowered, and its blob is written in stored form A.
-- Assumes nothing.
use Rattle.std.specs.Prelude.{Bool, true, false, cond, ◌||◌, List, ◌≡◌, ℕ, ◌/◌, ◌≤◌, ltb, length, Result, Ok, Err}
use Rattle.ir.specs.declared.program.Counts.{Counts}
use Rattle.ir.specs.declared.refusal.Refusal.{Refusal}
use Rattle.ir.specs.declared.refusal.Refusal.TheVariants.{ShortMemory, TooManyNodes, TooManyRoots}
use Rattle.ir.specs.Program.{Program, too_many_nodes, too_many_roots}
use Rattle.blob_rules.specs.declared.blob.BlobCounts.{BlobCounts}
use Rattle.lower_parts.specs.Answer.{Lists, Output, LowerAnswer}
use Rattle.stored_parts.specs.Form.{Tables}
use Rattle.stored.specs.Answer.{put, WriteAnswer}
use Rattle.byte_words.specs.Words.{whole, words_in}
use Rattle.bytewise.specs.declared.lowering.TableBytes.{TableBytes}

-- ---- a program's tables as bytes

-- a program's tables as they are lent
abbrev pub bytes_of : TableBytes → Tables
bytes_of t = record { nodes = t.nodes.now; bases = t.bases.now; exts = t.exts.now; roots = t.roots.now }

-- the words of each table
abbrev pub words_of : Tables → Tables
words_of t =
    record {
      nodes = words_in 4 t.nodes;
      bases = words_in 8 t.bases;
      exts = words_in 8 t.exts;
      roots = words_in 4 t.roots;
    }

-- 1: a room has fewer words than its table; lengths in bytes, then in words
abbrev pub short_rooms : (nodes bases exts roots n b x r : ℕ) → Bool
short_rooms nodes bases exts roots n b x r = ltb n (nodes / 4) || ltb b (bases / 8) || ltb x (exts / 8) || ltb r (roots / 4)

-- the same of bytes and rooms
abbrev pub short_for : Tables → Tables → Bool
short_for t rooms =
    short_rooms (length t.nodes) (length t.bases) (length t.exts) (length t.roots)
    (length rooms.nodes) (length rooms.bases) (length rooms.exts) (length rooms.roots)

-- 8, 9 or 1: what is refused before a table's words are looked at
abbrev pub refused_early : Counts → Tables → Tables → Bool
refused_early c t rooms = too_many_nodes c || (too_many_roots c || short_for t rooms)

-- and by which of them
abbrev pub why_early : Counts → Refusal
why_early c = cond (too_many_nodes c) TooManyNodes (cond (too_many_roots c) TooManyRoots ShortMemory)

-- no room has fewer words
pub record Roomy (t rooms : Tables) : Type 0 where
  pub nodes_fit : whole 4 t.nodes ≤ length rooms.nodes
  pub bases_fit : whole 8 t.bases ≤ length rooms.bases
  pub exts_fit : whole 8 t.exts ≤ length rooms.exts
  pub roots_fit : whole 4 t.roots ≤ length rooms.roots

-- a program, from its counts and words
abbrev pub program : Counts → Tables → Program
program c t = record { counts = c; nodes = t.nodes; bases = t.bases; exts = t.exts; roots = t.roots }

-- ---- the promises

-- the words that lowering wrote, as a blob's tables
abbrev pub tables_out : Output → Tables
tables_out o = record { nodes = o.nodes; bases = o.bases; exts = o.exts; roots = o.roots }

-- the program is lowered as `lower` lowers it; its refusal is the answer, and the file's bytes stay; else its blob is
-- written as `write_stored` writes it
pub record LowerFile (p : Program) (lists : Lists) (out : Output) (file : List ℕ) (answer : Result ℕ Refusal) (lists' : Lists) (out' : Output) (file' : List ℕ) : Type 0 where
  pub lowered : Result BlobCounts Refusal
  pub promised : LowerAnswer p lists out lowered lists' out'
  pub refused : (why : Refusal) → lowered ≡ Err why → (answer ≡ Err why) × (file' ≡ file)
  pub written : (k : BlobCounts) → lowered ≡ Ok k → WriteAnswer k (tables_out out') file answer file'

-- 8 and 9, then 1 where a room is too short for its table, and nothing is written; else the tables' words stand in the rooms, and all else
-- is as lowering those words has it
pub record LowerStored (c : Counts) (tables rooms : Tables) (lists : Lists) (out : Output) (file : List ℕ) (answer : Result ℕ Refusal) (rooms' : Tables) (lists' : Lists) (out' : Output) (file' : List ℕ) : Type 0 where
  pub early : refused_early c tables rooms ≡ true → (answer ≡ Err (why_early c)) × (rooms' ≡ rooms) × (lists' ≡ lists) × (out' ≡ out) × (file' ≡ file)
  pub unpacked : refused_early c tables rooms ≡ false → rooms' ≡ put (words_of tables) rooms
  pub lowering : refused_early c tables rooms ≡ false → LowerFile (program c (words_of tables)) lists out file answer lists' out' file'
