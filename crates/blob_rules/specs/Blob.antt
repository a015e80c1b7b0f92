-- A blob's words, as device.rs has them: what each word says, and the tables of tags and of operand kinds.
-- Assumes nothing.
use Rattle.std.specs.Prelude.{Bool, true, false, List, [], ◌∷◌, ◌≡◌, ℕ, ◌+◌, ◌*◌, ◌/◌, ◌%◌, leb, get_or}
use Rattle.ir.specs.declared.frame.Shape.{Shape}
use Rattle.blob_rules.specs.declared.blob.BlobCounts.{BlobCounts}
use Rattle.blob_rules.specs.declared.blob.BlobRef.{BlobRef}
use Rattle.blob_rules.specs.declared.blob.NodeWords.{NodeWords}
use Rattle.blob_rules.specs.declared.blob.TableRooms.{TableRooms}

-- a node's words
pub record Instr : Type 0 where
  pub op : ℕ
  pub a : ℕ
  pub b : ℕ
  pub res : ℕ

-- node i of a list of words
abbrev pub instr_at : List ℕ → ℕ → Instr
instr_at l i =
    record { op = get_or l (4 * i) 0; a = get_or l (4 * i + 1) 0; b = get_or l (4 * i + 2) 0; res = get_or l (4 * i + 3) 0 }

-- a node's words, as the program has loaded them
abbrev pub instr_of : NodeWords → Instr
instr_of w = record { op = w.op; a = w.a; b = w.b; res = w.res }

-- the counts, and the words of nodes and roots
pub record Blob : Type 0 where
  pub counts : BlobCounts
  pub nodes : List ℕ
  pub roots : List ℕ

-- the same by the program's slices of them
abbrev pub lent_blob : BlobRef → Blob
lent_blob b = record { counts = b.counts; nodes = b.nodes.now; roots = b.roots.now }

-- each room is still the one that was lent
abbrev pub SameRooms : TableRooms → TableRooms → Type 0
SameRooms r r' =
    (r.nodes.ghost_name ≡ r'.nodes.ghost_name) × (r.bases.ghost_name ≡ r'.bases.ghost_name) × (r.exts.ghost_name ≡ r'.exts.ghost_name) × (r.roots.ghost_name ≡ r'.roots.ghost_name)

-- how many base slots there are
abbrev pub base_slots_of : BlobCounts → ℕ
base_slots_of c = c.base_slots

-- and extension slots
abbrev pub ext_slots_of : BlobCounts → ℕ
ext_slots_of c = c.ext_slots

-- num_base, as the caller has it: constraints below it go to base_evals
abbrev pub num_base_of : BlobCounts → ℕ
num_base_of c = c.num_base

-- ---- words that name slots

-- bit 31 of a result word or a root word means extension
abbrev pub is_ext : ℕ → Bool
is_ext w = leb 2147483648 w

-- the other bits are the slot
abbrev pub slot_of : ℕ → ℕ
slot_of w = w % 2147483648

-- an operand word is its kind times 2^29 plus a payload
abbrev pub kind_of : ℕ → ℕ
kind_of w = w / 536870912

-- the payload
abbrev pub payload_of : ℕ → ℕ
payload_of w = w % 536870912

-- ---- tables that an index can name an entry of

-- the four tables
pub data Table : Type 0 where
  base_consts : Table
  ext_consts : Table
  challenges : Table
  alphas : Table

-- how many entries a table has
abbrev pub size_of : BlobCounts → Shape → Table → ℕ
size_of c s base_consts = c.bases
size_of c s ext_consts = c.exts
size_of c s challenges = s.challenges
size_of c s alphas = s.alphas

-- whether its entries are extension values
abbrev pub ext_table : Table → Bool
ext_table base_consts = false
ext_table ext_consts = true
ext_table challenges = true
ext_table alphas = true

-- ---- what a tag says

-- the three operations on two operands
pub data Binary : Type 0 where
  plus : Binary
  minus : Binary
  times : Binary

-- what a node's words mean
pub data Form : Type 0 where
  -- a table's entry: a is its index, b is unused
  entry : Table → Form
  -- a trace cell: a and b as `pack_var` has them
  cell : Form
  -- the table offset: a and b are unused
  offset : Form
  -- an operation on the operands a and b
  binary : Binary → Form
  -- the negation of the operand a; b is unused
  negation : Form
  -- the operand a as an extension value; b is unused
  embedding : Form

-- the tags 0 to 10
abbrev pub tags : List Form
tags =
    entry base_consts ∷ entry ext_consts ∷ cell ∷ entry challenges ∷ entry alphas ∷ offset
    ∷ binary plus ∷ binary minus ∷ binary times ∷ negation ∷ embedding ∷ []

-- ---- what an operand's kind says

-- what an operand's payload names
pub data Kind : Type 0 where
  -- the payload is a base slot
  base_slot : Kind
  -- the payload is an extension slot
  ext_slot : Kind
  -- the payload is an index into a table
  of : Table → Kind
  -- the table offset; the payload is unused
  the_offset : Kind

-- the kinds 0 to 6
abbrev pub kinds : List Kind
kinds = base_slot ∷ ext_slot ∷ of base_consts ∷ of ext_consts ∷ of challenges ∷ of alphas ∷ the_offset ∷ []
