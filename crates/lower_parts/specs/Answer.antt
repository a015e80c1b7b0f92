-- What lowering says, what it writes and how it leaves the lists that it borrows.
-- Assumes nothing.
use Rattle.ir.specs.declared.refusal.Refusal.{Refusal}
use Rattle.std.specs.Prelude.{Bool, cond, ◌||◌, List, [], ◌∷◌, ◌++◌, ◌≡◌, ℕ, ◌*◌, eqb, ltb, length, drop, Result, Ok, Err}
use Rattle.ir.specs.Program.{Program, too_many_nodes, too_many_roots, short_program, ill_formed}
use Rattle.ir.specs.Refusals.{Said, Row, row, row_at, first, gives, said_of}
use Rattle.blob_rules.specs.declared.blob.BlobCounts.{BlobCounts}
use Rattle.blob_rules.specs.declared.blob.TableRooms.{TableRooms}
use Rattle.blob_rules.specs.Check.{cleared}
use Rattle.lower_parts.specs.declared.parts.Lists as Lent
use Rattle.liveness.specs.Liveness.{live}
use Rattle.lower_parts.specs.Lower as Lower

-- the words that lowering borrows, six a node
pub record Lists : Type 0 where
  pub used : List ℕ
  pub last : List ℕ
  pub root : List ℕ
  pub slot : List ℕ
  pub free : List ℕ

-- the words that are lent for the blob
pub record Output : Type 0 where
  pub nodes : List ℕ
  pub bases : List ℕ
  pub exts : List ℕ
  pub roots : List ℕ

-- what is behind references to the lists
abbrev pub lists_of : Lent.Lists → Lists
lists_of b =
    record { used = b.used.now; last = b.last_use.now; root = b.is_root.now; slot = b.slot_of.now; free = b.free.now }

-- what is behind references to the rooms
abbrev pub output_of : TableRooms → Output
output_of r = record { nodes = r.nodes.now; bases = r.bases.now; exts = r.exts.now; roots = r.roots.now }

-- what a program lowers to
abbrev pub lowering : Program → Lower.Lowered
lowering p =
    Lower.lowered p.counts p.nodes p.roots p.bases p.exts (live p.counts p.nodes p.roots)

-- 1: a word a node in each list, two in that of free slots
unfoldable pub short_lists : ℕ → Lists → Bool
short_lists n b =
    ltb (length b.used) n
    || ltb (length b.last) n
    || ltb (length b.root) n
    || ltb (length b.slot) n
    || ltb (length b.free) (2 * n)

-- 10: no room for four words an emitted node, the base constants, three words an extension constant, and the roots
unfoldable pub short_output : Lower.Lowered → Output → Bool
short_output l o =
    ltb (length o.nodes) (length l.nodes)
    || ltb (length o.bases) (length l.bases)
    || ltb (length o.exts) (length l.exts)
    || ltb (length o.roots) (length l.roots)

-- the refusals in order
abbrev pub lower_rows : Program → Lists → Output → List Row
lower_rows p b o =
    row (too_many_nodes p.counts) 8
    ∷ row (too_many_roots p.counts) 9
    ∷ row (short_program p || short_lists p.counts.nodes b) 1
    ∷ row_at (ill_formed p.counts p.nodes p.roots) 7
    ∷ row (short_output (lowering p) o) 10
    ∷ []

-- a blob's counts as values
abbrev pub counts_of : BlobCounts → List ℕ
counts_of c =
    c.nodes ∷ c.bases ∷ c.exts ∷ c.roots ∷ c.num_base ∷ c.base_slots ∷ c.ext_slots ∷ []

-- what the call says: on 0 the blob's counts
unfoldable pub lower_said : Program → Lists → Output → Said
lower_said p b o = first (lower_rows p b o) (gives (counts_of (Lower.blob_of p.counts (lowering p)).counts))

-- the same of an answer
abbrev pub said_of_lowering : Result BlobCounts Refusal → Said
said_of_lowering (Ok c) = gives (counts_of c)
said_of_lowering (Err r) = said_of r

-- words over the first places of a list
abbrev pub over : List ℕ → List ℕ → List ℕ
over ws old = ws ++ drop (length ws) old

-- the blob's words over those that were lent
abbrev pub written : Lower.Lowered → Output → Output
written l o =
    record {
      nodes = over l.nodes o.nodes;
      bases = over l.bases o.bases;
      exts = over l.exts o.exts;
      roots = over l.roots o.roots;
    }

-- the borrowed words of n nodes are 0
abbrev pub emptied : ℕ → Lists → Lists
emptied n b =
    record {
      used = cleared n b.used;
      last = cleared n b.last;
      root = cleared n b.root;
      slot = cleared n b.slot;
      free = cleared (2 * n) b.free;
    }

-- the promise: what is said; a refusal writes nothing; the borrowed words are 0 after 0 and 10, else as they were
pub record LowerAnswer (p : Program) (b : Lists) (o : Output) (answer : Result BlobCounts Refusal) (b' : Lists) (o' : Output) : Type 0 where
  pub said : said_of_lowering answer ≡ lower_said p b o
  pub wrote : o' ≡ cond (eqb (lower_said p b o).number 0) (written (lowering p) o) o
  pub lists : b' ≡ cond (eqb (lower_said p b o).number 0 || eqb (lower_said p b o).number 10) (emptied p.counts.nodes b) b
