-- What the inner functions of the walk ask and do. For inner functions: no public promise cites it.
-- Assumes nothing.
use Rattle.std.specs.Prelude.{true, false, cond, List, [], ◌∷◌, ◌≡◌, ℕ, ◌+◌, ◌*◌, ◌<◌, ◌≤◌, ltb, length, get_or, set, drop, None, Some}
use Rattle.std.proofs.lemmas.List.Edits.{sets}
use Rattle.laws.specs.Lists.{tabulate}
use Rattle.field.specs.Base.{p, ◌≈◌}
use Rattle.extension.specs.Ext.{limb, Near}
use Rattle.extension.specs.Tower.{goldilocks, remainders}
use Rattle.ir.specs.declared.frame.Shape.{Shape}
use Rattle.values.specs.Frame.{Lent, word, triple}
use Rattle.values.specs.Room.{ValueIs}
use Rattle.values.specs.Values.{Value}
use Rattle.evaluation.specs.Evals.{base_word, ext_words, base_evals_of, ext_evals_of}
use Rattle.blob_rules.specs.declared.blob.BlobCounts.{BlobCounts}
use Rattle.blob_rules.specs.Blob.{Instr, instr_at, Blob, is_ext, slot_of, base_slots_of, ext_slots_of, num_base_of, tags, kinds}
use Rattle.device.specs.StepRule.{Contents, Slots, cell_of, base_operand, ext_operand, value_of, slots_after, root_held}
use Rattle.blob_rules.specs.Check.{Filled, operand_ok, node_ok, root_ok, filled_after, cleared}
use Rattle.slots.specs.Slots.{ext_word, slot_words, limbs_at}
use Rattle.slots.specs.Trace.{row_at, contents}

-- the room's words stand for the slots that are filled
pub record Holds (c : BlobCounts) (m : Slots ℕ (List ℕ)) (room : List ℕ) : Type 0 where
  pub bases : (k x : ℕ) → m.bases k ≡ Some x → (k < base_slots_of c) × (get_or room k 0 ≈ x)
  pub exts : (k : ℕ) (x : List ℕ) → m.exts k ≡ Some x → (k < ext_slots_of c) × Near 3 (limbs_at room (ext_word c k)) x

-- a base operand that the check let through, whatever shape and whatever slots were filled
pub record BaseLegal (c : BlobCounts) (w : ℕ) : Type 0 where
  pub shape : Shape
  pub filled : Filled
  pub ok : operand_ok tags kinds c shape filled false w ≡ true

-- an extension operand
pub record ExtLegal (c : BlobCounts) (s : Shape) (w : ℕ) : Type 0 where
  pub filled : Filled
  pub ok : operand_ok tags kinds c s filled true w ≡ true

-- whatever slots the room stands for, the word that is read stands for the operand
pub record ReadsBase (c : BlobCounts) (consts room : List ℕ) (w r : ℕ) : Type 0 where
  pub follows :
      (s : Shape) (u : Contents ℕ (List ℕ)) → ((k : ℕ) → u.base_const k ≡ word consts k)
      → (m : Slots ℕ (List ℕ)) (x : ℕ) → Holds c m room → base_operand kinds c s u m w ≡ Some x → r ≈ x

-- the uniforms that lent words hold
pub record Uniforms (u : Contents ℕ (List ℕ)) (l : Lent) : Type 0 where
  pub base_const : (k : ℕ) → u.base_const k ≡ word l.bases k
  pub ext_const : (k : ℕ) → u.ext_const k ≡ triple l.exts k
  pub challenge : (k : ℕ) → u.challenge k ≡ triple l.challenges k
  pub alpha : (k : ℕ) → u.alpha k ≡ triple l.alphas k
  pub table_offset : u.table_offset ≡ remainders 3 l.offset

-- and the words that an extension operand reads
pub record ReadsExt (c : BlobCounts) (s : Shape) (l : Lent) (room : List ℕ) (w : ℕ) (r : List ℕ) : Type 0 where
  pub follows :
      (u : Contents ℕ (List ℕ)) → Uniforms u l
      → (m : Slots ℕ (List ℕ)) (x : List ℕ) → Holds c m room → ext_operand kinds c s u goldilocks m w ≡ Some x → Near 3 r x

-- the tables that an operand reads are long enough
pub record UniformsLong (c : BlobCounts) (s : Shape) (l : Lent) : Type 0 where
  pub bases_long : c.bases ≤ length l.bases
  pub exts_long : 3 * c.exts ≤ length l.exts
  pub challenges_long : 3 * s.challenges ≤ length l.challenges
  pub alphas_long : 3 * s.alphas ≤ length l.alphas

-- ---- leaves

-- the cells that lent words hold
pub record Cells (u : Contents ℕ (List ℕ)) (s : Shape) (rows row : ℕ) (l : Lent) : Type 0 where
  pub main_cell : (step col : ℕ) → u.main step col ≡ word l.main (row_at rows row step * s.main + col)
  pub aux_cell : (step col : ℕ) → u.aux step col ≡ triple l.aux (row_at rows row step * s.aux + col)

-- the most cells of a trace, 2^62: a slice of words has no more
abbrev pub most_cells : ℕ
most_cells = 4611686018427387904

-- the traces have their rows, and the row is one of them where there is a step
pub record TraceLong (s : Shape) (rows row : ℕ) (l : Lent) : Type 0 where
  pub row_in : 0 < s.steps → row < rows
  pub main_few : rows * s.main ≤ most_cells
  pub aux_few : rows * s.aux ≤ most_cells
  pub main_long : rows * s.main ≤ length l.main
  pub aux_long : 3 * (rows * s.aux) ≤ length l.aux

-- what is lent beside the slots is long enough
pub record LentLong (c : BlobCounts) (s : Shape) (rows row : ℕ) (l : Lent) : Type 0 where
  pub uniforms : UniformsLong c s l
  pub trace : TraceLong s rows row l

-- whatever value the words name, the result stands for it
pub record CellGives (s : Shape) (rows row : ℕ) (l : Lent) (x y class : ℕ) (limbs : List ℕ) : Type 0 where
  pub follows :
      (u : Contents ℕ (List ℕ)) → Cells u s rows row l
      → (v : Value ℕ (List ℕ)) → cell_of u s x y ≡ Some v → ValueIs v class limbs

-- a node that the check let through, whatever slots were filled
pub record NodeLegal (c : BlobCounts) (s : Shape) (w : Instr) : Type 0 where
  pub filled : Filled
  pub ok : node_ok tags kinds c s filled w ≡ true

-- whatever value the rule gives a leaf, the result stands for it
pub record LeafGives (c : BlobCounts) (s : Shape) (rows row : ℕ) (l : Lent) (w : Instr) (class : ℕ) (limbs : List ℕ) : Type 0 where
  pub follows :
      (u : Contents ℕ (List ℕ)) → Uniforms u l → Cells u s rows row l
      → (m : Slots ℕ (List ℕ)) (v : Value ℕ (List ℕ)) → value_of goldilocks tags kinds c s u m w ≡ Some v → ValueIs v class limbs

-- ---- operations

-- whatever value the rule gives a base result, in whichever slot, the word stands for it
pub record BaseGives (c : BlobCounts) (consts room : List ℕ) (w : Instr) (r : ℕ) : Type 0 where
  pub follows :
      (s : Shape) (u : Contents ℕ (List ℕ)) → ((k : ℕ) → u.base_const k ≡ word consts k)
      → (m : Slots ℕ (List ℕ)) (v : Value ℕ (List ℕ)) (res : ℕ) → Holds c m room → is_ext res ≡ false
      → value_of goldilocks tags kinds c s u m (record { op = w.op; a = w.a; b = w.b; res = res }) ≡ Some v → ValueIs v 0 (r ∷ 0 ∷ 0 ∷ [])

-- and an extension result
pub record ExtGives (c : BlobCounts) (s : Shape) (l : Lent) (room : List ℕ) (w : Instr) (limbs : List ℕ) : Type 0 where
  pub follows :
      (u : Contents ℕ (List ℕ)) → Uniforms u l
      → (m : Slots ℕ (List ℕ)) (v : Value ℕ (List ℕ)) (res : ℕ) → Holds c m room → is_ext res ≡ true
      → value_of goldilocks tags kinds c s u m (record { op = w.op; a = w.a; b = w.b; res = res }) ≡ Some v → ValueIs v 1 limbs

-- and a result of either class
pub record OperationGives (c : BlobCounts) (s : Shape) (l : Lent) (room : List ℕ) (w : Instr) (class : ℕ) (limbs : List ℕ) : Type 0 where
  pub follows :
      (u : Contents ℕ (List ℕ)) → Uniforms u l
      → (m : Slots ℕ (List ℕ)) (v : Value ℕ (List ℕ)) → Holds c m room
      → value_of goldilocks tags kinds c s u m w ≡ Some v → ValueIs v class limbs

-- whatever value the rule gives a node, the result stands for it
pub record NodeGives (c : BlobCounts) (s : Shape) (rows row : ℕ) (l : Lent) (room : List ℕ) (w : Instr) (class : ℕ) (limbs : List ℕ) : Type 0 where
  pub follows :
      (m : Slots ℕ (List ℕ)) (v : Value ℕ (List ℕ)) → Holds c m room
      → value_of goldilocks tags kinds c s (contents rows row s l) m w ≡ Some v → ValueIs v class limbs

-- ---- the room

-- a value stored where a result word says
abbrev pub stored : BlobCounts → ℕ → List ℕ → List ℕ → List ℕ
stored c res limbs room =
    cond (is_ext res) (sets room (ext_word c (slot_of res)) (tabulate 3 (limb limbs))) (set room (slot_of res) (limb limbs 0))

-- the room stands for the slots that are filled, with words below p; other words are as they were
pub record RoomKept (c : BlobCounts) (m : Slots ℕ (List ℕ)) (old new : List ℕ) : Type 0 where
  pub holds : Holds c m new
  pub base_low : (k x : ℕ) → m.bases k ≡ Some x → get_or new k 0 < p
  pub base_kept : (k : ℕ) → k < base_slots_of c → m.bases k ≡ None → get_or new k 0 ≡ get_or old k 0
  pub ext_low : (k : ℕ) (x : List ℕ) → m.exts k ≡ Some x → (i : ℕ) → i < 3 → limb (limbs_at new (ext_word c k)) i < p
  pub ext_kept : (k : ℕ) → k < ext_slots_of c → m.exts k ≡ None → limbs_at new (ext_word c k) ≡ limbs_at old (ext_word c k)
  pub rest : drop (slot_words c) new ≡ drop (slot_words c) old
  pub long : length new ≡ length old

-- what a step does: some limbs, which stand for the node's value, are stored
pub record StepStores (c : BlobCounts) (s : Shape) (rows row : ℕ) (l : Lent) (w : Instr) (old new : List ℕ) : Type 0 where
  pub class : ℕ
  pub limbs : List ℕ
  pub gives : NodeGives c s rows row l old w class limbs
  pub stores : new ≡ stored c w.res limbs old

-- the nodes that the check let through
pub record NodesLegal (b : Blob) (s : Shape) : Type 0 where
  pub nodes_long : 4 * b.counts.nodes ≤ length b.nodes
  pub node : (i : ℕ) → i < b.counts.nodes → node_ok tags kinds b.counts s (filled_after b.nodes i) (instr_at b.nodes i) ≡ true

-- what the pass over the nodes of one row does
pub record RowWalked (b : Blob) (s : Shape) (rows row : ℕ) (l : Lent) (n : ℕ) (old new : List ℕ) : Type 0 where
  pub follows :
      (m : Slots ℕ (List ℕ)) → slots_after goldilocks tags kinds b.counts s (contents rows row s l) b.nodes n ≡ Some m
      → RoomKept b.counts m old new
  pub long : length new ≡ length old

-- ---- roots

-- a root that the check let through, whatever slots were filled
pub record RootLegal (c : BlobCounts) (w : ℕ) : Type 0 where
  pub filled : Filled
  pub ok : root_ok c filled w ≡ true

-- whatever value a root names, its words are read, below p
pub record RootReads (c : BlobCounts) (room : List ℕ) (w : ℕ) (limbs : List ℕ) : Type 0 where
  pub follows : (m : Slots ℕ (List ℕ)) (v : Value ℕ (List ℕ)) → Holds c m room → root_held m w ≡ Some v → limbs ≡ ext_words v
  pub long : length limbs ≡ 3

-- root i has its place among the evals
pub record RootPlace (i leading bases exts : ℕ) : Type 0 where
  pub base_place : i < leading → i < bases
  pub ext_place : leading ≤ i → 3 * i + 3 ≤ exts

-- root i is written, and nothing else is
pub record RootWritten (c : BlobCounts) (i leading : ℕ) (room : List ℕ) (w : ℕ) (bases bases' exts exts' : List ℕ) : Type 0 where
  pub follows :
      (m : Slots ℕ (List ℕ)) (v : Value ℕ (List ℕ)) → Holds c m room → root_held m w ≡ Some v
      → (bases' ≡ cond (ltb i leading) (set bases i (base_word v)) bases) × (exts' ≡ cond (ltb i leading) exts (sets exts (3 * i) (ext_words v)))
  pub bases_long : length bases' ≡ length bases
  pub exts_long : length exts' ≡ length exts

-- what the writing of all roots asks
pub record RootsReady (b : Blob) (bases exts : ℕ) : Type 0 where
  pub roots_long : b.counts.roots ≤ length b.roots
  pub legal : (i : ℕ) → i < b.counts.roots → RootLegal b.counts (get_or b.roots i 0)
  pub place : (i : ℕ) → i < b.counts.roots → RootPlace i (num_base_of b.counts) bases exts

-- and does: the first n are written
pub record RootsWritten (b : Blob) (n : ℕ) (room bases bases' exts exts' : List ℕ) : Type 0 where
  pub follows :
      (m : Slots ℕ (List ℕ)) (env : ℕ → Value ℕ (List ℕ)) → Holds b.counts m room
      → ((i : ℕ) → i < n → root_held m (get_or b.roots i 0) ≡ Some (env (get_or b.roots i 0)))
      → (bases' ≡ base_evals_of env b.roots (num_base_of b.counts) n bases) × (exts' ≡ ext_evals_of env b.roots (num_base_of b.counts) n exts)
  pub bases_long : length bases' ≡ length bases
  pub exts_long : length exts' ≡ length exts

-- ---- a whole row

-- what the walk of a row asks
pub record RowReady (b : Blob) (s : Shape) (rows row : ℕ) (l : Lent) (base ext slots : ℕ) : Type 0 where
  pub nodes_legal : NodesLegal b s
  pub lent_long : LentLong b.counts s rows row l
  pub roots_ready : RootsReady b base ext
  pub slots_long : slot_words b.counts ≤ slots

-- and does: each root's value is written, and slots that it fills hold the rule's values
pub record RowDone (b : Blob) (s : Shape) (rows row : ℕ) (l : Lent) (base base' ext ext' slots slots' : List ℕ) : Type 0 where
  pub follows :
      (m : Slots ℕ (List ℕ)) (env : ℕ → Value ℕ (List ℕ)) → slots_after goldilocks tags kinds b.counts s (contents rows row s l) b.nodes b.counts.nodes ≡ Some m
      → ((i : ℕ) → i < b.counts.roots → root_held m (get_or b.roots i 0) ≡ Some (env (get_or b.roots i 0)))
      → RoomKept b.counts m slots slots'
      × (base' ≡ base_evals_of env b.roots (num_base_of b.counts) b.counts.roots base)
      × (ext' ≡ ext_evals_of env b.roots (num_base_of b.counts) b.counts.roots ext)

-- the same from slots that hold anything: they are cleared first
pub record FrameWalked (b : Blob) (s : Shape) (l : Lent) (base base' ext ext' slots slots' : List ℕ) : Type 0 where
  pub done : RowDone b s s.steps 0 l base base' ext ext' (cleared (slot_words b.counts) slots) slots'
