-- The walk over a blob: its refusals in document 01's order, and what it leaves.
-- Assumes nothing.
use Rattle.ir.specs.declared.refusal.Refusal.{Refusal}
use Rattle.std.specs.Prelude.{Bool, true, false, cond, ◌&&◌, ◌||◌, List, [], ◌∷◌, ◌++◌, ◌≡◌, ℕ, ◌*◌, min, ltb, length, Option, None, Some, Result}
use Rattle.extension.specs.Tower.{goldilocks}
use Rattle.ir.specs.declared.frame.Shape.{Shape}
use Rattle.ir.specs.Shape.{over_shape}
use Rattle.ir.specs.Refusals.{Row, row, first, any_holds, gives, said_of_outcome}
use Rattle.values.specs.Values.{Value}
use Rattle.values.specs.Values as Values
use Rattle.values.specs.Frame.{Lent}
use Rattle.evaluation.specs.Evals.{base_evals_of, ext_evals_of}
use Rattle.blob_rules.specs.declared.blob.BlobCounts.{BlobCounts}
use Rattle.blob_rules.specs.Blob.{Blob, num_base_of, tags, kinds}
use Rattle.device.specs.StepRule.{Slots, slots_after, root_held}
use Rattle.blob_rules.specs.Check.{short_check, legal_rows, slot_count, cleared}
use Rattle.slots.specs.Slots.{slot_words, SlotsEnd}
use Rattle.slots.specs.Trace.{contents}

-- ---- refusals

-- numbers of words
pub record FrameLengths : Type 0 where
  pub bases : ℕ
  pub exts : ℕ
  pub main : ℕ
  pub aux : ℕ
  pub challenges : ℕ
  pub alphas : ℕ

-- how many words of constants, cells and uniforms were lent
abbrev pub frame_lengths : Lent → FrameLengths
frame_lengths l =
    record {
      bases = length l.bases;
      exts = length l.exts;
      main = length l.main;
      aux = length l.aux;
      challenges = length l.challenges;
      alphas = length l.alphas;
    }

-- 1: one of them is too short
unfoldable pub short_frame : BlobCounts → Shape → FrameLengths → Bool
short_frame c s f =
    ltb f.bases c.bases
    || ltb f.exts (3 * c.exts)
    || ltb f.main (s.steps * s.main)
    || ltb f.aux (3 * (s.steps * s.aux))
    || ltb f.challenges (3 * s.challenges)
    || ltb f.alphas (3 * s.alphas)

-- 1: what the check is lent, what the rule reads, or the slot room
unfoldable pub short_walk : BlobCounts → Shape → FrameLengths → (nodes roots marks slots : ℕ) → Bool
short_walk c s f nodes roots marks slots = short_check c nodes roots marks || short_frame c s f || ltb slots (slot_words c)

-- 14: base_evals has fewer words than the smaller of num_base and the root count; or a root is at or past num_base, and ext_evals
-- has fewer than three words a root
unfoldable pub short_evals : BlobCounts → (base ext : ℕ) → Bool
short_evals c base ext = ltb base (min (num_base_of c) c.roots) || (ltb (num_base_of c) c.roots && ltb ext (3 * c.roots))

-- the rows that stand before the check's own
abbrev pub room_rows : BlobCounts → Shape → FrameLengths → (nodes roots marks slots base ext : ℕ) → List Row
room_rows c s f nodes roots marks slots base ext =
    row (over_shape s) 2 ∷ row (short_walk c s f nodes roots marks slots) 1 ∷ row (short_evals c base ext) 14 ∷ []

-- the same of what was lent
abbrev pub memory_rows : Blob → Shape → Lent → (marks slots base ext : ℕ) → List Row
memory_rows b s l marks slots base ext =
    room_rows b.counts s (frame_lengths l) (length b.nodes) (length b.roots) marks slots base ext

-- the walk's refusals in order: 2, 1, 14, 11, 12
abbrev pub walk_rows : Blob → Shape → Lent → (marks slots base ext : ℕ) → List Row
walk_rows b s l marks slots base ext = memory_rows b s l marks slots base ext ++ legal_rows b s

-- ---- what the walk leaves

-- what a slot's word names, or 0 where it names nothing: no root of a blob that passes does
abbrev pub value_or : Option (Value ℕ (List ℕ)) → Value ℕ (List ℕ)
value_or None = Values.base 0
value_or (Some v) = v

-- the slots, or empty ones where the rule stops: for a blob that passes it does not
abbrev pub slots_or : Option (Slots ℕ (List ℕ)) → Slots ℕ (List ℕ)
slots_or None = record { bases = λ k. None; exts = λ k. None }
slots_or (Some m) = m

-- a frame is row 0 of as many rows as it has steps
abbrev pub final_slots : Blob → Shape → Lent → Slots ℕ (List ℕ)
final_slots b s l = slots_or (slots_after goldilocks tags kinds b.counts s (contents s.steps 0 s l) b.nodes b.counts.nodes)

-- the value of each root word
abbrev pub root_values : Blob → Shape → Lent → ℕ → Value ℕ (List ℕ)
root_values b s l w = value_or (root_held (final_slots b s l) w)

-- the promise: what is said; each root's value where it belongs; the check's bytes 0 once 2, 1 and 14 have passed; the slot
-- room as it was after a refusal, and else the final slots
pub record WalkAnswer (b : Blob) (s : Shape) (l : Lent) (r : Result (Unit {0}) Refusal) (base base' ext ext' marks marks' slots slots' : List ℕ) : Type 0 where
  pub said : said_of_outcome r ≡ first (walk_rows b s l (length marks) (length slots) (length base) (length ext)) (gives [])
  pub base_evals : base' ≡ cond (any_holds (walk_rows b s l (length marks) (length slots) (length base) (length ext))) base (base_evals_of (root_values b s l) b.roots (num_base_of b.counts) b.counts.roots base)
  pub ext_evals : ext' ≡ cond (any_holds (walk_rows b s l (length marks) (length slots) (length base) (length ext))) ext (ext_evals_of (root_values b s l) b.roots (num_base_of b.counts) b.counts.roots ext)
  pub marks_end : marks' ≡ cond (any_holds (memory_rows b s l (length marks) (length slots) (length base) (length ext))) marks (cleared (slot_count b.counts) marks)
  pub slots_kept : any_holds (walk_rows b s l (length marks) (length slots) (length base) (length ext)) ≡ true → slots' ≡ slots
  pub slots_end : any_holds (walk_rows b s l (length marks) (length slots) (length base) (length ext)) ≡ false → SlotsEnd b.counts (final_slots b s l) slots slots'
