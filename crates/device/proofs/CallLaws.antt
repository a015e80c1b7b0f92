-- From the searches to what the check says and leaves.
-- Assumes nothing.
use Rattle.ir.specs.declared.refusal.Refusal.{Refusal}
use mathlib.Core.Bool.{Bool, true, false, not, ◌||◌}
use mathlib.Core.List.{List, []}
use Rattle.std.specs.Prelude.{None, Some, Option, Result, Err}
use mathlib.Core.Path.{◌≡◌, sym, ap, ◌∙◌}
use Prim.Native.Nat.{ℕ, ◌*◌, ◌≤◌}
use lib.Dec.{ltb}
use lib.ListN.{length, get_or, drop}
use borrow.Author.Tests.{ltb-false}
use Rattle.laws.specs.Folds.{lowest}
use Rattle.laws.proofs.Folds.{lowest_same}
use Rattle.laws.proofs.Tests.{or_left, or_right}
use Rattle.ir.specs.declared.frame.Shape.{Shape}
use Rattle.ir.specs.declared.refusal.Refusal.TheVariants.{IllegalBlob, OverLimit, ShortMemory}
use Rattle.ir.specs.Shape.{over_shape}
use Rattle.ir.specs.Refusals.{first, gives, said_of_outcome}
use Rattle.blob_rules.specs.declared.blob.BlobCounts.{BlobCounts}
use Rattle.blob_rules.specs.Blob.{Blob, is_ext, slot_of}
use Rattle.blob_rules.specs.Check.{root_ok, filled_after, illegal, slot_count, short_check, cleared, CheckAnswer}
use Rattle.blob_rules.specs.Marks.{marked, NodesChecked, root_rows, Searched, LegalChecked}
use Rattle.blob_rules.proofs.MarkLaws.{bad_node, alike_filled, cleared_again, cleared_rest}

-- ---- the search

module _ (c : BlobCounts) (s : Shape) (nodes roots old new : List ℕ) {r : Option ℕ} (k : NodesChecked (record { counts = c; nodes = nodes; roots = [] }) s r old new) where
  pub search_stops : {i : ℕ} → r ≡ Some i → Searched (record { counts = c; nodes = nodes; roots = roots }) s (Err (IllegalBlob i)) old new
  unfolding illegal
  search_stops e =
      let h : lowest (bad_node c s nodes) c.nodes ≡ Some _ = sym k.found ∙ e in
      record { said = rw h; rest = k.rest; long = k.long }

  -- the roots by the marks, and by the definition
  roots_same : r ≡ None → lowest (λ q. not (root_ok c (marked c new) (get_or roots q 0))) c.roots ≡ lowest (λ q. not (root_ok c (filled_after nodes c.nodes) (get_or roots q 0))) c.roots
  roots_same e =
      lowest_same (λ q. not (root_ok c (marked c new) (get_or roots q 0))) (λ q. not (root_ok c (filled_after nodes c.nodes) (get_or roots q 0))) c.roots
      λ q l h. ap not (alike_filled c (marked c new) (filled_after nodes c.nodes) (k.filled e) (is_ext (get_or roots q 0)) (slot_of (get_or roots q 0)))

  pub search_roots : {o : Result (Unit {0}) Refusal} → r ≡ None → said_of_outcome o ≡ first (root_rows c (marked c new) roots) (gives []) → Searched (record { counts = c; nodes = nodes; roots = roots }) s o old new
  unfolding illegal
  search_roots e h =
      let z : lowest (bad_node c s nodes) c.nodes ≡ None = sym k.found ∙ e in
      record { said = rw (z, ← roots_same e) h; rest = k.rest; long = k.long }

-- ---- the whole: cleared before and after

pub legal_checked : (b : Blob) (s : Shape) {o : Result (Unit {0}) Refusal} (old start end new : List ℕ) → start ≡ cleared (slot_count b.counts) old → Searched b s o start end → new ≡ cleared (slot_count b.counts) end → LegalChecked b s o old new
legal_checked b s old start end new e k z =
    let n = slot_count b.counts in
    record {
      said = k.said;
      marks_end = z ∙ cleared_again n old end (k.rest ∙ ap (λ (l : List ℕ). drop n l) e ∙ cleared_rest n old);
    }

-- ---- the call

-- what 1 leaves
pub record LongEnough (c : BlobCounts) (nodes roots marks : ℕ) : Type 0 where
  pub nodes_long : 4 * c.nodes ≤ nodes
  pub roots_long : c.roots ≤ roots
  pub marks_long : slot_count c ≤ marks

pub long_enough : (c : BlobCounts) (nodes roots marks : ℕ) → short_check c nodes roots marks ≡ false → LongEnough c nodes roots marks
unfolding short_check
long_enough c nodes roots marks h =
    let x = ltb nodes (4 * c.nodes) in
    let y = ltb roots c.roots in
    let z = ltb marks (slot_count c) in
    record {
      nodes_long = ltb-false nodes (4 * c.nodes) (or_left x y (or_left (x || y) z h));
      roots_long = ltb-false roots c.roots (or_right x y (or_left (x || y) z h));
      marks_long = ltb-false marks (slot_count c) (or_right (x || y) z h);
    }

module _ (b : Blob) (s : Shape) (old : List ℕ) where
  abbrev short : Bool
  short = short_check b.counts (length b.nodes) (length b.roots) (length old)

  pub check_over : over_shape s ≡ true → CheckAnswer b s (Err OverLimit) old old
  check_over e = record { said = rw e; marks_end = rw e }

  pub check_short : over_shape s ≡ false → short ≡ true → CheckAnswer b s (Err ShortMemory) old old
  check_short e z = record { said = rw (e, z); marks_end = rw (e, z) }

  pub check_legal : {o : Result (Unit {0}) Refusal} {new : List ℕ} → over_shape s ≡ false → short ≡ false → LegalChecked b s o old new → CheckAnswer b s o old new
  check_legal e z k = record { said = rw (e, z) k.said; marks_end = rw (e, z) k.marks_end }
