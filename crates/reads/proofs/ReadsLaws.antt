-- Laws of the columns that a program reads at a later row, and of the map that finds them.
-- Assumes nothing.
use mathlib.Core.Bool.{Bool, true, false, cond, ◌&&◌, ◌||◌, and-false, or-true, or-false}
use mathlib.Core.List.{List, map, map-id}
use Rattle.std.specs.Prelude.{None, Some, Result, Ok, Err, slice_get}
use mathlib.Core.Path.{◌≡◌, refl, sym, ap, ◌∙◌}
use Prim.Native.Nat.{ℕ, ◌+◌, ◌<◌, ◌≤◌}
use native.Mathlib.Omega.{arith}
use lib.Dec.{eqb}
use lib.ListN.{length, get_or, set, take, length-set, replicate, get_or-replicate}
use lib.Seq.{get_or-set_same, get_or-set_other, length-take-le}
use borrow.Author.Tests.{eqb-true, eqb-false, ne_eqb, lt-ltb, le-ltb}
use Rattle.laws.proofs.Cases.{by_test}
use Rattle.laws.proofs.Folds.{none_some, any_none, any_start, any_more, all_same}
use Rattle.laws.specs.Folds.{any_below}
use Rattle.ir.specs.declared.refusal.Refusal.{Refusal}
use Rattle.reads.specs.Marks.{marked_by, Marked, listed_said, Listing}
use Rattle.selection.specs.Places.{passes, places, Listed}
use Rattle.std.proofs.lemmas.List.{get_or-take, length-replicate}
use Rattle.std.proofs.lemmas.Option.{slice_get-get_or}
use Rattle.ir.specs.Program.{Program}
use Rattle.reads.specs.Reads.{var_of, reads_next, column_at, reads_column, columns_read, columns_of, reads_said, ReadsAnswer}
use Rattle.ir.specs.Refusals.{said_of}
use Rattle.ir.specs.Words.{Node, node_at}

pub column_below : (width : ℕ) (w : Node) → column_at width w < width + 65536
unfolding column_at
column_below width w =
    by_test (var_of w).main (column_at width w < width + 65536) (λ t. rw t (omega arith)) λ t. rw t (omega arith)

-- no column is read that the list leaves out: none lies further up than it goes
pub none_past : (nodes : List ℕ) (n width c : ℕ) → width + 65536 ≤ c → any_below (reads_column nodes width c) n ≡ false
unfolding reads_column
none_past nodes n width c h =
    any_none (reads_column nodes width c) n
    λ i l.
    let w = node_at nodes i in
    rw (ne_eqb (column_at width w) c (λ e. omega (arith, column_below width w)), and-false (reads_next w))

-- ---- one node

-- what a search found
found : (b : Bool) (x k : ℕ) → Some k ≡ cond b (Some x) None → (b ≡ true) × (k ≡ x)
found true x k h = (refl, cc)
found false x k h = none_some refl (sym h)

module _ (width : ℕ) (w : Node) where
  pub found_below : (k : ℕ) → Some k ≡ cond (reads_next w) (Some (column_at width w)) None → k < width + 65536
  found_below k h = omega (arith, found (reads_next w) (column_at width w) k h, column_below width w)

  -- what a place says of the nodes so far, b, and then of one more
  place_more : (map : List Bool) (c : ℕ) (b v : Bool) → width + 65536 ≤ length map → get_or map c false ≡ (b || v) → get_or (marked_by width w map) c false ≡ (b || reads_next w && eqb (column_at width w) c || v)
  place_more map c b v l h =
      let k = column_at width w in
      by_test (reads_next w) (get_or (marked_by width w map) c false ≡ (b || reads_next w && eqb k c || v))
      (λ t.
      by_test (eqb k c) (get_or (marked_by width w map) c false ≡ (b || reads_next w && eqb k c || v))
      (λ u. rw (t, u, or-true b) (ap (λ (x : ℕ). get_or (set map k true) x false) (sym (eqb-true k c u)) ∙ get_or-set_same map k true false (omega (arith, column_below width w))))
      λ u. rw (t, u, or-false b) (get_or-set_other map k c true false (λ e. eqb-false k c u (sym e)) ∙ h))
      λ t. rw (t, or-false b) h

  marked_long : (map : List Bool) → length (marked_by width w map) ≡ length map
  marked_long map =
      by_test (reads_next w) (length (marked_by width w map) ≡ length map) (λ t. rw t (length-set map (column_at width w) true)) λ t. rw t

-- ---- all nodes, one after another

pub marked_start : (nodes : List ℕ) (width : ℕ) (old : List Bool) → Marked nodes 0 width old old
marked_start nodes width old =
    record { long = refl; place = λ c. rw (any_start (reads_column nodes width c)) }

pub marked_more : (nodes : List ℕ) (i width : ℕ) (old mid new : List Bool) → width + 65536 ≤ length old → Marked nodes i width old mid → new ≡ marked_by width (node_at nodes i) mid → Marked nodes (i + 1) width old new
unfolding reads_column
marked_more nodes i width old mid new l m e =
    rw e
    (record {
      long = marked_long width (node_at nodes i) mid ∙ m.long;
      place =
          λ c.
          rw (any_more (reads_column nodes width c) i)
          (place_more width (node_at nodes i) mid c (any_below (reads_column nodes width c) i) (get_or old c false) (omega (arith, m.long)) (m.place c));
    })

-- ---- from the marks to the columns

-- a map of k places that were all false before the pass
module _ (nodes : List ℕ) (n width k : ℕ) (fits : width + 65536 ≤ k) {map' : List Bool} (m : Marked nodes n width (replicate k false) map') where
  -- the places that are marked are the columns
  marks_are_columns : map (λ (i : ℕ). i) (places (λ b. b) (take (width + 65536) map')) ≡ columns_read nodes n width
  unfolding columns_read
  marks_are_columns =
      let l = length-take-le (width + 65536) map' (omega (arith, m.long, length-replicate {A = Bool} k false)) in
      let read = λ (c : ℕ). any_below (reads_column nodes width c) n in
      map-id (places (λ b. b) (take (width + 65536) map'))
      ∙ rw l
      (all_same (λ c. passes (λ b. b) (slice_get (take (width + 65536) map') c)) read (width + 65536)
      λ c h.
      ap (passes (λ b. b)) (slice_get-get_or (take (width + 65536) map') c false (omega arith))
      ∙ get_or-take (width + 65536) map' c false h
      ∙ m.place c
      ∙ rw (get_or-replicate {A = Bool} k c false false (omega arith)) (or-false (read c)))

  listing : {old new : List ℕ} (r : Result ℕ Refusal) → Listed (columns_read nodes n width) old new r → Listing (columns_read nodes n width) old new r
  listing (Ok count) p = let t = le-ltb _ _ p.1 in record { said = rw (t, p.0); words = rw t p.2 }
  listing (Err why) p = let t = lt-ltb _ _ p.1 in record { said = rw (t, p.0); words = rw t p.2 }

  pub columns_listed : {old new : List ℕ} {r : Result ℕ Refusal} → Listed (map (λ i. i) (places (λ b. b) (take (width + 65536) map'))) old new r → Listing (columns_read nodes n width) old new r
  columns_listed {r = r} p = listing r (rw marks_are_columns at p)

-- ---- the answer

module _ (p : Program) (width : ℕ) (old : List ℕ) where
  pub answer_refused : (r : Refusal) → eqb (said_of r).number 0 ≡ false → reads_said p width (length old) ≡ said_of r → ReadsAnswer p width old old (Err r)
  answer_refused r z e = record { said = sym e; written = rw (e, z) }

  pub answer_listed : {new : List ℕ} {answer : Result ℕ Refusal} → reads_said p width (length old) ≡ listed_said (columns_of p width) (length old) → Listing (columns_of p width) old new answer → ReadsAnswer p width old new answer
  answer_listed e l = record { said = l.said ∙ sym e; written = rw e l.words }
