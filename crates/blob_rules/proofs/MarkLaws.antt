-- Laws of the bytes that the check borrows.
-- Assumes nothing.
use mathlib.Core.Bool.{Bool, true, false, cond, not, ◌&&◌}
use mathlib.Core.List.{List, [], ◌∷◌, ◌++◌}
use Rattle.std.specs.Prelude.{Option, None, Some}
use mathlib.Core.Path.{◌≡◌, refl, sym, ap, ap₂, ◌∙◌}
use Prim.Native.Nat.{ℕ, suc, ◌+◌, ◌-◌, ◌<◌, ◌≤◌}
use native.Mathlib.Numerals.{add-one}
use native.Mathlib.Omega.{arith}
use lib.Dec.{eqb, ltb}
use lib.ListN.{length, get_or, set, take, drop, replicate, length-set, length-append, length-drop, length-replicate, get_or-replicate, replicate-append-replicate, get_or-append}
use lib.Seq.{get_or-set_same, get_or-set_other, drop-set-lt, drop-cons, drop_at, set_at, append_snoc}
use Rattle.std.proofs.lemmas.List.{length-take-le}
use borrow.Author.Tests.{eqb-true, eqb-false, ltb-true}
use Rattle.laws.specs.Folds.{lowest}
use Rattle.laws.specs.Maps.{upd}
use Rattle.laws.specs.Options.{at}
use Rattle.laws.proofs.Cases.{by_test}
use Rattle.laws.proofs.Folds.{none_some, lowest_start, lowest_on, lowest_at, lowest_stays}
use Rattle.laws.proofs.Maps.{upd_here, upd_other}
use Rattle.laws.proofs.Tests.{clash, and_right, not_not}
use Rattle.ir.specs.declared.frame.Shape.{Shape}
use Rattle.ir.specs.Words.{main_of}
use Rattle.blob_rules.specs.declared.blob.BlobCounts.{BlobCounts}
use Rattle.blob_rules.specs.Blob.{Instr, instr_at, base_slots_of, ext_slots_of, is_ext, slot_of, kind_of, payload_of, size_of, ext_table, Form, entry, cell, offset, binary, negation, embedding, tags, Kind, base_slot, ext_slot, of, the_offset, kinds}
use Rattle.blob_rules.specs.Check.{Filled, slot_in, slot_of_class, filled_in, mark, filled_after, cell_ok, kind_ok, operand_ok, form_ok, node_ok, slot_count, cleared}
use Rattle.blob_rules.specs.Marks.{marked, Alike, mark_at, NodesChecked}

-- ---- tests look only at slots that there are

module _ (c : BlobCounts) (f g : Filled) (h : Alike c f g) where
  same_and : (k n : ℕ) (a b : Bool) → (k < n → a ≡ b) → (ltb k n && a) ≡ (ltb k n && b)
  same_and k n a b e = by_test (ltb k n) ((ltb k n && a) ≡ (ltb k n && b)) (λ t. ap (λ (z : Bool). ltb k n && z) (e (ltb-true k n t))) (λ t. rw t)

  pub alike_filled : (wide : Bool) (k : ℕ) → filled_in c f wide k ≡ filled_in c g wide k
  alike_filled true k = same_and k (ext_slots_of c) (f.exts k) (g.exts k) (h.exts k)
  alike_filled false k = same_and k (base_slots_of c) (f.bases k) (g.bases k) (h.bases k)

  module _ (tags : List Form) (kinds : List Kind) (s : Shape) where
    alike_kind : (wide : Bool) (o : Option Kind) (k : ℕ) → kind_ok tags kinds c s f wide o k ≡ kind_ok tags kinds c s g wide o k
    alike_kind wide None k = refl
    alike_kind wide (Some base_slot) k = alike_filled false k
    alike_kind wide (Some ext_slot) k = ap (λ (z : Bool). wide && z) (alike_filled true k)
    alike_kind wide (Some (of t)) k = refl
    alike_kind wide (Some the_offset) k = refl

    alike_operand : (wide : Bool) (w : ℕ) → operand_ok tags kinds c s f wide w ≡ operand_ok tags kinds c s g wide w
    unfolding operand_ok
    alike_operand wide w = alike_kind wide (at kinds (kind_of w)) (payload_of w)

    alike_form : (o : Option Form) (w : Instr) → form_ok tags kinds c s f o w ≡ form_ok tags kinds c s g o w
    alike_form None w = refl
    alike_form (Some (entry t)) w = refl
    alike_form (Some cell) w = refl
    alike_form (Some offset) w = refl
    alike_form (Some (binary o)) w = rw (alike_operand (is_ext w.res) w.a, alike_operand (is_ext w.res) w.b)
    alike_form (Some negation) w = rw (alike_operand (is_ext w.res) w.a)
    alike_form (Some embedding) w = rw (alike_operand true w.a)

    pub alike_node : (w : Instr) → node_ok tags kinds c s f w ≡ node_ok tags kinds c s g w
    unfolding node_ok
    alike_node w = alike_form (at tags w.op) w

-- ---- a node that is as it has to be names a slot that there is

module _ (tags : List Form) (kinds : List Kind) (c : BlobCounts) (s : Shape) (f : Filled) where
  form_slot : (o : Option Form) (w : Instr) → form_ok tags kinds c s f o w ≡ true → slot_in c w.res ≡ true
  form_slot None w h = clash h refl
  form_slot (Some (entry t)) w h = and_right (cond (ext_table t) (is_ext w.res) (not (is_ext w.res))) (slot_in c w.res) (and_right (ltb w.a (size_of c s t) && eqb w.b 0) (slot_of_class c (ext_table t) w.res) h)
  form_slot (Some cell) w h = and_right (cond (not (main_of w.b)) (is_ext w.res) (not (is_ext w.res))) (slot_in c w.res) (and_right (cell_ok s w.a w.b) (slot_of_class c (not (main_of w.b)) w.res) h)
  form_slot (Some offset) w h = and_right (is_ext w.res) (slot_in c w.res) (and_right (eqb w.a 0 && eqb w.b 0) (slot_of_class c true w.res) h)
  form_slot (Some (binary o)) w h = and_right (operand_ok tags kinds c s f (is_ext w.res) w.a && operand_ok tags kinds c s f (is_ext w.res) w.b) (slot_in c w.res) h
  form_slot (Some negation) w h = and_right (operand_ok tags kinds c s f (is_ext w.res) w.a && eqb w.b 0) (slot_in c w.res) h
  form_slot (Some embedding) w h = and_right (is_ext w.res) (slot_in c w.res) (and_right (operand_ok tags kinds c s f true w.a && eqb w.b 0) (slot_of_class c true w.res) h)

  pub node_slot : (w : Instr) → node_ok tags kinds c s f w ≡ true → slot_in c w.res ≡ true
  unfolding node_ok
  node_slot w h = form_slot (at tags w.op) w h

-- ---- a mark

module _ (c : BlobCounts) where
  -- its place is among the slots
  pub mark_in : (res : ℕ) → slot_in c res ≡ true → mark_at c res < slot_count c
  mark_in res h =
      by_test (is_ext res) (mark_at c res < slot_count c)
      (λ e. let l = ltb-true (slot_of res) (ext_slots_of c) (rw e at h) in rw e (omega arith))
      λ e. let l = ltb-true (slot_of res) (base_slots_of c) (rw e at h) in rw e (omega arith)

  -- a byte that is set, and the others
  set_here : (l : List ℕ) (i : ℕ) → i < length l → not (eqb (get_or (set l i 1) i 0) 0) ≡ true
  set_here l i h = rw (get_or-set_same l i 1 0 h)

  pub alike_mark : (l : List ℕ) (f : Filled) (res : ℕ) → slot_in c res ≡ true → slot_count c ≤ length l → Alike c (marked c l) f → Alike c (marked c (set l (mark_at c res) 1)) (mark f res)
  alike_mark l f res h long a =
      by_test (is_ext res) (Alike c (marked c (set l (mark_at c res) 1)) (mark f res))
      (λ e.
      let k = slot_of res in
      let b : k < ext_slots_of c = ltb-true k (ext_slots_of c) (rw e at h) in
      rw e
      (record {
        bases = λ j q. ap (λ (x : ℕ). not (eqb x 0)) (get_or-set_other l (base_slots_of c + k) j 1 0 (omega arith)) ∙ a.bases j q;
        exts = λ j q. by_test (eqb j k) (not (eqb (get_or (set l (base_slots_of c + k) 1) (base_slots_of c + j) 0) 0) ≡ upd f.exts k true j)
            (λ t. rw (eqb-true j k t) (set_here l (base_slots_of c + k) (omega arith) ∙ sym (upd_here f.exts k true)))
            (λ t. ap (λ (x : ℕ). not (eqb x 0)) (get_or-set_other l (base_slots_of c + k) (base_slots_of c + j) 1 0 (λ z. eqb-false j k t (omega arith))) ∙ a.exts j q ∙ sym (upd_other f.exts k true j (eqb-false j k t)));
      }))
      λ e.
      let k = slot_of res in
      let b : k < base_slots_of c = ltb-true k (base_slots_of c) (rw e at h) in
      rw e
      (record {
        bases = λ j q. by_test (eqb j k) (not (eqb (get_or (set l k 1) j 0) 0) ≡ upd f.bases k true j)
            (λ t. rw (eqb-true j k t) (set_here l k (omega arith) ∙ sym (upd_here f.bases k true)))
            (λ t. ap (λ (x : ℕ). not (eqb x 0)) (get_or-set_other l k j 1 0 (eqb-false j k t)) ∙ a.bases j q ∙ sym (upd_other f.bases k true j (eqb-false j k t)));
        exts = λ j q. ap (λ (x : ℕ). not (eqb x 0)) (get_or-set_other l k (base_slots_of c + j) 1 0 (omega arith)) ∙ a.exts j q;
      })

  -- cleared bytes mark nothing
  pub alike_cleared : (l : List ℕ) (nodes : List ℕ) → Alike c (marked c (cleared (slot_count c) l)) (filled_after nodes 0)
  unfolding filled_after
  alike_cleared l nodes =
      record {
        bases = λ j q. ap (λ (x : ℕ). not (eqb x 0)) (cleared_word j (omega arith));
        exts = λ j q. ap (λ (x : ℕ). not (eqb x 0)) (cleared_word (base_slots_of c + j) (omega arith));
      }
    where
      cleared_word : (j : ℕ) → j < slot_count c → get_or (cleared (slot_count c) l) j 0 ≡ 0
      cleared_word j q = get_or-append (replicate (slot_count c) 0) (drop (slot_count c) l) 0 j (rw (length-replicate {A = ℕ} (slot_count c) 0) q) ∙ get_or-replicate (slot_count c) j 0 0 q

-- clearing again, where what stands past the slots is the same
pub cleared_again : (n : ℕ) (old new : List ℕ) → drop n new ≡ drop n old → cleared n new ≡ cleared n old
cleared_again n old new e = ap (λ (t : List ℕ). replicate n 0 ++ t) e

pub cleared_rest : (n : ℕ) (l : List ℕ) → drop n (cleared n l) ≡ drop n l
cleared_rest n l = drop_at (replicate n 0) (drop n l) n (length-replicate {A = ℕ} n 0)

-- ---- the search over the nodes

-- node i is at fault
abbrev pub bad_node : BlobCounts → Shape → List ℕ → ℕ → Bool
bad_node c s nodes i = not (node_ok tags kinds c s (filled_after nodes i) (instr_at nodes i))

module _ (c : BlobCounts) (s : Shape) (nodes old : List ℕ) where
  -- none of the first i nodes is, and their slots are marked
  pub record Checking (new : List ℕ) (i : ℕ) : Type 0 where
    pub none_yet : lowest (bad_node c s nodes) i ≡ None
    pub alike : Alike c (marked c new) (filled_after nodes i)
    pub rest : drop (slot_count c) new ≡ drop (slot_count c) old
    pub long : length new ≡ length old

  pub checking_start : Alike c (marked c old) (filled_after nodes 0) → Checking old 0
  checking_start a = record { none_yet = lowest_start (bad_node c s nodes); alike = a; rest = refl; long = refl }

  module _ (new : List ℕ) (i : ℕ) (k : Checking new i) where
    -- what the code tests is what the definition says
    node_tested : {r : Bool} → r ≡ node_ok tags kinds c s (marked c new) (instr_at nodes i) → not r ≡ bad_node c s nodes i
    node_tested e = ap not (e ∙ alike_node c (marked c new) (filled_after nodes i) k.alike tags kinds s (instr_at nodes i))

    pub node_slot_in : {r : Bool} → r ≡ node_ok tags kinds c s (marked c new) (instr_at nodes i) → not r ≡ false → slot_in c (instr_at nodes i).res ≡ true
    node_slot_in {r} e t = node_slot tags kinds c s (marked c new) (instr_at nodes i) (sym e ∙ sym (not_not r) ∙ ap not t)

    pub checking_more : {r : Bool} {after : List ℕ} → slot_count c ≤ length old → r ≡ node_ok tags kinds c s (marked c new) (instr_at nodes i) → not r ≡ false → after ≡ set new (mark_at c (instr_at nodes i).res) 1 → Checking after (i + 1)
    unfolding filled_after
    checking_more {after = after} l e t z =
        let slot = node_slot_in e t in
        let long_new : slot_count c ≤ length new = rw k.long l in
        let place = mark_in c (instr_at nodes i).res slot in
        record {
          none_yet = lowest_on (bad_node c s nodes) i k.none_yet (sym (node_tested e) ∙ t);
          alike = rw (z, add-one i) (alike_mark c new (filled_after nodes i) (instr_at nodes i).res slot long_new k.alike);
          rest = rw z (drop-set-lt (slot_count c) new (mark_at c (instr_at nodes i).res) 1 place ∙ k.rest);
          long = rw z (length-set new (mark_at c (instr_at nodes i).res) 1 ∙ k.long);
        }

    pub checking_stops : {r : Bool} → i < c.nodes → r ≡ node_ok tags kinds c s (marked c new) (instr_at nodes i) → not r ≡ true → NodesChecked (record { counts = c; nodes = nodes; roots = [] }) s (Some i) old new
    checking_stops l e t =
        let z = lowest_stays (bad_node c s nodes) (i + 1) {n = c.nodes} (omega arith) (lowest_at (bad_node c s nodes) i k.none_yet (sym (node_tested e) ∙ t)) in
        record { found = sym z; rest = k.rest; long = k.long; filled = λ q. none_some q refl }

    pub checking_ends : i ≡ c.nodes → NodesChecked (record { counts = c; nodes = nodes; roots = [] }) s None old new
    checking_ends e =
        record {
          found = rw e at (sym k.none_yet);
          rest = k.rest;
          long = k.long;
          filled = λ q. rw e at k.alike;
        }

-- ---- clearing, byte by byte

pub clear_start : (l : List ℕ) → l ≡ cleared 0 l
unfolding replicate
clear_start [] = refl
clear_start (x ∷ xs) = refl

pub clear_more : (l : List ℕ) (i : ℕ) → i < length l → set (cleared i l) i 0 ≡ cleared (i + 1) l
clear_more l i h =
    ap (λ (t : List ℕ). set (replicate i 0 ++ t) i 0) (drop-cons l i 0 h)
    ∙ set_at (replicate i 0) (get_or l i 0) (drop (suc i) l) 0 i (length-replicate {A = ℕ} i 0)
    ∙ sym (append_snoc (replicate i 0) 0 (drop (suc i) l))
    ∙ ap₂ (λ (s t : List ℕ). s ++ t) (replicate-append-replicate {A = ℕ} i 1 0) (ap (λ (k : ℕ). drop k l) (sym (add-one i)))

-- what `fill` leaves of the first n words, with the rest
pub filled_front : (n : ℕ) (l front : List ℕ) → n ≤ length l → front ≡ replicate (length (take n l)) 0 → front ++ drop n l ≡ cleared n l
filled_front n l front h e = rw (e, length-take-le n l h)

pub cleared_long : (n : ℕ) (l : List ℕ) → n ≤ length l → length (cleared n l) ≡ length l
cleared_long n l h =
    length-append (replicate n 0) (drop n l) ∙ ap₂ (λ (a b : ℕ). a + b) (length-replicate {A = ℕ} n 0) (length-drop n l) ∙ back n (length l) h
  where
    back : (a b : ℕ) → a ≤ b → a + (b - a) ≡ b
    back a b h = omega arith
