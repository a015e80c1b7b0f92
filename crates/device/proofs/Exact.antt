-- The blob check is exact: it finds a fault exactly where the step rule stops, for any tower and whatever constants, cells
-- and uniforms hold.
-- Assumes nothing.
use mathlib.Core.Bool.{Bool, true, false, cond, not, ◌&&◌, ◌||◌}
use mathlib.Core.List.{List}
use Rattle.std.specs.Prelude.{Option, None, Some}
use mathlib.Core.Path.{◌≡◌, refl, sym, ap, ◌∙◌}
use Prim.Native.Nat.{ℕ, zero, suc}
use native.Mathlib.Omega.{arith}
use lib.Dec.{eqb, ltb}
use lib.ListN.{get_or}
use borrow.Author.Tests.{eqb-true, le-ltb}
use Rattle.laws.specs.Folds.{lowest, or_else}
use Rattle.laws.specs.Maps.{upd}
use Rattle.laws.specs.Options.{after, on1, on2, only_if, missing, at}
use Rattle.laws.proofs.Cases.{by_test}
use Rattle.laws.proofs.Folds.{or_none_left, or_none_right, lowest_none, none_lowest, lowest_same}
use Rattle.laws.proofs.Options.{missing_only, present, only_some, after_some, missing_on1, stop_only, stop_twice, stop_on1, stop_on2}
use Rattle.laws.proofs.Tests.{clash, and_left, and_right, or_right}
use Rattle.extension.specs.Tower.{Tower}
use Rattle.ir.specs.declared.frame.Shape.{Shape}
use Rattle.ir.specs.Words.{main_of, offset_of, row_of}
use Rattle.values.specs.Values.{Value, base, ext, to_ext}
use Rattle.blob_rules.specs.declared.blob.BlobCounts.{BlobCounts}
use Rattle.blob_rules.specs.Blob.{Instr, instr_at, base_slots_of, ext_slots_of, num_base_of, is_ext, slot_of, kind_of, payload_of, base_consts, ext_consts, challenges, alphas, size_of, Form, entry, cell, offset, binary, negation, embedding, Kind, base_slot, ext_slot, of, the_offset}
use Rattle.device.specs.StepRule.{Contents, Slots, content_of, held_by, only_base, operand, base_operand, ext_operand, op₀, op₁, value_by, value_of, put, step, slots_after, root_held, root_value, stops_at}
use Rattle.blob_rules.specs.Check.{Filled, slot_in, slot_of_class, filled_in, kind_ok, operand_ok, cell_ok, form_ok, node_ok, mark, filled_after, root_ok, illegal, ext_root}
use Rattle.std.proofs.lemmas.Option.{same_Some}

-- ---- of tests alone

-- a filled slot is one that there is
in_range : (l b : Bool) → (b ≡ true → l ≡ true) → not b ≡ not (l && b)
in_range true b h = refl
in_range false true h = clash (h refl) refl
in_range false false h = refl

-- the bound of a slot, once its class is known
base_bound : (e : Bool) (k n m : ℕ) → (not e && ltb k m) ≡ (not e && ltb k (cond e n m))
base_bound true k n m = refl
base_bound false k n m = refl

ext_bound : (e : Bool) (k n m : ℕ) → (e && ltb k n) ≡ (e && ltb k (cond e n m))
ext_bound true k n m = refl
ext_bound false k n m = refl

pub not_held : (b : Bool) → not b ≡ true → b ≡ false
not_held true h = clash h refl
not_held false h = refl

module _ {B X : Type 0} (K : Tower B X) (tags : List Form) (kinds : List Kind) (c : BlobCounts) (s : Shape) (u : Contents B X) where
  -- the class of a value
  abbrev wide : Value B X → Bool
  wide (base x) = false
  wide (ext x) = true

  -- the slots hold something exactly where they were filled
  pub record Agrees (m : Slots B X) (f : Filled) : Type 0 where
    pub bases_same : (k : ℕ) → missing (m.bases k) ≡ not (f.bases k)
    pub exts_same : (k : ℕ) → missing (m.exts k) ≡ not (f.exts k)
    pub bases_in : (k : ℕ) → f.bases k ≡ true → ltb k (base_slots_of c) ≡ true
    pub exts_in : (k : ℕ) → f.exts k ≡ true → ltb k (ext_slots_of c) ≡ true

  -- ---- operands

  abbrev as_base : Value B X → Option B
  as_base = only_base

  only_base_lem : (o : Option B) → missing (after (on1 base o) as_base) ≡ missing o
  only_base_lem None = refl
  only_base_lem (Some x) = refl

  only_base_if : (t : Bool) (x : B) → missing (after (only_if t (Some (base x))) as_base) ≡ not t
  only_base_if true x = refl
  only_base_if false x = refl

  never_base : (o : Option X) → missing (after (on1 ext o) as_base) ≡ true
  never_base None = refl
  never_base (Some x) = refl

  never_base_if : (t : Bool) (x : X) → missing (after (only_if t (Some (ext x))) as_base) ≡ true
  never_base_if true x = refl
  never_base_if false x = refl

  module _ (m : Slots B X) (f : Filled) (g : Agrees m f) where
    base_held : (k : ℕ) → missing (m.bases k) ≡ not (filled_in c f false k)
    base_held k = g.bases_same k ∙ in_range (ltb k (base_slots_of c)) (f.bases k) (g.bases_in k)

    ext_held : (k : ℕ) → missing (m.exts k) ≡ not (filled_in c f true k)
    ext_held k = g.exts_same k ∙ in_range (ltb k (ext_slots_of c)) (f.exts k) (g.exts_in k)

    base_kind : (o : Option Kind) (k : ℕ) → missing (after (after o (λ q. held_by kinds c s u m q k)) as_base) ≡ not (kind_ok tags kinds c s f false o k)
    base_kind None k = refl
    base_kind (Some base_slot) k = only_base_lem (m.bases k) ∙ base_held k
    base_kind (Some ext_slot) k = never_base (m.exts k)
    base_kind (Some (of base_consts)) k = only_base_if (ltb k c.bases) (u.base_const k)
    base_kind (Some (of ext_consts)) k = never_base_if (ltb k c.exts) (u.ext_const k)
    base_kind (Some (of challenges)) k = never_base_if (ltb k s.challenges) (u.challenge k)
    base_kind (Some (of alphas)) k = never_base_if (ltb k s.alphas) (u.alpha k)
    base_kind (Some the_offset) k = never_base_if (eqb k 0) u.table_offset

    held_kind : (o : Option Kind) (k : ℕ) → missing (after o (λ q. held_by kinds c s u m q k)) ≡ not (kind_ok tags kinds c s f true o k)
    held_kind None k = refl
    held_kind (Some base_slot) k = missing_on1 base (m.bases k) ∙ base_held k
    held_kind (Some ext_slot) k = missing_on1 ext (m.exts k) ∙ ext_held k
    held_kind (Some (of base_consts)) k = missing_only (ltb k (size_of c s base_consts)) (content_of u base_consts k)
    held_kind (Some (of ext_consts)) k = missing_only (ltb k (size_of c s ext_consts)) (content_of u ext_consts k)
    held_kind (Some (of challenges)) k = missing_only (ltb k (size_of c s challenges)) (content_of u challenges k)
    held_kind (Some (of alphas)) k = missing_only (ltb k (size_of c s alphas)) (content_of u alphas k)
    held_kind (Some the_offset) k = missing_only (eqb k 0) (ext u.table_offset)

    base_operand_lem : (w : ℕ) → missing (base_operand kinds c s u m w) ≡ not (operand_ok tags kinds c s f false w)
    unfolding operand_ok base_operand
    base_operand_lem w = base_kind (at kinds (kind_of w)) (payload_of w)

    ext_operand_lem : (w : ℕ) → missing (ext_operand kinds c s u K m w) ≡ not (operand_ok tags kinds c s f true w)
    unfolding operand_ok ext_operand
    ext_operand_lem w = missing_on1 (to_ext K) (operand kinds c s u m w) ∙ held_kind (at kinds (kind_of w)) (payload_of w)

    -- ---- a node

    abbrev into : ℕ → Value B X → Option (Slots B X)
    into res = put c m res

    abbrev fits : Bool → ℕ → Bool
    fits = slot_of_class c

    -- a value finds its slot
    put_stops : (res : ℕ) (v : Value B X) → missing (into res v) ≡ not (fits (wide v) res)
    put_stops res (base x) = missing_only (not (is_ext res) && ltb (slot_of res) (base_slots_of c)) _ ∙ ap not (base_bound (is_ext res) (slot_of res) (ext_slots_of c) (base_slots_of c))
    put_stops res (ext x) = missing_only (is_ext res && ltb (slot_of res) (ext_slots_of c)) _ ∙ ap not (ext_bound (is_ext res) (slot_of res) (ext_slots_of c) (base_slots_of c))

    -- a trace cell, main or aux
    cell_stops : (res : ℕ) (t main l : Bool) (x : B) (y : X) → (a b : Bool) → l ≡ cond main a b
        → missing (after (only_if t (cond main (only_if a (Some (base x))) (only_if b (Some (ext y))))) (into res)) ≡ not (t && l && fits (not main) res)
    cell_stops res true true l x y a b e = rw e (stop_only (into res) (fits false res) a (base x) (put_stops res (base x)))
    cell_stops res true false l x y a b e = rw e (stop_only (into res) (fits true res) b (ext y) (put_stops res (ext y)))
    cell_stops res false main l x y a b e = refl

    form_stops : (o : Option Form) (w : Instr) → missing (after (after o (λ q. value_by K tags kinds c s u m q w)) (into w.res)) ≡ not (form_ok tags kinds c s f o w)
    unfolding cell_ok
    form_stops None w = refl
    form_stops (Some (entry base_consts)) w = stop_twice (into w.res) (fits false w.res) (eqb w.b 0) (ltb w.a c.bases) (base (u.base_const w.a)) (put_stops w.res (base (u.base_const w.a)))
    form_stops (Some (entry ext_consts)) w = stop_twice (into w.res) (fits true w.res) (eqb w.b 0) (ltb w.a c.exts) (ext (u.ext_const w.a)) (put_stops w.res (ext (u.ext_const w.a)))
    form_stops (Some (entry challenges)) w = stop_twice (into w.res) (fits true w.res) (eqb w.b 0) (ltb w.a s.challenges) (ext (u.challenge w.a)) (put_stops w.res (ext (u.challenge w.a)))
    form_stops (Some (entry alphas)) w = stop_twice (into w.res) (fits true w.res) (eqb w.b 0) (ltb w.a s.alphas) (ext (u.alpha w.a)) (put_stops w.res (ext (u.alpha w.a)))
    form_stops (Some cell) w =
        cell_stops w.res (ltb w.a 65536 && ltb w.b 131072 && eqb (row_of w.b) 0 && ltb (offset_of w.b) s.steps) (main_of w.b) _ (u.main (offset_of w.b) w.a) (u.aux (offset_of w.b) w.a)
        (ltb w.a s.main) (ltb w.a s.aux) (one_bound (main_of w.b) w.a s.main s.aux)
      where
        one_bound : (b : Bool) (k i j : ℕ) → ltb k (cond b i j) ≡ cond b (ltb k i) (ltb k j)
        one_bound true k i j = refl
        one_bound false k i j = refl
    form_stops (Some offset) w = stop_only (into w.res) (fits true w.res) (eqb w.a 0 && eqb w.b 0) (ext u.table_offset) (put_stops w.res (ext u.table_offset))
    form_stops (Some (binary o)) w = by_class (is_ext w.res) refl
      where
        by_class : (e : Bool) → is_ext w.res ≡ e
            → missing (after (cond e (on2 (λ x y. ext (op₁ K o x y)) (ext_operand kinds c s u K m w.a) (ext_operand kinds c s u K m w.b)) (on2 (λ x y. base (op₀ K o x y)) (base_operand kinds c s u m w.a) (base_operand kinds c s u m w.b))) (into w.res))
            ≡ not (operand_ok tags kinds c s f e w.a && operand_ok tags kinds c s f e w.b && slot_in c w.res)
        by_class true h =
            stop_on2 (into w.res) (slot_in c w.res) (λ x y. ext (op₁ K o x y)) (operand_ok tags kinds c s f true w.a) (operand_ok tags kinds c s f true w.b) (ext_operand kinds c s u K m w.a) (ext_operand kinds c s u K m w.b)
            (ext_operand_lem w.a) (ext_operand_lem w.b) (λ x y. put_stops w.res (ext (op₁ K o x y)) ∙ ap (λ (e : Bool). not (e && slot_in c w.res)) h)
        by_class false h =
            stop_on2 (into w.res) (slot_in c w.res) (λ x y. base (op₀ K o x y)) (operand_ok tags kinds c s f false w.a) (operand_ok tags kinds c s f false w.b) (base_operand kinds c s u m w.a) (base_operand kinds c s u m w.b)
            (base_operand_lem w.a) (base_operand_lem w.b) (λ x y. put_stops w.res (base (op₀ K o x y)) ∙ ap (λ (e : Bool). not (not e && slot_in c w.res)) h)
    form_stops (Some negation) w = by_class (is_ext w.res) refl
      where
        by_class : (e : Bool) → is_ext w.res ≡ e
            → missing (after (only_if (eqb w.b 0) (cond e (on1 (λ x. ext (K.neg₁ x)) (ext_operand kinds c s u K m w.a)) (on1 (λ x. base (K.neg₀ x)) (base_operand kinds c s u m w.a)))) (into w.res))
            ≡ not (operand_ok tags kinds c s f e w.a && eqb w.b 0 && slot_in c w.res)
        by_class true h =
            stop_on1 (into w.res) (slot_in c w.res) (λ x. ext (K.neg₁ x)) (eqb w.b 0) (operand_ok tags kinds c s f true w.a) (ext_operand kinds c s u K m w.a)
            (ext_operand_lem w.a) (λ x. put_stops w.res (ext (K.neg₁ x)) ∙ ap (λ (e : Bool). not (e && slot_in c w.res)) h)
        by_class false h =
            stop_on1 (into w.res) (slot_in c w.res) (λ x. base (K.neg₀ x)) (eqb w.b 0) (operand_ok tags kinds c s f false w.a) (base_operand kinds c s u m w.a)
            (base_operand_lem w.a) (λ x. put_stops w.res (base (K.neg₀ x)) ∙ ap (λ (e : Bool). not (not e && slot_in c w.res)) h)
    form_stops (Some embedding) w =
        stop_on1 (into w.res) (fits true w.res) ext (eqb w.b 0) (operand_ok tags kinds c s f true w.a) (ext_operand kinds c s u K m w.a) (ext_operand_lem w.a) (λ x. put_stops w.res (ext x))

    -- the rule stops at a node exactly where the check finds fault
    pub step_stops : (w : Instr) → missing (step K tags kinds c s u m w) ≡ not (node_ok tags kinds c s f w)
    unfolding step node_ok
    step_stops w = form_stops (at tags w.op) w

    -- ---- the slots after a node

    -- what a slot holds that was filled, and the others
    filled_slot : {A : Type 0} (h : ℕ → Option A) (b : ℕ → Bool) (r : ℕ) (x : A) → ((k : ℕ) → missing (h k) ≡ not (b k)) → (k : ℕ) → missing (upd h r (Some x) k) ≡ not (upd b r true k)
    unfolding upd
    filled_slot h b r x same k = by_test (eqb k r) (missing (cond (eqb k r) (Some x) (h k)) ≡ not (cond (eqb k r) true (b k))) (λ e. rw e) (λ e. rw e (same k))

    filled_in_lem : (b : ℕ → Bool) (r n : ℕ) → ltb r n ≡ true → ((k : ℕ) → b k ≡ true → ltb k n ≡ true) → (k : ℕ) → upd b r true k ≡ true → ltb k n ≡ true
    unfolding upd
    filled_in_lem b r n l in-bound k h = by_test (eqb k r) (ltb k n ≡ true) (λ e. rw (eqb-true k r e) l) (λ e. in-bound k (rw e at h))

    put_agrees : (res : ℕ) (v : Value B X) (n : Slots B X) → into res v ≡ Some n → Agrees n (mark f res)
    put_agrees res (base x) n h =
        let t = not (is_ext res) in
        let l = ltb (slot_of res) (base_slots_of c) in
        let q = only_some (t && l) (Some (record { bases = upd m.bases (slot_of res) (Some x); exts = m.exts })) h in
        let e : is_ext res ≡ false = not_held (is_ext res) (and_left t l q.0) in
        let z = same_Some (record { bases = upd m.bases (slot_of res) (Some x); exts = m.exts }) n q.1 in
        rw (sym z, e)
        (record {
          bases_same = filled_slot m.bases f.bases (slot_of res) x g.bases_same;
          exts_same = g.exts_same;
          bases_in = filled_in_lem f.bases (slot_of res) (base_slots_of c) (and_right t l q.0) g.bases_in;
          exts_in = g.exts_in;
        })
    put_agrees res (ext x) n h =
        let t = is_ext res in
        let l = ltb (slot_of res) (ext_slots_of c) in
        let q = only_some (t && l) (Some (record { bases = m.bases; exts = upd m.exts (slot_of res) (Some x) })) h in
        let e : is_ext res ≡ true = and_left t l q.0 in
        let z = same_Some (record { bases = m.bases; exts = upd m.exts (slot_of res) (Some x) }) n q.1 in
        rw (sym z, e)
        (record {
          bases_same = g.bases_same;
          exts_same = filled_slot m.exts f.exts (slot_of res) x g.exts_same;
          bases_in = g.bases_in;
          exts_in = filled_in_lem f.exts (slot_of res) (ext_slots_of c) (and_right t l q.0) g.exts_in;
        })

    step_agrees : (w : Instr) (n : Slots B X) → step K tags kinds c s u m w ≡ Some n → Agrees n (mark f w.res)
    unfolding step
    step_agrees w n h =
        let q = after_some (value_of K tags kinds c s u m w) (into w.res) h in
        put_agrees w.res q.0 n q.2

    -- ---- a root

    pub root_stops : (w : ℕ) → missing (root_held m w) ≡ not (root_ok c f w)
    root_stops w =
        by_test (is_ext w) (missing (root_held m w) ≡ not (root_ok c f w))
        (λ e. rw e (missing_on1 ext (m.exts (slot_of w)) ∙ ext_held (slot_of w)))
        λ e. rw e (missing_on1 base (m.bases (slot_of w)) ∙ base_held (slot_of w))

    value_stops : (leading r w : ℕ) → missing (root_value leading m r w) ≡ (ltb r leading && is_ext w || not (root_ok c f w))
    unfolding root_value
    value_stops leading r w = under (ltb r leading && is_ext w) (root_held m w) (root_stops w)
      where
        under : {A : Type 0} (t : Bool) (o : Option A) {z : Bool} → missing o ≡ z → missing (only_if (not t) o) ≡ (t || z)
        under true o h = refl
        under false o h = h

  -- ---- the walk

  -- the rule got through i nodes, and its slots are those that the check counts as filled
  pub record Through (nodes : List ℕ) (i : ℕ) : Type 0 where
    pub slots : Slots B X
    pub come : slots_after K tags kinds c s u nodes i ≡ Some slots
    pub agrees : Agrees slots (filled_after nodes i)

  module _ (nodes : List ℕ) where
    abbrev bad : ℕ → Bool
    bad i = not (node_ok tags kinds c s (filled_after nodes i) (instr_at nodes i))

    abbrev stops : ℕ → Bool
    stops i = missing (slots_after K tags kinds c s u nodes (suc i))

    next_stops : (i : ℕ) → Through nodes i → stops i ≡ bad i
    unfolding slots_after
    next_stops i t = rw t.come (step_stops t.slots (filled_after nodes i) t.agrees (instr_at nodes i))

    through_next : (i : ℕ) → Through nodes i → bad i ≡ false → Through nodes (suc i)
    unfolding slots_after filled_after
    through_next i t h =
        let o = step K tags kinds c s u t.slots (instr_at nodes i) in
        let q = present o (step_stops t.slots (filled_after nodes i) t.agrees (instr_at nodes i) ∙ h) in
        record {
          slots = q.0;
          come = rw t.come q.1;
          agrees = step_agrees t.slots (filled_after nodes i) t.agrees (instr_at nodes i) q.0 q.1;
        }

    pub through : (n : ℕ) → lowest bad n ≡ None → Through nodes n
    unfolding slots_after filled_after lowest
    through zero h =
        record {
          slots = record { bases = λ k. None; exts = λ k. None };
          come = refl;
          agrees = record { bases_same = λ k. refl; exts_same = λ k. refl; bases_in = λ k e. clash e refl; exts_in = λ k e. clash e refl };
        }
    through (suc n) h =
        let a = or_none_left (lowest bad n) (cond (bad n) (Some n) None) h in
        through_next n (through n a) (lowest_none bad (suc n) h n (omega arith))

    pub nodes_exact : (n : ℕ) → lowest stops n ≡ lowest bad n
    nodes_exact n = lowest_same stops bad n (λ i l h. next_stops i (through i h))

    module _ (roots : List ℕ) where
      abbrev bad_root : ℕ → Bool
      bad_root r = not (root_ok c (filled_after nodes c.nodes) (get_or roots r 0))

      abbrev wrong_class : ℕ → ℕ → Bool
      wrong_class leading r = ltb r leading && is_ext (get_or roots r 0)

      abbrev stops_root : ℕ → ℕ → Bool
      stops_root leading r = missing (after (slots_after K tags kinds c s u nodes c.nodes) λ m. root_value leading m r (get_or roots r 0))

      roots_exact : (leading : ℕ) → Through nodes c.nodes → (r : ℕ) → stops_root leading r ≡ (wrong_class leading r || bad_root r)
      roots_exact leading t r = rw t.come (value_stops t.slots (filled_after nodes c.nodes) t.agrees leading r (get_or roots r 0))

      -- 11 exactly where the rule stops with num_base taken as 0, at its place
      pub exact_11 : stops_at K tags kinds c s u 0 nodes roots ≡ illegal tags kinds c s nodes roots
      unfolding stops_at illegal
      exact_11 = rw (nodes_exact c.nodes) (by_nodes (lowest bad c.nodes) refl)
        where
          by_nodes : (o : Option ℕ) → lowest bad c.nodes ≡ o → or_else o (lowest (stops_root 0) c.roots) ≡ or_else o (lowest bad_root c.roots)
          by_nodes (Some i) e = refl
          by_nodes None e = lowest_same (stops_root 0) bad_root c.roots (λ r l h. roots_exact 0 (through c.nodes e) r ∙ ap (λ (t : Bool). t && is_ext (get_or roots r 0) || bad_root r) (le-ltb r 0 (omega arith)))

      -- 12 exactly where that passes and the rule stops, at its place
      pub exact_12 : illegal tags kinds c s nodes roots ≡ None → stops_at K tags kinds c s u (num_base_of c) nodes roots ≡ ext_root c roots
      unfolding stops_at illegal ext_root
      exact_12 h =
          let a = or_none_left (lowest bad c.nodes) (lowest bad_root c.roots) h in
          let b = or_none_right (lowest bad c.nodes) (lowest bad_root c.roots) h in
          rw (nodes_exact c.nodes, a)
          (lowest_same (stops_root (num_base_of c)) (wrong_class (num_base_of c)) c.roots
          (λ r l z. roots_exact (num_base_of c) (through c.nodes a) r ∙ ap (λ (t : Bool). wrong_class (num_base_of c) r || t) (lowest_none bad_root c.roots b r l) ∙ or_false (wrong_class (num_base_of c) r)))
        where
          or_false : (t : Bool) → (t || false) ≡ t
          or_false true = refl
          or_false false = refl

      -- the check passes where the rule gets through all nodes and all roots
      pub passes_through : stops_at K tags kinds c s u (num_base_of c) nodes roots ≡ None → (illegal tags kinds c s nodes roots ≡ None) × (ext_root c roots ≡ None)
      unfolding stops_at illegal
      passes_through h =
          let stopped = lowest stops c.nodes in
          let after_nodes = lowest (stops_root (num_base_of c)) c.roots in
          let a = sym (nodes_exact c.nodes) ∙ or_none_left stopped after_nodes h in
          let r = lowest_none (stops_root (num_base_of c)) c.roots (or_none_right stopped after_nodes h) in
          let t = through c.nodes a in
          let b = none_lowest bad_root c.roots (λ k l. or_right (wrong_class (num_base_of c) k) (bad_root k) (sym (roots_exact (num_base_of c) t k) ∙ r k l)) in
          let q : illegal tags kinds c s nodes roots ≡ None = rw (a, b) in
          (q, sym (exact_12 q) ∙ h)
