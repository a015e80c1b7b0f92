-- From the check and the walk of a row to what the walk promises.
-- Assumes nothing.
use mathlib.Core.Bool.{Bool, true, false, not, ◌&&◌, ◌||◌}
use mathlib.Core.List.{List, [], ◌∷◌, ◌++◌}
use Rattle.std.specs.Prelude.{Option, None, Some, Result, Ok, Err}
use mathlib.Core.Path.{◌≡◌, refl, sym, ap, ◌∙◌}
use Prim.Native.Nat.{ℕ, ◌+◌, ◌*◌, ◌<◌, ◌≤◌, min}
use native.Mathlib.Omega.{arith}
use lib.Dec.{ltb, lit<}
use lib.ListN.{length, get_or, drop, replicate, length-replicate, get_or-replicate, get_or-append}
use borrow.Author.Tests.{ltb-false, lt-ltb}
use Rattle.laws.specs.Folds.{lowest}
use Rattle.laws.proofs.Folds.{or_none_left, or_none_right, lowest_none}
use Rattle.laws.proofs.Blocks.{block_before}
use Rattle.laws.proofs.Cases.{by_three}
use Rattle.laws.proofs.Options.{present}
use Rattle.laws.proofs.Parts.{three_words}
use Rattle.laws.proofs.Tests.{clash, or_left, or_right, not_not}
use Rattle.field.specs.Base.{p, ◌≈◌}
use Rattle.extension.specs.Ext.{limb, Near}
use Rattle.extension.specs.Tower.{goldilocks}
use Rattle.field.proofs.Laws.{equal}
use Rattle.extension.proofs.ExtLaws.{near_refl}
use Rattle.ir.specs.declared.frame.Shape.{Shape}
use Rattle.ir.specs.declared.refusal.Refusal.{Refusal}
use Rattle.ir.specs.Shape.{over_shape}
use Rattle.ir.specs.Refusals.{Row, found, first, any_holds, gives, said_of_outcome}
use Rattle.ir.proofs.ProgramLaws.{within}
use Rattle.ir.proofs.RefusalLaws.{not_found, done_rows, loud_rows, first_loud, first_quiet, first_none}
use Rattle.values.specs.Values.{Value}
use Rattle.values.specs.Frame.{Lent}
use Rattle.evaluation.proofs.RefuseLaws.{any_append}
use Rattle.evaluation.proofs.RefuseLaws.{cells_small}
use Rattle.blob_rules.specs.declared.blob.BlobCounts.{BlobCounts}
use Rattle.blob_rules.specs.Blob.{Blob, num_base_of, base_slots_of, ext_slots_of, tags, kinds, instr_at}
use Rattle.device.specs.StepRule.{Contents, Slots, root_held}
use Rattle.blob_rules.specs.Check.{node_ok, root_ok, filled_after, illegal, ext_root, legal_rows, short_check, cleared}
use Rattle.blob_rules.specs.Marks.{LegalChecked}
use Rattle.device.proofs.Exact.{Through, through, root_stops}
use Rattle.device.proofs.CallLaws.{LongEnough, long_enough}
use Rattle.blob_rules.proofs.MarkLaws.{bad_node, cleared_rest, cleared_long}
use Rattle.slots.specs.Slots.{ext_word, slot_words, limbs_at, held_word, held_limbs, SlotsEnd}
use Rattle.slots.specs.Trace.{contents}
use Rattle.walk.specs.Walk.{FrameLengths, short_frame, short_walk, short_evals, memory_rows, walk_rows, frame_lengths, value_or, final_slots, root_values, WalkAnswer}
use Rattle.slots.specs.Steps.{RootPlace, RoomKept, RowWalked, RootsWritten, RowReady, RowDone, FrameWalked}

-- the pass and the writing together
pub row_done : (b : Blob) (s : Shape) (rows row : ℕ) (l : Lent) (base base' ext ext' slots slots' : List ℕ) → RowWalked b s rows row l b.counts.nodes slots slots' → RootsWritten b b.counts.roots slots' base base' ext ext' → RowDone b s rows row l base base' ext ext' slots slots'
row_done b s rows row l base base' ext ext' slots slots' h k =
    record {
      follows = λ m env e z.
          let r = h.follows m e in
          let q = k.follows m env r.holds z in
          (r, q.0, q.1);
    }

-- ---- what 1 leaves

pub record FrameLong (c : BlobCounts) (s : Shape) (f : FrameLengths) : Type 0 where
  pub bases : c.bases ≤ f.bases
  pub exts : 3 * c.exts ≤ f.exts
  pub main : s.steps * s.main ≤ f.main
  pub aux : 3 * (s.steps * s.aux) ≤ f.aux
  pub challenges : 3 * s.challenges ≤ f.challenges
  pub alphas : 3 * s.alphas ≤ f.alphas

frame_long : (c : BlobCounts) (s : Shape) (f : FrameLengths) → short_frame c s f ≡ false → FrameLong c s f
unfolding short_frame
frame_long c s f h =
    let a = ltb f.bases c.bases in
    let b = ltb f.exts (3 * c.exts) in
    let d = ltb f.main (s.steps * s.main) in
    let e = ltb f.aux (3 * (s.steps * s.aux)) in
    let g = ltb f.challenges (3 * s.challenges) in
    let i = ltb f.alphas (3 * s.alphas) in
    let z = or_left (a || b || d || e || g) i h in
    let y = or_left (a || b || d || e) g z in
    let x = or_left (a || b || d) e y in
    let w = or_left (a || b) d x in
    record {
      bases = ltb-false f.bases c.bases (or_left a b w);
      exts = ltb-false f.exts (3 * c.exts) (or_right a b w);
      main = ltb-false f.main (s.steps * s.main) (or_right (a || b) d x);
      aux = ltb-false f.aux (3 * (s.steps * s.aux)) (or_right (a || b || d) e y);
      challenges = ltb-false f.challenges (3 * s.challenges) (or_right (a || b || d || e) g z);
      alphas = ltb-false f.alphas (3 * s.alphas) (or_right (a || b || d || e || g) i h);
    }

pub record WalkLong (c : BlobCounts) (s : Shape) (f : FrameLengths) (nodes roots marks slots : ℕ) : Type 0 where
  pub check_long : LongEnough c nodes roots marks
  pub frame : FrameLong c s f
  pub slots_long : slot_words c ≤ slots

walk_long : (c : BlobCounts) (s : Shape) (f : FrameLengths) (nodes roots marks slots : ℕ) → short_walk c s f nodes roots marks slots ≡ false → WalkLong c s f nodes roots marks slots
unfolding short_walk
walk_long c s f nodes roots marks slots h =
    let a = short_check c nodes roots marks in
    let b = short_frame c s f in
    let d = ltb slots (slot_words c) in
    record {
      check_long = long_enough c nodes roots marks (or_left a b (or_left (a || b) d h));
      frame = frame_long c s f (or_right a b (or_left (a || b) d h));
      slots_long = ltb-false slots (slot_words c) (or_right (a || b) d h);
    }

-- ---- what the check leaves

passed : {b : Bool} → not b ≡ false → b ≡ true
passed {b} h = sym (not_not b) ∙ ap not h

abbrev bad_root : Blob → ℕ → Bool
bad_root b r = not (root_ok b.counts (filled_after b.nodes b.counts.nodes) (get_or b.roots r 0))

-- nothing is at fault
pub record Legal (b : Blob) (s : Shape) : Type 0 where
  pub nodes_none : lowest (bad_node b.counts s b.nodes) b.counts.nodes ≡ None
  pub roots_none : lowest (bad_root b) b.counts.roots ≡ None
  pub class_none : ext_root b.counts b.roots ≡ None

legal : (b : Blob) (s : Shape) → any_holds (legal_rows b s) ≡ false → Legal b s
unfolding illegal
legal b s h =
    let i = illegal tags kinds b.counts s b.nodes b.roots in
    let x = ext_root b.counts b.roots in
    let e = not_found i (or_left (found i) (found x || false) h) in
    record {
      nodes_none = or_none_left (lowest (bad_node b.counts s b.nodes) b.counts.nodes) (lowest (bad_root b) b.counts.roots) e;
      roots_none = or_none_right (lowest (bad_node b.counts s b.nodes) b.counts.nodes) (lowest (bad_root b) b.counts.roots) e;
      class_none = not_found x (or_left (found x) false (or_right (found i) (found x || false) h));
    }

module _ (b : Blob) (s : Shape) (k : Legal b s) where
  node_ok_lem : (i : ℕ) → i < b.counts.nodes → node_ok tags kinds b.counts s (filled_after b.nodes i) (instr_at b.nodes i) ≡ true
  node_ok_lem i l = passed (lowest_none (bad_node b.counts s b.nodes) b.counts.nodes k.nodes_none i l)

  root_ok_lem : (r : ℕ) → r < b.counts.roots → root_ok b.counts (filled_after b.nodes b.counts.nodes) (get_or b.roots r 0) ≡ true
  root_ok_lem r l = passed (lowest_none (bad_root b) b.counts.roots k.roots_none r l)

  -- the rule gets through all nodes, and every root names a value
  module _ (l : Lent) where
    abbrev u : Contents ℕ (List ℕ)
    u = contents s.steps 0 s l

    all_through : Through goldilocks tags kinds b.counts s u b.nodes b.counts.nodes
    all_through = through goldilocks tags kinds b.counts s u b.nodes b.counts.nodes k.nodes_none

    final_is : final_slots b s l ≡ all_through.slots
    final_is = rw all_through.come

    root_named : (r : ℕ) → r < b.counts.roots → root_held all_through.slots (get_or b.roots r 0) ≡ Some (root_values b s l (get_or b.roots r 0))
    root_named r h =
        let w = get_or b.roots r 0 in
        let q = present (root_held all_through.slots w) (root_stops goldilocks tags kinds b.counts s u all_through.slots (filled_after b.nodes b.counts.nodes) all_through.agrees w ∙ ap not (root_ok_lem r h)) in
        q.1 ∙ ap (λ (v : Value ℕ (List ℕ)). Some v) (sym (ap value_or (ap (λ (m : Slots ℕ (List ℕ)). root_held m w) final_is ∙ q.1)))

-- ---- what the walk of a frame asks

evals_place : (c : BlobCounts) (base ext i : ℕ) → i < c.roots → short_evals c base ext ≡ false → RootPlace i (num_base_of c) base ext
unfolding short_evals
evals_place c base ext i l h =
    let need = min (num_base_of c) c.roots in
    let left = ltb base need in
    let right = ltb (num_base_of c) c.roots && ltb ext (3 * c.roots) in
    let low : need ≤ base = ltb-false base need (or_left left right h) in
    record {
      base_place = λ t. both_below (num_base_of c) c.roots base i t l low;
      ext_place = λ t.
          let g : ltb ext (3 * c.roots) ≡ false = rw (lt-ltb (num_base_of c) c.roots (omega arith)) at (or_right left right h) in
          let z = ltb-false ext (3 * c.roots) g in omega arith;
    }
  where
    both_below : (x y z r : ℕ) → r < x → r < y → min x y ≤ z → r < z
    both_below x y z r a d e = omega arith

module _ (b : Blob) (s : Shape) (l : Lent) (marks slots base ext : ℕ) where
  abbrev rows : List Row
  rows = walk_rows b s l marks slots base ext

  -- no row of the memory holds
  pub record RoomOk : Type 0 where
    pub shape_in : over_shape s ≡ false
    pub long : WalkLong b.counts s (frame_lengths l) (length b.nodes) (length b.roots) marks slots
    pub evals : short_evals b.counts base ext ≡ false

  pub room_ok : any_holds (memory_rows b s l marks slots base ext) ≡ false → RoomOk
  room_ok h =
      let x = over_shape s in
      let y = short_walk b.counts s (frame_lengths l) (length b.nodes) (length b.roots) marks slots in
      let z = short_evals b.counts base ext in
      let q = or_right x (y || (z || false)) h in
      record {
        shape_in = or_left x (y || (z || false)) h;
        long = walk_long b.counts s (frame_lengths l) (length b.nodes) (length b.roots) marks slots (or_left y (z || false) q);
        evals = or_left z false (or_right y (z || false) q);
      }

  pub row_ready : RoomOk → Legal b s → RowReady b s s.steps 0 l base ext slots
  row_ready o k =
      let f = o.long.frame in
      let w = within s o.shape_in in
      record {
        nodes_legal = record { nodes_long = o.long.check_long.nodes_long; node = node_ok_lem b s k };
        lent_long =
            record {
              uniforms = record { bases_long = f.bases; exts_long = f.exts; challenges_long = f.challenges; alphas_long = f.alphas };
              trace =
                  record {
                    row_in = λ h. h;
                    main_few = let q = cells_small w.steps w.main in omega arith;
                    aux_few = let q = cells_small w.steps w.aux in omega arith;
                    main_long = f.main;
                    aux_long = f.aux;
                  };
            };
        roots_ready =
            record {
              roots_long = o.long.check_long.roots_long;
              legal = λ i h. record { filled = filled_after b.nodes b.counts.nodes; ok = root_ok_lem b s k i h };
              place = λ i h. evals_place b.counts base ext i h o.evals;
            };
        slots_long = o.long.slots_long;
      }

-- ---- the slot room at the end

module _ (c : BlobCounts) (m : Slots ℕ (List ℕ)) (old new : List ℕ) (long : slot_words c ≤ length old) (k : RoomKept c m (cleared (slot_words c) old) new) where
  zero_word : (j : ℕ) → j < slot_words c → get_or (cleared (slot_words c) old) j 0 ≡ 0
  zero_word j q = get_or-append (replicate (slot_words c) 0) (drop (slot_words c) old) 0 j (rw (length-replicate {A = ℕ} (slot_words c) 0) q) ∙ get_or-replicate (slot_words c) j 0 0 q

  base_end : (j : ℕ) (o : Option ℕ) → m.bases j ≡ o → j < base_slots_of c → (get_or new j 0 ≈ held_word o) × (get_or new j 0 < p)
  base_end j None e q = let z = k.base_kept j q e ∙ zero_word j (omega arith) in (equal z, rw z (lit< tt))
  base_end j (Some x) e q = ((k.holds.bases j x e).1, k.base_low j x e)

  zero_limbs : (j : ℕ) → j < ext_slots_of c → limbs_at (cleared (slot_words c) old) (ext_word c j) ≡ 0 ∷ 0 ∷ 0 ∷ []
  zero_limbs j q =
      let b = block_before 3 q in
      sym (three_words (cleared (slot_words c) old) (ext_word c j) (rw (cleared_long (slot_words c) old long) (omega arith)))
      ∙ three (zero_word (ext_word c j) (omega arith)) (zero_word (ext_word c j + 1) (omega arith)) (zero_word (ext_word c j + 2) (omega arith))
    where
      three : {x y z : ℕ} → x ≡ 0 → y ≡ 0 → z ≡ 0 → x ∷ y ∷ z ∷ [] ≡ 0 ∷ 0 ∷ 0 ∷ []
      three a b d = rw (a, b, d)

  ext_end : (j : ℕ) (o : Option (List ℕ)) → m.exts j ≡ o → j < ext_slots_of c → Near 3 (limbs_at new (ext_word c j)) (held_limbs o) × ((i : ℕ) → i < 3 → limb (limbs_at new (ext_word c j)) i < p)
  ext_end j None e q =
      let z = k.ext_kept j q e ∙ zero_limbs j q in
      (rw z (near_refl (0 ∷ 0 ∷ 0 ∷ [])), λ i l. rw z (by_three (λ (n : ℕ). limb (0 ∷ 0 ∷ 0 ∷ []) n < p) (lit< tt) (lit< tt) (lit< tt) i l))
  ext_end j (Some x) e q = ((k.holds.exts j x e).1, k.ext_low j x e)

  pub slots_ended : SlotsEnd c m old new
  slots_ended =
      record {
        base_slot = λ j q. (base_end j (m.bases j) refl q).0;
        ext_slot = λ j q. (ext_end j (m.exts j) refl q).0;
        base_low = λ j q. (base_end j (m.bases j) refl q).1;
        ext_low = λ j q. (ext_end j (m.exts j) refl q).1;
        rest = k.rest ∙ cleared_rest (slot_words c) old;
        long = k.long ∙ cleared_long (slot_words c) old long;
      }

-- ---- the promise

module _ (b : Blob) (s : Shape) (l : Lent) (base ext marks slots : List ℕ) where
  abbrev pub before : List Row
  before = memory_rows b s l (length marks) (length slots) (length base) (length ext)

  -- 2, 1 and 14
  pub walk_refused : {o : Result (Unit {0}) Refusal} {why : Refusal} → o ≡ Err why → said_of_outcome o ≡ first before (gives []) → WalkAnswer b s l (Err why) base base ext ext marks marks slots slots
  walk_refused e h =
      let loud = loud_rows before e h in
      let q : any_holds (before ++ legal_rows b s) ≡ true = any_append before (legal_rows b s) ∙ ap (λ (t : Bool). t || any_holds (legal_rows b s)) loud in
      record {
        said = (rw e at h) ∙ sym (first_loud before (legal_rows b s) (gives []) (gives []) loud);
        base_evals = rw q;
        ext_evals = rw q;
        marks_end = rw loud;
        slots_kept = λ z. refl;
        slots_end = λ z. clash q z;
      }

  module _ (quiet : any_holds before ≡ false) where
    rows_are : any_holds (before ++ legal_rows b s) ≡ any_holds (legal_rows b s)
    rows_are = any_append before (legal_rows b s) ∙ ap (λ (t : Bool). t || any_holds (legal_rows b s)) quiet

    -- 11 and 12
    pub walk_illegal : {o : Result (Unit {0}) Refusal} {why : Refusal} {marks' : List ℕ} → o ≡ Err why → LegalChecked b s o marks marks' → WalkAnswer b s l (Err why) base base ext ext marks marks' slots slots
    walk_illegal e h =
        let q = rows_are ∙ loud_rows (legal_rows b s) e h.said in
        record {
          said = (rw e at h.said) ∙ sym (first_quiet before (legal_rows b s) (gives []) quiet);
          base_evals = rw q;
          ext_evals = rw q;
          marks_end = rw quiet h.marks_end;
          slots_kept = λ z. refl;
          slots_end = λ z. clash q z;
        }

    pub legal_done : {o : Result (Unit {0}) Refusal} {marks' : List ℕ} → o ≡ Ok tt → LegalChecked b s o marks marks' → Legal b s
    legal_done e h = legal b s (done_rows (legal_rows b s) refl e h.said)

    pub walk_done : {o : Result (Unit {0}) Refusal} {marks' base' ext' slots' : List ℕ} → o ≡ Ok tt → LegalChecked b s o marks marks' → FrameWalked b s l base base' ext ext' slots slots' → WalkAnswer b s l (Ok tt) base base' ext ext' marks marks' slots slots'
    walk_done {o} {marks'} {base'} {ext'} {slots'} e h w =
        let k = legal_done e h in
        let q = rows_are ∙ done_rows (legal_rows b s) refl e h.said in
        let t = all_through b s k l in
        let d = w.done.follows t.slots (root_values b s l) t.come (root_named b s k l) in
        let o = room_ok b s l (length marks) (length slots) (length base) (length ext) quiet in
        record {
          said = sym (first_none (before ++ legal_rows b s) (gives []) q);
          base_evals = rw q d.1;
          ext_evals = rw q d.2;
          marks_end = rw quiet h.marks_end;
          slots_kept = λ z. clash z q;
          slots_end = λ z. rw (final_is b s k l) (slots_ended b.counts t.slots slots slots' o.long.slots_long d.0);
        }
