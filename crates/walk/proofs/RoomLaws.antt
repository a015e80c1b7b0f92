-- The slot room, value by value.
-- Assumes nothing.
use mathlib.Core.Bool.{false, not, ◌&&◌}
use mathlib.Core.List.{List, [], ◌∷◌}
use Rattle.std.specs.Prelude.{Option, Some}
use mathlib.Core.Path.{◌≡◌, sym, ap, subst, ◌∙◌}
use Prim.Native.Nat.{ℕ, ◌+◌, ◌<◌, ◌≤◌}
use native.Mathlib.Nat.{add-zero}
use native.Mathlib.Omega.{arith}
use lib.Dec.{eqb, ltb, lit<}
use lib.ListN.{length, get_or, set, take, drop, length-set}
use lib.Seq.{sets, length-sets, get_or-set_same, get_or-set_other, drop-set-lt, get_or-take, get_or-drop}
use borrow.Author.Tests.{eqb-true, eqb-false, ltb-true, ltb-false}
use Rattle.laws.specs.Lists.{tabulate}
use Rattle.laws.specs.Maps.{upd}
use Rattle.laws.proofs.Blocks.{block_before}
use Rattle.laws.proofs.Cases.{by_test}
use Rattle.laws.proofs.Folds.{none_some}
use Rattle.laws.proofs.Maps.{upd_here, upd_other}
use Rattle.laws.proofs.Options.{only_some}
use Rattle.laws.proofs.Parts.{sets_here, sets_before, sets_after}
use Rattle.laws.proofs.Tests.{and_left, and_right}
use Rattle.field.specs.Base.{p, ◌≈◌}
use Rattle.extension.specs.Ext.{limb, Near, Limbs}
use Rattle.field.proofs.Laws.{equal, ◌then◌}
use Rattle.extension.proofs.ExtLaws.{limbs_near, kept_limbs}
use Rattle.values.specs.Values.{Value, base, ext}
use Rattle.values.specs.Room.{ValueIs}
use Rattle.values.proofs.OperationLaws.{base_word}
use Rattle.blob_rules.specs.declared.blob.BlobCounts.{BlobCounts}
use Rattle.blob_rules.specs.Blob.{base_slots_of, ext_slots_of, is_ext, slot_of}
use Rattle.device.specs.StepRule.{Slots, put}
use Rattle.device.proofs.Exact.{not_held}
use Rattle.slots.specs.Slots.{ext_word, slot_words, limbs_at}
use Rattle.slots.specs.Steps.{stored, RoomKept}
use Rattle.std.proofs.lemmas.Option.{same_Some}

-- ---- words in a row

-- one word, as a row of one
word_at : (l : List ℕ) (k : ℕ) → get_or (take 1 (drop k l)) 0 0 ≡ get_or l k 0
word_at l k = get_or-take 1 (drop k l) 0 0 (lit< tt) ∙ get_or-drop k l 0 0 ∙ ap (λ (n : ℕ). get_or l n 0) (add-zero k)

-- words stored elsewhere
module _ (l ws : List ℕ) (i : ℕ) where
  before_word : (k : ℕ) → k < i → get_or (sets l i ws) k 0 ≡ get_or l k 0
  before_word k h = sym (word_at (sets l i ws) k) ∙ ap (λ (t : List ℕ). get_or t 0 0) (sets_before ws l i 1 k (omega arith)) ∙ word_at l k

  before_limbs : (k : ℕ) → k + 3 ≤ i → limbs_at (sets l i ws) k ≡ limbs_at l k
  before_limbs k h = sets_before ws l i 3 k h

  after_limbs : (k : ℕ) → i + length ws ≤ k → limbs_at (sets l i ws) k ≡ limbs_at l k
  after_limbs k h = ap (take 3) (sets_after ws l i k h)

-- an extension slot's words, where another is stored
other_limbs : (c : BlobCounts) (l ws : List ℕ) (j k : ℕ) → length ws ≡ 3 → (j ≡ k → ⊥) → limbs_at (sets l (ext_word c k) ws) (ext_word c j) ≡ limbs_at l (ext_word c j)
other_limbs c l ws j k e n =
    by_test (ltb j k) (limbs_at (sets l (ext_word c k) ws) (ext_word c j) ≡ limbs_at l (ext_word c j))
    (λ t. let q = block_before 3 (ltb-true j k t) in before_limbs l ws (ext_word c k) (ext_word c j) (omega arith))
    λ t. let h = ltb-false j k t in let q = block_before 3 (more h n) in after_limbs l ws (ext_word c k) (ext_word c j) (rw e (omega arith))
  where
    more : {i d : ℕ} → d ≤ i → (i ≡ d → ⊥) → d < i
    more h n = omega arith

-- ---- a value stored

same_some : {A : Type 0} {o : Option A} {x y : A} → o ≡ Some x → o ≡ Some y → x ≡ y
same_some {x = x} {y = y} e f = same_Some x y (sym e ∙ f)

module _ (c : BlobCounts) (m : Slots ℕ (List ℕ)) (old mid : List ℕ) (h : RoomKept c m old mid) (long : slot_words c ≤ length mid) where
  -- a base value in base slot k
  module _ (k x r : ℕ) (in_class : k < base_slots_of c) (value : r ≈ x) (below : r < p) where
    abbrev after₀ : Slots ℕ (List ℕ)
    after₀ = record { bases = upd m.bases k (Some x); exts = m.exts }

    pub base_stored : RoomKept c after₀ old (set mid k r)
    base_stored =
        record {
          holds =
              record {
                bases = λ j y e.
                    by_test (eqb j k) ((j < base_slots_of c) × (get_or (set mid k r) j 0 ≈ y))
                    (λ t. let q = eqb-true j k t in
                    rw (q, get_or-set_same mid k r 0 (omega arith)) (in_class, value then equal (same_some (upd_here m.bases k (Some x)) (rw q at e))))
                    (λ t. let n = eqb-false j k t in let z = h.holds.bases j y (sym (upd_other m.bases k (Some x) j n) ∙ e) in
                    rw (get_or-set_other mid k j r 0 n) z);
                exts = λ j y e. let z = h.holds.exts j y e in rw (after_limbs mid (r ∷ []) k (ext_word c j) (omega arith)) z;
              };
          base_low = λ j y e.
              by_test (eqb j k) (get_or (set mid k r) j 0 < p)
              (λ t. rw (eqb-true j k t, get_or-set_same mid k r 0 (omega arith)) below)
              (λ t. let n = eqb-false j k t in rw (get_or-set_other mid k j r 0 n) (h.base_low j y (sym (upd_other m.bases k (Some x) j n) ∙ e)));
          base_kept = λ j l e.
              by_test (eqb j k) (get_or (set mid k r) j 0 ≡ get_or old j 0)
              (λ t. none_some (rw (eqb-true j k t) at e) (upd_here m.bases k (Some x)))
              (λ t. let n = eqb-false j k t in get_or-set_other mid k j r 0 n ∙ h.base_kept j l (sym (upd_other m.bases k (Some x) j n) ∙ e));
          ext_low = λ j y e i l. rw (after_limbs mid (r ∷ []) k (ext_word c j) (omega arith)) (h.ext_low j y e i l);
          ext_kept = λ j l e. after_limbs mid (r ∷ []) k (ext_word c j) (omega arith) ∙ h.ext_kept j l e;
          rest = drop-set-lt (slot_words c) mid k r (omega arith) ∙ h.rest;
          long = length-set mid k r ∙ h.long;
        }

  -- an extension value in extension slot k
  module _ (k : ℕ) (x ws : List ℕ) (in_class : k < ext_slots_of c) (stands : Limbs 3 x ws) where
    abbrev after₁ : Slots ℕ (List ℕ)
    after₁ = record { bases = m.bases; exts = upd m.exts k (Some x) }

    here : limbs_at (sets mid (ext_word c k) ws) (ext_word c k) ≡ ws
    here = subst (λ (n : ℕ). take n (drop (ext_word c k) (sets mid (ext_word c k) ws)) ≡ ws) stands.long (sets_here mid (ext_word c k) ws (rw stands.long (omega arith)))

    pub ext_stored : RoomKept c after₁ old (sets mid (ext_word c k) ws)
    ext_stored =
        record {
          holds =
              record {
                bases = λ j y e. let z = h.holds.bases j y e in (z.0, rw (before_word mid ws (ext_word c k) j (omega arith)) z.1);
                exts = λ j y e.
                    by_test (eqb j k) ((j < ext_slots_of c) × Near 3 (limbs_at (sets mid (ext_word c k) ws) (ext_word c j)) y)
                    (λ t. let q = eqb-true j k t in
                    rw (q, here) (in_class, rw (← same_some (upd_here m.exts k (Some x)) (rw q at e)) (limbs_near stands)))
                    (λ t. let n = eqb-false j k t in rw (other_limbs c mid ws j k stands.long n) (h.holds.exts j y (sym (upd_other m.exts k (Some x) j n) ∙ e)));
              };
          base_low = λ j y e. let z = h.holds.bases j y e in rw (before_word mid ws (ext_word c k) j (omega arith)) (h.base_low j y e);
          base_kept = λ j l e. before_word mid ws (ext_word c k) j (omega arith) ∙ h.base_kept j l e;
          ext_low = λ j y e i l.
              by_test (eqb j k) (limb (limbs_at (sets mid (ext_word c k) ws) (ext_word c j)) i < p)
              (λ t. rw (eqb-true j k t, here) (stands.limb_is i l).below)
              (λ t. let n = eqb-false j k t in rw (other_limbs c mid ws j k stands.long n) (h.ext_low j y (sym (upd_other m.exts k (Some x) j n) ∙ e) i l));
          ext_kept = λ j l e.
              by_test (eqb j k) (limbs_at (sets mid (ext_word c k) ws) (ext_word c j) ≡ limbs_at old (ext_word c j))
              (λ t. none_some (rw (eqb-true j k t) at e) (upd_here m.exts k (Some x)))
              (λ t. let n = eqb-false j k t in other_limbs c mid ws j k stands.long n ∙ h.ext_kept j l (sym (upd_other m.exts k (Some x) j n) ∙ e));
          rest = sets_after ws mid (ext_word c k) (slot_words c) (rw stands.long (let q = block_before 3 in_class in omega arith)) ∙ h.rest;
          long = length-sets mid (ext_word c k) ws ∙ h.long;
        }

  -- whichever it is
  pub kept_put : (res : ℕ) (v : Value ℕ (List ℕ)) {n : Slots ℕ (List ℕ)} {class : ℕ} {limbs new : List ℕ} → put c m res v ≡ Some n → ValueIs v class limbs → new ≡ stored c res limbs mid → RoomKept c n old new
  kept_put res (base x) {n} {class} {limbs} z is e =
      let t = not (is_ext res) in
      let l = ltb (slot_of res) (base_slots_of c) in
      let q = only_some (t && l) (Some (record { bases = upd m.bases (slot_of res) (Some x); exts = m.exts })) z in
      let w : is_ext res ≡ false = not_held (is_ext res) (and_left t l q.0) in
      let i = is.limbs_are.limb_is 0 (lit< tt) in
      rw (e, w, ← same_Some (record { bases = upd m.bases (slot_of res) (Some x); exts = m.exts }) n q.1)
      (base_stored (slot_of res) x (limb limbs 0) (ltb-true (slot_of res) (base_slots_of c) (and_right t l q.0)) (base_word (limbs_near is.limbs_are)) i.below)
  kept_put res (ext x) {n} {class} {limbs} z is e =
      let t = is_ext res in
      let l = ltb (slot_of res) (ext_slots_of c) in
      let q = only_some (t && l) (Some (record { bases = m.bases; exts = upd m.exts (slot_of res) (Some x) })) z in
      rw (e, and_left t l q.0, ← same_Some (record { bases = m.bases; exts = upd m.exts (slot_of res) (Some x) }) n q.1)
      (ext_stored (slot_of res) x (tabulate 3 (limb limbs)) (ltb-true (slot_of res) (ext_slots_of c) (and_right t l q.0)) (kept_limbs is.limbs_are))

pub stored_long : (c : BlobCounts) (res : ℕ) (limbs room : List ℕ) → length (stored c res limbs room) ≡ length room
stored_long c res limbs room =
    by_test (is_ext res) (length (stored c res limbs room) ≡ length room)
    (λ e. rw e (length-sets room (ext_word c (slot_of res)) (tabulate 3 (limb limbs))))
    λ e. rw e (length-set room (slot_of res) (limb limbs 0))
