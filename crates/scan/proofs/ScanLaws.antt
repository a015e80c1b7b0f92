-- What the scan keeps: who holds which slot, and that each node that is still to be read has one.
-- Assumes nothing.
use mathlib.Core.Bool.{Bool, true, false, cond, not, ◌&&◌}
use mathlib.Core.List.{List, [], ◌∷◌}
use mathlib.Core.Logic.{by_cases}
use mathlib.Core.Path.{◌≡◌, refl, sym, ap, ◌∙◌}
use Prim.Native.Nat.{ℕ, zero, suc, ◌-◌, ◌<◌, ◌≤◌}
use native.Mathlib.Decide.{ℕ_discrete}
use native.Mathlib.Omega.{arith}
use lib.Dec.{eqb}
use lib.ListN.{get_or}
use borrow.Author.Tests.{eqb-true, eqb-false}
use Rattle.laws.specs.Maps.{upd}
use Rattle.laws.proofs.Tests.{clash}
use Rattle.ir.specs.declared.program.Counts.{Counts}
use Rattle.ir.specs.Words.{node_at}
use Rattle.liveness.specs.Liveness.{has, operands, Liveness, Sound}
use Rattle.scan_parts.specs.Scan.{Scan, pick, more, give, give_all, claim, scan}
use Rattle.scan_parts.proofs.UpdLaws.{upd_same, upd_case}
use Rattle.scan.proofs.SlotLaws.{Good, give_good, claim_good, pick_low}

-- ---- tests

pub cond_case : {A : Type 0} (P : A → Type 0) (b : Bool) (x y : A) → (b ≡ true → P x) → (b ≡ false → P y) → P (cond b x y)
cond_case P true x y f g = f refl
cond_case P false x y f g = g refl

pub not_true : (b : Bool) → not b ≡ true → b ≡ false
not_true true e = clash refl (sym e)
not_true false e = refl

more_step : (l : List ℕ) (k : ℕ) → (k ≤ more l k) × (more l k ≤ suc k)
more_step [] k = omega arith
more_step (s ∷ l) k = omega arith

module _ (nodes : List ℕ) (v : Liveness) where
  abbrev cls : ℕ → ℕ
  cls j = (node_at nodes j).dim

  -- ---- slots that are given back

  -- node j gives slot t back
  abbrev pub given : ℕ → ℕ → Scan → Scan
  given j t s =
      record { slot = upd s.slot j 0; free = upd s.free (cls j) (t ∷ s.free (cls j)); next = s.next; out = s.out }

  give_case : (P : Scan → Type 0) (i j : ℕ) (s : Scan)
      → ((t : ℕ) → v.pinned j ≡ false → v.last_use j ≡ i → s.slot j ≡ suc t → P (given j t s)) → P s → P (give nodes v i j s)
  give_case P i j s f h =
      let unpinned = not (v.pinned j) in
      let ends = eqb (v.last_use j) i in
      let holds = not (eqb (s.slot j) 0) in
      cond_case P (unpinned && ends && holds) (given j (s.slot j - 1) s) s
      (λ q. let w = three unpinned ends holds q in
      f (s.slot j - 1) (not_true (v.pinned j) w.0) (eqb-true (v.last_use j) i w.1) (back (eqb-false (s.slot j) 0 (not_true (eqb (s.slot j) 0) w.2))))
      λ q. h
    where
      three : (a b c : Bool) → (a && b && c) ≡ true → (a ≡ true) × (b ≡ true) × (c ≡ true)
      three true true true e = (refl, refl, refl)
      three true true false e = clash refl (sym e)
      three true false c e = clash refl (sym e)
      three false b c e = clash refl (sym e)

      back : {x : ℕ} → (x ≡ 0 → ⊥) → x ≡ suc (x - 1)
      back n = omega arith

  -- what each node that gives its slot back at i keeps, all of them keep
  pub give_all_lem : (P : Scan → Type 0) (i : ℕ)
      → ((j t : ℕ) (s : Scan) → v.pinned j ≡ false → v.last_use j ≡ i → s.slot j ≡ suc t → P s → P (given j t s))
      → (js : List ℕ) (s : Scan) → P s → P (give_all nodes v i js s)
  give_all_lem P i f [] s h = h
  give_all_lem P i f (j ∷ js) s h = give_all_lem P i f js (give nodes v i j s) (give_case P i j s (λ t a b e. f j t s a b e h) h)

  pub given_keeps : (i : ℕ) (js : List ℕ) (s : Scan) → ((give_all nodes v i js s).out ≡ s.out) × ((give_all nodes v i js s).next ≡ s.next)
  given_keeps i js s = give_all_lem (λ x. (x.out ≡ s.out) × (x.next ≡ s.next)) i (λ j t x a b e h. h) js s (refl, refl)

  -- ---- how many slots there are

  -- the state when node i takes its slot
  abbrev pub freed : ℕ → Scan
  freed i = give_all nodes v i (operands (node_at nodes i)) (scan nodes v i)

  abbrev pub taken : ℕ → ℕ
  taken i = pick ((freed i).free (cls i)) ((freed i).next (cls i))

  next_step : (i c : ℕ) → ((scan nodes v i).next c ≤ (scan nodes v (suc i)).next c) × ((scan nodes v (suc i)).next c ≤ suc ((scan nodes v i).next c))
  unfolding scan
  next_step i c =
      let s = scan nodes v i in
      let s' = freed i in
      let d = cls i in
      let e : (x : ℕ) → s'.next x ≡ s.next x = λ x. ap (λ f. f x) (given_keeps i (operands (node_at nodes i)) s).1 in
      cond_case (λ x. (s.next c ≤ x.next c) × (x.next c ≤ suc (s.next c))) (v.emitted i) (claim nodes v i s.slot s') s
      (λ q. upd_case (λ x. (s.next c ≤ x) × (x ≤ suc (s.next c))) s'.next d (more (s'.free d) (s'.next d)) c
      (λ z. omega (arith, e c, ap s'.next z, more_step (s'.free d) (s'.next d)))
      λ z. omega (arith, e c))
      λ q. omega arith

  pub next_mono : (n i c : ℕ) → i ≤ n → (scan nodes v i).next c ≤ (scan nodes v n).next c
  next_mono zero i c h = let e : i ≡ 0 = omega arith in omega (arith, ap (λ x. (scan nodes v x).next c) e)
  next_mono (suc n) i c h =
      let ih = next_mono n i c in
      by_cases (ℕ_discrete i (suc n)) (λ q. omega (arith, ap (λ x. (scan nodes v x).next c) q)) λ q. omega (arith, ih (omega arith), next_step n c)

  pub next_le : (i c : ℕ) → (scan nodes v i).next c ≤ i
  unfolding scan
  next_le zero c = omega arith
  next_le (suc i) c = omega (arith, next_le i c, next_step i c)

  -- ---- who has a slot

  -- in the scan of the first i nodes, each emitted node that is read at k or later, or is pinned, has a slot
  pub record Kept (k i : ℕ) (s : Scan) : Type 0 where
    pub good : Good cls s.slot s.free s.next
    pub lives : (j : ℕ) → j < i → v.emitted j ≡ true → (v.pinned j ≡ false → k ≤ v.last_use j) → (t : ℕ) × (s.slot j ≡ suc t)

  module _ (i : ℕ) where
    given_kept : (j t : ℕ) (s : Scan) → v.pinned j ≡ false → v.last_use j ≡ i → s.slot j ≡ suc t → Kept (suc i) i s → Kept (suc i) i (given j t s)
    given_kept j t s r l e w =
        record {
          good = give_good cls s.slot s.free s.next w.good j t e;
          lives =
              λ a h q f. upd_case (λ x. (u : ℕ) × (x ≡ suc u)) s.slot j 0 a
              (λ b. absurd (omega (arith, f (ap v.pinned b ∙ r), ap v.last_use b)))
              λ n. w.lives a h q f;
        }

    -- past i, a node that was last read at i may go
    pub freed_kept : (s : Scan) → Kept i i s → Kept (suc i) i (give_all nodes v i (operands (node_at nodes i)) s)
    freed_kept s w =
        give_all_lem (Kept (suc i) i) i given_kept (operands (node_at nodes i)) s
        (record { good = w.good; lives = λ j h q f. w.lives j h q (λ r. omega (arith, f r)) })

    claim_kept : (before : ℕ → ℕ) (s : Scan) → Kept (suc i) i s → Kept (suc i) (suc i) (claim nodes v i before s)
    claim_kept before s w =
        record {
          good = claim_good cls s.slot s.free s.next w.good i;
          lives =
              λ j h q f. upd_case (λ x. (u : ℕ) × (x ≡ suc u)) s.slot i (suc (pick (s.free (cls i)) (s.next (cls i)))) j
              (λ b. (pick (s.free (cls i)) (s.next (cls i)), refl)) λ n. w.lives j (omega arith) q f;
        }

    -- a node that is not emitted changes nothing
    skip_kept : (s : Scan) → v.emitted i ≡ false → Kept i i s → Kept (suc i) (suc i) s
    skip_kept s e w =
        record {
          good = w.good;
          lives =
              λ j h q f. by_cases (ℕ_discrete j i) (λ b. clash (ap v.emitted (sym b) ∙ q) e) λ n. w.lives j (omega arith) q (λ r. omega (arith, f r));
        }

  pub scan_kept : (i : ℕ) → Kept i i (scan nodes v i)
  unfolding scan
  scan_kept zero =
      record {
        good = record { one = λ i j s q x y. absurd (omega arith); low = λ j s x. absurd (omega arith); spare = λ c. tt };
        lives = λ j h e r. absurd (omega arith);
      }
  scan_kept (suc i) =
      let s = scan nodes v i in
      let w = scan_kept i in
      cond_case (Kept (suc i) (suc i)) (v.emitted i) (claim nodes v i s.slot (give_all nodes v i (operands (node_at nodes i)) s)) s
      (λ q. claim_kept i s.slot (give_all nodes v i (operands (node_at nodes i)) s) (freed_kept i s w))
      λ q. skip_kept i s q w

  -- the slot that node i takes is one of those that there are then
  pub taken_low : (i : ℕ) → v.emitted i ≡ true → taken i < (scan nodes v (suc i)).next (cls i)
  unfolding scan
  taken_low i e =
      let s' = freed i in
      let g = (freed_kept i (scan nodes v i) (scan_kept i)).good in
      rw (e, upd_same s'.next (cls i) (more (s'.free (cls i)) (s'.next (cls i))) (cls i) refl) (pick_low cls s'.slot s'.free s'.next g (cls i))

  -- ---- operands and roots

  module _ (c : Counts) (roots : List ℕ) (w : Sound c nodes roots v) where
    -- an emitted operand has a slot when its reader is scanned
    pub operand_held : (i j : ℕ) → i < c.nodes → v.emitted i ≡ true → j < i → has j (operands (node_at nodes i)) ≡ true → v.emitted j ≡ true
        → (t : ℕ) × ((scan nodes v i).slot j ≡ suc t)
    operand_held i j h e l o q = (scan_kept i).lives j l q (λ r. w.last_read i j h e o r)

    -- and a root at the end
    pub root_held_lem : (r : ℕ) → r < c.roots → get_or roots r 0 < c.nodes → (t : ℕ) × ((scan nodes v c.nodes).slot (get_or roots r 0) ≡ suc t)
    root_held_lem r h l = (scan_kept c.nodes).lives (get_or roots r 0) l (w.root_emitted r h) (λ z. clash (w.root_pinned r h) z)
