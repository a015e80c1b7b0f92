-- Who holds which slot: no two nodes of a class hold the same slot, the free slots are held by nobody and are free once, and all
-- are below the class's count. A node that gives its slot back and one that takes a slot keep this.
-- Assumes nothing.
use Rattle.scan_parts.proofs.UpdLaws.{upd_same, upd_other, upd_case}
use mathlib.Core.List.{List, [], ◌∷◌}
use mathlib.Core.Logic.{◌≢◌, by_cases}
use mathlib.Core.Path.{◌≡◌, refl, sym, ap, subst, ◌∙◌}
use Prim.Native.Nat.{ℕ, suc, ◌<◌, ◌≤◌}
use native.Mathlib.Decide.{ℕ_discrete}
use native.Mathlib.Omega.{arith}
use Rattle.laws.specs.Maps.{upd}
use Rattle.scan_parts.specs.Scan.{pick, left, more}

-- a slot that is still held was held before
pub kept : (f : ℕ → ℕ) (i j t : ℕ) → upd f i 0 j ≡ suc t → f j ≡ suc t
kept f i j t = upd_case (λ x. x ≡ suc t → f j ≡ suc t) f i 0 j (λ q e. absurd (omega arith)) (λ q e. e)

-- ---- slots

-- a slot differs from each of a list
abbrev pub Differ : ℕ → List ℕ → Type 0
Differ s [] = Unit {0}
Differ s (t ∷ l) = (t ≢ s) × Differ s l

module _ (cls : ℕ → ℕ) where
  -- nobody of class c holds slot s
  abbrev pub Unheld : (ℕ → ℕ) → ℕ → ℕ → Type 0
  Unheld slot c s = (j : ℕ) → cls j ≡ c → slot j ≡ suc s → ⊥

  -- the slots of a list are below k, held by nobody of class c, and each stands there once
  abbrev pub Spare : (ℕ → ℕ) → ℕ → ℕ → List ℕ → Type 0
  Spare slot c k [] = Unit {0}
  Spare slot c k (s ∷ l) = (s < k) × Unheld slot c s × Differ s l × Spare slot c k l

  pub record Good (slot : ℕ → ℕ) (free : ℕ → List ℕ) (next : ℕ → ℕ) : Type 0 where
    pub one : (i j s : ℕ) → cls i ≡ cls j → slot i ≡ suc s → slot j ≡ suc s → i ≡ j
    pub low : (j s : ℕ) → slot j ≡ suc s → s < next (cls j)
    pub spare : (c : ℕ) → Spare slot c (next c) (free c)

  -- what is spare stays spare where each slot that nobody held, and that differs from those in question, is held by nobody
  spare_map : (f g : ℕ → ℕ) (c k k' : ℕ) (l : List ℕ) → k ≤ k' → ((s : ℕ) → Unheld f c s → Unheld g c s) → Spare f c k l → Spare g c k' l
  spare_map f g c k k' [] h u x = tt
  spare_map f g c k k' (s ∷ l) h u x = (omega (arith, x.0), u s x.1, x.2, spare_map f g c k k' l h u x.3)

  -- a slot that somebody of the class holds differs from the spare ones
  spare_differ : (f : ℕ → ℕ) (k j s : ℕ) (l : List ℕ) → f j ≡ suc s → Spare f (cls j) k l → Differ s l
  spare_differ f k j s [] e x = tt
  spare_differ f k j s (t ∷ l) e x = (λ q. x.1 j refl (rw q e), spare_differ f k j s l e x.3)

  -- where node i takes slot s: the spare slots that differ from s stay spare, and so do all of another class
  spare_take : (f : ℕ → ℕ) (i s c k : ℕ) (l : List ℕ) → Differ s l → Spare f c k l → Spare (upd f i (suc s)) c k l
  spare_take f i s c k [] d x = tt
  spare_take f i s c k (t ∷ l) d x = (
    x.0,
    λ a q. upd_case (λ (v : ℕ). v ≡ suc t → ⊥) f i (suc s) a (λ e y. d.0 (omega arith)) (λ n. x.1 a q),
    x.2,
    spare_take f i s c k l d.1 x.3,
  )

  module _ (slot : ℕ → ℕ) (free : ℕ → List ℕ) (next : ℕ → ℕ) (g : Good slot free next) where
    pub give_good : (j s : ℕ) → slot j ≡ suc s → Good (upd slot j 0) (upd free (cls j) (s ∷ free (cls j))) next
    give_good j s e =
        let after : (c : ℕ) → Spare (upd slot j 0) c (next c) (free c) =
        λ c. spare_map slot (upd slot j 0) c (next c) (next c) (free c) (omega arith) (λ t u a q x. u a q (kept slot j a t x)) (g.spare c)
        in
        let gone : Unheld (upd slot j 0) (cls j) s =
        λ a q x. omega (arith, upd_same slot j 0 a (g.one a j s q (kept slot j a s x) e))
        in
        record {
          one = λ a b t q x y. g.one a b t q (kept slot j a t x) (kept slot j b t y);
          low = λ a t x. g.low a t (kept slot j a t x);
          spare =
              λ c. upd_case (λ l. Spare (upd slot j 0) c (next c) l) free (cls j) (s ∷ free (cls j)) c
              (λ q. rw q (g.low j s e, gone, spare_differ slot (next (cls j)) j s (free (cls j)) e (g.spare (cls j)), subst (λ z. Spare (upd slot j 0) c (next c) (free z)) q (after c)))
              λ n. after c;
        }

    -- node i takes slot s, which nobody holds, and leaves l free of k slots
    take_good : (i s k : ℕ) (l : List ℕ) → Unheld slot (cls i) s → s < k → next (cls i) ≤ k → Differ s l → Spare slot (cls i) k l
        → Good (upd slot i (suc s)) (upd free (cls i) l) (upd next (cls i) k)
    take_good i s k l u hs hk d x =
        record {
          one =
              λ a b t q. upd_case (λ v. v ≡ suc t → upd slot i (suc s) b ≡ suc t → a ≡ b) slot i (suc s) a
              (λ e y. upd_case (λ v. v ≡ suc t → a ≡ b) slot i (suc s) b (λ e' y'. e ∙ sym e') (λ n y'. absurd (u b (sym q ∙ ap cls e) (y' ∙ sym y))))
              λ n y. upd_case (λ v. v ≡ suc t → a ≡ b) slot i (suc s) b (λ e' y'. absurd (u a (q ∙ ap cls e') (y ∙ sym y'))) (λ n' y'. g.one a b t q y y');
          low =
              λ a t. upd_case (λ v. v ≡ suc t → t < upd next (cls i) k (cls a)) slot i (suc s) a
              (λ e y. omega (arith, upd_same next (cls i) k (cls a) (ap cls e)))
              λ n y. upd_case (λ (m : ℕ). t < m) next (cls i) k (cls a) (λ q. omega (arith, ap next q, g.low a t y)) λ q. g.low a t y;
          spare =
              λ c. by_cases (ℕ_discrete c (cls i))
              (λ q. rw (upd_same next (cls i) k c q, upd_same free (cls i) l c q, q) (spare_take slot i s (cls i) k l d x))
              λ n. rw (upd_other next (cls i) k c n, upd_other free (cls i) l c n)
              (spare_map slot (upd slot i (suc s)) c (next c) (next c) (free c) (omega arith)
              (λ t w a q. upd_case (λ (v : ℕ). v ≡ suc t → ⊥) slot i (suc s) a (λ e y. n (sym q ∙ ap cls e)) (λ o. w a q))
              (g.spare c));
        }

    new_unheld : (c : ℕ) → Unheld slot c (next c)
    new_unheld c a q y = omega (arith, g.low a (next c) y, ap next q)

    pub pick_unheld : (c : ℕ) → Unheld slot c (pick (free c) (next c))
    pick_unheld c = go (free c) (g.spare c)
      where
        go : (l : List ℕ) → Spare slot c (next c) l → Unheld slot c (pick l (next c))
        go [] x = new_unheld c
        go (s ∷ l) x = x.1

    pub pick_low : (c : ℕ) → pick (free c) (next c) < more (free c) (next c)
    pick_low c = go (free c) (g.spare c)
      where
        go : (l : List ℕ) → Spare slot c (next c) l → pick l (next c) < more l (next c)
        go [] x = omega arith
        go (s ∷ l) x = x.0

    pub claim_good : (i : ℕ)
        → Good (upd slot i (suc (pick (free (cls i)) (next (cls i))))) (upd free (cls i) (left (free (cls i)))) (upd next (cls i) (more (free (cls i)) (next (cls i))))
    claim_good i = go (free (cls i)) (g.spare (cls i))
      where
        go : (l : List ℕ) → Spare slot (cls i) (next (cls i)) l
            → Good (upd slot i (suc (pick l (next (cls i))))) (upd free (cls i) (left l)) (upd next (cls i) (more l (next (cls i))))
        go [] x = take_good i (next (cls i)) (suc (next (cls i))) [] (new_unheld (cls i)) (omega arith) (omega arith) tt tt
        go (s ∷ l) x = take_good i s (next (cls i)) l x.1 x.0 (omega arith) x.2 x.3
