-- The ring of places, and what a seek comes out with.
-- Assumes nothing.
use Rattle.std.proofs.Common.{◌≡◌, ℕ, zero, suc, ◌+◌, ◌-◌, ◌<◌, ◌≤◌, Bool, true, false, eqb, ltb, ◌⊎◌, List, [], ◌∷◌, length, get_or, set, refl, ap, ◌∙◌, inl, inr, arith, ltb-true, le-ltb, lt-ltb, eq-eqb, ne_eqb, eqb-true}
use mathlib.Core.Logic.{by_cases}
use native.Mathlib.Decide.{dec_lt}
use Rattle.node_table.specs.Table.{next, onward, seek, used}
use Rattle.laws.proofs.Cases.{by_test}
use Rattle.node_table.proofs.Laws.{cond_case}

pub next_low : (k at : ℕ) → at < k → next k at < k
next_low k at h = cond_case (λ r. r < k) (ltb (at + 1) k) (at + 1) 0 (λ q. ltb-true _ _ q) λ q. omega arith

pub walk_within : (k at d : ℕ) → at < k → onward k at d < k
unfolding onward
walk_within k at zero h = h
walk_within k at (suc d) h = walk_within k (next k at) d (next_low k at h)

walk_low : (k at d : ℕ) → at + d < k → onward k at d ≡ at + d
unfolding onward
walk_low k at zero h = omega arith
walk_low k at (suc d) h = rw (lt-ltb (at + 1) k (omega arith)) (walk_low k (at + 1) d (omega arith) ∙ omega arith)

walk_high : (k at d : ℕ) → at < k → k ≤ at + d → at + d < k + k → onward k at d + k ≡ at + d
unfolding onward
walk_high k at zero a h b = absurd (omega arith)
walk_high k at (suc d) a h b =
    by_cases (dec_lt (at + 1) k)
    (λ q. rw (lt-ltb (at + 1) k q) (walk_high k (at + 1) d q (omega arith) (omega arith) ∙ omega arith))
    λ q.
    let z : at + 1 ≡ k = omega arith in
    rw (le-ltb (at + 1) k (omega arith)) (omega (arith, walk_low k 0 d (omega arith)))

-- every place is met
pub meets : (k at q : ℕ) → at < k → q < k → (d : ℕ) × (d < k) × (onward k at d ≡ q)
meets k at q a h =
    by_cases (dec_lt q at)
    (λ n. (q + k - at, omega arith, omega (arith, walk_high k at (q + k - at) a (omega arith) (omega arith))))
    λ n. (q - at, omega arith, walk_low k at (q - at) (omega arith) ∙ omega arith)

module _ (test : ℕ → Bool) (k : ℕ) where
  -- it comes out at the first place that passes
  pub record Stop (left at r : ℕ) : Type 0 where
    pub steps : ℕ
    pub low : steps < left
    pub place : r ≡ onward k at steps
    pub passes : test r ≡ true
    pub before : (e : ℕ) → e < steps → test (onward k at e) ≡ false

  pub record Missed (left at r : ℕ) : Type 0 where
    pub end : r ≡ k
    pub all : (e : ℕ) → e < left → test (onward k at e) ≡ false

  first_then : (at left : ℕ) → test at ≡ false → ((e : ℕ) → e < left → test (onward k (next k at) e) ≡ false) → (e : ℕ) → e < suc left → test (onward k at e) ≡ false
  unfolding onward
  first_then at left q h zero l = q
  first_then at left q h (suc e) l = h e (omega arith)

  later : (left at r : ℕ) → test at ≡ false → Stop left (next k at) r ⊎ Missed left (next k at) r → Stop (suc left) at r ⊎ Missed (suc left) at r
  unfolding onward
  later left at r q (inl s) =
      inl
      (record {
        steps = suc s.steps;
        low = omega (arith, s.low);
        place = s.place;
        passes = s.passes;
        before = first_then at s.steps q s.before;
      })
  later left at r q (inr m) = inr (record { end = m.end; all = first_then at left q m.all })

  pub seek_cases : (left at : ℕ) → Stop left at (seek test k left at) ⊎ Missed left at (seek test k left at)
  unfolding seek onward
  seek_cases zero at = inr (record { end = refl; all = λ e h. absurd (omega arith) })
  seek_cases (suc left) at =
      cond_case (λ r. Stop (suc left) at r ⊎ Missed (suc left) at r) (test at) at (seek test k left (next k at))
      (λ q. inl (record { steps = 0; low = omega arith; place = refl; passes = q; before = λ e h. absurd (omega arith) }))
      λ q. later left at _ q (seek_cases left (next k at))

-- used places
pub used_set : (l : List ℕ) (i v : ℕ) → i < length l → get_or l i 0 ≡ 0 → used (set l i (suc v)) ≡ suc (used l)
unfolding used
used_set [] i v h e = absurd (omega arith)
used_set (x ∷ xs) zero v h e = rw (eq-eqb x 0 e, ne_eqb (suc v) 0 (λ q. omega arith))
used_set (x ∷ xs) (suc i) v h e =
    let r = used_set xs i v (omega arith) e in
    by_test (eqb x 0) _ (λ q. rw q r) λ q. rw q (ap suc r)

pub used_free : (l : List ℕ) → used l < length l → (i : ℕ) × (i < length l) × (get_or l i 0 ≡ 0)
unfolding used
used_free [] = λ h. absurd (omega arith)
used_free (x ∷ xs) =
    cond_case (λ r. r < suc (length xs) → (i : ℕ) × (i < suc (length xs)) × (get_or (x ∷ xs) i 0 ≡ 0)) (eqb x 0) (used xs) (suc (used xs))
    (λ q h. (0, omega arith, eqb-true x 0 q))
    λ q h.
    let r = used_free xs (omega arith) in
    (suc r.0, omega (arith, r.1), r.2)
