-- Tests, and nodes in words.
-- Assumes nothing.
use Rattle.std.proofs.Common.{◌≡◌, ℕ, zero, suc, ◌+◌, ◌*◌, ◌<◌, ◌≤◌, Bool, true, false, cond, ◌&&◌, eqb, ◌≢◌, List, [], ◌∷◌, ◌++◌, length, get_or, set, sym, refl, ap, ◌∙◌, arith, length-append, length-set, get_or-set_other, get_or-set_same, eq-eqb, eqb-true}
use mathlib.Core.Logic.{by_cases}
use native.Mathlib.Decide.{ℕ_discrete}
use Rattle.ir.specs.Words.{Node, node_at}
use Rattle.laws.proofs.Cases.{by_test}
use Rattle.laws.proofs.Tests.{and_left, and_right}
use Rattle.node_table.specs.Words.{put, same, view, lookup}

pub cond_case : {A : Type 0} (P : A → Type 0) (b : Bool) (x y : A) → (b ≡ true → P x) → (b ≡ false → P y) → P (cond b x y)
cond_case P true x y f g = f refl
cond_case P false x y f g = g refl

pub same_eq : (a b : Node) → same a b ≡ true → a ≡ b
unfolding same
same_eq a b e =
    let m = eqb a.x b.x && (eqb a.y b.y && eqb a.dim b.dim) in
    let o = eqb a.y b.y && eqb a.dim b.dim in
    let e₁ = and_right (eqb a.tag b.tag) m e in
    let e₂ = and_right (eqb a.x b.x) o e₁ in
    let t = eqb-true a.tag b.tag (and_left _ m e) in
    let x = eqb-true a.x b.x (and_left _ o e₁) in
    let y = eqb-true a.y b.y (and_left _ (eqb a.dim b.dim) e₂) in
    let d = eqb-true a.dim b.dim (and_right (eqb a.y b.y) _ e₂) in
    λ i. record { tag = t i; x = x i; y = y i; dim = d i }

pub same_refl : (a : Node) → same a a ≡ true
unfolding same
same_refl a = rw (eq-eqb a.tag _ refl, eq-eqb a.x _ refl, eq-eqb a.y _ refl, eq-eqb a.dim _ refl)

pub eq_same : (a b : Node) → a ≡ b → same a b ≡ true
eq_same a b e = rw e (same_refl b)

-- a node written, and the others
module _ (l : List ℕ) (i : ℕ) (w : Node) where
  pub put_length : length (put l i w) ≡ length l
  put_length = simp length-set

  put_low : (j : ℕ) → j < 4 * i → get_or (put l i w) j 0 ≡ get_or l j 0
  put_low j h =
      let l₁ = set l (4 * i) w.tag in
      let l₂ = set l₁ (4 * i + 1) w.x in
      let l₃ = set l₂ (4 * i + 2) w.y in
      get_or-set_other l₃ (4 * i + 3) j w.dim 0 (omega arith) ∙ get_or-set_other l₂ (4 * i + 2) j w.y 0 (omega arith)
      ∙ get_or-set_other l₁ (4 * i + 1) j w.x 0 (omega arith) ∙ get_or-set_other l (4 * i) j w.tag 0 (omega arith)

  pub put_other : (j : ℕ) → j < i → node_at (put l i w) j ≡ node_at l j
  put_other j h =
      rw (put_low (4 * j) (omega arith), put_low (4 * j + 1) (omega arith), put_low (4 * j + 2) (omega arith), put_low (4 * j + 3) (omega arith))

  module _ (fits : 4 * i + 4 ≤ length l) where
    pub put_same : node_at (put l i w) i ≡ w
    put_same =
        let l₁ = set l (4 * i) w.tag in
        let l₂ = set l₁ (4 * i + 1) w.x in
        let l₃ = set l₂ (4 * i + 2) w.y in
        let n₁ = length-set l (4 * i) w.tag in
        let n₂ = length-set l₁ (4 * i + 1) w.x in
        let n₃ = length-set l₂ (4 * i + 2) w.y in
        let d = get_or-set_same l₃ (4 * i + 3) w.dim 0 (omega arith) in
        let y = get_or-set_other l₃ (4 * i + 3) (4 * i + 2) w.dim 0 (omega arith) ∙ get_or-set_same l₂ (4 * i + 2) w.y 0 (omega arith) in
        let x = get_or-set_other l₃ (4 * i + 3) (4 * i + 1) w.dim 0 (omega arith) ∙ get_or-set_other l₂ (4 * i + 2) (4 * i + 1) w.y 0 (omega arith)
        ∙ get_or-set_same l₁ (4 * i + 1) w.x 0 (omega arith) in
        let t = get_or-set_other l₃ (4 * i + 3) (4 * i) w.dim 0 (omega arith) ∙ get_or-set_other l₂ (4 * i + 2) (4 * i) w.y 0 (omega arith)
        ∙ get_or-set_other l₁ (4 * i + 1) (4 * i) w.x 0 (omega arith) ∙ get_or-set_same l (4 * i) w.tag 0 (omega arith) in
        λ k. record { tag = t k; x = x k; y = y k; dim = d k }

-- the list of nodes
pub view_length : (l : List ℕ) (n : ℕ) → length (view l n) ≡ n
unfolding view
view_length l zero = refl
view_length l (suc n) = length-append (view l n) (node_at l n ∷ []) ∙ omega (arith, view_length l n)

pub view_same : (l m : List ℕ) (n : ℕ) → ((i : ℕ) → i < n → node_at l i ≡ node_at m i) → view l n ≡ view m n
unfolding view
view_same l m zero h = refl
view_same l m (suc n) h = rw (view_same l m n (λ i k. h i (omega arith)), h n (omega arith))

-- lookup in a longer list
lookup_in : (w : Node) (xs ys : List Node) → lookup w xs < length xs → lookup w (xs ++ ys) ≡ lookup w xs
unfolding lookup
lookup_in w [] ys = λ h. absurd (omega arith)
lookup_in w (x ∷ xs) ys =
    cond_case (λ r. r < suc (length xs) → lookup w (x ∷ xs ++ ys) ≡ r) (same x w) 0 (suc (lookup w xs))
    (λ q h. rw q) λ q h. rw q (ap suc (lookup_in w xs ys (omega arith)))

lookup_past : (w : Node) (xs ys : List Node) → lookup w xs ≡ length xs → lookup w (xs ++ ys) ≡ length xs + lookup w ys
unfolding lookup
lookup_past w [] ys = λ h. omega arith
lookup_past w (x ∷ xs) ys =
    cond_case (λ r. r ≡ suc (length xs) → lookup w (x ∷ xs ++ ys) ≡ suc (length xs) + lookup w ys) (same x w) 0 (suc (lookup w xs))
    (λ q h. absurd (omega arith)) λ q h. rw q (ap suc (lookup_past w xs ys (omega arith)) ∙ omega arith)

-- node i is w, and no node before it is: the lookup's answer
pub lookup_absent : (w : Node) (l : List ℕ) (n : ℕ) → ((i : ℕ) → i < n → node_at l i ≢ w) → lookup w (view l n) ≡ n
unfolding view lookup
lookup_absent w l zero h = refl
lookup_absent w l (suc n) h =
    let e = lookup_absent w l n (λ i k. h i (omega arith)) in
    let s : same (node_at l n) w ≡ false = by_test (same (node_at l n) w) _ (λ q. absurd (h n (omega arith) (same_eq _ _ q))) λ q. q in
    lookup_past w (view l n) (node_at l n ∷ []) (e ∙ sym (view_length l n)) ∙ rw s (omega (arith, view_length l n))

pub lookup_present : (w : Node) (l : List ℕ) (n i : ℕ) → i < n → node_at l i ≡ w → ((j : ℕ) → j < n → node_at l j ≡ w → j ≡ i) → lookup w (view l n) ≡ i
unfolding view lookup
lookup_present w l zero i h e u = absurd (omega arith)
lookup_present w l (suc n) i h e u =
    by_cases (ℕ_discrete i n)
    (λ q.
    let a = lookup_absent w l n (λ j k p. omega (arith, u j (omega arith) p)) in
    let s : same (node_at l n) w ≡ true = eq_same _ _ (ap (node_at l) (sym q) ∙ e) in
    lookup_past w (view l n) (node_at l n ∷ []) (a ∙ sym (view_length l n)) ∙ rw s (omega (arith, view_length l n)))
    λ q.
    let r = lookup_present w l n i (omega arith) e (λ j k p. u j (omega arith) p) in
    lookup_in w (view l n) (node_at l n ∷ []) (omega (arith, view_length l n)) ∙ r
