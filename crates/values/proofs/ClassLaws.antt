-- For the prover a value's class is its node's dim: refusals 12 can go by dims, before anything is written. For the
-- verifier, whose main cells are extension values, it is the dim or more.
-- Assumes nothing.
use mathlib.Core.Bool.{Bool, true, false, cond, ◌&&◌}
use mathlib.Core.List.{List}
use mathlib.Core.Path.{◌≡◌, refl, sym, subst}
use Prim.Native.Nat.{ℕ, zero, suc, ◌/◌, ◌%◌, ◌<◌, ◌≤◌}
use native.Mathlib.Omega.{arith}
use lib.Dec.{eqb, ltb}
use borrow.Author.Tests.{eqb-true, eqb-false, ltb-true, ltb-false, eq-eqb, ne_eqb}
use Rattle.laws.proofs.Cases.{by_test}
use Rattle.extension.specs.Tower.{Tower, goldilocks}
use Rattle.ir.specs.declared.program.Counts.{Counts}
use Rattle.ir.specs.declared.frame.Shape.{Shape}
use Rattle.ir.specs.Words.{node_at, main_of, offset_of}
use Rattle.ir.specs.Program.{joined}
use Rattle.ir.specs.WellFormed.{NodeFacts, WellFormed}
use Rattle.values.specs.Values.{Value, base, ext, class_of, Leaves, binop, unop, leaf_value, operation_value, node_value, values}
use Rattle.values.specs.Frame.{Lent, leaves, prover_strides, row_strides}
use Rattle.values.proofs.RunLaws.{value_stays, value_computed}

module _ {B X : Type 0} (K : Tower B X) where
  binop_class : (f : B → B → B) (g : X → X → X) (v w : Value B X) → class_of (binop K f g v w) ≡ joined (class_of v) (class_of w)
  binop_class f g (base a) (base b) = refl
  binop_class f g (base a) (ext y) = refl
  binop_class f g (ext x) (base b) = refl
  binop_class f g (ext x) (ext y) = refl

  unop_class : (f : B → B) (g : X → X) (v : Value B X) → class_of (unop K f g v) ≡ class_of v
  unop_class f g (base a) = refl
  unop_class f g (ext x) = refl

-- the main mark is bit 16, and no bit is above it
mark_below : (y : ℕ) → y < 131072 → main_of y ≡ cond (ltb y 65536) false true
mark_below y h =
    by_test (ltb y 65536) (main_of y ≡ cond (ltb y 65536) false true)
    (λ t. let q = ltb-true y 65536 t in rw (t, eq-eqb (y / 65536 % 2) 0 (omega arith)))
    λ t. let q = ltb-false y 65536 t in rw (t, ne_eqb (y / 65536 % 2) 0 (λ e. omega arith))

-- a relation of class to dim that main cells meet, and that joining keeps, holds of every node
module _ {B X : Type 0} (K : Tower B X) (u : Leaves B X) (R : ℕ → ℕ → Type 0) (same : (k : ℕ) → R k k) (main : (step col : ℕ) → R (class_of (u.main step col)) 0) (joins : (a b a' b' : ℕ) → R a a' → R b b' → R (joined a b) (joined a' b')) where
  at_dim : {d a : ℕ} → d ≡ a → R a d
  at_dim {d} {a} e = subst (R a) (sym e) (same a)

  leaf_class : (c : Counts) (nodes : List ℕ) (i tag x y d : ℕ) → NodeFacts c nodes i (record { tag = tag; x = x; y = y; dim = d }) → tag < 6 → R (class_of (leaf_value K u tag x y)) d
  unfolding leaf_value
  leaf_class c nodes i tag x y d n h =
      by_test (eqb tag 0) (R (class_of (leaf_value K u tag x y)) d)
      (λ t. let e = eqb-true tag 0 t in rw e (at_dim (n.base_const e).2))
      λ t₀. by_test (eqb tag 1) (R (class_of (leaf_value K u tag x y)) d)
      (λ t. let e = eqb-true tag 1 t in rw e (at_dim (n.ext_const e).2))
      λ t₁. by_test (eqb tag 2) (R (class_of (leaf_value K u tag x y)) d)
      (λ t. let e = eqb-true tag 2 t in let q = n.cell e in rw (e, mark_below y q.1, q.3) (cell_class (ltb y 65536) (offset_of y) x))
      λ t₂. by_test (eqb tag 5) (R (class_of (leaf_value K u tag x y)) d)
      (λ t. let e = eqb-true tag 5 t in rw e (at_dim (n.table_offset e).2))
      λ t₅.
      let q = n.uniform (past_two (eqb-false tag 0 t₀) (eqb-false tag 1 t₁) (eqb-false tag 2 t₂)) (omega (arith, eqb-false tag 5 t₅)) in
      by_test (eqb tag 3) (R (class_of (leaf_value K u tag x y)) d)
      (λ t. let e = eqb-true tag 3 t in rw e (at_dim q.2))
      λ t₃. by_test (eqb tag 4) (R (class_of (leaf_value K u tag x y)) d)
      (λ t. let e = eqb-true tag 4 t in rw e (at_dim q.2))
      λ t₄. rw (t₀, t₁, t₂, t₃, t₄) (at_dim q.2)
    where
      past_two : {t : ℕ} → (t ≡ 0 → ⊥) → (t ≡ 1 → ⊥) → (t ≡ 2 → ⊥) → 3 ≤ t
      past_two a b d = omega arith

      cell_class : (t : Bool) (step col : ℕ) → R (class_of (cond (cond t false true) (u.main step col) (ext (u.aux step col)))) (cond t 1 0)
      cell_class true step col = same 1
      cell_class false step col = main step col

  operation_class : (c : Counts) (nodes : List ℕ) (i tag x y d : ℕ) (env : ℕ → Value B X) → NodeFacts c nodes i (record { tag = tag; x = x; y = y; dim = d }) → 6 ≤ tag → ((j : ℕ) → j < i → R (class_of (env j)) (node_at nodes j).dim) → R (class_of (operation_value K env tag x y)) d
  unfolding operation_value
  operation_class c nodes i tag x y d env n h ih =
      by_test (eqb tag 6) (R (class_of (operation_value K env tag x y)) d)
      (λ t. let e = eqb-true tag 6 t in rw e (joint K.add₀ K.add₁ (n.binary h (omega arith))))
      λ t₆. by_test (eqb tag 7) (R (class_of (operation_value K env tag x y)) d)
      (λ t. let e = eqb-true tag 7 t in rw e (joint K.sub₀ K.sub₁ (n.binary h (omega arith))))
      λ t₇. by_test (eqb tag 8) (R (class_of (operation_value K env tag x y)) d)
      (λ t. let e = eqb-true tag 8 t in rw e (joint K.mul₀ K.mul₁ (n.binary h (omega arith))))
      λ t₈. by_test (eqb tag 9) (R (class_of (operation_value K env tag x y)) d)
      (λ t. let e = eqb-true tag 9 t in let q = n.negation e in rw (e, unop_class K K.neg₀ K.neg₁ (env x), q.2) (ih x q.0))
      λ t₉.
      let e : tag ≡ 10 = ten h n.known (eqb-false tag 6 t₆) (eqb-false tag 7 t₇) (eqb-false tag 8 t₈) (eqb-false tag 9 t₉) in
      rw e (at_dim (n.embedding e).2)
    where
      ten : {t : ℕ} → 6 ≤ t → t ≤ 10 → (t ≡ 6 → ⊥) → (t ≡ 7 → ⊥) → (t ≡ 8 → ⊥) → (t ≡ 9 → ⊥) → t ≡ 10
      ten a b p q r s = omega arith

      joint : (f : B → B → B) (g : X → X → X) → (x < i) × (y < i) × (d ≡ joined (node_at nodes x).dim (node_at nodes y).dim) → R (class_of (binop K f g (env x) (env y))) d
      joint f g q =
          rw (binop_class K f g (env x) (env y), q.2)
          (joins (class_of (env x)) (class_of (env y)) (node_at nodes x).dim (node_at nodes y).dim (ih x q.0) (ih y q.1))

  class_by_dim : (c : Counts) (nodes roots : List ℕ) → WellFormed c nodes roots → (k : ℕ) → k ≤ c.nodes → (j : ℕ) → j < k → R (class_of (values K u nodes k j)) (node_at nodes j).dim
  unfolding node_value
  class_by_dim c nodes roots w zero l j h = absurd (omega arith)
  class_by_dim c nodes roots w (suc k) l j h =
      let ih = class_by_dim c nodes roots w k (omega arith) in
      by_test (eqb j k) (R (class_of (values K u nodes (suc k) j)) (node_at nodes j).dim)
      (λ t. let e = eqb-true j k t in rw (e, value_computed K u nodes k) (here k (omega arith) ih))
      λ t. let m : j < k = less h (eqb-false j k t) in
      rw (value_stays K u nodes j (suc k) h, ← value_stays K u nodes j k m) (ih j m)
    where
      less : {a b : ℕ} → a < suc b → (a ≡ b → ⊥) → a < b
      less p q = omega arith

      here : (k : ℕ) → k < c.nodes → ((j : ℕ) → j < k → R (class_of (values K u nodes k j)) (node_at nodes j).dim) → R (class_of (node_value K u (values K u nodes k) (node_at nodes k).tag (node_at nodes k).x (node_at nodes k).y)) (node_at nodes k).dim
      here k m ih =
          by_test (ltb (node_at nodes k).tag 6) (R (class_of (node_value K u (values K u nodes k) (node_at nodes k).tag (node_at nodes k).x (node_at nodes k).y)) (node_at nodes k).dim)
          (λ t. rw t (leaf_class c nodes k (node_at nodes k).tag (node_at nodes k).x (node_at nodes k).y (node_at nodes k).dim (w.node k m) (ltb-true _ _ t)))
          λ t. rw t (operation_class c nodes k (node_at nodes k).tag (node_at nodes k).x (node_at nodes k).y (node_at nodes k).dim (values K u nodes k) (w.node k m) (ltb-false _ _ t) ih)

-- ---- main cells are base: the class of each value is the node's dim

pub class_is_dim : {B X : Type 0} (K : Tower B X) (u : Leaves B X) → ((step col : ℕ) → class_of (u.main step col) ≡ 0) → (c : Counts) (nodes roots : List ℕ) → WellFormed c nodes roots → (k : ℕ) → k ≤ c.nodes → (j : ℕ) → j < k → class_of (values K u nodes k j) ≡ (node_at nodes j).dim
class_is_dim K u prover = class_by_dim K u (λ a d. a ≡ d) (λ k. refl) prover λ a b a' b' e f. rw (e, f)

-- the plain evaluator, and one row
pub prover_class_is_dim : (s : Shape) (l : Lent) (c : Counts) (nodes roots : List ℕ) → WellFormed c nodes roots → (j : ℕ) → j < c.nodes → class_of (values goldilocks (leaves (prover_strides s) l) nodes c.nodes j) ≡ (node_at nodes j).dim
prover_class_is_dim s l c nodes roots w = class_is_dim goldilocks (leaves (prover_strides s) l) (λ step col. refl) c nodes roots w c.nodes (omega arith)

pub row_class_is_dim : (l : Lent) (c : Counts) (nodes roots : List ℕ) → WellFormed c nodes roots → (j : ℕ) → j < c.nodes → class_of (values goldilocks (leaves row_strides l) nodes c.nodes j) ≡ (node_at nodes j).dim
row_class_is_dim l c nodes roots w = class_is_dim goldilocks (leaves row_strides l) (λ step col. refl) c nodes roots w c.nodes (omega arith)

-- ---- any leaves, the verifier's too: no class is below the dim, so a node of dim 1 has class 1

joined_keeps : (a b a' b' : ℕ) → a' ≤ a → b' ≤ b → joined a' b' ≤ joined a b
joined_keeps a b a' b' f g =
    by_test (eqb a 0) (joined a' b' ≤ joined a b)
    (λ t. by_test (eqb b 0) (joined a' b' ≤ joined a b)
    (λ r. let p = eqb-true a 0 t in let q = eqb-true b 0 r in rw (t, r, eq-eqb a' 0 (omega arith), eq-eqb b' 0 (omega arith)) (omega arith))
    λ r. rw (t, r) (at_most_one (eqb a' 0 && eqb b' 0)))
    λ t. rw t (at_most_one (eqb a' 0 && eqb b' 0))
  where
    at_most_one : (t : Bool) → cond t 0 1 ≤ 1
    at_most_one true = omega arith
    at_most_one false = omega arith

pub dim_is_class : {B X : Type 0} (K : Tower B X) (u : Leaves B X) (c : Counts) (nodes roots : List ℕ) → WellFormed c nodes roots → (k : ℕ) → k ≤ c.nodes → (j : ℕ) → j < k → (node_at nodes j).dim ≡ 1 → class_of (values K u nodes k j) ≡ 1
dim_is_class K u c nodes roots w k l j h e =
    one (values K u nodes k j) (rw e at (class_by_dim K u (λ a d. d ≤ a) (λ a. omega arith) (λ step col. omega arith) joined_keeps c nodes roots w k l j h))
  where
    one : {B X : Type 0} (v : Value B X) → 1 ≤ class_of v → class_of v ≡ 1
    one (base b) m = absurd (omega arith)
    one (ext x) m = refl
