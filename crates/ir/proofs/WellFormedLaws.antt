-- The program check's test and the facts that it stands for, both ways round.
-- Assumes nothing.
use mathlib.Core.Bool.{Bool, true, cond, not, ◌&&◌}
use mathlib.Core.List.{List}
use Rattle.std.specs.Prelude.{None}
use mathlib.Core.Path.{◌≡◌}
use Prim.Native.Nat.{ℕ, ◌%◌, ◌<◌, ◌≤◌}
use native.Mathlib.Omega.{arith}
use lib.Dec.{eqb, ltb, leb}
use lib.ListN.{get_or}
use borrow.Author.Tests.{ltb-true, ltb-false, leb-false, eqb-true, eqb-false, lt-ltb, lt-leb, eq-eqb, ne_eqb, not-false}
use Rattle.laws.specs.Folds.{lowest}
use Rattle.laws.proofs.Cases.{by_test}
use Rattle.laws.proofs.Folds.{lowest_none, none_lowest, or_none_left, or_none_right}
use Rattle.laws.proofs.Tests.{and_left, and_right}
use Rattle.ir.specs.declared.program.Counts.{Counts}
use Rattle.ir.specs.Words.{Node, node_at, neg, embed}
use Rattle.ir.specs.Program.{var_ok, leaf_ok, operation_ok, node_ok, ill_formed, joined}
use Rattle.ir.specs.WellFormed.{NodeFacts, WellFormed}

-- three tests of a node's words that all hold
three_of : (a b c : Bool) → (a && b && c) ≡ true → (a ≡ true) × (b ≡ true) × (c ≡ true)
three_of a b c h = let l = and_left (a && b) c h in (and_left a b l, and_right a b l, and_right (a && b) c h)

-- a tag at or past Neg that has a place among the operations
known_tag : (t : ℕ) (a b : Bool) → cond (eqb t 9) a (eqb t 10 && b) ≡ true → t ≤ 10
known_tag t a b h =
    by_test (eqb t 9) (t ≤ 10)
    (λ e. let q : t ≡ 9 = eqb-true t 9 e in omega arith)
    λ e. let g : (eqb t 10 && b) ≡ true = rw e at h in let q : t ≡ 10 = eqb-true t 10 (and_left (eqb t 10) b g) in omega arith

module _ (c : Counts) (nodes : List ℕ) (i : ℕ) (w : Node) where
  leaf_facts : leaf_ok c w ≡ true → w.tag < 6 → NodeFacts c nodes i w
  unfolding leaf_ok var_ok
  leaf_facts h l =
      record {
        known = omega arith;
        base_const = λ e. let t = three_of (ltb w.x c.bases) (eqb w.y 0) (eqb w.dim 0) (rw e at h) in (ltb-true _ _ t.0, eqb-true _ _ t.1, eqb-true _ _ t.2);
        ext_const = λ e. let t = three_of (ltb w.x c.exts) (eqb w.y 0) (eqb w.dim 1) (rw e at h) in (ltb-true _ _ t.0, eqb-true _ _ t.1, eqb-true _ _ t.2);
        cell = λ e.
            let g : (ltb w.x 65536 && ltb w.y 131072 && eqb (w.y % 256) 0 && eqb w.dim (cond (ltb w.y 65536) 1 0)) ≡ true = rw e at h in
            let t = three_of (ltb w.x 65536 && ltb w.y 131072) (eqb (w.y % 256) 0) (eqb w.dim (cond (ltb w.y 65536) 1 0)) g in
            (ltb-true _ _ (and_left (ltb w.x 65536) (ltb w.y 131072) t.0), ltb-true _ _ (and_right (ltb w.x 65536) (ltb w.y 131072) t.0), eqb-true _ _ t.1, eqb-true _ _ t.2);
        uniform = λ a b.
            let g = simp (ne_eqb w.tag 0 (λ q. omega arith), ne_eqb w.tag 1 (λ q. omega arith), ne_eqb w.tag 2 (λ q. omega arith), ne_eqb w.tag 5 (λ q. omega arith)) at h in
            let t = three_of (ltb w.x 65536) (eqb w.y 0) (eqb w.dim 1) g in (ltb-true _ _ t.0, eqb-true _ _ t.1, eqb-true _ _ t.2);
        table_offset = λ e. let t = three_of (eqb w.x 0) (eqb w.y 0) (eqb w.dim 1) (rw e at h) in (eqb-true _ _ t.0, eqb-true _ _ t.1, eqb-true _ _ t.2);
        binary = λ a b. absurd (omega arith);
        negation = λ e. absurd (omega arith);
        embedding = λ e. absurd (omega arith);
      }

  abbrev second : Bool
  second = ltb w.y i && eqb w.dim (joined (node_at nodes w.x).dim (node_at nodes w.y).dim)

  abbrev alone : Bool
  alone = eqb w.y 0 && cond (eqb w.tag neg) (eqb w.dim (node_at nodes w.x).dim) (eqb w.tag embed && eqb w.dim 1)

  operation_facts : operation_ok nodes i w ≡ true → 6 ≤ w.tag → NodeFacts c nodes i w
  unfolding operation_ok
  operation_facts h l =
      let first : w.x < i = ltb-true _ _ (and_left (ltb w.x i) (cond (ltb w.tag neg) second alone) h) in
      let rest = and_right (ltb w.x i) (cond (ltb w.tag neg) second alone) h in
      record {
        known = by_test (ltb w.tag 9) (w.tag ≤ 10) (λ e. let q = ltb-true w.tag 9 e in omega arith)
            λ e. let g : alone ≡ true = rw e at rest in
            known_tag w.tag (eqb w.dim (node_at nodes w.x).dim) (eqb w.dim 1) (and_right (eqb w.y 0) (cond (eqb w.tag neg) (eqb w.dim (node_at nodes w.x).dim) (eqb w.tag embed && eqb w.dim 1)) g);
        base_const = λ e. absurd (omega arith);
        ext_const = λ e. absurd (omega arith);
        cell = λ e. absurd (omega arith);
        uniform = λ a b. absurd (omega arith);
        table_offset = λ e. absurd (omega arith);
        binary = λ a b.
            let g : second ≡ true = rw (lt-ltb w.tag 9 (omega arith)) at rest in
            (first, ltb-true _ _ (and_left (ltb w.y i) (eqb w.dim (joined (node_at nodes w.x).dim (node_at nodes w.y).dim)) g), eqb-true _ _ (and_right (ltb w.y i) (eqb w.dim (joined (node_at nodes w.x).dim (node_at nodes w.y).dim)) g));
        negation = λ e.
            let g : (eqb w.y 0 && eqb w.dim (node_at nodes w.x).dim) ≡ true = rw e at rest in
            (first, eqb-true _ _ (and_left (eqb w.y 0) (eqb w.dim (node_at nodes w.x).dim) g), eqb-true _ _ (and_right (eqb w.y 0) (eqb w.dim (node_at nodes w.x).dim) g));
        embedding = λ e.
            let g : (eqb w.y 0 && eqb w.dim 1) ≡ true = rw e at rest in
            (first, eqb-true _ _ (and_left (eqb w.y 0) (eqb w.dim 1) g), eqb-true _ _ (and_right (eqb w.y 0) (eqb w.dim 1) g));
      }

  facts_leaf : NodeFacts c nodes i w → w.tag < 6 → leaf_ok c w ≡ true
  unfolding leaf_ok var_ok
  facts_leaf f l =
      by_test (eqb w.tag 0) (leaf_ok c w ≡ true)
      (λ q. let e = eqb-true w.tag 0 q in let g = f.base_const e in rw (e, lt-ltb _ _ g.0, eq-eqb _ _ g.1, eq-eqb _ _ g.2))
      λ n₀. by_test (eqb w.tag 1) (leaf_ok c w ≡ true)
      (λ q. let e = eqb-true w.tag 1 q in let g = f.ext_const e in rw (e, lt-ltb _ _ g.0, eq-eqb _ _ g.1, eq-eqb _ _ g.2))
      λ n₁. by_test (eqb w.tag 2) (leaf_ok c w ≡ true)
      (λ q. let e = eqb-true w.tag 2 q in let g = f.cell e in rw (e, lt-ltb _ _ g.0, lt-ltb _ _ g.1, eq-eqb _ _ g.2, eq-eqb _ _ g.3))
      λ n₂. by_test (eqb w.tag 5) (leaf_ok c w ≡ true)
      (λ q. let e = eqb-true w.tag 5 q in let g = f.table_offset e in rw (e, eq-eqb _ _ g.0, eq-eqb _ _ g.1, eq-eqb _ _ g.2))
      λ n₅.
      let a = eqb-false w.tag 0 n₀ in
      let b = eqb-false w.tag 1 n₁ in
      let d = eqb-false w.tag 2 n₂ in
      let g = f.uniform (past_two a b d) (omega (arith, eqb-false w.tag 5 n₅)) in
      simp (n₀, n₁, n₂, n₅, lt-ltb _ _ g.0, eq-eqb _ _ g.1, eq-eqb _ _ g.2)
    where
      past_two : {t : ℕ} → (t ≡ 0 → ⊥) → (t ≡ 1 → ⊥) → (t ≡ 2 → ⊥) → 3 ≤ t
      past_two a b d = omega arith

  facts_operation : NodeFacts c nodes i w → 6 ≤ w.tag → operation_ok nodes i w ≡ true
  unfolding operation_ok
  facts_operation f l =
      by_test (ltb w.tag 9) (operation_ok nodes i w ≡ true)
      (λ q. let h = ltb-true w.tag 9 q in let g = f.binary l (omega arith) in rw (lt-ltb _ _ g.0, q, lt-ltb _ _ g.1, eq-eqb _ _ g.2))
      λ q. by_test (eqb w.tag 9) (operation_ok nodes i w ≡ true)
      (λ t. let e = eqb-true w.tag 9 t in let g = f.negation e in rw (lt-ltb _ _ g.0, e, eq-eqb _ _ g.1, eq-eqb _ _ g.2))
      λ t.
      let e : w.tag ≡ 10 = ten (ltb-false w.tag 9 q) (eqb-false w.tag 9 t) f.known in
      let g = f.embedding e in
      rw (lt-ltb _ _ g.0, e, eq-eqb _ _ g.1, eq-eqb _ _ g.2)
    where
      ten : {t : ℕ} → 9 ≤ t → (t ≡ 9 → ⊥) → t ≤ 10 → t ≡ 10
      ten a b d = omega arith

module _ (c : Counts) (nodes : List ℕ) where
  pub node_facts : (i : ℕ) → node_ok c nodes i ≡ true → NodeFacts c nodes i (node_at nodes i)
  unfolding node_ok
  node_facts i h =
      let w = node_at nodes i in
      by_test (ltb w.tag 6) (NodeFacts c nodes i (node_at nodes i))
      (λ q. leaf_facts c nodes i w (rw q at h) (ltb-true w.tag 6 q))
      λ q. operation_facts c nodes i w (rw q at h) (ltb-false w.tag 6 q)

  pub facts_node : (i : ℕ) → NodeFacts c nodes i (node_at nodes i) → node_ok c nodes i ≡ true
  unfolding node_ok
  facts_node i f =
      let w = node_at nodes i in
      by_test (ltb w.tag 6) (node_ok c nodes i ≡ true)
      (λ q. rw q (facts_leaf c nodes i w f (ltb-true w.tag 6 q)))
      λ q. rw q (facts_operation c nodes i w f (ltb-false w.tag 6 q))

  module _ (roots : List ℕ) where
    abbrev bad_node : ℕ → Bool
    bad_node i = not (node_ok c nodes i)

    abbrev bad_root : ℕ → Bool
    bad_root r = leb c.nodes (get_or roots r 0)

    -- the check finds nothing exactly where every node and root is as it has to be
    pub well_formed : ill_formed c nodes roots ≡ None → WellFormed c nodes roots
    unfolding ill_formed
    well_formed h =
        let n = lowest bad_node c.nodes in
        let r = lowest bad_root c.roots in
        record {
          node = λ i l. node_facts i (not-false (node_ok c nodes i) (lowest_none bad_node c.nodes (or_none_left n r h) i l));
          root = λ i l. leb-false c.nodes (get_or roots i 0) (lowest_none bad_root c.roots (or_none_right n r h) i l);
        }

    pub formed_well : WellFormed c nodes roots → ill_formed c nodes roots ≡ None
    unfolding ill_formed
    formed_well f =
        rw (none_lowest bad_node c.nodes (λ i l. rw (facts_node i (f.node i l))), none_lowest bad_root c.roots (λ i l. lt-leb c.nodes (get_or roots i 0) (f.root i l)))
