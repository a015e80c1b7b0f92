-- Demand 3, first half: what the blob check says is what the step rule says.
-- Assumes nothing.
use mathlib.Core.Bool.{Bool, true, false, not, ◌&&◌, ◌||◌}
use mathlib.Core.List.{[], ◌∷◌}
use Rattle.std.specs.Prelude.{Option, None, Some}
use mathlib.Core.Path.{◌≡◌, refl, ap, ◌∙◌}
use Prim.Native.Nat.{ℕ, ◌<◌, ◌≤◌}
use native.Mathlib.Nat.{le_refl}
use native.Mathlib.Omega.{arith}
use lib.Dec.{eqb}
use lib.ListN.{length}
use borrow.Author.Tests.{eqb-true, eqb-false}
use Rattle.laws.specs.Folds.{lowest}
use Rattle.laws.specs.Options.{at}
use Rattle.laws.proofs.Cases.{by_test}
use Rattle.laws.proofs.Folds.{lowest_none}
use Rattle.laws.proofs.Tests.{clash, or_left, or_right}
use Rattle.extension.specs.Tower.{Tower}
use Rattle.ir.specs.declared.frame.Shape.{Shape}
use Rattle.ir.specs.Shape.{over_shape}
use Rattle.ir.specs.Refusals.{Said, row_at, found, first, gives}
use Rattle.ir.proofs.RefusalLaws.{done_quiet, not_found}
use Rattle.blob_rules.specs.declared.blob.BlobCounts.{BlobCounts}
use Rattle.blob_rules.specs.Blob.{Blob, Instr, instr_at, num_base_of, is_ext, kind_of, tags, kinds}
use Rattle.device.specs.StepRule.{Contents, stops_at}
use Rattle.blob_rules.specs.Check.{Filled, slot_in, operand_ok, form_ok, node_ok, filled_after, illegal, ext_root, short_check, check_rows, legal_rows}
use Rattle.blob_rules.proofs.CheckLaws.{operand_unknown, node_unknown, node_by}
use Rattle.device.proofs.Exact.{exact_11, exact_12, passes_through}
use Rattle.blob_rules.proofs.MarkLaws.{bad_node}

module _ {B X : Type 0} (K : Tower B X) (u : Contents B X) (b : Blob) (s : Shape) where
  -- where the rule stops, with num_base as given
  abbrev stops : ℕ → Option ℕ
  stops leading = stops_at K tags kinds b.counts s u leading b.nodes b.roots

  -- what the rule says: 11 where it stops with num_base taken as 0, at its place; else 12 where it stops, at its place
  abbrev pub rule_says : Said
  rule_says = first (row_at (stops 0) 11 ∷ row_at (stops (num_base_of b.counts)) 12 ∷ []) (gives [])

  legal_says : first (legal_rows b s) (gives []) ≡ rule_says
  legal_says =
      let c = b.counts in
      let i = illegal tags kinds c s b.nodes b.roots in
      by_fault i refl
    where
      by_fault : (o : Option ℕ) → illegal tags kinds b.counts s b.nodes b.roots ≡ o → first (legal_rows b s) (gives []) ≡ rule_says
      by_fault (Some i) e = rw (exact_11 K tags kinds b.counts s u b.nodes b.roots, e)
      by_fault None e = rw (exact_11 K tags kinds b.counts s u b.nodes b.roots, exact_12 K tags kinds b.counts s u b.nodes b.roots e, e)

  -- the check says what the rule says, for any tower and any contents, where shape and memory suffice
  pub check_is_exact : (marks : ℕ) → over_shape s ≡ false → short_check b.counts (length b.nodes) (length b.roots) marks ≡ false
      → first (check_rows b s marks) (gives []) ≡ rule_says
  check_is_exact marks e z = rw (e, z) legal_says

  -- it passes where the rule gets through all nodes and all roots, and only there
  pub passes : stops (num_base_of b.counts) ≡ None → first (legal_rows b s) (gives []) ≡ gives []
  passes h =
      let q = passes_through K tags kinds b.counts s u b.nodes b.roots h in
      rw (q.0, q.1)

  pub gets_through : first (legal_rows b s) (gives []) ≡ gives [] → stops (num_base_of b.counts) ≡ None
  gets_through h =
      let i = illegal tags kinds b.counts s b.nodes b.roots in
      let x = ext_root b.counts b.roots in
      let q : (found i || (found x || false)) ≡ false = done_quiet [] (legal_rows b s) refl (ap (λ (t : Said). t.number) h) in
      let e = not_found i (or_left (found i) (found x || false) q) in
      exact_12 K tags kinds b.counts s u b.nodes b.roots e ∙ not_found x (or_left (found x) false (or_right (found i) (found x || false) q))

-- ---- an unknown tag or kind

-- a tag over 10, or an operand of kind 7 where the tag has operands
pub data Unknown (w : Instr) : Type 0 where
  tag : 10 < w.op → Unknown w
  first_kind : 6 ≤ w.op → w.op ≤ 10 → kind_of w.a ≡ 7 → Unknown w
  second_kind : 6 ≤ w.op → w.op ≤ 8 → kind_of w.b ≡ 7 → Unknown w

-- what holds of each operation's tag
pub by_operation : (P : ℕ → Type 0) → P 6 → P 7 → P 8 → P 9 → P 10 → (k : ℕ) → 6 ≤ k → k ≤ 10 → P k
by_operation P a b c d e k l h =
    by_test (eqb k 6) (P k) (λ t. rw (eqb-true k 6 t) a)
    λ t. by_test (eqb k 7) (P k) (λ z. rw (eqb-true k 7 z) b)
    λ z. by_test (eqb k 8) (P k) (λ y. rw (eqb-true k 8 y) c)
    λ y. by_test (eqb k 9) (P k) (λ x. rw (eqb-true k 9 x) d)
    λ x. rw (ten (eqb-false k 6 t) (eqb-false k 7 z) (eqb-false k 8 y) (eqb-false k 9 x) l h) e
  where
    ten : {k : ℕ} → (k ≡ 6 → ⊥) → (k ≡ 7 → ⊥) → (k ≡ 8 → ⊥) → (k ≡ 9 → ⊥) → 6 ≤ k → k ≤ 10 → k ≡ 10
    ten t z y x l h = omega arith

second_fails : (x z : Bool) → (x && false && z) ≡ false
second_fails true z = refl
second_fails false z = refl

module _ (c : BlobCounts) (s : Shape) (f : Filled) where
  -- an operand of kind 7 is never as it has to be
  seven : (wide : Bool) (w : ℕ) → kind_of w ≡ 7 → operand_ok tags kinds c s f wide w ≡ false
  seven wide w e = operand_unknown c s f wide w (rw e (le_refl 7))

  -- a node, by its tag
  abbrev fails : Instr → ℕ → Type 0
  fails w k = form_ok tags kinds c s f (at tags k) w ≡ false

  first_fails : (w : Instr) → kind_of w.a ≡ 7 → (k : ℕ) → 6 ≤ k → k ≤ 10 → fails w k
  first_fails w e =
      let z = seven (is_ext w.res) w.a e in
      by_operation (fails w) (rw z) (rw z) (rw z) (rw z) (rw (seven true w.a e))

  both_fail : (w : Instr) → kind_of w.b ≡ 7 → (k : ℕ) → 6 ≤ k → k ≤ 10 → k ≤ 8 → fails w k
  both_fail w e =
      let z : operand_ok tags kinds c s f (is_ext w.res) w.b ≡ false = seven (is_ext w.res) w.b e in
      let q : (operand_ok tags kinds c s f (is_ext w.res) w.a && operand_ok tags kinds c s f (is_ext w.res) w.b && slot_in c w.res) ≡ false = rw z (second_fails (operand_ok tags kinds c s f (is_ext w.res) w.a) (slot_in c w.res)) in
      by_operation (λ k. k ≤ 8 → fails w k) (λ l. q) (λ l. q) (λ l. q) (λ l. absurd (omega arith)) (λ l. absurd (omega arith))

  unknown_fails : (w : Instr) → Unknown w → node_ok tags kinds c s f w ≡ false
  unknown_fails w (tag h) = node_unknown c s f w h
  unknown_fails w (first_kind l h e) = node_by c s f w w.op refl ∙ first_fails w e w.op l h
  unknown_fails w (second_kind l h e) = node_by c s f w w.op refl ∙ both_fail w e w.op l (omega arith) h

-- such a node gives 11, whatever else the blob holds, where shape and memory suffice
pub unknown_is_11 : (b : Blob) (s : Shape) (marks i : ℕ) → over_shape s ≡ false → short_check b.counts (length b.nodes) (length b.roots) marks ≡ false
    → i < b.counts.nodes → Unknown (instr_at b.nodes i) → (first (check_rows b s marks) (gives [])).number ≡ 11
unfolding illegal
unknown_is_11 b s marks i e z l h = rw (e, z) (by_fault (lowest (bad_node b.counts s b.nodes) b.counts.nodes) refl)
  where
    at_i : bad_node b.counts s b.nodes i ≡ true
    at_i = ap not (unknown_fails b.counts s (filled_after b.nodes i) (instr_at b.nodes i) h)

    by_fault : (o : Option ℕ) → lowest (bad_node b.counts s b.nodes) b.counts.nodes ≡ o → (first (legal_rows b s) (gives [])).number ≡ 11
    by_fault (Some k) q = rw q
    by_fault None q = clash at_i (lowest_none (bad_node b.counts s b.nodes) b.counts.nodes q i l)
