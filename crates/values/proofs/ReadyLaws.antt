-- From what the refusals let through to what the pass over the nodes asks.
-- Assumes nothing.
use mathlib.Core.Bool.{false, cond}
use mathlib.Core.List.{List}
use Rattle.std.specs.Prelude.{None}
use mathlib.Core.Path.{◌≡◌, refl, ap, ◌∙◌}
use Prim.Native.Nat.{ℕ, ◌+◌, ◌*◌, ◌<◌, ◌≤◌}
use native.Mathlib.Nat.{mul-le-mul, le_refl, mul-zero, zero-add, add-mul, one-mul}
use native.Mathlib.Omega.{arith}
use lib.Dec.{eqb, leb, ltb}
use lib.ListN.{length}
use borrow.Author.Tests.{leb-false, ltb-true, ltb-false, eqb-true, eqb-false}
use Rattle.laws.proofs.Cases.{by_test}
use Rattle.laws.specs.Folds.{lowest}
use Rattle.laws.proofs.Folds.{lowest_none}
use Rattle.laws.proofs.Tests.{clash, or_left, or_right}
use Rattle.ir.specs.declared.program.Counts.{Counts}
use Rattle.ir.specs.declared.frame.Shape.{Shape}
use Rattle.ir.specs.Words.{node_at, main_of, offset_of}
use Rattle.ir.specs.WellFormed.{NodeFacts, WellFormed}
use Rattle.values.specs.declared.frame.Limits.{Limits}
use Rattle.values.specs.declared.frame.Strides.{Strides}
use Rattle.values.specs.Frame.{Lent, cell_outside, outside, node_outside, CellIn, LeafIn, Fits, prover_strides, verifier_strides, row_strides, frame_limits, row_limits}
use Rattle.values.specs.Operations.{NodeReady, Ready}

module _ (s : Strides) (m : Limits) (c : Counts) (l : Lent) (f : Fits s m c l) where
  cell_ready : (x y : ℕ) → cell_outside m x y ≡ false → CellIn s x y (length l.main) (length l.aux)
  unfolding cell_outside
  cell_ready x y h =
      let a = leb m.steps (offset_of y) in
      let b = cond (main_of y) (leb m.main x) (leb m.aux x) in
      let step = leb-false m.steps (offset_of y) (or_left a b h) in
      let rest = or_right a b h in
      record {
        main_cell = λ e. f.main (offset_of y) x step (leb-false m.main x (rw e at rest));
        aux_cell = λ e. f.aux (offset_of y) x step (leb-false m.aux x (rw e at rest));
      }

  leaf_ready : (nodes : List ℕ) (i tag x y d : ℕ) → NodeFacts c nodes i (record { tag = tag; x = x; y = y; dim = d }) → outside m tag x y ≡ false → LeafIn s tag x y l
  unfolding outside
  leaf_ready nodes i tag x y d n h =
      record {
        base_const = λ e. let q = n.base_const e in omega (arith, q.0, f.bases);
        ext_const = λ e. let q = n.ext_const e in omega (arith, q.0, f.exts);
        cell = λ e. cell_ready x y (rw e at h);
        challenge = λ e. let q = leb-false m.challenges x (rw e at h) in omega (arith, f.challenges);
        alpha = λ e. let q = leb-false m.alphas x (rw e at h) in omega (arith, f.alphas);
      }

  first_below : (nodes : List ℕ) (i tag x y d : ℕ) → NodeFacts c nodes i (record { tag = tag; x = x; y = y; dim = d }) → 6 ≤ tag → x < i
  first_below nodes i tag x y d n r =
      by_test (ltb tag 9) (x < i)
      (λ t. let q = ltb-true tag 9 t in (n.binary r (omega arith)).0)
      λ t. by_test (eqb tag 9) (x < i)
      (λ u. (n.negation (eqb-true tag 9 u)).0)
      λ u. (n.embedding (ten (ltb-false tag 9 t) (eqb-false tag 9 u) n.known)).0
    where
      ten : {t : ℕ} → 9 ≤ t → (t ≡ 9 → ⊥) → t ≤ 10 → t ≡ 10
      ten a b d = omega arith

  -- one node that is well-formed and inside
  pub node_ready : (nodes : List ℕ) (i : ℕ) → NodeFacts c nodes i (node_at nodes i) → node_outside m nodes i ≡ false → NodeReady s l i (node_at nodes i).tag (node_at nodes i).x (node_at nodes i).y
  node_ready nodes i n h =
      let t = node_at nodes i in
      record {
        known = n.known;
        leaf_in = λ r. leaf_ready nodes i t.tag t.x t.y t.dim n h;
        first_operand = λ r. first_below nodes i t.tag t.x t.y t.dim n r;
        second_operand = λ r v. (n.binary r (omega arith)).1;
      }

  pub ready : (nodes roots : List ℕ) (room : ℕ) → WellFormed c nodes roots → lowest (node_outside m nodes) c.nodes ≡ None → 4 * c.nodes ≤ length nodes → 4 * c.nodes ≤ room → Ready s nodes c.nodes l room
  ready nodes roots room w h a b =
      record {
        nodes_long = a;
        room_long = b;
        node = λ i q. node_ready nodes i (w.node i q) (lowest_none (node_outside m nodes) c.nodes h i q);
      }

-- ---- the three frames

-- a cell of a step is before the frame's end
cell_below : (step steps width col : ℕ) → step < steps → col < width → step * width + col < steps * width
cell_below step steps width col a b =
    let q : (step + 1) * width ≤ steps * width = mul-le-mul (omega arith) (le_refl width) in
    let r : (step + 1) * width ≡ step * width + width = add-mul step 1 width ∙ ap (λ (n : ℕ). step * width + n) (one-mul width) in
    omega arith

module _ (s : Shape) (c : Counts) (l : Lent) (bases : c.bases ≤ length l.bases) (exts : 3 * c.exts ≤ length l.exts) (aux : 3 * (s.steps * s.aux) ≤ length l.aux) (challenges : 3 * s.challenges ≤ length l.challenges) (alphas : 3 * s.alphas ≤ length l.alphas) where
  aux_fits : (step col : ℕ) → step < s.steps → col < s.aux → 3 * (step * s.aux + col) + 3 ≤ length l.aux
  aux_fits step col a b = let q = cell_below step s.steps s.aux col a b in omega arith

  pub prover_fits : 1 * (s.steps * s.main) ≤ length l.main → Fits (prover_strides s) (frame_limits s) c l
  prover_fits h =
      record {
        bases = bases;
        exts = exts;
        main = λ step col a b. let q = cell_below step s.steps s.main col a b in record { ext_cell = λ e. clash e refl; base_cell = λ e. omega arith };
        aux = aux_fits;
        challenges = challenges;
        alphas = alphas;
      }

  pub verifier_fits : 3 * (s.steps * s.main) ≤ length l.main → Fits (verifier_strides s) (frame_limits s) c l
  verifier_fits h =
      record {
        bases = bases;
        exts = exts;
        main = λ step col a b. let q = cell_below step s.steps s.main col a b in record { ext_cell = λ e. omega arith; base_cell = λ e. clash refl e };
        aux = aux_fits;
        challenges = challenges;
        alphas = alphas;
      }

pub row_fits : (width : ℕ) (c : Counts) (l : Lent) → c.bases ≤ length l.bases → 3 * c.exts ≤ length l.exts → width ≤ length l.main → Fits row_strides (row_limits width) c l
row_fits width c l bases exts h =
    record {
      bases = bases;
      exts = exts;
      main = λ step col a b. record { ext_cell = λ e. clash e refl; base_cell = λ e. rw (mul-zero step, zero-add col) (omega arith) };
      aux = λ step col a b. absurd (omega arith);
      challenges = omega arith;
      alphas = omega arith;
    }
