-- A leaf has the same value for the evaluator and for the walk of what was lowered: cells are read at the same place, and
-- constants are the program's, put below p.
-- Assumes nothing.
use mathlib.Core.Bool.{true, false, cond}
use mathlib.Core.List.{List}
use Rattle.std.specs.Prelude.{None}
use mathlib.Core.Path.{◌≡◌, refl, sym, ap, ◌∙◌}
use Prim.Native.Nat.{ℕ, ◌+◌, ◌*◌, ◌%◌, ◌<◌, ◌≤◌}
use native.Mathlib.Nat.{zero-add, mod-eq_of_lt}
use native.Mathlib.Omega.{arith}
use lib.Dec.{leb}
use lib.ListN.{get_or, drop}
use lib.Seq.{get_or-take, get_or-drop}
use borrow.Author.Tests.{leb-false}
use Rattle.laws.specs.Folds.{lowest}
use Rattle.laws.specs.Lists.{tabulate, block}
use Rattle.laws.proofs.Tests.{or_left, or_right}
use Rattle.laws.proofs.Folds.{lowest_none}
use Rattle.laws.proofs.Tabulate.{tabulate_at, length_tabulate}
use Rattle.field.specs.Base.{p}
use Rattle.extension.specs.Ext.{limb}
use Rattle.extension.specs.Tower.{goldilocks, remainders}
use Rattle.ir.specs.declared.program.Counts.{Counts}
use Rattle.ir.specs.declared.frame.Shape.{Shape}
use Rattle.ir.specs.Words.{Node, node_at, main_of, offset_of}
use Rattle.ir.specs.WellFormed.{WellFormed}
use Rattle.values.specs.Values.{base, ext, Leaves, leaf_value}
use Rattle.values.specs.Frame.{Lent, word, triple, leaves, outside, cell_outside, node_outside, prover_strides, frame_limits}
use Rattle.blob_rules.specs.declared.blob.BlobCounts.{BlobCounts}
use Rattle.slots.specs.Trace.{row_at, contents}
use Rattle.lower_parts.specs.Answer.{over}
use Rattle.scan.proofs.WordLaws.{by_leaf}
use Rattle.lowered.specs.Faithful.{with_constants, leaves_of}
use Rattle.lowered.proofs.ValueLaws.{LeafFits}
use Rattle.lowered.proofs.SameLaws.{over_at}

-- a table of n words put below p, over others
abbrev pub low_table : ℕ → List ℕ → List ℕ → List ℕ
low_table n l old = over (tabulate n (λ k. get_or l k 0 % p)) old

low_at : (n : ℕ) (l old : List ℕ) (i : ℕ) → i < n → get_or (low_table n l old) i 0 ≡ get_or l i 0 % p
low_at n l old i h =
    over_at (tabulate n (λ k. get_or l k 0 % p)) old i (rw (length_tabulate n (λ k. get_or l k 0 % p)) h) ∙ tabulate_at n (λ k. get_or l k 0 % p) i h

twice : (a : ℕ) → a % p % p ≡ a % p
twice a = omega arith

word_low : (n : ℕ) (l old : List ℕ) (i : ℕ) → i < n → word (low_table n l old) i ≡ word l i
word_low n l old i h = ap (λ z. z % p) (low_at n l old i h) ∙ twice (get_or l i 0)

limb_block : (l : List ℕ) (k i : ℕ) → i < 3 → limb (block 3 l k) i ≡ get_or l (3 * k + i) 0
limb_block l k i h = get_or-take 3 (drop (3 * k) l) i 0 h ∙ get_or-drop (3 * k) l i 0

triple_low : (n : ℕ) (l old : List ℕ) (k : ℕ) → k < n → triple (low_table (3 * n) l old) k ≡ triple l k
unfolding remainders
triple_low n l old k h =
    let m = low_table (3 * n) l old in
    let same : (i : ℕ) → i < 3 → limb (block 3 m k) i % p ≡ limb (block 3 l k) i % p =
    λ i b. ap (λ z. z % p) (limb_block m k i b ∙ low_at (3 * n) l old (3 * k + i) (omega arith)) ∙ twice (get_or l (3 * k + i) 0) ∙ ap (λ z. z % p) (sym (limb_block l k i b))
    in
    rw (same 0 (omega arith), same 1 (omega arith), same 2 (omega arith)) refl

-- a leaf that is not outside a frame
module _ (c : Counts) (nodes roots : List ℕ) (s : Shape) (f : WellFormed c nodes roots) (inside : lowest (node_outside (frame_limits s) nodes) c.nodes ≡ None) where
  module _ (i : ℕ) (h : i < c.nodes) where
    abbrev w : Node
    w = node_at nodes i

    not_outside : outside (frame_limits s) w.tag w.x w.y ≡ false
    not_outside = lowest_none (node_outside (frame_limits s) nodes) c.nodes inside i h

    cell_in : w.tag ≡ 2 → cell_outside (frame_limits s) w.x w.y ≡ false
    unfolding outside
    cell_in e = rw e at not_outside

    pub step_in : w.tag ≡ 2 → offset_of w.y < s.steps
    unfolding cell_outside
    step_in e = leb-false _ _ (or_left (leb s.steps (offset_of w.y)) _ (cell_in e))

    column_in : w.tag ≡ 2 → cond (main_of w.y) (leb s.main w.x) (leb s.aux w.x) ≡ false
    unfolding cell_outside
    column_in e = or_right (leb s.steps (offset_of w.y)) _ (cell_in e)

    main_in : w.tag ≡ 2 → main_of w.y ≡ true → w.x < s.main
    main_in e m = leb-false _ _ (rw m at (column_in e))

    aux_in : w.tag ≡ 2 → main_of w.y ≡ false → w.x < s.aux
    aux_in e m = leb-false _ _ (rw m at (column_in e))

    challenge_in : w.tag ≡ 3 → w.x < s.challenges
    unfolding outside
    challenge_in e = leb-false _ _ (rw e at not_outside)

    alpha_in : w.tag ≡ 4 → w.x < s.alphas
    unfolding outside
    alpha_in e = leb-false _ _ (rw e at not_outside)

    -- what the step rule asks of it
    pub leaf_fits : (b : BlobCounts) → b.bases ≡ c.bases → b.exts ≡ c.exts → c.bases ≤ 536870911 → c.exts ≤ 536870911 → w.tag < 6 → LeafFits b s w.tag w.x w.y
    leaf_fits b eb ex hb hx t =
        let g = f.node i h in
        record {
          low =
              by_leaf (λ k. w.tag ≡ k → w.x < 536870912)
              (λ e. omega (arith, (g.base_const e).0))
              (λ e. omega (arith, (g.ext_const e).0))
              (λ e. omega (arith, (g.cell e).0))
              (λ e. omega (arith, (g.uniform (omega arith) (omega arith)).0))
              (λ e. omega (arith, (g.uniform (omega arith) (omega arith)).0))
              (λ e. omega (arith, (g.table_offset e).0))
              w.tag t refl;
          base_const = λ e. (omega (arith, (g.base_const e).0), (g.base_const e).1);
          ext_const = λ e. (omega (arith, (g.ext_const e).0), (g.ext_const e).1);
          cell = λ e. ((g.cell e).0, (g.cell e).1, (g.cell e).2, step_in e);
          main_cell = main_in;
          aux_cell = aux_in;
          challenge = λ e. (challenge_in e, (g.uniform (omega arith) (omega arith)).1);
          alpha = λ e. (alpha_in e, (g.uniform (omega arith) (omega arith)).1);
          table_offset = λ e. ((g.table_offset e).0, (g.table_offset e).1);
        }

    -- and that the evaluator reads the same
    module _ (l : Lent) (bases exts old_bases old_exts : List ℕ) where
      abbrev own : Leaves ℕ (List ℕ)
      own = leaves (prover_strides s) (with_constants bases exts l)

      abbrev walked : Leaves ℕ (List ℕ)
      walked = leaves_of (contents s.steps 0 s (with_constants (low_table c.bases bases old_bases) (low_table (3 * c.exts) exts old_exts) l))

      row_is : (step : ℕ) → step < s.steps → row_at s.steps 0 step ≡ step
      row_is step b = ap (λ k. k % s.steps) (zero-add step) ∙ mod-eq_of_lt b

      pub leaf_same : w.tag < 6 → leaf_value goldilocks walked w.tag w.x w.y ≡ leaf_value goldilocks own w.tag w.x w.y
      unfolding leaf_value
      leaf_same t =
          let g = f.node i h in
          by_leaf (λ k. w.tag ≡ k → leaf_value goldilocks walked k w.x w.y ≡ leaf_value goldilocks own k w.x w.y)
          (λ e. ap base (word_low c.bases bases old_bases w.x (g.base_const e).0))
          (λ e. ap ext (triple_low c.exts exts old_exts w.x (g.ext_const e).0))
          (λ e. rw (row_is (offset_of w.y) (step_in e)) refl)
          (λ e. refl)
          (λ e. refl)
          (λ e. refl)
          w.tag t refl
