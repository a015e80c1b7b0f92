-- The scan reads its liveness at the program's nodes only: lists that stand for a liveness there scan as it does.
-- Assumes nothing.
use mathlib.Core.Bool.{Bool, true, false, cond, not, ◌&&◌, ◌||◌}
use mathlib.Core.List.{List, [], ◌∷◌}
use mathlib.Core.Path.{◌≡◌, refl, sym, ap, ◌∙◌}
use Prim.Native.Nat.{ℕ, zero, suc, ◌+◌, ◌*◌, ◌<◌, ◌≤◌}
use native.Mathlib.Omega.{arith}
use lib.Dec.{eqb, ltb}
use lib.ListN.{length}
use borrow.Author.Tests.{eq-eqb, eqb-true, eqb-false, ltb-true, ltb-false}
use Rattle.laws.proofs.Cases.{by_test}
use Rattle.laws.proofs.Tests.{clash, and_left}
use Rattle.ir.specs.declared.program.Counts.{Counts}
use Rattle.ir.specs.Words.{Node, node_at}
use Rattle.ir.specs.Program.{most, joined}
use Rattle.ir.specs.WellFormed.{NodeFacts, WellFormed}
use Rattle.liveness.specs.Liveness.{has, operands, is_uniform, Liveness, live, is_root_of}
use Rattle.scan_parts.specs.Scan.{Scan, encode, written, give, give_all, claim, scan}
use Rattle.scan.specs.Arrays.{Scannable}
use Rattle.liveness.specs.LiveLists.{bit, count_below, listed, NodesBelow, RootsBelow, Alive}
use Rattle.scan.proofs.LiveLaws.{live_sound}
use Rattle.scan.proofs.WordLaws.{by_leaf}
use Rattle.scan_parts.proofs.SpellLaws.{has_first, has_second}
use Rattle.scan.proofs.ReadyLaws.{scan_skips, one_more}

-- two livenesses say the same of n nodes
pub record Agree (n : ℕ) (v w : Liveness) : Type 0 where
  pub emits : (j : ℕ) → j < n → v.emitted j ≡ w.emitted j
  pub lasts : (j : ℕ) → j < n → v.last_use j ≡ w.last_use j
  pub pins : (j : ℕ) → j < n → v.pinned j ≡ w.pinned j

module _ (nodes : List ℕ) (n : ℕ) (v w : Liveness) (a : Agree n v w) where
  give_agree : (i j : ℕ) (s : Scan) → j < n → give nodes v i j s ≡ give nodes w i j s
  give_agree i j s h = rw (a.pins j h, a.lasts j h) refl

  give_all_agree : (i : ℕ) (js : List ℕ) (s : Scan) → ((j : ℕ) → has j js ≡ true → j < n) → give_all nodes v i js s ≡ give_all nodes w i js s
  give_all_agree i [] s h = refl
  give_all_agree i (j ∷ js) s h =
      ap (give_all nodes v i js) (give_agree i j s (h j (rw (eq-eqb j j refl) refl)))
      ∙ give_all_agree i js (give nodes w i j s) (λ k q. h k (later (eqb k j) q))
    where
      later : (b : Bool) {t : Bool} → t ≡ true → (b || t) ≡ true
      later true e = refl
      later false e = e

  encode_same : (f : ℕ → ℕ) (j : ℕ) → j < n → encode nodes v f j ≡ encode nodes w f j
  encode_same f j h = rw (a.emits j h) refl

  module _ (i : ℕ) (below : (j : ℕ) → has j (operands (node_at nodes i)) ≡ true → j < n) where
    written_same : (f : ℕ → ℕ) (k : ℕ) → written nodes v f i k ≡ written nodes w f i k
    written_same f k =
        let m = node_at nodes i in
        by_test (ltb m.tag 6) (written nodes v f i k ≡ written nodes w f i k)
        (λ t. rw t refl)
        λ t. let x = encode_same f m.x (below m.x (has_first nodes i (ltb-false m.tag 6 t))) in
        by_test (ltb m.tag 9) (written nodes v f i k ≡ written nodes w f i k)
        (λ u. rw (t, u, x, encode_same f m.y (below m.y (has_second nodes i (ltb-false m.tag 6 t) (ltb-true m.tag 9 u)))) refl)
        λ u. rw (t, u, x) refl

    claim_same : (f : ℕ → ℕ) (s : Scan) → claim nodes v i f s ≡ claim nodes w i f s
    claim_same f s = rw (written_same f) refl

  pub scan_same : ((i j : ℕ) → i < n → has j (operands (node_at nodes i)) ≡ true → j < n) → (i : ℕ) → i ≤ n → scan nodes v i ≡ scan nodes w i
  unfolding scan
  scan_same below zero h = refl
  scan_same below (suc i) h =
      let l : i < n = omega arith in
      let ih = scan_same below i (omega arith) in
      rw (ih, a.emits i l, give_all_agree i (operands (node_at nodes i)) (scan nodes w i) (λ j q. below i j l q), claim_same i (λ j q. below i j l q) (scan nodes w i).slot (give_all nodes w i (operands (node_at nodes i)) (scan nodes w i))) refl

-- how many nodes are written
out_none : (nodes : List ℕ) (v : Liveness) → length (scan nodes v 0).out ≡ 0
unfolding scan
out_none nodes v = refl

pub out_count : (nodes : List ℕ) (v : Liveness) (i : ℕ) → length (scan nodes v i).out ≡ count_below v.emitted i
unfolding count_below
out_count nodes v zero = out_none nodes v
out_count nodes v (suc i) =
    let ih = out_count nodes v i in
    by_test (v.emitted i) (length (scan nodes v (suc i)).out ≡ count_below v.emitted i + bit (v.emitted i))
    (λ t. omega (arith, ih, one_more nodes v i t, ap bit t))
    λ t. omega (arith, ih, ap (λ s. length s.out) (scan_skips nodes v i t), ap bit t)

-- ---- a well-formed program

module _ (c : Counts) (nodes roots : List ℕ) (f : WellFormed c nodes roots) where
  -- a node's operands are before it
  pub operand_before : (i j : ℕ) → i < c.nodes → has j (operands (node_at nodes i)) ≡ true → j < i
  operand_before i j h o =
      let w = node_at nodes i in
      let g = f.node i h in
      by_test (ltb w.tag 6) (j < i)
      (λ t. absurd (none (rw t at o)))
      λ t. by_test (ltb w.tag 9) (j < i)
      (λ u. let k = g.binary (ltb-false w.tag 6 t) (omega (arith, ltb-true w.tag 9 u)) in two w.x w.y k.0 k.1 (rw (t, u) at o))
      λ u. one w.x (first_below i w g (ltb-false w.tag 9 u)) (rw (t, u) at o)
    where
      none : false ≡ true → ⊥
      none e = clash e refl

      one : (x : ℕ) → x < i → (eqb j x || false) ≡ true → j < i
      one x l e = by_test (eqb j x) (j < i) (λ t. omega (arith, eqb-true j x t, l)) λ t. clash (rw t at e) refl

      two : (x y : ℕ) → x < i → y < i → (eqb j x || (eqb j y || false)) ≡ true → j < i
      two x y l m e =
          by_test (eqb j x) (j < i) (λ t. omega (arith, eqb-true j x t, l)) λ t. one y m (rw t at e)

      first_below : (i : ℕ) (w : Node) → NodeFacts c nodes i w → 9 ≤ w.tag → w.x < i
      first_below i w g k =
          by_test (eqb w.tag 9) (w.x < i) (λ t. (g.negation (eqb-true w.tag 9 t)).0)
          λ t. (g.embedding (omega (arith, eqb-false w.tag 9 t, g.known))).0

  bit_two : (b : Bool) → cond b 1 0 < 2
  bit_two true = omega arith
  bit_two false = omega arith

  joined_two : (a b : ℕ) → joined a b < 2
  joined_two a b = go (eqb a 0 && eqb b 0)
    where
      go : (t : Bool) → cond t 0 1 < 2
      go true = omega arith
      go false = omega arith

  leaf_dim : (i : ℕ) → i < c.nodes → (node_at nodes i).tag < 6 → (node_at nodes i).dim < 2
  leaf_dim i h t =
      let w = node_at nodes i in
      let g = f.node i h in
      by_leaf (λ k. w.tag ≡ k → w.dim < 2)
      (λ e. omega (arith, (g.base_const e).2))
      (λ e. omega (arith, (g.ext_const e).2))
      (λ e. rw (g.cell e).3 (bit_two (ltb w.y 65536)))
      (λ e. omega (arith, (g.uniform (omega arith) (omega arith)).2))
      (λ e. omega (arith, (g.uniform (omega arith) (omega arith)).2))
      (λ e. omega (arith, (g.table_offset e).2))
      w.tag t refl

  dim_before : (k i : ℕ) → i < k → i < c.nodes → (node_at nodes i).dim < 2
  dim_before zero i l h = absurd (omega arith)
  dim_before (suc k) i l h =
      let w = node_at nodes i in
      let g = f.node i h in
      by_test (ltb w.tag 6) (w.dim < 2)
      (λ t. leaf_dim i h (ltb-true w.tag 6 t))
      λ t. by_test (ltb w.tag 9) (w.dim < 2)
      (λ u. rw (g.binary (ltb-false w.tag 6 t) (omega (arith, ltb-true w.tag 9 u))).2 (joined_two (node_at nodes w.x).dim (node_at nodes w.y).dim))
      λ u. by_test (eqb w.tag 9) (w.dim < 2)
      (λ q. let m = g.negation (eqb-true w.tag 9 q) in rw m.2 (dim_before k w.x (omega (arith, m.0)) (omega (arith, m.0))))
      λ q. omega (arith, (g.embedding (omega (arith, eqb-false w.tag 9 q, ltb-false w.tag 9 u, g.known))).2)

  -- a dim is 0 or 1
  pub dim_two : (i : ℕ) → i < c.nodes → (node_at nodes i).dim < 2
  dim_two i h = dim_before (suc i) i (omega arith) h

  -- a uniform leaf's place fits an operand
  pub uniform_low : c.bases ≤ most → c.exts ≤ most → (i : ℕ) → i < c.nodes → is_uniform (node_at nodes i) ≡ true → (node_at nodes i).x < 536870912
  uniform_low hb hx i h u =
      let w = node_at nodes i in
      let g = f.node i h in
      let t = ltb-true w.tag 6 (and_left (ltb w.tag 6) (not (eqb w.tag 2)) u) in
      by_leaf (λ k. w.tag ≡ k → w.x < 536870912)
      (λ e. omega (arith, (g.base_const e).0))
      (λ e. omega (arith, (g.ext_const e).0))
      (λ e. omega (arith, (g.cell e).0))
      (λ e. omega (arith, (g.uniform (omega arith) (omega arith)).0))
      (λ e. omega (arith, (g.uniform (omega arith) (omega arith)).0))
      (λ e. omega (arith, (g.table_offset e).0))
      w.tag t refl

  module _ (long : 4 * c.nodes ≤ length nodes) where
    pub nodes_below : NodesBelow nodes c.nodes
    nodes_below =
        record {
          nodes_long = long;
          node = λ i h. record {
            first = λ t. omega (arith, operand_before i (node_at nodes i).x h (has_first nodes i t));
            second = λ t u. omega (arith, operand_before i (node_at nodes i).y h (has_second nodes i t u));
          };
        }

    pub roots_below : c.roots ≤ length roots → RootsBelow roots c.roots c.nodes
    roots_below l = record { roots_long = l; below = f.root }

    module _ (emitted last pinned : List ℕ) (count : ℕ) (a : Alive c nodes roots emitted last pinned count) where
      true_bit : (b : Bool) → not (eqb (bit b) 0) ≡ b
      true_bit true = refl
      true_bit false = refl

      pub agree : Agree c.nodes (listed emitted last pinned) (live c nodes roots)
      agree =
          record {
            emits = λ j h. rw (a.emits j h) (true_bit ((live c nodes roots).emitted j));
            lasts = a.lasts;
            pins = λ j h. rw (a.pins j h) (true_bit (is_root_of c roots j));
          }

      pub scannable : c.nodes ≤ most → c.bases ≤ most → c.exts ≤ most → Scannable c.nodes nodes (listed emitted last pinned)
      scannable hn hb hx =
          let s = live_sound c nodes roots in
          record {
            few = omega arith;
            long = long;
            dims = dim_two;
            before = operand_before;
            low = uniform_low hb hx;
            named = λ i j h e o q. let l = operand_before i j h o in s.operand_named i j h (sym (agree.emits i h) ∙ e) o (sym (agree.emits j (omega arith)) ∙ q);
            last_read = λ i j h e o q. let l = operand_before i j h o in rw (agree.lasts j (omega arith)) (s.last_read i j h (sym (agree.emits i h) ∙ e) o (sym (agree.pins j (omega arith)) ∙ q));
          }
