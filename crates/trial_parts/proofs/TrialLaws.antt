-- The trial: what its tests say of a node, and the room that it copies.
-- Assumes nothing.
use mathlib.Core.Bool.{true, false}
use mathlib.Core.List.{List, ◌++◌}
use mathlib.Core.Path.{◌≡◌, refl, sym, ap, subst, ◌∙◌}
use Prim.Native.Nat.{ℕ, zero, suc, ◌+◌, ◌*◌, ◌/◌, ◌%◌, ◌<◌, ◌≤◌}
use native.Mathlib.Nat.{zero-add}
use native.Mathlib.Omega.{arith}
use lib.Dec.{eqb}
use lib.ListN.{length, get_or, take, drop, replicate, length-drop, take-append-drop}
use lib.Seq.{paste, length-paste, drop-paste, length-take-le, drop-append-le, take-append-le}
use borrow.Author.Tests.{eqb-true, lt-ltb, le-ltb, lt-leb, eq-eqb, ne_eqb}
use Rattle.laws.proofs.Blocks.{block_before}
use Rattle.laws.proofs.Cases.{by_test}
use Rattle.laws.proofs.Tests.{clash}
use Rattle.ir.specs.declared.program.Counts.{Counts}
use Rattle.ir.specs.Words.{Node, node_at, offset_of}
use Rattle.ir.specs.Program.{var_ok, leaf_ok, operation_ok, node_ok}
use Rattle.ir.proofs.WellFormedLaws.{node_facts}
use Rattle.values.specs.declared.frame.Limits.{Limits}
use Rattle.values.specs.declared.frame.Strides.{Strides}
use Rattle.values.specs.Values.{Value}
use Rattle.values.specs.Frame.{Lent, Fits, cell_outside, outside}
use Rattle.values.specs.Operations.{NodeReady}
use Rattle.values.specs.Room.{Kept, RoomHolds}
use Rattle.trial_parts.specs.Trial.{Narrow, leaf_limit, LeafFits, NodeFits, Tried, Trial}
use Rattle.values.proofs.ReadyLaws.{node_ready}
use Rattle.values.proofs.ValueLaws.{main_mark, aux_mark}

-- ---- a leaf that passed

module _ (c : Counts) (m : Limits) (b : Narrow m) where
  abbrev word : ℕ → ℕ → ℕ → ℕ → Node
  word tag x y dim = record { tag = tag; x = x; y = y; dim = dim }

  -- a Var, by the trace that its dim says
  pub main_fits : (x y dim : ℕ) → offset_of y < m.steps → y % 256 ≡ 0 → dim ≡ 0 → y / 65536 ≡ 1 → x < m.main → LeafFits c m (word 2 x y dim)
  unfolding leaf_ok var_ok outside cell_outside
  main_fits x y dim s r d e l =
      let n = b.main in
      record {
        formed = rw (lt-ltb x 65536 (omega arith), lt-ltb y 131072 (omega arith), eq-eqb _ _ r, le-ltb y 65536 (omega arith), eq-eqb _ _ d);
        inside = rw (lt-leb _ _ s, main_mark y (λ q. omega arith), lt-leb _ _ l);
      }

  pub aux_fits : (x y dim : ℕ) → offset_of y < m.steps → y % 256 ≡ 0 → dim ≡ 1 → y / 65536 ≡ 0 → x < m.aux → LeafFits c m (word 2 x y dim)
  unfolding leaf_ok var_ok outside cell_outside
  aux_fits x y dim s r d e l =
      let n = b.aux in
      record {
        formed = rw (lt-ltb x 65536 (omega arith), lt-ltb y 131072 (omega arith), eq-eqb _ _ r, lt-ltb y 65536 (omega arith), eq-eqb _ _ d);
        inside = rw (lt-leb _ _ s, aux_mark y (omega arith), lt-leb _ _ l);
      }

  pub const_fits : (x y dim : ℕ) → y ≡ 0 → dim ≡ 0 → x < c.bases → LeafFits c m (word 0 x y dim)
  unfolding leaf_ok outside
  const_fits x y dim e d l = record { formed = rw (lt-ltb _ _ l, eq-eqb _ _ e, eq-eqb _ _ d); inside = refl }

  -- every other leaf is extension, with its index below a limit
  pub ext_fits : (tag x y dim : ℕ) → (tag ≡ 2 → ⊥) → (tag ≡ 0 → ⊥) → y ≡ 0 → dim ≡ 1 → x < leaf_limit c m tag → LeafFits c m (word tag x y dim)
  unfolding leaf_ok outside leaf_limit
  ext_fits tag x y dim n₂ n₀ e d l =
      by_test (eqb tag 1) (LeafFits c m (word tag x y dim))
      (λ q. let t = eqb-true tag 1 q in let g : x < c.exts = rw t at l in record { formed = rw (t, lt-ltb _ _ g, eq-eqb _ _ e, eq-eqb _ _ d); inside = rw t })
      λ n₁. by_test (eqb tag 3) (LeafFits c m (word tag x y dim))
      (λ q. let t = eqb-true tag 3 q in let g : x < m.challenges = rw t at l in let k = b.challenges in record { formed = rw (t, lt-ltb x 65536 (omega arith), eq-eqb _ _ e, eq-eqb _ _ d); inside = rw (t, lt-leb _ _ g) })
      λ n₃. by_test (eqb tag 4) (LeafFits c m (word tag x y dim))
      (λ q. let t = eqb-true tag 4 q in let g : x < m.alphas = rw t at l in let k = b.alphas in record { formed = rw (t, lt-ltb x 65536 (omega arith), eq-eqb _ _ e, eq-eqb _ _ d); inside = rw (t, lt-leb _ _ g) })
      λ n₄.
      let g : x < m.offsets = rw (n₁, n₃, n₄) at l in
      let k = b.offsets in
      by_test (eqb tag 5) (LeafFits c m (word tag x y dim))
      (λ q. let t = eqb-true tag 5 q in record { formed = rw (t, eq-eqb x 0 (omega arith), eq-eqb _ _ e, eq-eqb _ _ d); inside = rw (t, ne_eqb m.offsets 0 (λ z. omega arith)) })
      λ n₅.
      record {
        formed = simp (ne_eqb tag 0 n₀, n₁, ne_eqb tag 2 n₂, n₅, lt-ltb x 65536 (omega arith), eq-eqb _ _ e, eq-eqb _ _ d);
        inside = simp (ne_eqb tag 2 n₂, n₃, n₄, n₅);
      }

-- ---- a node that passed

module _ (c : Counts) (m : Limits) (nodes : List ℕ) (i : ℕ) (w : Node) where
  pub leaf_passed : w.tag < 6 → LeafFits c m w → NodeFits c m nodes i w
  leaf_passed h f = record { formed = rw (lt-ltb w.tag 6 h) f.formed; inside = f.inside }

  -- an operation reads no frame
  pub operation_passed : 6 ≤ w.tag → operation_ok nodes i w ≡ true → NodeFits c m nodes i w
  unfolding outside
  operation_passed h f =
      record {
        formed = rw (le-ltb w.tag 6 h) f;
        inside = simp (ne_eqb w.tag 2 (λ q. omega arith), ne_eqb w.tag 3 (λ q. omega arith), ne_eqb w.tag 4 (λ q. omega arith), ne_eqb w.tag 5 (λ q. omega arith));
      }

pub passed_ready : (s : Strides) (m : Limits) (c : Counts) (l : Lent) → Fits s m c l → (nodes : List ℕ) (i : ℕ) → NodeFits c m nodes i (node_at nodes i) → NodeReady s l i (node_at nodes i).tag (node_at nodes i).x (node_at nodes i).y
unfolding node_ok
passed_ready s m c l f nodes i h = node_ready s m c l f nodes i (node_facts c nodes i h.formed) h.inside

-- ---- the copy

-- a part of a list's front
part_front : (xs ys : List ℕ) (k n : ℕ) → k + n ≤ length xs → take n (drop k (xs ++ ys)) ≡ take n (drop k xs)
part_front xs ys k n h =
    ap (take n) (drop-append-le k xs ys (omega arith)) ∙ take-append-le n (drop k xs) ys (let e = length-drop k xs in omega arith)

-- of a list whose front was copied, a part of that front
part_copied : (mid room : List ℕ) (count k n : ℕ) → count ≤ length mid → k + n ≤ count → take n (drop k (paste room 0 mid count)) ≡ take n (drop k mid)
part_copied mid room count k n h l =
    let e = length-take-le count mid h in
    part_front (take count mid) (drop (0 + count) room) k n (omega arith)
    ∙ sym (part_front (take count mid) (drop count mid) k n (omega arith))
    ∙ ap (λ (x : List ℕ). take n (drop k x)) (take-append-drop count mid)

module _ (env : ℕ → Value ℕ (List ℕ)) (n : ℕ) (old mid room : List ℕ) where
  room_copied : 4 * n ≤ length mid → 4 * n ≤ length room → RoomHolds env n old mid → RoomHolds env n room (paste room 0 mid (4 * n))
  room_copied a b h =
      record {
        node = λ j l. subst (Kept (env j)) (sym (part_copied mid room (4 * n) (4 * j) 4 a (block_before 4 l))) (h.node j l);
        rest = subst (λ (k : ℕ). drop k (paste room 0 mid (4 * n)) ≡ drop k room) (zero-add (4 * n)) (drop-paste room 0 mid (4 * n) (omega arith) a);
        long = length-paste room 0 mid (4 * n) (omega arith) a;
      }

module _ (s : Strides) (m : Limits) (c : Counts) (l : Lent) (nodes : List ℕ) where
  pub trial_done : (old mid room new : List ℕ) → 4 * c.nodes ≤ length mid → 4 * c.nodes ≤ length room → Tried s m c l nodes old mid → new ≡ paste room 0 mid (4 * c.nodes) → Trial s m c l nodes room new true
  trial_done old mid room new a b h e =
      rw e (record { done = λ q. record { node_fits = h.node_fits; holds = room_copied _ c.nodes old mid room a b h.holds }; kept = λ q. clash refl q })

  pub trial_kept : (room : List ℕ) → Trial s m c l nodes room room false
  trial_kept room = record { done = λ q. clash q refl; kept = λ q. refl }

-- ---- a room that was cleared

pub zeros : (n k : ℕ) → get_or (replicate {A = ℕ} n 0) k 0 ≡ 0
zeros zero k = refl
zeros (suc n) zero = refl
zeros (suc n) (suc k) = zeros n k
