-- One node: as it is written it comes to what the plain evaluator gives it, where its operands stand for theirs.
-- Assumes nothing.
use mathlib.Core.Bool.{Bool, true, false, cond, not}
use Rattle.std.specs.Prelude.{Option, Some}
use mathlib.Core.Path.{◌≡◌, refl}
use Prim.Native.Nat.{ℕ, zero, suc, ◌+◌, ◌*◌, ◌%◌, ◌<◌}
use native.Mathlib.Omega.{arith}
use lib.Dec.{eqb, ltb}
use borrow.Author.Tests.{lt-ltb, eq-eqb}
use Rattle.laws.specs.Options.{on1, only_if, at}
use Rattle.extension.specs.Tower.{Tower}
use Rattle.ir.specs.declared.frame.Shape.{Shape}
use Rattle.ir.specs.Words.{main_of, offset_of}
use Rattle.ir.specs.Program.{joined}
use Rattle.values.specs.Values.{Value, base, ext, class_of, to_ext, binop, unop, leaf_value}
use Rattle.blob_rules.specs.declared.blob.BlobCounts.{BlobCounts}
use Rattle.blob_rules.specs.Blob.{is_ext, Binary, binary, tags, kinds}
use Rattle.device.specs.StepRule.{Contents, Slots, operand, base_operand, ext_operand, op₀, op₁, value_of}
use Rattle.scan_parts.specs.Scan.{uniform_kind}
use Rattle.lowered.specs.Faithful.{leaves_of}
use Rattle.scan.proofs.WordLaws.{kind_of_lem, payload_of_lem, by_leaf}

-- what a slot of a class holds
abbrev pub slot_at : {B X : Type 0} → Slots B X → ℕ → ℕ → Option (Value B X)
slot_at m d t = cond (eqb d 0) (on1 base (m.bases t)) (on1 ext (m.exts t))

-- a leaf that is inside its table or the frame
pub record LeafFits (c : BlobCounts) (s : Shape) (tag x y : ℕ) : Type 0 where
  pub low : x < 536870912
  pub base_const : tag ≡ 0 → (x < c.bases) × (y ≡ 0)
  pub ext_const : tag ≡ 1 → (x < c.exts) × (y ≡ 0)
  pub cell : tag ≡ 2 → (x < 65536) × (y < 131072) × (y % 256 ≡ 0) × (offset_of y < s.steps)
  pub main_cell : tag ≡ 2 → main_of y ≡ true → x < s.main
  pub aux_cell : tag ≡ 2 → main_of y ≡ false → x < s.aux
  pub challenge : tag ≡ 3 → (x < s.challenges) × (y ≡ 0)
  pub alpha : tag ≡ 4 → (x < s.alphas) × (y ≡ 0)
  pub table_offset : tag ≡ 5 → (x ≡ 0) × (y ≡ 0)

module _ {B X : Type 0} (K : Tower B X) (u : Contents B X) (c : BlobCounts) (s : Shape) (m : Slots B X) where
  -- an operand by its slot
  pub by_slot : (d t : ℕ) → d < 2 → t < 536870912 → operand kinds c s u m (d * 536870912 + t) ≡ slot_at m d t
  by_slot zero t h l = rw (kind_of_lem 0 t l, payload_of_lem 0 t l) refl
  by_slot (suc zero) t h l = rw (kind_of_lem 1 t l, payload_of_lem 1 t l) refl
  by_slot (suc (suc d)) t h l = absurd (omega arith)

  -- and by its name
  pub by_name : (tag x y : ℕ) → LeafFits c s tag x y → tag < 6 → (tag ≡ 2 → ⊥) → operand kinds c s u m (uniform_kind tag * 536870912 + x) ≡ Some (leaf_value K (leaves_of u) tag x y)
  unfolding leaf_value
  by_name tag x y f h n =
      by_leaf (λ k. LeafFits c s k x y → (k ≡ 2 → ⊥) → operand kinds c s u m (uniform_kind k * 536870912 + x) ≡ Some (leaf_value K (leaves_of u) k x y))
      (λ g z. rw (kind_of_lem 2 x g.low, payload_of_lem 2 x g.low, lt-ltb x c.bases (g.base_const refl).0) refl)
      (λ g z. rw (kind_of_lem 3 x g.low, payload_of_lem 3 x g.low, lt-ltb x c.exts (g.ext_const refl).0) refl)
      (λ g z. absurd (z refl))
      (λ g z. rw (kind_of_lem 4 x g.low, payload_of_lem 4 x g.low, lt-ltb x s.challenges (g.challenge refl).0) refl)
      (λ g z. rw (kind_of_lem 5 x g.low, payload_of_lem 5 x g.low, lt-ltb x s.alphas (g.alpha refl).0) refl)
      (λ g z. rw (kind_of_lem 6 x g.low, payload_of_lem 6 x g.low, (g.table_offset refl).0) refl)
      tag h f n

  -- a leaf that is written
  pub leaf_written : (tag x y res : ℕ) → LeafFits c s tag x y → tag < 6 → value_of K tags kinds c s u m (record { op = tag; a = x; b = y; res = res }) ≡ Some (leaf_value K (leaves_of u) tag x y)
  unfolding leaf_value
  leaf_written tag x y res f h =
      by_leaf (λ k. LeafFits c s k x y → value_of K tags kinds c s u m (record { op = k; a = x; b = y; res = res }) ≡ Some (leaf_value K (leaves_of u) k x y))
      (λ g. rw ((g.base_const refl).1, lt-ltb x c.bases (g.base_const refl).0) refl)
      (λ g. rw ((g.ext_const refl).1, lt-ltb x c.exts (g.ext_const refl).0) refl)
      (λ g. let q = g.cell refl in
      rw (lt-ltb x 65536 q.0, lt-ltb y 131072 q.1, eq-eqb (y % 256) 0 q.2, lt-ltb (offset_of y) s.steps q.3) (cell_written (g.main_cell refl) (g.aux_cell refl)))
      (λ g. rw ((g.challenge refl).1, lt-ltb x s.challenges (g.challenge refl).0) refl)
      (λ g. rw ((g.alpha refl).1, lt-ltb x s.alphas (g.alpha refl).0) refl)
      (λ g. rw ((g.table_offset refl).0, (g.table_offset refl).1) refl)
      tag h f
    where
      cell_written : (main_of y ≡ true → x < s.main) → (main_of y ≡ false → x < s.aux)
          → cond (main_of y) (only_if (ltb x s.main) (Some (base (u.main (offset_of y) x)))) (only_if (ltb x s.aux) (Some (ext (u.aux (offset_of y) x))))
          ≡ Some (cond (main_of y) (base (u.main (offset_of y) x)) (ext (u.aux (offset_of y) x)))
      cell_written a b = go (main_of y) a b
        where
          go : (t : Bool) → (t ≡ true → x < s.main) → (t ≡ false → x < s.aux)
              → cond t (only_if (ltb x s.main) (Some (base (u.main (offset_of y) x)))) (only_if (ltb x s.aux) (Some (ext (u.aux (offset_of y) x))))
              ≡ Some (cond t (base (u.main (offset_of y) x)) (ext (u.aux (offset_of y) x)))
          go true a b = rw (lt-ltb x s.main (a refl)) refl
          go false a b = rw (lt-ltb x s.aux (b refl)) refl

  -- operations that are written, where their operands stand for values
  pub binary_written : (o : Binary) (tag a b res : ℕ) (v w : Value B X) → at tags tag ≡ Some (binary o) → operand kinds c s u m a ≡ Some v → operand kinds c s u m b ≡ Some w
      → is_ext res ≡ not (eqb (joined (class_of v) (class_of w)) 0)
      → value_of K tags kinds c s u m (record { op = tag; a = a; b = b; res = res }) ≡ Some (binop K (op₀ K o) (op₁ K o) v w)
  unfolding base_operand ext_operand
  binary_written o tag a b res (base x) (base y) e f g h = rw (e, f, g, h) refl
  binary_written o tag a b res (base x) (ext y) e f g h = rw (e, f, g, h) refl
  binary_written o tag a b res (ext x) (base y) e f g h = rw (e, f, g, h) refl
  binary_written o tag a b res (ext x) (ext y) e f g h = rw (e, f, g, h) refl

  pub negation_written : (a res : ℕ) (v : Value B X) → operand kinds c s u m a ≡ Some v → is_ext res ≡ not (eqb (class_of v) 0)
      → value_of K tags kinds c s u m (record { op = 9; a = a; b = 0; res = res }) ≡ Some (unop K K.neg₀ K.neg₁ v)
  unfolding base_operand ext_operand
  negation_written a res (base x) f h = rw (f, h) refl
  negation_written a res (ext x) f h = rw (f, h) refl

  pub embedding_written : (a res : ℕ) (v : Value B X) → operand kinds c s u m a ≡ Some v
      → value_of K tags kinds c s u m (record { op = 10; a = a; b = 0; res = res }) ≡ Some (ext (to_ext K v))
  unfolding ext_operand
  embedding_written a res v f = rw f refl
