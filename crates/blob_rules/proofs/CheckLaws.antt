-- Laws of the blob check's tests, by number.
-- Assumes nothing.
use mathlib.Core.Bool.{Bool, false}
use mathlib.Core.List.{List, [], ◌∷◌}
use Rattle.std.specs.Prelude.{None}
use mathlib.Core.Path.{◌≡◌, refl}
use Prim.Native.Nat.{ℕ, zero, suc, ◌<◌, ◌≤◌}
use native.Mathlib.Omega.{arith}
use lib.ListN.{length}
use Rattle.laws.specs.Options.{at}
use Rattle.ir.specs.declared.frame.Shape.{Shape}
use Rattle.blob_rules.specs.declared.blob.BlobCounts.{BlobCounts}
use Rattle.blob_rules.specs.Blob.{Instr, kind_of, payload_of, tags, kinds}
use Rattle.blob_rules.specs.Check.{Filled, kind_ok, operand_ok, form_ok, node_ok}

-- past a list's end there is nothing
pub at_past : {A : Type 0} (l : List A) (k : ℕ) → length l ≤ k → at l k ≡ None
at_past [] k h = refl
at_past (x ∷ xs) zero h = absurd (omega arith)
at_past (x ∷ xs) (suc k) h = at_past xs k (omega arith)

-- a number that is none of the first few is past them
pub not_four : {k : ℕ} → (k ≡ 0 → ⊥) → (k ≡ 1 → ⊥) → (k ≡ 2 → ⊥) → (k ≡ 3 → ⊥) → 4 ≤ k
not_four a b c d = omega arith

pub is_five : {k : ℕ} → k < 6 → (k ≡ 0 → ⊥) → (k ≡ 1 → ⊥) → (k ≡ 2 → ⊥) → (k ≡ 3 → ⊥) → (k ≡ 4 → ⊥) → k ≡ 5
is_five {k} l a b c d e = last (not_four a b c d) l e
  where
    last : {k : ℕ} → 4 ≤ k → k < 6 → (k ≡ 4 → ⊥) → k ≡ 5
    last h l e = omega arith

pub past_ten : {k : ℕ} → 6 ≤ k → (k ≡ 6 → ⊥) → (k ≡ 7 → ⊥) → (k ≡ 8 → ⊥) → (k ≡ 9 → ⊥) → (k ≡ 10 → ⊥) → 11 ≤ k
past_ten l a b c d e = omega arith

pub not_seven : {k : ℕ} → (k ≡ 0 → ⊥) → (k ≡ 1 → ⊥) → (k ≡ 2 → ⊥) → (k ≡ 3 → ⊥) → (k ≡ 4 → ⊥) → (k ≡ 5 → ⊥) → (k ≡ 6 → ⊥) → 7 ≤ k
not_seven {k} a b c d e f g = past (not_four a b c d) e f g
  where
    past : {k : ℕ} → 4 ≤ k → (k ≡ 4 → ⊥) → (k ≡ 5 → ⊥) → (k ≡ 6 → ⊥) → 7 ≤ k
    past h e f g = omega arith

module _ (c : BlobCounts) (s : Shape) (f : Filled) where
  -- an operand whose kind is known
  pub operand_by : (wide : Bool) (w k : ℕ) → kind_of w ≡ k → operand_ok tags kinds c s f wide w ≡ kind_ok tags kinds c s f wide (at kinds k) (payload_of w)
  unfolding operand_ok
  operand_by wide w k e = rw e

  -- a kind past the table
  pub operand_unknown : (wide : Bool) (w : ℕ) → 7 ≤ kind_of w → operand_ok tags kinds c s f wide w ≡ false
  unfolding operand_ok
  operand_unknown wide w h = rw (at_past kinds (kind_of w) h)

  -- a node whose tag is known
  pub node_by : (w : Instr) (k : ℕ) → w.op ≡ k → node_ok tags kinds c s f w ≡ form_ok tags kinds c s f (at tags k) w
  unfolding node_ok
  node_by w k e = rw e

  -- a tag past the table
  pub node_unknown : (w : Instr) → 11 ≤ w.op → node_ok tags kinds c s f w ≡ false
  unfolding node_ok
  node_unknown w h = rw (at_past tags w.op h)
