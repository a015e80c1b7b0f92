-- What a leaf reads.
-- Assumes nothing.
use mathlib.Core.Bool.{Bool, true, false, not, ◌&&◌}
use mathlib.Core.List.{List}
use mathlib.Core.Path.{◌≡◌}
use Prim.Native.Nat.{ℕ, ◌<◌}
use lib.Dec.{eqb, ltb}
use borrow.Author.Tests.{ltb-true}
use Rattle.laws.specs.Options.{at}
use Rattle.laws.proofs.Tests.{and_left}
use Rattle.ir.specs.declared.frame.Shape.{Shape}
use Rattle.ir.specs.Words.{main_of}
use Rattle.values.specs.Frame.{Lent}
use Rattle.blob_rules.specs.declared.blob.BlobCounts.{BlobCounts}
use Rattle.blob_rules.specs.Blob.{Instr, tags, kinds}
use Rattle.blob_rules.specs.Check.{cell_ok, form_ok, node_ok, slot_of_class}
use Rattle.slots.specs.Steps.{CellGives, NodeLegal, LeafGives}

-- by its tag, an index inside its table or a cell inside the frame
pub record LeafIn (c : BlobCounts) (s : Shape) (w : Instr) : Type 0 where
  pub base_const : w.op ≡ 0 → w.a < c.bases
  pub ext_const : w.op ≡ 1 → w.a < c.exts
  pub cell : w.op ≡ 2 → cell_ok s w.a w.b ≡ true
  pub challenge : w.op ≡ 3 → w.a < s.challenges
  pub alpha : w.op ≡ 4 → w.a < s.alphas

module _ (c : BlobCounts) (s : Shape) (w : Instr) where
  pub leaf_in : NodeLegal c s w → LeafIn c s w
  unfolding node_ok
  leaf_in h =
      let ok : form_ok tags kinds c s h.filled (at tags w.op) w ≡ true = h.ok in
      record {
        base_const = λ e. ltb-true w.a c.bases (first (ltb w.a c.bases) (eqb w.b 0) (slot_of_class c false w.res) (rw e at ok));
        ext_const = λ e. ltb-true w.a c.exts (first (ltb w.a c.exts) (eqb w.b 0) (slot_of_class c true w.res) (rw e at ok));
        cell = λ e. and_left (cell_ok s w.a w.b) (slot_of_class c (not (main_of w.b)) w.res) (rw e at ok);
        challenge = λ e. ltb-true w.a s.challenges (first (ltb w.a s.challenges) (eqb w.b 0) (slot_of_class c true w.res) (rw e at ok));
        alpha = λ e. ltb-true w.a s.alphas (first (ltb w.a s.alphas) (eqb w.b 0) (slot_of_class c true w.res) (rw e at ok));
      }
    where
      first : (x y z : Bool) → (x && y && z) ≡ true → x ≡ true
      first x y z h = and_left x y (and_left (x && y) z h)

  module _ (rows row : ℕ) (l : Lent) where
    pub cell_gives : {class : ℕ} {limbs : List ℕ} → w.op ≡ 2 → CellGives s rows row l w.a w.b class limbs → LeafGives c s rows row l w class limbs
    cell_gives e h = record { follows = λ u t k m v z. h.follows u k v (rw e at z) }
