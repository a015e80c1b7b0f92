-- The pass over the nodes: values stay once computed, and what is stored stands for them.
-- Assumes nothing.
use mathlib.Core.List.{List, ◌∷◌}
use mathlib.Core.Path.{◌≡◌, refl, subst, ◌∙◌}
use Prim.Native.Nat.{ℕ, zero, suc, ◌+◌, ◌*◌, ◌<◌, ◌≤◌}
use native.Mathlib.Decide.{le_ind}
use native.Mathlib.Omega.{arith}
use lib.Dec.{lit<}
use lib.ListN.{length, get_or, drop}
use lib.Seq.{sets, get_or-take, get_or-drop}
use Rattle.laws.specs.Lists.{tabulate}
use Rattle.laws.proofs.Blocks.{BlocksReplaced, blocks_more}
use Rattle.laws.proofs.Maps.{upd_here, upd_other}
use Rattle.field.specs.Base.{p}
use Rattle.extension.specs.Ext.{limb}
use Rattle.extension.specs.Tower.{Tower, goldilocks}
use Rattle.extension.proofs.ExtLaws.{limbs_near, kept_limbs}
use Rattle.ir.specs.Words.{node_at}
use Rattle.values.specs.declared.frame.Strides.{Strides}
use Rattle.values.specs.Values.{Value, base, ext, class_of, Leaves, node_value, values}
use Rattle.values.specs.Frame.{Lent, leaves}
use Rattle.values.specs.Room.{ValueIs, Kept, RoomHolds}
use Rattle.values.specs.Operations.{StandsIn, LowBefore, Computes, NodeReady}

-- ---- a value, once computed, stays

module _ {B X : Type 0} (K : Tower B X) (u : Leaves B X) (nodes : List ℕ) where
  -- node j's value when it is computed
  abbrev pub value_at : ℕ → Value B X
  value_at j = values K u nodes (suc j) j

  pub value_stays : (j k : ℕ) → j < k → values K u nodes k j ≡ value_at j
  unfolding values
  value_stays j k h =
      le_ind (λ m. values K u nodes m j ≡ value_at j) refl
      (λ m l e. upd_other (values K u nodes m) m (node_value K u (values K u nodes m) (node_at nodes m).tag (node_at nodes m).x (node_at nodes m).y) j (λ q. omega arith) ∙ e)
      k h

  pub value_computed : (j : ℕ) → value_at j ≡ node_value K u (values K u nodes j) (node_at nodes j).tag (node_at nodes j).x (node_at nodes j).y
  unfolding values
  value_computed j = upd_here (values K u nodes j) j (node_value K u (values K u nodes j) (node_at nodes j).tag (node_at nodes j).x (node_at nodes j).y)

-- ---- what is stored

class_low : (v : Value ℕ (List ℕ)) → class_of v < p
class_low (base b) = lit< tt
class_low (ext x) = lit< tt

pub kept_value : {v : Value ℕ (List ℕ)} {class : ℕ} {limbs : List ℕ} → ValueIs v class limbs → Kept v (class ∷ tabulate 3 (limb limbs))
kept_value {v} {class} {limbs} h =
    record {
      stands = record { class_is = h.class_is; limbs_near = limbs_near (kept_limbs h.limbs_are) };
      low = record { word_low = low_at };
    }
  where
    low_at : (k : ℕ) → get_or (class ∷ tabulate 3 (limb limbs)) k 0 < p
    low_at zero = rw h.class_is (class_low v)
    low_at (suc zero) = (h.limbs_are.limb_is 0 (lit< tt)).below
    low_at (suc (suc zero)) = (h.limbs_are.limb_is 1 (lit< tt)).below
    low_at (suc (suc (suc zero))) = (h.limbs_are.limb_is 2 (lit< tt)).below
    low_at (suc (suc (suc (suc k)))) = lit< tt

-- the room after the first i nodes
abbrev Held : Strides → Lent → List ℕ → ℕ → List ℕ → Type 0
Held s l nodes j ws = Kept (value_at goldilocks (leaves s l) nodes j) ws

module _ (s : Strides) (l : Lent) (nodes old : List ℕ) where
  abbrev pub Passed : List ℕ → ℕ → Type 0
  Passed room i = BlocksReplaced 4 (Held s l nodes) old room i

  -- an operand that was passed
  pub operand : (room : List ℕ) (i x : ℕ) → Passed room i → x < i → StandsIn room (values goldilocks (leaves s l) nodes i x) x
  operand room i x w h = rw (value_stays goldilocks (leaves s l) nodes x i h) (w.done x h).stands

  pub passed_low : (room : List ℕ) (i : ℕ) → Passed room i → LowBefore room i
  passed_low room i w = record { first_low = λ j h. subst (λ (n : ℕ). n < p) (get_or-take 4 (drop (4 * j) room) 1 0 (lit< tt) ∙ get_or-drop (4 * j) room 1 0) ((w.done j h).low.word_low 1) }

  pub passed_more :
      (mid new limbs : List ℕ) (i class : ℕ) → 4 * i + 4 ≤ length mid → Passed mid i
      → NodeReady s l i (node_at nodes i).tag (node_at nodes i).x (node_at nodes i).y
      → Computes s l mid (node_at nodes i).tag (node_at nodes i).x (node_at nodes i).y class limbs
      → new ≡ sets mid (4 * i) (class ∷ tabulate 3 (limb limbs)) → Passed new (i + 1)
  passed_more mid new limbs i class h w r c e =
      blocks_more 4 (Held s l nodes) old mid new (class ∷ tabulate 3 (limb limbs)) i refl h w
      (kept_value {limbs = limbs} (rw (value_computed goldilocks (leaves s l) nodes i) (c.follows (values goldilocks (leaves s l) nodes i) (λ q. operand mid i _ w (r.first_operand q)) λ q t. operand mid i _ w (r.second_operand q t))))
      e

  pub passed_all : (room : List ℕ) (n : ℕ) → Passed room n → RoomHolds (values goldilocks (leaves s l) nodes n) n old room
  passed_all room n w =
      record {
        node = λ j h. rw (value_stays goldilocks (leaves s l) nodes j n h) (w.done j h);
        rest = w.kept;
        long = w.long;
      }
