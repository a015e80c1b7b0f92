-- The trial of a program: what it asks, and what it gives. Only inner functions cite this file: no public promise rests on it.
-- Assumes nothing.
use Rattle.std.specs.Prelude.{Bool, true, false, cond, List, ◌≡◌, ℕ, ◌*◌, ◌<◌, ◌≤◌, eqb, ltb}
use Rattle.extension.specs.Tower.{goldilocks}
use Rattle.ir.specs.declared.program.Counts.{Counts}
use Rattle.ir.specs.Words.{Node, node_at, const_ext, rap_challenge, alpha_pow, add}
use Rattle.ir.specs.Program.{leaf_ok, operation_ok}
use Rattle.values.specs.declared.frame.Limits.{Limits}
use Rattle.values.specs.declared.frame.Strides.{Strides}
use Rattle.values.specs.Values.{values}
use Rattle.values.specs.Frame.{Lent, leaves, outside, Fits}
use Rattle.values.specs.Room.{RoomHolds}

-- ---- what it asks

-- limits that are themselves within document 01's: what is below them has 16 bits
pub record Narrow (m : Limits) : Type 0 where
  pub main : m.main ≤ 65536
  pub aux : m.aux ≤ 65536
  pub challenges : m.challenges ≤ 65536
  pub alphas : m.alphas ≤ 65536
  pub offsets : m.offsets ≤ 1

-- what is asked: a prover's frame and tables and rooms that are long enough
pub record Tryable (s : Strides) (m : Limits) (c : Counts) (l : Lent) (nodes room : ℕ) : Type 0 where
  pub fits : Fits s m c l
  pub base_cells : s.wide ≡ false
  pub narrow : Narrow m
  pub nodes_long : 4 * c.nodes ≤ nodes
  pub room_long : 4 * c.nodes ≤ room

-- ---- what it finds of a node: 7 and 13 let it through

-- an extension leaf's index is below this
unfoldable pub leaf_limit : Counts → Limits → ℕ → ℕ
leaf_limit c m tag =
    cond (eqb tag const_ext) c.exts
    (cond (eqb tag rap_challenge) m.challenges
    (cond (eqb tag alpha_pow) m.alphas
    m.offsets))

-- of a leaf
pub record LeafFits (c : Counts) (m : Limits) (w : Node) : Type 0 where
  pub formed : leaf_ok c w ≡ true
  pub inside : outside m w.tag w.x w.y ≡ false

-- of any node
pub record NodeFits (c : Counts) (m : Limits) (nodes : List ℕ) (i : ℕ) (w : Node) : Type 0 where
  pub formed : cond (ltb w.tag add) (leaf_ok c w) (operation_ok nodes i w) ≡ true
  pub inside : outside m w.tag w.x w.y ≡ false

-- ---- what it gives

-- every node passed, and its value is in the room
pub record Tried (s : Strides) (m : Limits) (c : Counts) (l : Lent) (nodes old new : List ℕ) : Type 0 where
  pub node_fits : (j : ℕ) → j < c.nodes → NodeFits c m nodes j (node_at nodes j)
  pub holds : RoomHolds (values goldilocks (leaves s l) nodes c.nodes) c.nodes old new

-- that where it answers true; where it answers false the room is as it was
pub record Trial (s : Strides) (m : Limits) (c : Counts) (l : Lent) (nodes old new : List ℕ) (passed : Bool) : Type 0 where
  pub done : passed ≡ true → Tried s m c l nodes old new
  pub kept : passed ≡ false → new ≡ old
