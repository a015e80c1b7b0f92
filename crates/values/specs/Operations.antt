-- The three binary operations on words, by tag, as the field promises them; and what an operation on the room gives. For
-- inner functions: no public promise cites it.
-- Assumes nothing.
use Rattle.std.specs.Prelude.{cond, List, ℕ, ◌+◌, ◌*◌, ◌<◌, ◌≤◌, eqb, length, get_or, drop}
use Rattle.laws.specs.Lists.{block}
use Rattle.field.specs.Base.{p, minus}
use Rattle.extension.specs.Ext.{sums, minuses, product}
use Rattle.extension.specs.Tower.{goldilocks}
use Rattle.ir.specs.Words.{node_at, add, sub, neg, embed}
use Rattle.values.specs.declared.frame.Strides.{Strides}
use Rattle.values.specs.Frame.{Lent, leaves, LeafIn}
use Rattle.values.specs.Values.{Value, operation_value, node_value}
use Rattle.values.specs.Room.{Stands, ValueIs}

-- on base words
unfoldable pub base_op : ℕ → ℕ → ℕ → ℕ
base_op tag a b = cond (eqb tag add) (a + b) (cond (eqb tag sub) (a + minus b) (a * b))

-- on extension words
unfoldable pub ext_op : ℕ → List ℕ → List ℕ → List ℕ
ext_op tag a b = cond (eqb tag add) (sums 3 a b) (cond (eqb tag sub) (sums 3 a (minuses 3 b)) (product a b))

-- node j's words in a room stand for a value
abbrev pub StandsIn : List ℕ → Value ℕ (List ℕ) → ℕ → Type 0
StandsIn room v j = Stands v (get_or (block 4 room j) 0 0) (drop 1 (block 4 room j))

-- whatever values the operands' words stand for, the result stands for the operation's
pub record Operates (room : List ℕ) (tag x y class : ℕ) (limbs : List ℕ) : Type 0 where
  pub follows :
      (env : ℕ → Value ℕ (List ℕ)) → StandsIn room (env x) x → (tag < neg → StandsIn room (env y) y)
      → ValueIs (operation_value goldilocks env tag x y) class limbs

-- ---- what the evaluation of a node asks, and gives

-- the first limb of every node before i
pub record LowBefore (room : List ℕ) (i : ℕ) : Type 0 where
  pub first_low : (j : ℕ) → j < i → get_or room (4 * j + 1) 0 < p

-- what it asks
pub record NodeReady (s : Strides) (l : Lent) (i tag x y : ℕ) : Type 0 where
  pub known : tag ≤ embed
  pub leaf_in : tag < add → LeafIn s tag x y l
  pub first_operand : add ≤ tag → x < i
  pub second_operand : add ≤ tag → tag < neg → y < i

-- what it gives, whatever values the operands' words stand for
pub record Computes (s : Strides) (l : Lent) (room : List ℕ) (tag x y class : ℕ) (limbs : List ℕ) : Type 0 where
  pub follows :
      (env : ℕ → Value ℕ (List ℕ)) → (add ≤ tag → StandsIn room (env x) x) → (add ≤ tag → tag < neg → StandsIn room (env y) y)
      → ValueIs (node_value goldilocks (leaves s l) env tag x y) class limbs

-- what the evaluation of n nodes asks
pub record Ready (s : Strides) (nodes : List ℕ) (n : ℕ) (l : Lent) (room : ℕ) : Type 0 where
  pub nodes_long : 4 * n ≤ length nodes
  pub room_long : 4 * n ≤ room
  pub node : (i : ℕ) → i < n → NodeReady s l i (node_at nodes i).tag (node_at nodes i).x (node_at nodes i).y
