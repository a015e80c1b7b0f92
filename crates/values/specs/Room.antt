-- The room of four words a node: the class of its value, then the limbs, a base value embedded.
-- Assumes nothing.
use Rattle.std.specs.Prelude.{List, ◌≡◌, ℕ, ◌*◌, ◌<◌, length, get_or, drop}
use Rattle.laws.specs.Lists.{block}
use Rattle.field.specs.Base.{p}
use Rattle.extension.specs.Ext.{Near, Limbs}
use Rattle.extension.specs.Tower.{goldilocks}
use Rattle.values.specs.Values.{Value, class_of, to_ext}

-- a class and three limbs stand for a value
pub record Stands (v : Value ℕ (List ℕ)) (class : ℕ) (limbs : List ℕ) : Type 0 where
  pub class_is : class ≡ class_of v
  pub limbs_near : Near 3 limbs (to_ext goldilocks v)

-- the same of a result, as the field promises it
pub record ValueIs (v : Value ℕ (List ℕ)) (class : ℕ) (limbs : List ℕ) : Type 0 where
  pub class_is : class ≡ class_of v
  pub limbs_are : Limbs 3 (to_ext goldilocks v) limbs

-- words that are below p
pub record Low (l : List ℕ) : Type 0 where
  pub word_low : (k : ℕ) → get_or l k 0 < p

-- a node's four words stand for its value
pub record Kept (v : Value ℕ (List ℕ)) (ws : List ℕ) : Type 0 where
  pub stands : Stands v (get_or ws 0 0) (drop 1 ws)
  pub low : Low ws

-- the room holds the values of n nodes; words past the need stay
pub record RoomHolds (env : ℕ → Value ℕ (List ℕ)) (n : ℕ) (old new : List ℕ) : Type 0 where
  pub node : (j : ℕ) → j < n → Kept (env j) (block 4 new j)
  pub rest : drop (4 * n) new ≡ drop (4 * n) old
  pub long : length new ≡ length old
