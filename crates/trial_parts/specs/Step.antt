-- A step of a trial: what it asks of the room, and what it gives. Only inner functions cite this file: no public promise rests
-- on it.
-- Assumes nothing.
use Rattle.std.specs.Prelude.{Bool, true, cond, ◌&&◌, List, ◌∷◌, ◌≡◌, ℕ, ◌+◌, ◌*◌, ◌<◌, ◌≤◌, eqb, ltb, length, get_or}
use Rattle.std.proofs.lemmas.List.Edits.{sets}
use Rattle.laws.specs.Lists.{tabulate}
use Rattle.field.specs.Base.{p}
use Rattle.extension.specs.Ext.{limb}
use Rattle.extension.specs.Tower.{remainders}
use Rattle.ir.specs.declared.program.Counts.{Counts}
use Rattle.ir.specs.Words.{node_at, const_ext, rap_challenge, alpha_pow, neg, embed}
use Rattle.ir.specs.Program.{joined}
use Rattle.values.specs.declared.frame.Limits.{Limits}
use Rattle.values.specs.declared.frame.Strides.{Strides}
use Rattle.values.specs.Values.{Value}
use Rattle.values.specs.Frame.{Lent, triple}
use Rattle.values.specs.Operations.{Operates, Computes}
use Rattle.values.specs.Room.{ValueIs}
use Rattle.trial_parts.specs.Trial.{Tryable, NodeFits}

-- ---- what it asks

-- node i's words are there, and 0
pub record Clear (room : List ℕ) (i : ℕ) : Type 0 where
  pub long : 4 * i + 4 ≤ length room
  pub zero_word : (k : ℕ) → k < 4 → get_or room (4 * i + k) 0 ≡ 0

-- the words of every node before i are below p
pub record LowRoom (room : List ℕ) (i : ℕ) : Type 0 where
  pub low_word : (j k : ℕ) → j < i → k < 4 → get_or room (4 * j + k) 0 < p

-- so are an extension value's limbs
pub record LowLimbs (l : List ℕ) : Type 0 where
  pub low_limb : (k : ℕ) → k < 3 → limb l k < p

-- the trial before node i
pub record Standing (s : Strides) (m : Limits) (c : Counts) (l : Lent) (nodes room : List ℕ) (i : ℕ) : Type 0 where
  pub tryable : Tryable s m c l (length nodes) (length room)
  pub below : i < c.nodes
  pub clear : Clear room i
  pub low : LowRoom room i
  pub classes : (j : ℕ) → j < i → get_or room (4 * j) 0 ≡ (node_at nodes j).dim

-- an entry of a table of extension values, or the table offset
unfoldable pub entry_of : ℕ → ℕ → (exts challenges alphas offset : List ℕ) → List ℕ
entry_of tag k exts challenges alphas offset =
    cond (eqb tag const_ext) (triple exts k)
    (cond (eqb tag rap_challenge) (triple challenges k)
    (cond (eqb tag alpha_pow) (triple alphas k)
    (remainders 3 offset)))

-- it is there
pub record EntryIn (tag k exts challenges alphas : ℕ) : Type 0 where
  pub in_exts : tag ≡ const_ext → 3 * k + 3 ≤ exts
  pub in_challenges : tag ≡ rap_challenge → 3 * k + 3 ≤ challenges
  pub in_alphas : tag ≡ alpha_pow → 3 * k + 3 ≤ alphas

-- ---- what it gives

-- a value of a class stands in node i's words, and no other word changed
pub record Put (v : Value ℕ (List ℕ)) (class i : ℕ) (old new : List ℕ) : Type 0 where
  pub limbs : List ℕ
  pub value_is : ValueIs v class limbs
  pub stored : new ≡ sets old (4 * i) (class ∷ tabulate 3 (limb limbs))

-- what a well-formed operation asks besides its first operand's id, where dims are the classes in the room
unfoldable pub operands_ok : List ℕ → ℕ → ℕ → ℕ → ℕ → ℕ → Bool
operands_ok room i tag x y dim =
    cond (ltb tag neg) (ltb y i && eqb dim (joined (get_or room (4 * x) 0) (get_or room (4 * y) 0)))
    (eqb y 0 && cond (eqb tag neg) (eqb dim (get_or room (4 * x) 0)) (eqb tag embed && eqb dim 1))

-- an operation, whatever values its operands stand for
pub record Operated (i tag x y dim : ℕ) (old new : List ℕ) : Type 0 where
  pub limbs : List ℕ
  pub operands_ok : operands_ok old i tag x y dim ≡ true
  pub operates : Operates old tag x y dim limbs
  pub stored : new ≡ sets old (4 * i) (dim ∷ tabulate 3 (limb limbs))

-- a node passed, and its value is stored
pub record Stepped (s : Strides) (m : Limits) (c : Counts) (l : Lent) (nodes : List ℕ) (i : ℕ) (old new : List ℕ) : Type 0 where
  pub limbs : List ℕ
  pub fits : NodeFits c m nodes i (node_at nodes i)
  pub computes : Computes s l old (node_at nodes i).tag (node_at nodes i).x (node_at nodes i).y (node_at nodes i).dim limbs
  pub stored : new ≡ sets old (4 * i) ((node_at nodes i).dim ∷ tabulate 3 (limb limbs))
