-- Which nodes of a program are emitted, and when a slot may be given back: document 01's liveness, and what the theorem
-- of lowering asks of any.
-- Assumes nothing.
use Rattle.std.specs.Prelude.{Bool, true, false, cond, not, ◌&&◌, ◌||◌, List, [], ◌∷◌, ◌≡◌, ℕ, zero, suc, ◌<◌, ◌≤◌, eqb, ltb, get_or}
use Rattle.laws.specs.Folds.{any_below}
use Rattle.ir.specs.declared.program.Counts.{Counts}
use Rattle.ir.specs.Words.{Node, node_at, var, add, neg}

-- whether a number is in a list
abbrev pub has : ℕ → List ℕ → Bool
has j [] = false
has j (x ∷ xs) = eqb j x || has j xs

-- the nodes that a node reads
abbrev pub operands : Node → List ℕ
operands w = cond (ltb w.tag add) [] (cond (ltb w.tag neg) (w.x ∷ w.y ∷ []) (w.x ∷ []))

-- a leaf that is the same in every row: constant, challenge, alpha power, table offset
abbrev pub is_uniform : Node → Bool
is_uniform w = ltb w.tag add && not (eqb w.tag var)

-- what the scan asks: which nodes get a slot, the last node that reads each, and which slots are never given back
pub record Liveness : Type 0 where
  pub emitted : ℕ → Bool
  pub last_use : ℕ → ℕ
  pub pinned : ℕ → Bool

-- node k, dead or not, reads node j
abbrev pub reads_of : List ℕ → ℕ → ℕ → Bool
reads_of nodes j k = has j (operands (node_at nodes k))

-- the greatest of the first k nodes that reads node j, 0 if none does
unfoldable pub last_by : List ℕ → ℕ → ℕ → ℕ
last_by nodes zero j = 0
last_by nodes (suc k) j = cond (reads_of nodes j k) k (last_by nodes k j)

-- a root names node j
unfoldable pub is_root_of : Counts → List ℕ → ℕ → Bool
is_root_of c roots j = any_below (λ r. eqb (get_or roots r 0) j) c.roots

module _ (c : Counts) (nodes roots : List ℕ) where
  -- any node reads it, or it is a root
  unfoldable pub is_used : ℕ → Bool
  is_used j = any_below (reads_of nodes j) c.nodes || is_root_of c roots j

  -- document 01's: a used node is emitted unless it is a uniform leaf and no root; dead readers count; roots are pinned
  abbrev pub live : Liveness
  live =
      record {
        emitted = λ j. is_used j && (not (is_uniform (node_at nodes j)) || is_root_of c roots j);
        last_use = last_by nodes c.nodes;
        pinned = is_root_of c roots;
      }

-- what `AnyLivenessIsFaithful` asks of a liveness: roots are emitted and never give their slot back; an operand of an emitted node
-- is emitted or a uniform leaf; no emitted reader comes after the last use
pub record Sound (c : Counts) (nodes roots : List ℕ) (v : Liveness) : Type 0 where
  pub root_emitted : (r : ℕ) → r < c.roots → v.emitted (get_or roots r 0) ≡ true
  pub root_pinned : (r : ℕ) → r < c.roots → v.pinned (get_or roots r 0) ≡ true
  pub operand_named : (i j : ℕ) → i < c.nodes → v.emitted i ≡ true → has j (operands (node_at nodes i)) ≡ true → v.emitted j ≡ false → is_uniform (node_at nodes j) ≡ true
  pub last_read : (i j : ℕ) → i < c.nodes → v.emitted i ≡ true → has j (operands (node_at nodes i)) ≡ true → v.pinned j ≡ false → i ≤ v.last_use j
