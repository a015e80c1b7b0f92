-- How the lent lists stand for liveness: for inner functions, no public promise cites it.
-- Assumes nothing.
use Rattle.std.specs.Prelude.{Bool, cond, not, ◌&&◌, ◌||◌, List, [], ◌∷◌, ◌≡◌, ℕ, zero, suc, ◌+◌, ◌*◌, ◌<◌, ◌≤◌, eqb, ltb, length, get_or}
use Rattle.laws.specs.Folds.{any_below}
use Rattle.ir.specs.declared.program.Counts.{Counts}
use Rattle.ir.specs.Words.{node_at, var, add, neg}
use Rattle.liveness.specs.declared.liveness.Marks.{Marks}
use Rattle.liveness.specs.Liveness.{has, operands, reads_of, is_root_of, last_by, Liveness, live}

-- each list is still the one that was lent
abbrev pub SameMarks : Marks → Marks → Type 0
SameMarks m m' = (m.used.ghost_name ≡ m'.used.ghost_name) × (m.last_use.ghost_name ≡ m'.last_use.ghost_name) × (m.is_root.ghost_name ≡ m'.is_root.ghost_name)

-- the first n words of a list are the map's
abbrev pub Tab : List ℕ → ℕ → (ℕ → ℕ) → Type 0
Tab l n f = (j : ℕ) → j < n → get_or l j 0 ≡ f j

-- a truth as a word
abbrev pub bit : Bool → ℕ
bit b = cond b 1 0

-- how many words of a list are not 0
unfoldable pub busy : List ℕ → ℕ
busy [] = 0
busy (x ∷ l) = cond (eqb x 0) (busy l) (suc (busy l))

-- what is known after the first k nodes: whether one of them reads node j, and the last that does
pub record Readers (nodes : List ℕ) (k n : ℕ) (used last : List ℕ) : Type 0 where
  pub used_long : length used ≡ n
  pub last_long : length last ≡ n
  pub reads : Tab used n (λ j. bit (any_below (reads_of nodes j) k))
  pub lasts : Tab last n (last_by nodes k)

-- a node's operands are places of a list
pub record OperandsBelow (tag x y n : ℕ) : Type 0 where
  pub first : add ≤ tag → x < n
  pub second : add ≤ tag → tag < neg → y < n

-- the words of n nodes, whose operands are among them
pub record NodesBelow (nodes : List ℕ) (n : ℕ) : Type 0 where
  pub nodes_long : 4 * n ≤ length nodes
  pub node : (i : ℕ) → i < n → OperandsBelow (node_at nodes i).tag (node_at nodes i).x (node_at nodes i).y n

-- what a node adds: its operands are read, and it is the last that reads them so far
pub record NodeMarked (i tag x y : ℕ) (used last used' last' : List ℕ) : Type 0 where
  pub used_long : length used' ≡ length used
  pub last_long : length last' ≡ length last
  pub reads : (j : ℕ) → get_or used' j 0 ≡ cond (has j (operands (record { tag = tag; x = x; y = y; dim = 0 }))) 1 (get_or used j 0)
  pub lasts : (j : ℕ) → get_or last' j 0 ≡ cond (has j (operands (record { tag = tag; x = x; y = y; dim = 0 }))) i (get_or last j 0)

-- each root is one of n nodes
pub record RootsBelow (roots : List ℕ) (count n : ℕ) : Type 0 where
  pub roots_long : count ≤ length roots
  pub below : (r : ℕ) → r < count → get_or roots r 0 < n

-- the nodes that the first k roots name
abbrev pub Rooted : List ℕ → ℕ → ℕ → List ℕ → Type 0
Rooted roots k n is_root = (length is_root ≡ n) × Tab is_root n (λ j. bit (any_below (λ r. eqb (get_or roots r 0) j) k))

-- whether a node gets a slot, by its tag and its words of use and root
abbrev pub emits_word : (tag used root : ℕ) → Bool
emits_word tag used root =
    let r = not (eqb root 0) in
    (not (eqb used 0) || r) && (not (ltb tag add && not (eqb tag var)) || r)

-- how many of the numbers below k pass a test
unfoldable pub count_below : (ℕ → Bool) → ℕ → ℕ
count_below t zero = 0
count_below t (suc k) = count_below t k + bit (t k)

-- the first i words of use have become words of emission, and so many are emitted
pub record Emits (i : ℕ) (nodes root old new : List ℕ) (count : ℕ) : Type 0 where
  pub long : length new ≡ length old
  pub done : (j : ℕ) → j < i → get_or new j 0 ≡ bit (emits_word (node_at nodes j).tag (get_or old j 0) (get_or root j 0))
  pub rest : (j : ℕ) → i ≤ j → get_or new j 0 ≡ get_or old j 0
  pub counted : count ≡ count_below (λ j. emits_word (node_at nodes j).tag (get_or old j 0) (get_or root j 0)) i
  pub few : count ≤ i

-- a program whose liveness can be marked on lists of 0
pub record LiveOk (c : Counts) (nodes roots used last pinned : List ℕ) : Type 0 where
  pub few : c.nodes < 536870912
  pub nodes_ok : NodesBelow nodes c.nodes
  pub roots_ok : RootsBelow roots c.roots c.nodes
  pub long : (length used ≡ c.nodes) × (length last ≡ c.nodes) × (length pinned ≡ c.nodes)
  pub clear : (busy used ≡ 0) × (busy last ≡ 0) × (busy pinned ≡ 0)

-- the lists stand for document 01's liveness
pub record Alive (c : Counts) (nodes roots emitted last pinned : List ℕ) (count : ℕ) : Type 0 where
  pub long : (length emitted ≡ c.nodes) × (length last ≡ c.nodes) × (length pinned ≡ c.nodes)
  pub emits : Tab emitted c.nodes (λ j. bit ((live c nodes roots).emitted j))
  pub lasts : Tab last c.nodes (last_by nodes c.nodes)
  pub pins : Tab pinned c.nodes (λ j. bit (is_root_of c roots j))
  pub counted : count ≡ count_below (live c nodes roots).emitted c.nodes
  pub few : count ≤ c.nodes

-- the liveness that three lists say
abbrev pub listed : (emitted last pinned : List ℕ) → Liveness
listed emitted last pinned =
    record {
      emitted = λ j. not (eqb (get_or emitted j 0) 0);
      last_use = λ j. get_or last j 0;
      pinned = λ j. not (eqb (get_or pinned j 0) 0);
    }
