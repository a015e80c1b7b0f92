-- How the lent lists stand for the scan where one slot or one node is in question: for inner functions; no entry point's promise cites it.
-- Assumes nothing.
use Rattle.std.specs.Prelude.{true, List, [], ◌∷◌, ◌≡◌, ℕ, zero, suc, ◌+◌, ◌*◌, ◌<◌, ◌≤◌, length, get_or}
use Rattle.ir.specs.Words.{node_at}
use Rattle.liveness.specs.Liveness.{has, operands}
use Rattle.scan_parts.specs.Scan.{Scan, pick, left, more, slot_word, written, give}
use Rattle.liveness.specs.LiveLists.{Tab, busy, listed}
use Rattle.scan_parts.specs.declared.pools as declared

-- each list of the scan is still the one that was lent
abbrev pub SameScan : declared.Scan.Scan → declared.Scan.Scan → Type 0
SameScan s s' = (s.slot_of.ghost_name ≡ s'.slot_of.ghost_name) × (s.free.ghost_name ≡ s'.free.ghost_name) × (s.out.ghost_name ≡ s'.out.ghost_name)

-- the free slots of class c, of which there are k: each at every other place from c on, the last freed first
unfoldable pub stack : List ℕ → ℕ → ℕ → List ℕ
stack l c zero = []
stack l c (suc k) = get_or l (2 * k + c) 0 ∷ stack l c k

-- how many slots are held or free
abbrev pub slots_in : (slot tops : List ℕ) → ℕ
slots_in slot tops = busy slot + (get_or tops 0 0 + get_or tops 1 0)

-- the lists stand for a state of the scan
pub record Stands (n : ℕ) (slot free tops next : List ℕ) (s : Scan) : Type 0 where
  pub slot_long : length slot ≡ n
  pub free_long : length free ≡ 2 * n
  pub pairs : (length tops ≡ 2) × (length next ≡ 2)
  pub slots : Tab slot n s.slot
  pub frees : (c : ℕ) → c < 2 → stack free c (get_or tops c 0) ≡ s.free c
  pub nexts : (c : ℕ) → c < 2 → get_or next c 0 ≡ s.next c

-- node j's words are there, and its class is one
pub record ClassOk (nodes : List ℕ) (j : ℕ) : Type 0 where
  pub long : 4 * j + 4 ≤ length nodes
  pub dim : (node_at nodes j).dim < 2

-- a class's slot can be taken
pub record TakeOk (class : ℕ) (free tops next : List ℕ) : Type 0 where
  pub known : class < 2
  pub pairs : (length tops ≡ 2) × (length next ≡ 2)
  pub room : 2 * get_or tops class 0 ≤ length free
  pub few : get_or next class 0 < 536870912

-- a slot is taken: the others of its class, and those of the other class, stay
pub record Takes (class : ℕ) (free tops next : List ℕ) (k : ℕ) (tops' next' : List ℕ) : Type 0 where
  pub picked : k ≡ pick (stack free class (get_or tops class 0)) (get_or next class 0)
  pub rest : stack free class (get_or tops' class 0) ≡ left (stack free class (get_or tops class 0))
  pub count : get_or next' class 0 ≡ more (stack free class (get_or tops class 0)) (get_or next class 0)
  pub other_tops : (c : ℕ) → (c ≡ class → ⊥) → get_or tops' c 0 ≡ get_or tops c 0
  pub other_next : (c : ℕ) → (c ≡ class → ⊥) → get_or next' c 0 ≡ get_or next c 0
  pub fewer : get_or tops' class 0 ≤ get_or tops class 0
  pub pairs : (length tops' ≡ 2) × (length next' ≡ 2)

-- a slot of a class can be pushed
pub record PushOk (class : ℕ) (free tops : List ℕ) : Type 0 where
  pub known : class < 2
  pub pair : length tops ≡ 2
  pub room : 2 * get_or tops class 0 + class < length free

-- operand j can give its slot back
pub record GiveOk (j : ℕ) (nodes last pinned slot free tops next : List ℕ) : Type 0 where
  pub place : j < length slot
  pub last_long : length last ≡ length slot
  pub pinned_long : length pinned ≡ length slot
  pub free_long : length free ≡ 2 * length slot
  pub class : ClassOk nodes j
  pub pairs : (length tops ≡ 2) × (length next ≡ 2)
  pub few : slots_in slot tops ≤ length slot

-- at node i operand j gives its slot back, if the definition says so
pub record Gives (i j : ℕ) (nodes last pinned slot free tops next slot' free' tops' : List ℕ) : Type 0 where
  pub long : (length slot' ≡ length slot) × (length free' ≡ length free) × (length tops' ≡ 2)
  pub few : slots_in slot' tops' ≡ slots_in slot tops
  pub follows : (emitted : List ℕ) (s : Scan) → Stands (length slot) slot free tops next s → Stands (length slot) slot' free' tops' next (give nodes (listed emitted last pinned) i j s)

-- operand j can be encoded: it has a slot, or is a leaf whose x fits a payload
pub record EncOk (j : ℕ) (nodes emitted slot : List ℕ) : Type 0 where
  pub place : j < length slot
  pub emitted_long : length emitted ≡ length slot
  pub class : ClassOk nodes j
  pub held : (get_or emitted j 0 ≡ 0 → ⊥) → (0 < get_or slot j 0) × (get_or slot j 0 ≤ 536870912)
  pub named : get_or emitted j 0 ≡ 0 → ((node_at nodes j).tag < 6) × ((node_at nodes j).x < 536870912)

-- node i's operands can be encoded
pub record WordsOk (i : ℕ) (nodes emitted slot : List ℕ) : Type 0 where
  pub long : 4 * i + 4 ≤ length nodes
  pub operand : (j : ℕ) → has j (operands (node_at nodes i)) ≡ true → EncOk j nodes emitted slot

-- the words of node i, whatever slot it takes
pub record Spelt (i : ℕ) (nodes emitted slot : List ℕ) (op a b : ℕ) : Type 0 where
  pub words : (k : ℕ) → written nodes (listed emitted [] []) (λ j. get_or slot j 0) i k ≡ record { op = op; a = a; b = b; res = slot_word (node_at nodes i).dim k }
