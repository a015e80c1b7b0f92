-- How the lent lists stand for the scan: for inner functions; no entry point's promise cites it.
-- Assumes nothing.
use Rattle.scan_parts.specs.Pools.{stack, slots_in, Stands, TakeOk, Takes, GiveOk}
use Rattle.std.specs.Prelude.{true, false, List, [], ◌∷◌, ◌++◌, ◌≡◌, ℕ, suc, ◌+◌, ◌*◌, ◌<◌, ◌≤◌, length, get_or, set, drop}
use Rattle.std.proofs.lemmas.List.Edits.{sets}
use Rattle.ir.specs.Words.{node_at}
use Rattle.liveness.specs.Liveness.{has, operands, is_uniform, Liveness}
use Rattle.scan_parts.specs.Scan.{Scan, pick, slot_word, give_all, scan, flat}
use Rattle.liveness.specs.LiveLists.{busy, listed}

-- node i's operands can give their slots back
pub record ReleaseOk (i : ℕ) (nodes last pinned slot free tops next : List ℕ) : Type 0 where
  pub pair : length tops ≡ 2
  pub long : 4 * i + 4 ≤ length nodes
  pub operand : (j : ℕ) → has j (operands (node_at nodes i)) ≡ true → GiveOk j nodes last pinned slot free tops next

-- they do, as the definition says
pub record Released (i : ℕ) (nodes last pinned slot free tops next slot' free' tops' : List ℕ) : Type 0 where
  pub long : (length slot' ≡ length slot) × (length free' ≡ length free) × (length tops' ≡ 2)
  pub few : slots_in slot' tops' ≡ slots_in slot tops
  pub follows : (emitted : List ℕ) (s : Scan) → Stands (length slot) slot free tops next s → Stands (length slot) slot' free' tops' next (give_all nodes (listed emitted last pinned) i (operands (node_at nodes i)) s)

-- node i can take a slot and be written as number `count`
pub record ClaimOk (i class : ℕ) (slot free tops next out : List ℕ) (count : ℕ) : Type 0 where
  pub place : i < length slot
  pub take : TakeOk class free tops next
  pub slot_low : pick (stack free class (get_or tops class 0)) (get_or next class 0) < 536870912
  pub room : 4 * count + 4 ≤ length out

-- it does
pub record Claimed (i class op a b : ℕ) (slot free tops next out : List ℕ) (count : ℕ) (slot' tops' next' out' : List ℕ) (k : ℕ) : Type 0 where
  pub taken : Takes class free tops next k tops' next'
  pub slots : slot' ≡ set slot i (k + 1)
  pub words : out' ≡ sets out (4 * count) (op ∷ a ∷ b ∷ slot_word class k ∷ [])

-- what the scan asks of n nodes and a liveness
pub record Scannable (n : ℕ) (nodes : List ℕ) (v : Liveness) : Type 0 where
  pub few : n < 536870912
  pub long : 4 * n ≤ length nodes
  pub dims : (j : ℕ) → j < n → (node_at nodes j).dim < 2
  pub before : (i j : ℕ) → i < n → has j (operands (node_at nodes i)) ≡ true → j < i
  pub low : (j : ℕ) → j < n → is_uniform (node_at nodes j) ≡ true → (node_at nodes j).x < 536870912
  pub named : (i j : ℕ) → i < n → v.emitted i ≡ true → has j (operands (node_at nodes i)) ≡ true → v.emitted j ≡ false → is_uniform (node_at nodes j) ≡ true
  pub last_read : (i j : ℕ) → i < n → v.emitted i ≡ true → has j (operands (node_at nodes i)) ≡ true → v.pinned j ≡ false → i ≤ v.last_use j

-- the words written are those of the scan, over what was there
pub record Wrote (old out : List ℕ) (count : ℕ) (s : Scan) : Type 0 where
  pub counted : count ≡ length s.out
  pub words : out ≡ flat s.out ++ drop (4 * count) old

-- the lists before node i
pub record Ready (i : ℕ) (nodes emitted last pinned slot free tops next out : List ℕ) (count : ℕ) : Type 0 where
  pub place : i < length slot
  pub scannable : Scannable (length slot) nodes (listed emitted last pinned)
  pub emitted_long : length emitted ≡ length slot
  pub last_long : length last ≡ length slot
  pub pinned_long : length pinned ≡ length slot
  pub few : slots_in slot tops ≤ i
  pub stands : Stands (length slot) slot free tops next (scan nodes (listed emitted last pinned) i)
  pub counted : count ≡ length (scan nodes (listed emitted last pinned) i).out
  pub room : 4 * length (scan nodes (listed emitted last pinned) (suc i)).out ≤ length out

-- and after it
pub record Advanced (i : ℕ) (nodes emitted last pinned slot out : List ℕ) (count : ℕ) (slot' free' tops' next' out' : List ℕ) (count' : ℕ) : Type 0 where
  pub few : slots_in slot' tops' ≤ suc i
  pub stands : Stands (length slot) slot' free' tops' next' (scan nodes (listed emitted last pinned) (suc i))
  pub writes : (old : List ℕ) → Wrote old out count (scan nodes (listed emitted last pinned) i) → Wrote old out' count' (scan nodes (listed emitted last pinned) (suc i))

-- the lists before the first node
pub record Begins (nodes emitted last pinned slot free out : List ℕ) : Type 0 where
  pub scannable : Scannable (length slot) nodes (listed emitted last pinned)
  pub emitted_long : length emitted ≡ length slot
  pub last_long : length last ≡ length slot
  pub pinned_long : length pinned ≡ length slot
  pub free_long : length free ≡ 2 * length slot
  pub none : busy slot ≡ 0
  pub room : 4 * length (scan nodes (listed emitted last pinned) (length slot)).out ≤ length out

-- and after the first i
pub record Scanned (i : ℕ) (nodes emitted last pinned old slot free tops next out : List ℕ) (count : ℕ) : Type 0 where
  pub few : slots_in slot tops ≤ i
  pub stands : Stands (length slot) slot free tops next (scan nodes (listed emitted last pinned) i)
  pub wrote : Wrote old out count (scan nodes (listed emitted last pinned) i)
