-- The hash places over lent words: 0 is free, i + 1 names node i. Open addressing, nothing is ever taken out. The probe is defined over
-- any words, also words that no builder wrote.
-- Assumes nothing.
use Rattle.std.specs.Prelude.{◌≡◌, ℕ, zero, suc, ◌+◌, ◌-◌, ◌/◌, ◌<◌, ◌≤◌, min, Bool, cond, ◌&&◌, ◌||◌, ◌≢◌, List, [], ◌∷◌, length, ◌==◌, nat_le, nat_lt, slice_index, slice_index_or, slice_set, Option, None, Some}
use Rattle.ir.specs.Words.{Node, node_at}
use Rattle.node_table.specs.Words.{put, same}

-- the place after `at` of k places in a ring
abbrev pub next : ℕ → ℕ → ℕ
next k at = cond (nat_lt (at + 1) k) (at + 1) 0

-- and the one that is d places on
unfoldable pub onward : ℕ → ℕ → ℕ → ℕ
onward k at zero = at
onward k at (suc d) = onward k (next k at) d

-- from `at`, the first of `left` places that passes the test, else k
unfoldable pub seek : (ℕ → Bool) → ℕ → ℕ → ℕ → ℕ
seek test k zero at = k
seek test k (suc left) at = let r = seek test k left (next k at) in cond (test at) at r

-- nodes and places as lent, and how many nodes there are
pub record Table : Type 0 where
  pub nodes : List ℕ
  pub places : List ℕ
  pub count : ℕ

-- the three together
abbrev pub table : List ℕ → List ℕ → ℕ → Table
table nodes places count = record { nodes = nodes; places = places; count = count }

-- whether a lookup of w stops at the word v: it is free, or it names a node that equals w
unfoldable pub stops : List ℕ → ℕ → Node → ℕ → Bool
stops nodes n w v = v == 0 || (nat_le v n && same (node_at nodes (v - 1)) w)

-- where the lookup of w that starts at s stops
unfoldable pub find : ℕ → Table → Node → ℕ
find s t w = seek (λ at. stops t.nodes t.count w (slice_index t.places at)) (length t.places) (length t.places) s

-- how many nodes fit
abbrev pub room : Table → ℕ
room t = min (length t.nodes / 4) (min (length t.places) 536870911)

-- what a push answers, and the table after it
pub record Pushed : Type 0 where
  pub id : Option ℕ
  pub after : Table

-- the table with a new node and its place
abbrev pub appended : Table → Node → ℕ → Table
appended t w at = record { nodes = put t.nodes t.count w; places = slice_set t.places at (suc t.count); count = suc t.count }

-- what a push does once the lookup came out at `at`
unfoldable pub push_at : Table → Node → ℕ → Pushed
push_at t w at =
    cond (nat_lt at (length t.places))
    (cond (slice_index t.places at == 0)
    (cond (nat_lt t.count (room t)) (record { id = Some t.count; after = appended t w at }) (record { id = None; after = t }))
    (record { id = Some (slice_index t.places at - 1); after = t }))
    (record { id = None; after = t })

-- a push: the lookup, then what it found
unfoldable pub push : ℕ → Table → Node → Pushed
push s t w = push_at t w (find s t w)

-- how many words are not 0
unfoldable pub used : List ℕ → ℕ
used [] = 0
used (v ∷ vs) = cond (v == 0) (used vs) (suc (used vs))

-- from s, node i's place is met before any free one of the k places
pub record Reached (k : ℕ) (places : List ℕ) (s i : ℕ) : Type 0 where
  pub steps : ℕ
  pub low : steps < k
  pub here : slice_index_or places (onward k s steps) 0 ≡ suc i
  pub passed : (e : ℕ) → e < steps → slice_index places (onward k s e) ≢ 0

-- the places stand for the nodes, where the lookup of w starts at `start w`
pub record Sound (start : Node → ℕ) (t : Table) : Type 0 where
  pub starts : (w : Node) → start w < length t.places
  pub names : (at : ℕ) → slice_index t.places at ≤ t.count
  pub reached : (i : ℕ) → i < t.count → Reached (length t.places) t.places (start (node_at t.nodes i)) i
  pub apart : (i j : ℕ) → i < t.count → j < t.count → node_at t.nodes i ≡ node_at t.nodes j → i ≡ j
  pub filled : used t.places ≡ t.count
