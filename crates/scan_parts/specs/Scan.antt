-- The scan of lowering: one pass over the nodes that gives each emitted node a slot and writes it, with slots used again.
-- Assumes nothing.
use Rattle.std.specs.Prelude.{cond, not, ◌&&◌, List, [], ◌∷◌, ◌++◌, ℕ, zero, suc, ◌+◌, ◌*◌, ◌-◌, eqb, leb, ltb}
use Rattle.laws.specs.Maps.{upd}
use Rattle.ir.specs.Words.{node_at, const_ext, add, neg}
use Rattle.blob_rules.specs.Blob.{Instr}
use Rattle.liveness.specs.Liveness.{operands, Liveness}

-- the state of the scan: each node's slot plus one, 0 for none; the free slots of each class, last freed first; how many
-- slots of each class there are; the nodes written
pub record Scan : Type 0 where
  pub slot : ℕ → ℕ
  pub free : ℕ → List ℕ
  pub next : ℕ → ℕ
  pub out : List Instr

-- the slot that is taken where the free ones are `l` and there are k slots: the last freed, else a new number
abbrev pub pick : List ℕ → ℕ → ℕ
pick [] k = k
pick (s ∷ l) k = s

-- what is left of the free ones
abbrev pub left : List ℕ → List ℕ
left [] = []
left (s ∷ l) = l

-- how many slots there are then
abbrev pub more : List ℕ → ℕ → ℕ
more [] k = suc k
more (s ∷ l) k = k

-- the kind of a uniform leaf, by its tag: constants 2 and 3, challenge 4, alpha power 5, table offset 6
abbrev pub uniform_kind : ℕ → ℕ
uniform_kind tag = cond (leb tag const_ext) (tag + 2) (tag + 1)

-- bit 31 of a result or a root is the class
abbrev pub slot_word : ℕ → ℕ → ℕ
slot_word class k = class * 2147483648 + k

module _ (nodes : List ℕ) (v : Liveness) where
  -- an operand: its slot if it has one, else its place in a uniform table
  abbrev pub encode : (ℕ → ℕ) → ℕ → ℕ
  encode slot j =
      let w = node_at nodes j in
      cond (v.emitted j) (w.dim * 536870912 + (slot j - 1)) (uniform_kind w.tag * 536870912 + w.x)

  -- the words of node i, where the nodes before it have the given slots and it takes slot k
  abbrev pub written : (ℕ → ℕ) → ℕ → ℕ → Instr
  written slot i k =
      let w = node_at nodes i in
      let res = slot_word w.dim k in
      cond (ltb w.tag add) (record { op = w.tag; a = w.x; b = w.y; res = res })
      (cond (ltb w.tag neg) (record { op = w.tag; a = encode slot w.x; b = encode slot w.y; res = res })
      (record { op = w.tag; a = encode slot w.x; b = 0; res = res }))

  -- at node i, operand j gives its slot back if this is its last use and it is not pinned; once if it comes twice
  abbrev pub give : ℕ → ℕ → Scan → Scan
  give i j s =
      let class = (node_at nodes j).dim in
      cond (not (v.pinned j) && eqb (v.last_use j) i && not (eqb (s.slot j) 0))
      (record { slot = upd s.slot j 0; free = upd s.free class ((s.slot j - 1) ∷ s.free class); next = s.next; out = s.out })
      s

  -- the first operand, then the second
  abbrev pub give_all : ℕ → List ℕ → Scan → Scan
  give_all i [] s = s
  give_all i (j ∷ js) s = give_all i js (give i j s)

  -- node i takes a slot and is written
  abbrev pub claim : ℕ → (ℕ → ℕ) → Scan → Scan
  claim i before s =
      let class = (node_at nodes i).dim in
      let k = pick (s.free class) (s.next class) in
      record {
        slot = upd s.slot i (suc k);
        free = upd s.free class (left (s.free class));
        next = upd s.next class (more (s.free class) (s.next class));
        out = s.out ++ (written before i k ∷ []);
      }

  -- after the first i nodes: operands are encoded, then given back, then the result takes its slot
  unfoldable pub scan : ℕ → Scan
  scan zero = record { slot = λ j. 0; free = λ c. []; next = λ c. 0; out = [] }
  scan (suc i) =
      let s = scan i in
      cond (v.emitted i) (claim i s.slot (give_all i (operands (node_at nodes i)) s)) s

-- nodes' words in a row
abbrev pub flat : List Instr → List ℕ
flat [] = []
flat (w ∷ ws) = w.op ∷ w.a ∷ w.b ∷ w.res ∷ flat ws
