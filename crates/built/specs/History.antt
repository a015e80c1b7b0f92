-- Histories of calls from a fresh builder, and what is proved of them. The proofs are in proofs/Theorems.antt and RoomLaws.antt.
-- Assumes nothing.
use Rattle.std.specs.Prelude.{Bool, true, false, ◌&&◌, List, [], ◌∷◌, ◌≡◌, ℕ, ◌<◌, ◌≤◌, eqb, ltb, length, None}
use Rattle.ir.specs.Program.{Program, too_many_nodes, too_many_roots, short_program, ill_formed, checked}
use Rattle.ir.specs.Refusals.{Said, gives}
use Rattle.ir.specs.Words.{Node}
use Rattle.gaps.specs.Gaps.{gaps_of}
use Rattle.node_table.specs.Hashing.{Start}
use Rattle.builder.specs.Roots.{finished}
use Rattle.built.specs.Draft.{Draft, Room, Call, told, fresh_draft}
use Rattle.built.specs.Memory.{Memory, answered, fresh, draft_of, room_of, Stands}

-- ---- calls over lent memory

-- what calls answer, one after the other
unfoldable pub answers : Start → Memory → List Call → List Said
answers start m [] = []
answers start m (c ∷ cs) = let a = answered start m c in a.said ∷ answers start a.memory cs

-- the memory that they leave
unfoldable pub after : Start → Memory → List Call → Memory
after start m [] = m
after start m (c ∷ cs) = after start (answered start m c).memory cs

-- the memory that calls reach from a fresh builder
abbrev pub reached : Start → Memory → List Call → Memory
reached start m cs = after start (fresh start m).memory cs

-- ---- the same calls as the Rust has them

-- the same of lists: what calls answer
unfoldable pub replies : Room → Draft → List Call → List Said
replies r d [] = []
replies r d (c ∷ cs) = let q = told r d c in q.said ∷ replies r q.draft cs

-- and the program that they leave
unfoldable pub drafted : Room → Draft → List Call → Draft
drafted r d [] = d
drafted r d (c ∷ cs) = drafted r (told r d c).draft cs

-- ---- the statements

-- a rule of where a lookup starts: at one of the places
abbrev pub StartsInside : Start → Type 0
StartsInside start = (k : ℕ) (w : Node) → 0 < k → start k w < k

-- what holds of any history: any lent words, where `new` answers 0, and any calls
abbrev pub OfHistories : (Start → Memory → List Call → Type 0) → Type 0
OfHistories P = (start : Start) → StartsInside start → (m : Memory) → (fresh start m).said.number ≡ 0 → (cs : List Call) → P start m cs

-- 1. The builder is the Rust's
pub record FollowsRust (start : Start) (m : Memory) (cs : List Call) : Type 0 where
  -- a fresh builder's handle is node 0, which is base
  pub begins : (fresh start m).said ≡ gives (0 ∷ 0 ∷ [])
  -- every answer is the one on the program
  pub says : answers start (fresh start m).memory cs ≡ replies (room_of m) fresh_draft cs
  -- the memory stands for the program
  pub stands : Stands (reached start m cs) (drafted (room_of m) fresh_draft cs)

-- 2. Another rule of where a lookup starts changes no answer, no count, and no node, constant or root
pub record SameAs (other : Start) (start : Start) (m : Memory) (cs : List Call) : Type 0 where
  pub begins : (fresh start m).said ≡ (fresh other m).said
  pub says : answers start (fresh start m).memory cs ≡ answers other (fresh other m).memory cs
  pub builder : (reached start m cs).builder ≡ (reached other m cs).builder
  pub program : draft_of (reached start m cs) ≡ draft_of (reached other m cs)

-- what `finish` hands on, with a num_base
abbrev pub program_of : Memory → ℕ → Program
program_of m base = record { counts = finished m.builder base; nodes = m.nodes; bases = m.bases; exts = m.exts; roots = m.roots }

-- it is well-formed, nodes and constants are within their limits, and no table is short, whatever num_base is
pub record WellMade (m : Memory) : Type 0 where
  pub few : (base : ℕ) → too_many_nodes (program_of m base).counts ≡ false
  pub long : (base : ℕ) → short_program (program_of m base) ≡ false
  pub formed : (base : ℕ) → ill_formed (program_of m base).counts m.nodes m.roots ≡ None
  -- so the program check lets it through
  pub passes : (base : ℕ) → too_many_roots (program_of m base).counts ≡ false → checked (program_of m base) ≡ gives []

-- 3. So it is after any calls
abbrev pub WellBuilt : Start → Memory → List Call → Type 0
WellBuilt start m cs = WellMade (reached start m cs)

-- the constraints whose root on the program is node 0
abbrev pub gaps_in : Draft → List ℕ
gaps_in d = gaps_of d.roots (length d.roots)

-- 4. The gap report over the memory lists those, after any calls
pub record GapsFound (start : Start) (m : Memory) (cs : List Call) : Type 0 where
  -- the roots are lent in full, so 1 is never told
  pub long : ltb (length (reached start m cs).roots) (reached start m cs).builder.roots ≡ false
  pub gaps : gaps_of (reached start m cs).roots (reached start m cs).builder.roots ≡ gaps_in (drafted (room_of m) fresh_draft cs)

-- whether every answer is 0
abbrev pub all_done : List Said → Bool
all_done [] = true
all_done (s ∷ ss) = eqb s.number 0 && all_done ss

-- a room that holds no less
pub record Wider (r big : Room) : Type 0 where
  pub nodes : r.nodes ≤ big.nodes
  pub bases : r.bases ≤ big.bases
  pub exts : r.exts ≤ big.exts
  pub roots : r.roots ≤ big.roots

-- 5. Where every answer is 0 a wider room changes none, and not the program: so it is the Rust, whose tables grow
abbrev pub RoomDoesNotMatter : Type 0
RoomDoesNotMatter =
    (r big : Room) → Wider r big → (d : Draft) (cs : List Call) → all_done (replies r d cs) ≡ true
    → (replies big d cs ≡ replies r d cs) × (drafted big d cs ≡ drafted r d cs)

-- the first, of any calls from a fresh builder
abbrev pub BuilderFollowsRust : Type 0
BuilderFollowsRust = OfHistories FollowsRust

-- of any calls and two rules
abbrev pub AnyHashWillDo : Type 0
AnyHashWillDo = (other : Start) → StartsInside other → OfHistories (SameAs other)

-- of any calls
abbrev pub ProgramsAreWellFormed : Type 0
ProgramsAreWellFormed = OfHistories WellBuilt

-- of any calls
abbrev pub GapsAreFound : Type 0
GapsAreFound = OfHistories GapsFound
