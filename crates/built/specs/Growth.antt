-- Tables that grow between calls, as a caller does who lends longer ones.
-- Assumes nothing.
use Rattle.std.specs.Prelude.{List, [], ◌∷◌, ◌++◌, ◌≡◌, ℕ}
use Rattle.node_table.specs.Hashing.{Start}
use Rattle.built.specs.Draft.{Draft, Call, fresh_draft}
use Rattle.built.specs.Memory.{Memory, room_of, Stands}
use Rattle.built.specs.History.{answers, after, reached, replies, drafted, program_of, WellMade, OfHistories}
use Rattle.built.specs.Serves.{Serves}

-- words that are lent after those that were there; places stay, since where a lookup starts hangs on how many there are
pub record Growth : Type 0 where
  pub nodes : List ℕ
  pub bases : List ℕ
  pub exts : List ℕ
  pub roots : List ℕ

-- the memory with them
abbrev pub grown : Growth → Memory → Memory
grown g m =
    record {
      builder = m.builder;
      nodes = m.nodes ++ g.nodes;
      places = m.places;
      bases = m.bases ++ g.bases;
      exts = m.exts ++ g.exts;
      roots = m.roots ++ g.roots;
    }

-- tables grow, and calls follow
pub record Stage : Type 0 where
  pub growth : Growth
  pub calls : List Call

-- the memory stands for the program, which is well-formed and serves
pub record Ends (m : Memory) (d : Draft) : Type 0 where
  pub stands : Stands m d
  pub made : WellMade m
  pub serves : (base : ℕ) → Serves (program_of m base)

-- stage after stage the calls answer what the lists answer, in the room that there is then
unfoldable pub GoesOn : Start → Memory → Draft → List Stage → Type 0
GoesOn start m d [] = Ends m d
GoesOn start m d (s ∷ ss) =
    let m' = grown s.growth m in
    (answers start m' s.calls ≡ replies (room_of m') d s.calls)
    × GoesOn start (after start m' s.calls) (drafted (room_of m') d s.calls) ss

-- after any calls
pub record MayGrow (start : Start) (m : Memory) (cs : List Call) : Type 0 where
  pub goes_on : (ss : List Stage) → GoesOn start (reached start m cs) (drafted (room_of m) fresh_draft cs) ss

-- from a fresh builder, with any rule of where a lookup starts
abbrev pub TablesMayGrow : Type 0
TablesMayGrow = OfHistories MayGrow
