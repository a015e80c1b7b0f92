-- What the builder's calls promise: the answer as one number, each lent count and each lent word.
-- Assumes nothing.
use Rattle.std.specs.Prelude.{cond, List, ◌≡◌, ℕ, eqb, length}
use Rattle.std.proofs.lemmas.List.Edits.{sets}
use Rattle.ir.specs.Refusals.{on_done}
use Rattle.node_table.specs.Table.{Table, table}
use Rattle.builder.specs.Answers.{Built}
use Rattle.builder.specs.Consts.{Interned}
use Rattle.gaps.specs.Gaps.{gaps_of, gaps_said}
use Rattle.builder.specs.Roots.{Rooting}
use Rattle.host_answer.specs.Answer.{answer_of, value_on_done}
use Rattle.host_handle.specs.Handles.{Handed}

-- ---- calls that make a node

-- the handle, as `Handed` of host_handle has it; nodes, places and their count at exit are the outcome's
pub record HandsNode (o : Built) (exit : Table) (answer id id' dim dim' : ℕ) : Type 0 where
  pub handed : Handed o.said answer id id' dim dim'
  pub table : exit ≡ o.after

-- a constant's node, with the constants and their count at exit
pub record HandsConst (o : Interned) (exit : Table) (consts : List ℕ) (count answer id id' dim dim' : ℕ) : Type 0 where
  pub handed : Handed o.said answer id id' dim dim'
  pub table : exit ≡ o.after
  pub constants : consts ≡ o.consts
  pub counted : count ≡ o.count

-- a fresh builder's counts are written on 0 alone
abbrev pub started_of : Interned → (n b : ℕ) → Interned
started_of o n b =
    let done = eqb o.said.number 0 in
    record {
      said = o.said;
      after = table o.after.nodes o.after.places (cond done o.after.count n);
      consts = o.consts;
      count = cond done o.count b;
    }

-- ---- roots

-- emit: the answer, the roots and their count at exit
pub record HandsRoot (o : Rooting) (roots : List ℕ) (count answer : ℕ) : Type 0 where
  pub answered : answer ≡ answer_of o.said
  pub rooted : roots ≡ o.roots
  pub counted : count ≡ o.count

-- the gap report of k roots: the answer, the room, and how many gaps there are, which is written on 0 alone
pub record HandsGaps (roots : List ℕ) (k : ℕ) (old new : List ℕ) (answer count count' : ℕ) : Type 0 where
  pub answered : answer ≡ answer_of (gaps_said roots k (length old))
  pub written : new ≡ on_done (gaps_said roots k (length old)) (sets old 0 (gaps_of roots k)) old
  pub counted : count' ≡ value_on_done (gaps_said roots k (length old)) 0 count
