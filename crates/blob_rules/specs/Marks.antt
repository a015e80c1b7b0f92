-- The bytes that the check borrows: one for each base slot, then one for each extension slot. For inner functions: no
-- public promise cites it.
-- Assumes nothing.
use Rattle.ir.specs.declared.refusal.Refusal.{Refusal}
use Rattle.std.specs.Prelude.{cond, not, List, [], ◌∷◌, ◌≡◌, ℕ, ◌+◌, ◌<◌, eqb, length, get_or, drop, None, Option, Result}
use Rattle.laws.specs.Folds.{lowest}
use Rattle.ir.specs.declared.frame.Shape.{Shape}
use Rattle.ir.specs.Refusals.{Row, row_at, said_of_outcome, first, gives}
use Rattle.blob_rules.specs.declared.blob.BlobCounts.{BlobCounts}
use Rattle.blob_rules.specs.Blob.{Blob, instr_at, base_slots_of, ext_slots_of, is_ext, slot_of, tags, kinds}
use Rattle.blob_rules.specs.Check.{Filled, node_ok, root_ok, filled_after, ext_root, legal_rows, slot_count, cleared}

-- the slots that bytes mark as filled
abbrev pub marked : BlobCounts → List ℕ → Filled
marked c l =
    record { bases = λ k. not (eqb (get_or l k 0) 0); exts = λ k. not (eqb (get_or l (base_slots_of c + k) 0) 0) }

-- two records of filled slots that agree on the slots that there are
pub record Alike (c : BlobCounts) (f g : Filled) : Type 0 where
  pub bases : (k : ℕ) → k < base_slots_of c → f.bases k ≡ g.bases k
  pub exts : (k : ℕ) → k < ext_slots_of c → f.exts k ≡ g.exts k

-- where the byte of a slot stands
abbrev pub mark_at : BlobCounts → ℕ → ℕ
mark_at c res = cond (is_ext res) (base_slots_of c + slot_of res) (slot_of res)

-- what the search over the nodes finds and leaves: the lowest node at fault, bytes past the slots as they were, and where
-- no node is at fault the slots that all nodes filled
pub record NodesChecked (b : Blob) (s : Shape) (r : Option ℕ) (old new : List ℕ) : Type 0 where
  pub found : r ≡ lowest (λ i. not (node_ok tags kinds b.counts s (filled_after b.nodes i) (instr_at b.nodes i))) b.counts.nodes
  pub rest : drop (slot_count b.counts) new ≡ drop (slot_count b.counts) old
  pub long : length new ≡ length old
  pub filled : r ≡ None → Alike b.counts (marked b.counts new) (filled_after b.nodes b.counts.nodes)

-- the rows of the roots, where f was filled by the nodes
abbrev pub root_rows : BlobCounts → Filled → List ℕ → List Row
root_rows c f roots = row_at (lowest (λ r. not (root_ok c f (get_or roots r 0))) c.roots) 11 ∷ row_at (ext_root c roots) 12 ∷ []

-- what the search over nodes and roots says and leaves: bytes past the slots stay as they were
pub record Searched (b : Blob) (s : Shape) (r : Result (Unit {0}) Refusal) (old new : List ℕ) : Type 0 where
  pub said : said_of_outcome r ≡ first (legal_rows b s) (gives [])
  pub rest : drop (slot_count b.counts) new ≡ drop (slot_count b.counts) old
  pub long : length new ≡ length old

-- what the whole search says and leaves: the slots' bytes are 0, those past them as they were
pub record LegalChecked (b : Blob) (s : Shape) (r : Result (Unit {0}) Refusal) (old new : List ℕ) : Type 0 where
  pub said : said_of_outcome r ≡ first (legal_rows b s) (gives [])
  pub marks_end : new ≡ cleared (slot_count b.counts) old
