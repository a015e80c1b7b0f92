-- A second reading of well-formed, by facts, node by node: what is known of a program that the check lets through.
-- `WellFormedLaws` of proofs/ shows that it is the check's own test, both ways round. No public promise cites it.
-- Assumes nothing.
use Rattle.std.specs.Prelude.{cond, List, ◌≡◌, ℕ, ◌%◌, ◌<◌, ◌≤◌, ltb, get_or}
use Rattle.ir.specs.declared.program.Counts.{Counts}
use Rattle.ir.specs.Words.{Node, node_at, const_base, const_ext, var, rap_challenge, alpha_pow, table_offset, add, mul, neg, embed}
use Rattle.ir.specs.Program.{joined}

-- node i, by its tag
pub record NodeFacts (c : Counts) (nodes : List ℕ) (i : ℕ) (w : Node) : Type 0 where
  pub known : w.tag ≤ embed
  pub base_const : w.tag ≡ const_base → (w.x < c.bases) × (w.y ≡ 0) × (w.dim ≡ 0)
  pub ext_const : w.tag ≡ const_ext → (w.x < c.exts) × (w.y ≡ 0) × (w.dim ≡ 1)
  pub cell : w.tag ≡ var → (w.x < 65536) × (w.y < 131072) × (w.y % 256 ≡ 0) × (w.dim ≡ cond (ltb w.y 65536) 1 0)
  pub uniform : rap_challenge ≤ w.tag → w.tag ≤ alpha_pow → (w.x < 65536) × (w.y ≡ 0) × (w.dim ≡ 1)
  pub table_offset : w.tag ≡ table_offset → (w.x ≡ 0) × (w.y ≡ 0) × (w.dim ≡ 1)
  pub binary : add ≤ w.tag → w.tag ≤ mul → (w.x < i) × (w.y < i) × (w.dim ≡ joined (node_at nodes w.x).dim (node_at nodes w.y).dim)
  pub negation : w.tag ≡ neg → (w.x < i) × (w.y ≡ 0) × (w.dim ≡ (node_at nodes w.x).dim)
  pub embedding : w.tag ≡ embed → (w.x < i) × (w.y ≡ 0) × (w.dim ≡ 1)

-- a program: its nodes and its roots
pub record WellFormed (c : Counts) (nodes roots : List ℕ) : Type 0 where
  pub node : (i : ℕ) → i < c.nodes → NodeFacts c nodes i (node_at nodes i)
  pub root : (r : ℕ) → r < c.roots → get_or roots r 0 < c.nodes
