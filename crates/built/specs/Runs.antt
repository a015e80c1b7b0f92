-- Runs of the code: calls one after another, each with the answer and the words that its contract promises. A word that a call is not
-- lent stays. The proof is in proofs/RunLaws.antt.
-- Assumes nothing.
use Rattle.std.specs.Prelude.{Result, List, [], ◌∷◌, ◌≡◌}
use Rattle.ir.specs.Refusals.{Said, gives}
use Rattle.ir.specs.declared.refusal.Refusal.{Refusal}
use Rattle.builder.specs.declared.ir_builder.Made.{Made}
use Rattle.builder.specs.declared.ir_builder.IrBuilder.{IrBuilder}
use Rattle.node_table.specs.Hashing.{start_of}
use Rattle.builder.specs.Answers.{Built, said_of_answer, builder_after, Gives}
use Rattle.builder.specs.Calls.{main_cell_of, aux_cell_of, challenge_of, alpha_power_of, table_offset_of, add_of, sub_of, mul_of, neg_of, embed_of}
use Rattle.builder.specs.Consts.{const_of, const_ext_of, with_bases, with_exts, empty, new_of, Interned, Interns}
use Rattle.builder.specs.Roots.{emit_of, Rooting, said_of_emitted, builder_emitted, EmitGives}
use Rattle.built.specs.Draft.{Call, main, aux, challenge, alpha_power, table_offset, const_base, const_ext, add, sub, mul, neg, embed, emit, fresh_draft}
use Rattle.built.specs.Memory.{Memory, table_of, room_of, Stands}
use Rattle.built.specs.History.{replies, drafted}

-- ---- one call over memory m, which says s and leaves memory n

-- lent nodes and places
pub record NodeRun (o : Built) (m : Memory) (s : Said) (n : Memory) : Type 0 where
  pub answer : Result Made Refusal
  pub says : s ≡ said_of_answer answer
  pub builder : n.builder ≡ builder_after m.builder answer
  pub promise : Gives o m.builder answer n.nodes n.places
  pub bases : n.bases ≡ m.bases
  pub exts : n.exts ≡ m.exts
  pub roots : n.roots ≡ m.roots

-- lent the base constants besides; over a builder b, which for `new` is the empty one
pub record BaseRun (o : Interned) (b : IrBuilder) (m : Memory) (s : Said) (n : Memory) : Type 0 where
  pub answer : Result Made Refusal
  pub says : s ≡ said_of_answer answer
  pub builder : n.builder ≡ builder_after b answer
  pub promise : Interns with_bases o b answer n.nodes n.places n.bases
  pub exts : n.exts ≡ m.exts
  pub roots : n.roots ≡ m.roots

-- lent the extension constants besides
pub record ExtRun (o : Interned) (m : Memory) (s : Said) (n : Memory) : Type 0 where
  pub answer : Result Made Refusal
  pub says : s ≡ said_of_answer answer
  pub builder : n.builder ≡ builder_after m.builder answer
  pub promise : Interns with_exts o m.builder answer n.nodes n.places n.exts
  pub bases : n.bases ≡ m.bases
  pub roots : n.roots ≡ m.roots

-- lent the nodes to read, and the roots
pub record RootRun (o : Rooting) (m : Memory) (s : Said) (n : Memory) : Type 0 where
  pub answer : Result IrBuilder Refusal
  pub says : s ≡ said_of_emitted answer
  pub builder : n.builder ≡ builder_emitted m.builder answer
  pub promise : EmitGives o m.builder answer n.roots
  pub nodes : n.nodes ≡ m.nodes
  pub places : n.places ≡ m.places
  pub bases : n.bases ≡ m.bases
  pub exts : n.exts ≡ m.exts

-- one call of the code keeps its contract: what it said, and the memory after it
unfoldable pub CallRun : Memory → Call → Said → Memory → Type 0
CallRun m (main offset col h) s n = NodeRun (main_cell_of start_of (table_of m) offset col) m s n
CallRun m (aux offset col h) s n = NodeRun (aux_cell_of start_of (table_of m) offset col) m s n
CallRun m (challenge i) s n = NodeRun (challenge_of start_of (table_of m) i) m s n
CallRun m (alpha_power i) s n = NodeRun (alpha_power_of start_of (table_of m) i) m s n
CallRun m table_offset s n = NodeRun (table_offset_of start_of (table_of m)) m s n
CallRun m (const_base v) s n = BaseRun (const_of start_of (table_of m) m.bases m.builder.bases v) m.builder m s n
CallRun m (const_ext v) s n = ExtRun (const_ext_of start_of (table_of m) m.exts m.builder.exts v) m s n
CallRun m (add a b) s n = NodeRun (add_of start_of (table_of m) a b) m s n
CallRun m (sub a b) s n = NodeRun (sub_of start_of (table_of m) a b) m s n
CallRun m (mul a b) s n = NodeRun (mul_of start_of (table_of m) a b) m s n
CallRun m (neg a) s n = NodeRun (neg_of start_of (table_of m) a) m s n
CallRun m (embed a) s n = NodeRun (embed_of start_of (table_of m) a) m s n
CallRun m (emit c e) s n = RootRun (emit_of m.nodes m.builder.nodes m.roots m.builder.roots c e) m s n

-- so does a fresh builder
abbrev pub NewRun : Memory → Said → Memory → Type 0
NewRun m s n = BaseRun (new_of start_of m.nodes m.places m.bases) empty m s n

-- ---- calls one after another

-- calls of the code, one after the other
unfoldable pub Runs : Memory → List Call → List Said → Memory → Type 0
Runs m [] ss n = (ss ≡ []) × (n ≡ m)
Runs m (c ∷ cs) ss n = (s : Said) × (k : Memory) × (rest : List Said) × CallRun m c s k × Runs k cs rest n × (ss ≡ s ∷ rest)

-- the code's answers are the Rust's, and the memory that it leaves stands for the Rust's program
abbrev pub CodeFollowsRust : Type 0
CodeFollowsRust =
    (m : Memory) (s : Said) (k : Memory) → NewRun m s k → s.number ≡ 0 → (cs : List Call) (ss : List Said) (n : Memory) → Runs k cs ss n
    → (s ≡ gives (0 ∷ 0 ∷ [])) × (ss ≡ replies (room_of m) fresh_draft cs) × Stands n (drafted (room_of m) fresh_draft cs)
