-- What a builder call over bytes promises: 1 where a room is too short, and nothing is written; else what the call on the
-- words says, and each table as that call leaves it.
-- Assumes nothing.
use Rattle.ir.specs.declared.refusal.Refusal.{Refusal}
use Rattle.std.specs.Prelude.{Bool, true, false, cond, ◌||◌, List, [], ◌∷◌, ◌≡◌, ℕ, length, Result, Err}
use Rattle.std.specs.Borrow.{MutBor}
use Rattle.ir.specs.declared.refusal.Refusal.TheVariants.{ShortMemory}
use Rattle.std.proofs.lemmas.List.Edits.{sets}
use Rattle.ir.specs.Refusals.{on_done, Said, row, first}
use Rattle.builder.specs.declared.ir_builder.Made.{Made}
use Rattle.builder.specs.declared.ir_builder.IrBuilder.{IrBuilder}
use Rattle.builder.specs.Answers.{said_of_answer, builder_after, with_nodes, Built}
use Rattle.builder.specs.Consts.{Interned}
use Rattle.gaps.specs.Gaps.{said_of_gaps, gaps_of, gaps_said}
use Rattle.builder.specs.Roots.{said_of_emitted, builder_emitted, with_roots, Rooting}
use Rattle.node_table.specs.Table.{Table, table}
use Rattle.byte_words.specs.Rooms.{Lent, tight, held, unpacked_in, packed_on}

-- 1 before what is said of the words
abbrev pub short_or : Bool → Said → Said
short_or short s = first (row short 1 ∷ []) s

-- the table whose words two lent tables hold
abbrev pub held_table : Lent → Lent → ℕ → Table
held_table nodes places n = table (held 4 nodes) (held 4 places) n

-- 1: a room of nodes or of places that is too short
abbrev pub short_tables : Lent → Lent → Bool
short_tables nodes places = tight 4 nodes || tight 4 places

-- a call of nodes and places, whose outcome over their words is o
pub record GivesBytes (o : Built) (b : IrBuilder) (nodes places : Lent) (r : Result Made Refusal) (nodes' places' : Lent) : Type 0 where
  pub said : said_of_answer r ≡ short_or (short_tables nodes places) o.said
  pub builder : builder_after b r ≡ cond (short_tables nodes places) b (with_nodes b o.after.count)
  pub nodes_end : nodes' ≡ cond (short_tables nodes places) nodes (packed_on 4 o.said o.after.nodes nodes)
  pub places_end : places' ≡ cond (short_tables nodes places) places (packed_on 4 o.said o.after.places places)

-- 1: a room of nodes, of places or of constants that is too short
abbrev pub short_three : Lent → Lent → Lent → Bool
short_three nodes places consts = short_tables nodes places || tight 8 consts

-- the promise of a call that makes a constant: 1 for a short room, else what the call on words makes
pub record InternsBytes (counts : IrBuilder → ℕ → ℕ → IrBuilder) (o : Interned) (b : IrBuilder) (nodes places consts : Lent) (r : Result Made Refusal) (nodes' places' consts' : Lent) : Type 0 where
  pub said : said_of_answer r ≡ short_or (short_three nodes places consts) o.said
  pub builder : builder_after b r ≡ cond (short_three nodes places consts) b (counts b o.after.count o.count)
  pub nodes_end : nodes' ≡ cond (short_three nodes places consts) nodes (packed_on 4 o.said o.after.nodes nodes)
  pub places_end : places' ≡ cond (short_three nodes places consts) places (packed_on 4 o.said o.after.places places)
  pub consts_end : consts' ≡ cond (short_three nodes places consts) consts (packed_on 8 o.said o.consts consts)

-- a root: the nodes are only read
pub record EmitBytes (o : Rooting) (b : IrBuilder) (nodes roots : Lent) (r : Result IrBuilder Refusal) (nodes' roots' : Lent) : Type 0 where
  pub said : said_of_emitted r ≡ short_or (short_tables nodes roots) o.said
  pub builder : builder_emitted b r ≡ cond (short_tables nodes roots) b (with_roots b o.count)
  pub nodes_end : nodes' ≡ cond (short_tables nodes roots) nodes (unpacked_in 4 nodes)
  pub roots_end : roots' ≡ cond (short_tables nodes roots) roots (packed_on 4 o.said o.roots roots)

-- 1: a room of the roots or of the report that is too short
abbrev pub short_report : Lent → Lent → Bool
short_report roots out = tight 4 roots || tight 8 out

-- what the gap report says over bytes
abbrev pub report_said : ℕ → Lent → Lent → Said
report_said k roots out = gaps_said (held 4 roots) k (length (held 8 out))

-- the words that the report's bytes hold, on 0 with the gaps in front
abbrev pub reported : ℕ → Lent → Lent → List ℕ
reported k roots out = on_done (report_said k roots out) (sets (held 8 out) 0 (gaps_of (held 4 roots) k)) (held 8 out)

-- the promise of the gap report of the first k constraints: the roots are only read
pub record GapsBytes (k : ℕ) (roots out : Lent) (r : Result ℕ Refusal) (roots' out' : Lent) : Type 0 where
  pub said : said_of_gaps r ≡ short_or (short_report roots out) (report_said k roots out)
  pub roots_end : roots' ≡ cond (short_report roots out) roots (unpacked_in 4 roots)
  pub out_end : out' ≡ cond (short_report roots out) out (packed_on 8 (report_said k roots out) (reported k roots out) out)

-- a call's promise, of three slices: each reference before it and after it, and its answer
abbrev pub Call3 : Type 1
Call3 = MutBor (List ℕ) → MutBor (List ℕ) → MutBor (List ℕ) → Result Made Refusal → MutBor (List ℕ) → MutBor (List ℕ) → MutBor (List ℕ) → Type 0

-- a call ran on the words of three lent tables: the words go back to the bytes on 0 alone
pub record Ran (post : Call3) (nodes places consts : Lent) (r : Result Made Refusal) (nodes' places' consts' : Lent) : Type 0 where
  pub ns : MutBor (List ℕ)
  pub ps : MutBor (List ℕ)
  pub cs : MutBor (List ℕ)
  pub ns' : MutBor (List ℕ)
  pub ps' : MutBor (List ℕ)
  pub cs' : MutBor (List ℕ)
  pub nodes_held : ns.now ≡ held 4 nodes
  pub places_held : ps.now ≡ held 4 places
  pub consts_held : cs.now ≡ held 8 consts
  pub called : post ns ps cs r ns' ps' cs'
  pub nodes_end : nodes' ≡ packed_on 4 (said_of_answer r) ns'.now nodes
  pub places_end : places' ≡ packed_on 4 (said_of_answer r) ps'.now places
  pub consts_end : consts' ≡ packed_on 8 (said_of_answer r) cs'.now consts

-- 1 for a short room, where nothing is written; else the call ran
pub record OnWords (post : Call3) (nodes places consts : Lent) (r : Result Made Refusal) (nodes' places' consts' : Lent) : Type 0 where
  pub refused : short_three nodes places consts ≡ true → (r ≡ Err ShortMemory) × (nodes' ≡ nodes) × (places' ≡ places) × (consts' ≡ consts)
  pub ran : short_three nodes places consts ≡ false → Ran post nodes places consts r nodes' places' consts'
