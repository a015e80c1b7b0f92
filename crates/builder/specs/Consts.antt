-- Constants by value, base and extension alike, and the fresh builder, over any lent words.
-- Assumes nothing.
use Rattle.std.specs.Prelude.{Result, Ok, Err, Bool, cond, ◌||◌, List, [], ◌∷◌, ◌++◌, ◌≡◌, ℕ, ◌+◌, ◌/◌, min, eqb, leb, ltb, length}
use Rattle.laws.specs.Options.{missing}
use Rattle.ir.specs.Program.{most}
use Rattle.ir.specs.Refusals.{Said, Row, row, first, any_holds, gives, said_of, found_at}
use Rattle.ir.specs.Words.{const_base, const_ext}
use Rattle.ir.specs.declared.refusal.Refusal.{Refusal}
use Rattle.builder.specs.declared.ir_builder.IrBuilder.{IrBuilder}
use Rattle.builder.specs.declared.ir_builder.Kept.{Kept}
use Rattle.builder.specs.declared.ir_builder.Made.{Made}
use Rattle.node_table.specs.Words.{node}
use Rattle.node_table.specs.Hashing.{Start}
use Rattle.node_table.specs.Table.{Table, table, room}
use Rattle.builder.specs.Answers.{said_of_answer, builder_after, short_b, pushed}
use Rattle.builder.specs.Roots.{cleared_from}
use Rattle.const_table.specs.Positions.{position_of, ext_position_of, with_base, with_ext, crowded_b}

-- what a call that makes a constant says, and the tables after it
pub record Interned : Type 0 where
  pub said : Said
  pub after : Table
  pub consts : List ℕ
  pub count : ℕ

-- 1 and 5
abbrev pub const_rows : Table → ℕ → ℕ → Bool → List Row
const_rows t fits m new =
    row (short_b (length t.nodes) (length t.places) t.count || ltb fits m) 1
    ∷ row (crowded_b new fits m) 5
    ∷ []

-- constant i of a table of m, new where i is past them; a new constant is written only where its node is
unfoldable pub intern_of : Start → Table → (tag dim fits m i : ℕ) → (words written : List ℕ) → Interned
intern_of start t tag dim fits m i words written =
    let new = leb (min m most) i in
    let o = pushed start t (node tag i 0 dim) in
    let rows = const_rows t fits m new in
    let refused = any_holds rows || missing o.id in
    record {
      said = first (rows ++ (row (missing o.id) 4 ∷ [])) (gives (found_at o.id ∷ dim ∷ []));
      after = cond (any_holds rows) t o.after;
      consts = cond refused words (cond new written words);
      count = cond refused m (cond new (m + 1) m);
    }

-- a base constant, shared by value
abbrev pub const_of : Start → Table → List ℕ → ℕ → ℕ → Interned
const_of start t bs m v = intern_of start t const_base 0 (length bs) m (position_of bs (min m most) v) bs (with_base bs m v)

-- an extension constant, of three limbs
abbrev pub const_ext_of : Start → Table → List ℕ → ℕ → List ℕ → Interned
const_ext_of start t xs m v = intern_of start t const_ext 1 (length xs / 3) m (ext_position_of xs (min m most) v) xs (with_ext xs m v)

-- a builder with other counts of nodes and of base constants
abbrev pub with_bases : IrBuilder → ℕ → ℕ → IrBuilder
with_bases b n m = record { nodes = n; bases = m; exts = b.exts; roots = b.roots }

-- and with other counts of nodes and of extension constants
abbrev pub with_exts : IrBuilder → ℕ → ℕ → IrBuilder
with_exts b n m = record { nodes = n; bases = b.bases; exts = m; roots = b.roots }

-- the promise: the answer, the counts and each lent word are the outcome's
pub record Interns (counts : IrBuilder → ℕ → ℕ → IrBuilder) (o : Interned) (b : IrBuilder) (r : Result Made Refusal) (ns ps cs : List ℕ) : Type 0 where
  pub said : said_of_answer r ≡ o.said
  pub builder : builder_after b r ≡ counts b o.after.count o.count
  pub nodes : ns ≡ o.after.nodes
  pub places : ps ≡ o.after.places
  pub consts : cs ≡ o.consts

-- ---- a constant of either class, by the counts of nodes and of constants alone

-- the node's handle, or the refusal's number
abbrev pub said_of_kept : ℕ → Result Kept Refusal → Said
said_of_kept dim (Ok k) = gives (k.placed.id ∷ dim ∷ [])
said_of_kept dim (Err r) = said_of r

-- how many nodes there are after the call, of n before
abbrev pub nodes_kept : ℕ → Result Kept Refusal → ℕ
nodes_kept n (Ok k) = k.placed.count
nodes_kept n (Err r) = n

-- how many constants there are after it, of m before
abbrev pub consts_kept : ℕ → Result Kept Refusal → ℕ
consts_kept m (Ok k) = k.constants
consts_kept m (Err r) = m

-- the promise: the answer, the counts and each lent word are the outcome's
pub record Keeps (o : Interned) (dim n m : ℕ) (r : Result Kept Refusal) (ns ps cs : List ℕ) : Type 0 where
  pub said : said_of_kept dim r ≡ o.said
  pub nodes_count : nodes_kept n r ≡ o.after.count
  pub consts_count : consts_kept m r ≡ o.count
  pub nodes : ns ≡ o.after.nodes
  pub places : ps ≡ o.after.places
  pub consts : cs ≡ o.consts

-- ---- the fresh builder

-- no nodes, constants and roots
abbrev pub empty : IrBuilder
empty = record { nodes = 0; bases = 0; exts = 0; roots = 0 }

-- no room for a constant or for a node
abbrev pub new_rows : Table → List ℕ → List Row
new_rows t bs = row (eqb (length bs) 0) 5 ∷ row (eqb (room t) 0) 4 ∷ []

-- the constant 0 over cleared places: node 0
abbrev pub zero_of : Start → List ℕ → List ℕ → List ℕ → Interned
zero_of start nodes places bs = const_of start (table nodes (cleared_from places 0 (length places)) 0) bs 0 0

-- what a fresh builder answers and leaves
unfoldable pub new_of : Start → List ℕ → List ℕ → List ℕ → Interned
new_of start nodes places bs =
    let t = table nodes places 0 in
    let rows = new_rows t bs in
    let o = zero_of start nodes places bs in
    record {
      said = first rows o.said;
      after = cond (any_holds rows) t o.after;
      consts = cond (any_holds rows) bs o.consts;
      count = cond (any_holds rows) 0 o.count;
    }
