-- What a builder call says, and how every call that makes a node ends, over any lent words.
-- Assumes nothing.
use Rattle.std.specs.Prelude.{Result, Ok, Err, Bool, cond, ◌||◌, List, [], ◌∷◌, ◌++◌, ◌≡◌, ℕ, ◌/◌, ltb, length}
use Rattle.laws.specs.Options.{missing}
use Rattle.ir.specs.declared.refusal.Refusal.{Refusal}
use Rattle.ir.specs.Refusals.{Said, Row, row, first, any_holds, gives, said_of, found_at}
use Rattle.ir.specs.Words.{Node}
use Rattle.builder.specs.declared.ir_builder.Expr.{Expr}
use Rattle.builder.specs.declared.ir_builder.IrBuilder.{IrBuilder}
use Rattle.builder.specs.declared.ir_builder.Made.{Made}
use Rattle.node_table.specs.Hashing.{Start}
use Rattle.node_table.specs.Table.{Table, Pushed, push}
use Rattle.node_table.specs.Tests.{no_node}

-- ---- the code's answers

-- the handle, or the refusal's number
abbrev pub said_of_answer : Result Made Refusal → Said
said_of_answer (Ok m) = gives (m.expr.id ∷ m.expr.dim ∷ [])
said_of_answer (Err r) = said_of r

-- the builder after a call: as before where it refuses
abbrev pub builder_after : IrBuilder → Result Made Refusal → IrBuilder
builder_after b (Ok m) = m.builder
builder_after b (Err r) = b

-- a builder with another count of nodes
abbrev pub with_nodes : IrBuilder → ℕ → IrBuilder
with_nodes b n = record { nodes = n; bases = b.bases; exts = b.exts; roots = b.roots }

-- ---- the tests

-- the order in which document 01 has the numbers of builder calls tested
abbrev pub builder_order : List ℕ
builder_order = 1 ∷ 2 ∷ 3 ∷ 6 ∷ 5 ∷ 4 ∷ []

-- 1: nodes or places shorter than the count needs
unfoldable pub short_b : ℕ → ℕ → ℕ → Bool
short_b nodes places n = ltb (nodes / 4) n || ltb places n

-- 3: a handle's id not below the node count, or its dim not that node's
unfoldable pub stranger_b : List ℕ → ℕ → Expr → Bool
stranger_b nodes n e = no_node nodes n e.id e.dim

-- ---- a call that makes a node

-- what it says, and the table after it
pub record Built : Type 0 where
  pub said : Said
  pub after : Table

-- the push of a node, by a rule of where its lookup starts
abbrev pub pushed : Start → Table → Node → Pushed
pushed start t w = push (start (length t.places) w) t w

-- the call's own rows, then 4, else the node's handle; a refusal leaves the table as it was
abbrev pub made : Start → List Row → Table → Node → Built
made start rows t w =
    let o = pushed start t w in
    record {
      said = first (rows ++ (row (missing o.id) 4 ∷ [])) (gives (found_at o.id ∷ w.dim ∷ []));
      after = cond (any_holds rows) t o.after;
    }

-- the promise: the answer, the counts and each lent word are the outcome's
pub record Gives (o : Built) (b : IrBuilder) (r : Result Made Refusal) (ns ps : List ℕ) : Type 0 where
  pub said : said_of_answer r ≡ o.said
  pub builder : builder_after b r ≡ with_nodes b o.after.count
  pub nodes : ns ≡ o.after.nodes
  pub places : ps ≡ o.after.places
