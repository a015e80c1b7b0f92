-- The roots, and what is handed on at the end, over any lent words.
-- Assumes nothing.
use Rattle.std.specs.Prelude.{Result, Ok, Err, cond, ◌||◌, List, [], ◌∷◌, ◌≡◌, ℕ, zero, suc, ◌+◌, ◌-◌, ◌/◌, max, leb, ltb, length, set}
use Rattle.ir.specs.declared.program.Counts.{Counts}
use Rattle.ir.specs.Refusals.{Said, Row, row, first, any_holds, gives, said_of}
use Rattle.ir.specs.declared.refusal.Refusal.{Refusal}
use Rattle.builder.specs.declared.ir_builder.Expr.{Expr}
use Rattle.builder.specs.declared.ir_builder.IrBuilder.{IrBuilder}
use Rattle.builder.specs.Answers.{stranger_b}

-- d words from `from` on are 0
unfoldable pub cleared_from : List ℕ → ℕ → ℕ → List ℕ
cleared_from l from zero = l
cleared_from l from (suc d) = set (cleared_from l from d) (from + d) 0

-- ---- emit

-- on 0 nothing but the number
abbrev pub said_of_emitted : Result IrBuilder Refusal → Said
said_of_emitted (Ok b) = gives []
said_of_emitted (Err r) = said_of r

-- the builder after it: as before where it refuses
abbrev pub builder_emitted : IrBuilder → Result IrBuilder Refusal → IrBuilder
builder_emitted b (Ok a) = a
builder_emitted b (Err r) = b

-- a builder with another count of roots
abbrev pub with_roots : IrBuilder → ℕ → IrBuilder
with_roots b k = record { nodes = b.nodes; bases = b.bases; exts = b.exts; roots = k }

-- nodes or roots shorter than their counts need, a handle that is no node's, a constraint past the root room
abbrev pub emit_rows : List ℕ → ℕ → List ℕ → ℕ → ℕ → Expr → List Row
emit_rows nodes n rs k at e =
    row (ltb (length nodes / 4) n || ltb (length rs) k) 1 ∷ row (stranger_b nodes n e) 3 ∷ row (leb (length rs) at) 6 ∷ []

-- what it says, and the roots after it
pub record Rooting : Type 0 where
  pub said : Said
  pub roots : List ℕ
  pub count : ℕ

-- the root of constraint `at`; words between the root count and it become 0
unfoldable pub emit_of : List ℕ → ℕ → List ℕ → ℕ → ℕ → Expr → Rooting
emit_of nodes n rs k at e =
    let rows = emit_rows nodes n rs k at e in
    record {
      said = first rows (gives []);
      roots = cond (any_holds rows) rs (set (cleared_from rs k (at - k)) at e.id);
      count = cond (any_holds rows) k (max k (at + 1));
    }

-- the promise: the answer, the count and each lent root are the outcome's
pub record EmitGives (o : Rooting) (b : IrBuilder) (r : Result IrBuilder Refusal) (rs : List ℕ) : Type 0 where
  pub said : said_of_emitted r ≡ o.said
  pub builder : builder_emitted b r ≡ with_roots b o.count
  pub roots : rs ≡ o.roots

-- ---- finish

-- the program's counts, with num_base as the caller has it
abbrev pub finished : IrBuilder → ℕ → Counts
finished b base = record { nodes = b.nodes; bases = b.bases; exts = b.exts; roots = b.roots; num_base = base }
