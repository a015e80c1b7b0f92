-- The trace columns that a program reads at a later row, as `next_row_trace_reads` lists them.
-- Assumes nothing.
use Rattle.ir.specs.declared.refusal.Refusal.{Refusal}
use Rattle.std.specs.Prelude.{Bool, cond, ◌&&◌, ◌||◌, List, [], ◌∷◌, ◌≡◌, ℕ, ◌+◌, eqb, leb, ltb, length, Result, Ok, Err}
use Rattle.std.proofs.lemmas.List.Edits.{sets}
use Rattle.laws.specs.Folds.{any_below, all_below}
use Rattle.ir.specs.declared.node.Var.{Var}
use Rattle.ir.specs.Program.{Program, too_many_nodes, too_many_roots, short_program, ill_formed}
use Rattle.ir.specs.Refusals.{Said, Row, row, row_at, first, gives, said_of, on_done}
use Rattle.ir.specs.Words.{Node, node_at, var, unpacked}

-- ---- the columns

-- the most columns of a main or an aux trace: a column has 16 bits
abbrev pub most_columns : ℕ
most_columns = 65536

-- the cell that a Var node reads
abbrev pub var_of : Node → Var
var_of w = unpacked (record { a = w.x; b = w.y })

-- a Var with offset or row at least 1
unfoldable pub reads_next : Node → Bool
reads_next w = eqb w.tag var && (leb 1 (var_of w).offset || leb 1 (var_of w).row)

-- its column, where aux columns are moved up by the main width
unfoldable pub column_at : ℕ → Node → ℕ
column_at width w = cond (var_of w).main (var_of w).col (width + (var_of w).col)

-- whether node i reads column c at a later row
unfoldable pub reads_column : List ℕ → ℕ → ℕ → ℕ → Bool
reads_column nodes width c i = reads_next (node_at nodes i) && eqb (column_at width (node_at nodes i)) c

-- the columns that one of n nodes reads so, dead nodes included, ascending and with no repeats
-- (no column is past the last that is asked: `none_past` of ReadsLaws)
unfoldable pub columns_read : List ℕ → ℕ → ℕ → List ℕ
columns_read nodes n width = all_below (λ c. any_below (reads_column nodes width c) n) (width + most_columns)

-- the same of a program
abbrev pub columns_of : Program → ℕ → List ℕ
columns_of p width = columns_read p.nodes p.counts.nodes width

-- ---- the answer

-- on 0 the number of columns
abbrev pub said_of_columns : Result ℕ Refusal → Said
said_of_columns (Ok count) = gives (count ∷ [])
said_of_columns (Err r) = said_of r

-- the order of refusals, where `room` words are lent for the columns
abbrev pub reads_rows : Program → ℕ → ℕ → List Row
reads_rows p width room =
    row (too_many_nodes p.counts) 8
    ∷ row (too_many_roots p.counts) 9
    ∷ row (ltb most_columns width) 2
    ∷ row (short_program p) 1
    ∷ row_at (ill_formed p.counts p.nodes p.roots) 7
    ∷ row (ltb room (length (columns_of p width))) 10
    ∷ []

-- what the call says
unfoldable pub reads_said : Program → ℕ → ℕ → Said
reads_said p width room = first (reads_rows p width room) (gives (length (columns_of p width) ∷ []))

-- the promise: what is said, and the room at exit, where at entry it held the words `old`
pub record ReadsAnswer (p : Program) (width : ℕ) (old new : List ℕ) (answer : Result ℕ Refusal) : Type 0 where
  pub said : said_of_columns answer ≡ reads_said p width (length old)
  pub written : new ≡ on_done (reads_said p width (length old)) (sets old 0 (columns_of p width)) old
