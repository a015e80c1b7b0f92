-- The calls that touch nodes and places alone, over any lent words and any rule of where a lookup starts.
-- Assumes nothing.
use Rattle.std.specs.Prelude.{Bool, true, false, cond, ◌||◌, List, [], ◌∷◌, ℕ, length}
use Rattle.ir.specs.Program.{joined}
use Rattle.ir.specs.Refusals.{Row, row}
use Rattle.ir.specs.Words.{Node, packed, var, rap_challenge, alpha_pow, table_offset, add, sub, mul, neg, embed}
use Rattle.builder.specs.declared.ir_builder.Expr.{Expr}
use Rattle.node_table.specs.Words.{node}
use Rattle.node_table.specs.Hashing.{Start}
use Rattle.node_table.specs.Table.{Table}
use Rattle.node_table.specs.Tests.{past_index}
use Rattle.builder.specs.Answers.{short_b, stranger_b, Built, made}

-- ---- rows

-- nodes or places shorter than the count
abbrev pub short_row : Table → Row
short_row t = row (short_b (length t.nodes) (length t.places) t.count) 1

-- a column, challenge or alpha index over 65,535
abbrev pub index_row : ℕ → Row
index_row i = row (past_index i) 2

-- a handle of no node of this builder
abbrev pub handle_row : Table → Expr → Row
handle_row t e = row (stranger_b t.nodes t.count e) 3

-- of either operand
abbrev pub handles_row : Table → Expr → Expr → Row
handles_row t a b = row (stranger_b t.nodes t.count a || stranger_b t.nodes t.count b) 3

-- the rows before 4: of a cell, a challenge or an alpha power
abbrev pub indexed_rows : Table → ℕ → List Row
indexed_rows t i = short_row t ∷ index_row i ∷ []

-- of the table offset
abbrev pub offset_rows : Table → List Row
offset_rows t = short_row t ∷ []

-- of an operation on two handles
abbrev pub binary_rows : Table → Expr → Expr → List Row
binary_rows t a b = short_row t ∷ handles_row t a b ∷ []

-- of an operation on one
abbrev pub unary_rows : Table → Expr → List Row
unary_rows t a = short_row t ∷ handle_row t a ∷ []

-- ---- leaves

-- a uniform leaf, by its tag and index
unfoldable pub uniform_of : Start → ℕ → Table → ℕ → Built
uniform_of start tag t i = made start (indexed_rows t i) t (node tag i 0 1)

-- a challenge
abbrev pub challenge_of : Start → Table → ℕ → Built
challenge_of start t i = uniform_of start rap_challenge t i

-- a power of alpha
abbrev pub alpha_power_of : Start → Table → ℕ → Built
alpha_power_of start t i = uniform_of start alpha_pow t i

-- the table offset
unfoldable pub table_offset_of : Start → Table → Built
table_offset_of start t = made start (offset_rows t) t (node table_offset 0 0 1)

-- a cell of the main trace, which is base, or of the aux trace
abbrev pub cell_node : Bool → ℕ → ℕ → Node
cell_node main offset col =
    let w = packed (record { main = main; offset = offset; row = 0; col = col }) in
    node var w.a w.b (cond main 0 1)

-- a trace cell
unfoldable pub cell_of : Start → Bool → Table → ℕ → ℕ → Built
cell_of start main t offset col = made start (indexed_rows t col) t (cell_node main offset col)

-- of the main trace
abbrev pub main_cell_of : Start → Table → ℕ → ℕ → Built
main_cell_of start t offset col = cell_of start true t offset col

-- of the aux trace
abbrev pub aux_cell_of : Start → Table → ℕ → ℕ → Built
aux_cell_of start t offset col = cell_of start false t offset col

-- ---- arithmetic

-- an operation on two handles: extension where one of them is
unfoldable pub binary_of : Start → ℕ → Table → Expr → Expr → Built
binary_of start tag t a b =
    made start (binary_rows t a b) t (node tag a.id b.id (joined a.dim b.dim))

-- a sum
abbrev pub add_of : Start → Table → Expr → Expr → Built
add_of start t a b = binary_of start add t a b

-- a difference
abbrev pub sub_of : Start → Table → Expr → Expr → Built
sub_of start t a b = binary_of start sub t a b

-- a product
abbrev pub mul_of : Start → Table → Expr → Expr → Built
mul_of start t a b = binary_of start mul t a b

-- an operation on one handle
unfoldable pub unary_of : Start → ℕ → ℕ → Table → Expr → Built
unary_of start tag dim t a = made start (unary_rows t a) t (node tag a.id 0 dim)

-- it keeps its operand's dim
abbrev pub neg_of : Start → Table → Expr → Built
neg_of start t a = unary_of start neg a.dim t a

-- extension, also of an extension value
abbrev pub embed_of : Start → Table → Expr → Built
embed_of start t a = unary_of start embed 1 t a
