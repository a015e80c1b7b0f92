-- Node words, as document 01 has them: four words a node, with the OP_ numbers of device.rs for tags.
-- Assumes nothing.
use Rattle.std.specs.Prelude.{Bool, cond, not, List, ℕ, ◌+◌, ◌*◌, ◌/◌, ◌%◌, eqb, get_or}
use Rattle.ir.specs.declared.node.Packed.{Packed}
use Rattle.ir.specs.declared.node.Var.{Var}

-- a node's words
pub record Node : Type 0 where
  pub tag : ℕ
  pub x : ℕ
  pub y : ℕ
  pub dim : ℕ

-- node i of a list of words
abbrev pub node_at : List ℕ → ℕ → Node
node_at l i =
    record { tag = get_or l (4 * i) 0; x = get_or l (4 * i + 1) 0; y = get_or l (4 * i + 2) 0; dim = get_or l (4 * i + 3) 0 }

-- tag 0: a base constant
abbrev pub const_base : ℕ
const_base = 0

-- tag 1: an extension constant
abbrev pub const_ext : ℕ
const_ext = 1

-- tag 2: a trace cell
abbrev pub var : ℕ
var = 2

-- tag 3: a challenge
abbrev pub rap_challenge : ℕ
rap_challenge = 3

-- tag 4: a power of alpha
abbrev pub alpha_pow : ℕ
alpha_pow = 4

-- tag 5: the table offset
abbrev pub table_offset : ℕ
table_offset = 5

-- tag 6: a sum
abbrev pub add : ℕ
add = 6

-- tag 7: a difference
abbrev pub sub : ℕ
sub = 7

-- tag 8: a product
abbrev pub mul : ℕ
mul = 8

-- tag 9: a negation
abbrev pub neg : ℕ
neg = 9

-- tag 10: a value as an extension value, also one that is
abbrev pub embed : ℕ
embed = 10

-- a Var has its column in x, and in y the main mark at bit 16, the offset from bit 8 and the row from bit 0
abbrev pub main_of : ℕ → Bool
main_of y = not (eqb (y / 65536 % 2) 0)

-- the step that it reads
abbrev pub offset_of : ℕ → ℕ
offset_of y = y / 256 % 256

-- its row
abbrev pub row_of : ℕ → ℕ
row_of y = y % 256

-- its column
abbrev pub column_of : ℕ → ℕ
column_of x = x % 65536

-- a mark as a number
abbrev pub bit : Bool → ℕ
bit b = cond b 1 0

-- a cell as two words, as `pack_var` makes them
abbrev pub packed : Var → Packed
packed v = record { a = v.col; b = bit v.main * 65536 + v.offset * 256 + v.row }

-- the cell that two words name, as `unpack_var` reads them: other bits are not looked at
abbrev pub unpacked : Packed → Var
unpacked w =
    record { main = main_of w.b; offset = offset_of w.b; row = row_of w.b; col = column_of w.a }
