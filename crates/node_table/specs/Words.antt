-- Nodes in lent words: written, compared, and as the list that the Rust has.
-- Assumes nothing.
use Rattle.std.specs.Prelude.{ℕ, zero, suc, ◌+◌, ◌*◌, Bool, cond, ◌&&◌, List, [], ◌∷◌, ◌++◌, ◌==◌, slice_set}
use Rattle.node_table.specs.declared.table.Node as code
use Rattle.ir.specs.Words.{Node, node_at}

-- a node, from its words
abbrev pub node : ℕ → ℕ → ℕ → ℕ → Node
node t x y d = record { tag = t; x = x; y = y; dim = d }

-- the code's node as the program's
abbrev pub words_of : code.Node → Node
words_of w = node w.tag w.x w.y w.dim

-- the words with node i written
abbrev pub put : List ℕ → ℕ → Node → List ℕ
put l i w = slice_set (slice_set (slice_set (slice_set l (4 * i) w.tag) (4 * i + 1) w.x) (4 * i + 2) w.y) (4 * i + 3) w.dim

-- whether two nodes agree in every word, dim too
unfoldable pub same : Node → Node → Bool
same a b = a.tag == b.tag && (a.x == b.x && (a.y == b.y && a.dim == b.dim))

-- the first n nodes, as the list that the Rust has
unfoldable pub view : List ℕ → ℕ → List Node
view l zero = []
view l (suc n) = view l n ++ (node_at l n ∷ [])

-- the first index of w, else the length
unfoldable pub lookup : Node → List Node → ℕ
lookup w [] = 0
lookup w (v ∷ vs) = let r = suc (lookup w vs) in cond (same v w) 0 r
