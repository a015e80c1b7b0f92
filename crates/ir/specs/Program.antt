-- A program over lent words, and when it is well-formed.
-- Assumes nothing.
use Rattle.std.specs.Prelude.{Bool, cond, not, ◌&&◌, ◌||◌, List, [], ◌∷◌, ℕ, ◌*◌, ◌%◌, eqb, leb, ltb, length, get_or, Option}
use Rattle.laws.specs.Folds.{lowest, or_else}
use Rattle.ir.specs.declared.program.Counts.{Counts}
use Rattle.ir.specs.declared.program.ProgramRef.{ProgramRef}
use Rattle.ir.specs.Refusals.{Said, Row, row, row_at, first, gives}
use Rattle.ir.specs.Words.{Node, node_at, const_base, const_ext, var, table_offset, add, neg, embed}

-- the counts, and the words that were lent
pub record Program : Type 0 where
  pub counts : Counts
  pub nodes : List ℕ
  pub bases : List ℕ
  pub exts : List ℕ
  pub roots : List ℕ

-- what is behind a reference to a program
abbrev pub program_of : ProgramRef → Program
program_of p =
    record { counts = p.counts; nodes = p.nodes.now; bases = p.bases.now; exts = p.exts.now; roots = p.roots.now }

-- num_base, as the caller has it: constraints below it go to base_evals
abbrev pub num_base_of : Counts → ℕ
num_base_of c = c.num_base

-- ---- 8, 9 and 1

-- the most nodes and constants, 2^29 - 1
abbrev pub most : ℕ
most = 536870911

-- the most that 32 bits hold
abbrev pub most32 : ℕ
most32 = 4294967295

-- 8: nodes or constants
unfoldable pub too_many_nodes : Counts → Bool
too_many_nodes c = ltb most c.nodes || ltb most c.bases || ltb most c.exts

-- 9: num_base or roots
unfoldable pub too_many_roots : Counts → Bool
too_many_roots c = ltb most32 (num_base_of c) || ltb most32 c.roots

-- 1: the four tables, by the words lent for each
unfoldable pub short_tables : Counts → ℕ → ℕ → ℕ → ℕ → Bool
short_tables c nodes bases exts roots =
    ltb nodes (4 * c.nodes) || ltb bases c.bases || ltb exts (3 * c.exts) || ltb roots c.roots

-- the same of the words that were lent
abbrev pub short_program : Program → Bool
short_program p = short_tables p.counts (length p.nodes) (length p.bases) (length p.exts) (length p.roots)

-- ---- 7

-- dims as the builder gives them: base exactly if both operands are
abbrev pub joined : ℕ → ℕ → ℕ
joined a b = cond (eqb a 0 && eqb b 0) 0 1

-- a Var: no spare bit, row 0, and base exactly in the main trace
unfoldable pub var_ok : ℕ → ℕ → ℕ → Bool
var_ok x y dim = ltb x 65536 && ltb y 131072 && eqb (y % 256) 0 && eqb dim (cond (ltb y 65536) 1 0)

-- leaves: constants inside their tables, uniform indexes of 16 bits, unused words 0
unfoldable pub leaf_ok : Counts → Node → Bool
leaf_ok c w =
    cond (eqb w.tag const_base) (ltb w.x c.bases && eqb w.y 0 && eqb w.dim 0)
    (cond (eqb w.tag const_ext) (ltb w.x c.exts && eqb w.y 0 && eqb w.dim 1)
    (cond (eqb w.tag var) (var_ok w.x w.y w.dim)
    (cond (eqb w.tag table_offset) (eqb w.x 0 && eqb w.y 0 && eqb w.dim 1)
    (ltb w.x 65536 && eqb w.y 0 && eqb w.dim 1))))

-- operations: operand ids below the node's own, and an unused word 0; Neg keeps its operand's dim, Embed is extension; no
-- other tag is known
unfoldable pub operation_ok : List ℕ → ℕ → Node → Bool
operation_ok nodes i w =
    ltb w.x i
    && cond (ltb w.tag neg) (ltb w.y i && eqb w.dim (joined (node_at nodes w.x).dim (node_at nodes w.y).dim))
    (eqb w.y 0 && cond (eqb w.tag neg) (eqb w.dim (node_at nodes w.x).dim) (eqb w.tag embed && eqb w.dim 1))

-- node i
unfoldable pub node_ok : Counts → List ℕ → ℕ → Bool
node_ok c nodes i =
    let w = node_at nodes i in
    cond (ltb w.tag add) (leaf_ok c w) (operation_ok nodes i w)

-- the lowest node that is not as it has to be, else the lowest root that names no node
unfoldable pub ill_formed : Counts → List ℕ → List ℕ → Option ℕ
ill_formed c nodes roots =
    or_else (lowest (λ i. not (node_ok c nodes i)) c.nodes) (lowest (λ r. leb c.nodes (get_or roots r 0)) c.roots)

-- ---- the program check

-- its refusals in order
abbrev pub check_rows : Program → List Row
check_rows p =
    row (too_many_nodes p.counts) 8
    ∷ row (too_many_roots p.counts) 9
    ∷ row (short_program p) 1
    ∷ row_at (ill_formed p.counts p.nodes p.roots) 7
    ∷ []

-- what it says
unfoldable pub checked : Program → Said
checked p = first (check_rows p) (gives [])
