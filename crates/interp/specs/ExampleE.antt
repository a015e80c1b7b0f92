-- Document 01's program E: its words, a frame, and that the check and the plain evaluator answer 0, by computation.
-- Assumes nothing.
use Rattle.std.specs.Prelude.{List, [], ◌∷◌, ◌≡◌, refl, ℕ, length, replicate}
use Rattle.extension.specs.Tower.{goldilocks}
use Rattle.laws.specs.Folds.{lowest}
use Rattle.ir.specs.declared.program.Counts.{Counts}
use Rattle.ir.specs.declared.frame.Shape.{Shape}
use Rattle.ir.specs.Program.{Program, too_many_nodes, too_many_roots, short_tables, var_ok, leaf_ok, operation_ok, node_ok, ill_formed, checked}
use Rattle.ir.specs.Refusals.{Row, first, gives}
use Rattle.ir.specs.Shape.{over_shape}
use Rattle.values.specs.Values.{Value, values}
use Rattle.values.specs.Frame.{Lent, lent, leaves, cell_outside, outside, prover_strides, frame_limits}
use Rattle.evaluation.specs.Evaluation.{short_frame, short_memory, short_evals, ext_root, prover_rows, lengths}

-- the nodes that the builder makes of E: node 0 is the constant 0
unfoldable pub nodes : List ℕ
nodes =
    0 ∷ 0 ∷ 0 ∷ 0
    ∷ 2 ∷ 0 ∷ 65536 ∷ 0
    ∷ 2 ∷ 0 ∷ 65792 ∷ 0
    ∷ 7 ∷ 2 ∷ 1 ∷ 0
    ∷ 0 ∷ 1 ∷ 0 ∷ 0
    ∷ 7 ∷ 3 ∷ 4 ∷ 0
    ∷ 2 ∷ 2 ∷ 0 ∷ 1
    ∷ 3 ∷ 0 ∷ 0 ∷ 1
    ∷ 8 ∷ 6 ∷ 7 ∷ 1
    ∷ 6 ∷ 8 ∷ 5 ∷ 1
    ∷ []

-- and its roots
unfoldable pub roots : List ℕ
roots = 5 ∷ 9 ∷ []

-- main cells 5 and 9, aux cell (0, 2) with limbs 1, 2, 3, challenge (4, 5, 6)
unfoldable pub frame : Lent
frame =
    lent (0 ∷ 1 ∷ []) [] (5 ∷ 9 ∷ [])
    (0 ∷ 0 ∷ 0 ∷ 0 ∷ 0 ∷ 0 ∷ 1 ∷ 2 ∷ 3 ∷ 0 ∷ 0 ∷ 0 ∷ 0 ∷ 0 ∷ 0 ∷ 0 ∷ 0 ∷ 0 ∷ [])
    (4 ∷ 5 ∷ 6 ∷ []) [] (0 ∷ 0 ∷ 0 ∷ [])

-- two base constants, no extension constant, and one leading constraint that is base
unfoldable pub counts : Counts
counts = record { nodes = 10; bases = 2; exts = 0; roots = 2; num_base = 1 }

-- two steps of one main and three aux columns, one challenge
unfoldable pub shape : Shape
shape = record { steps = 2; main = 1; aux = 3; challenges = 1; alphas = 0 }

-- base evals as lent
unfoldable pub base : List ℕ
base = 7 ∷ []

-- extension evals as lent
unfoldable pub ext : List ℕ
ext = 11 ∷ 12 ∷ 13 ∷ 14 ∷ 15 ∷ 16 ∷ []

-- the room as lent
unfoldable pub room : List ℕ
room = replicate 40 0

-- ---- no refusal

-- as the check is given it
unfoldable pub program : Program
program = record { counts = counts; nodes = nodes; bases = frame.bases; exts = frame.exts; roots = roots }

-- the check answers 0
pub check_done : checked program ≡ gives []
unfolding program counts frame roots nodes checked too_many_nodes too_many_roots short_tables ill_formed node_ok leaf_ok var_ok operation_ok lowest
check_done = refl

-- the plain evaluator's rows
pub rows : List Row
rows = prover_rows counts shape (lengths nodes roots frame room) (length base) (length ext) (frame_limits shape) nodes roots

-- none holds: it answers 0
pub evaluation_done : first rows (gives []) ≡ gives []
unfolding rows counts shape frame base ext room roots nodes too_many_nodes too_many_roots over_shape short_memory short_tables short_frame short_evals ill_formed node_ok leaf_ok var_ok operation_ok cell_outside outside ext_root lowest
evaluation_done = refl

-- ---- the values

-- each node's value
unfoldable pub env : ℕ → Value ℕ (List ℕ)
env = values goldilocks (leaves (prover_strides shape) frame) nodes counts.nodes
