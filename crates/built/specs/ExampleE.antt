-- Document 01's program E by its calls, and small histories that it speaks of, by computation.
-- Assumes nothing.
use Rattle.std.specs.Prelude.{List, [], ◌∷◌, ◌≡◌, refl, ℕ}
use Rattle.std.proofs.Common.{arith}
use Rattle.field.specs.Base.{p}
use Rattle.ir.specs.Program.{most}
use Rattle.ir.specs.Refusals.{gives, refuses}
use Rattle.interp.specs.ExampleE as E
use Rattle.builder.specs.declared.ir_builder.Expr.{Expr}
use Rattle.node_table.specs.Model.{push_list}
use Rattle.node_table.specs.Words.{same, view, lookup}
use Rattle.built.specs.Draft.{Room, Call, main, aux, challenge, const_base, const_ext, add, sub, mul, emit, fresh_draft, stranger, index_of, rooted, told}
use Rattle.built.specs.History.{replies, drafted}

-- a base handle
abbrev base : ℕ → Expr
base id = record { id = id; dim = 0 }

-- an extension handle
abbrev ext : ℕ → Expr
ext id = record { id = id; dim = 1 }

-- room for any program, and eight constraints
abbrev roomy : Room
roomy = record { nodes = most; bases = most; exts = most; roots = 8 }

-- E's calls
pub calls : List Call
calls =
    main 0 0 (omega arith)
    ∷ main 1 0 (omega arith)
    ∷ sub (base 2) (base 1)
    ∷ const_base 1
    ∷ sub (base 3) (base 4)
    ∷ emit 0 (base 5)
    ∷ aux 0 2 (omega arith)
    ∷ challenge 0
    ∷ mul (ext 6) (ext 7)
    ∷ add (ext 8) (base 5)
    ∷ emit 1 (ext 9)
    ∷ []

-- they make E: the nodes, constants and roots that the evaluators and lowering are shown on
pub makes_e : drafted roomy fresh_draft calls ≡ record { nodes = view E.nodes 10; bases = 0 ∷ 1 ∷ []; exts = []; roots = E.roots }
unfolding calls drafted told push_list lookup same stranger index_of rooted view E.nodes E.roots
makes_e = refl

-- 0 and p are one constant, and node 0; so are the limbs of extension constants; a node that is there is answered with its id
pub shares : replies roomy fresh_draft (const_base p ∷ const_ext (1 ∷ 2 ∷ p ∷ []) ∷ const_ext (1 ∷ 2 ∷ 0 ∷ []) ∷ challenge 3 ∷ challenge 3 ∷ [])
    ≡ gives (0 ∷ 0 ∷ []) ∷ gives (1 ∷ 1 ∷ []) ∷ gives (1 ∷ 1 ∷ []) ∷ gives (2 ∷ 1 ∷ []) ∷ gives (2 ∷ 1 ∷ []) ∷ []
unfolding replies told push_list lookup same stranger index_of
shares = refl

-- also when the tables are full; a new constant there is 5, another new node 4, a handle of no node 3, a column over 65,535 is 2
pub full : replies (record { nodes = 1; bases = 1; exts = 0; roots = 1 }) fresh_draft (const_base 0 ∷ const_base 1 ∷ challenge 0 ∷ add (base 0) (base 1) ∷ main 0 65536 (omega arith) ∷ emit 1 (base 0) ∷ [])
    ≡ gives (0 ∷ 0 ∷ []) ∷ refuses 5 0 ∷ refuses 4 0 ∷ refuses 3 0 ∷ refuses 2 0 ∷ refuses 6 0 ∷ []
unfolding replies told push_list lookup same stranger index_of
full = refl

-- a second emit of one constraint takes the first's place
pub fills : (drafted roomy fresh_draft (challenge 0 ∷ emit 2 (ext 1) ∷ emit 2 (base 0) ∷ emit 1 (ext 1) ∷ [])).roots ≡ 0 ∷ 1 ∷ 0 ∷ []
unfolding drafted told push_list lookup same stranger rooted
fills = refl

-- emit(2) alone: roots 0, 0 and the node
pub gap : (drafted roomy fresh_draft (challenge 0 ∷ emit 2 (ext 1) ∷ [])).roots ≡ 0 ∷ 0 ∷ 1 ∷ []
unfolding drafted told push_list lookup same stranger rooted
gap = refl
