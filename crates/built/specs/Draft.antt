-- The program as the Rust's builder has it, in lists, and what each call makes of it. The Rust grows its tables; here a room says how
-- much fits.
-- Assumes nothing.
use Rattle.std.specs.Prelude.{Bool, true, false, cond, not, ◌&&◌, ◌||◌, List, [], ◌∷◌, ◌++◌, ℕ, suc, ◌-◌, ◌%◌, ◌<◌, eqb, leb, ltb, length, get_or, set, replicate}
use Rattle.laws.specs.Options.{missing}
use Rattle.field.specs.Base.{p}
use Rattle.ir.specs.Program.{joined}
use Rattle.ir.specs.Refusals.{Said, Row, row, first, any_holds, gives, found_at}
use Rattle.ir.specs.Words as Op
use Rattle.ir.specs.Words.{Node}
use Rattle.builder.specs.declared.ir_builder.Expr.{Expr}
use Rattle.node_table.specs.Words.{node}
use Rattle.builder.specs.Calls.{index_row, cell_node}
use Rattle.node_table.specs.Model.{push_list}

-- the nodes; the values of the constants, those of the extension by their limbs; the root of each constraint
pub record Draft : Type 0 where
  pub nodes : List Node
  pub bases : List ℕ
  pub exts : List (List ℕ)
  pub roots : List ℕ

-- how many of each fit
pub record Room : Type 0 where
  pub nodes : ℕ
  pub bases : ℕ
  pub exts : ℕ
  pub roots : ℕ

-- the calls; an offset has eight bits; `const_signed` is the constant of its value
pub data Call : Type 0 where
  main : (offset col : ℕ) → offset < 256 → Call
  aux : (offset col : ℕ) → offset < 256 → Call
  challenge : ℕ → Call
  alpha_power : ℕ → Call
  table_offset : Call
  const_base : ℕ → Call
  const_ext : List ℕ → Call
  add : Expr → Expr → Call
  sub : Expr → Expr → Call
  mul : Expr → Expr → Call
  neg : Expr → Call
  embed : Expr → Call
  emit : ℕ → Expr → Call

-- what a call says, and the program after it
pub record Told : Type 0 where
  pub said : Said
  pub draft : Draft

-- node 0 is the constant 0
abbrev pub fresh_draft : Draft
fresh_draft = record { nodes = node Op.const_base 0 0 0 ∷ []; bases = 0 ∷ []; exts = []; roots = [] }

-- a program with another list of nodes
abbrev pub with_list : Draft → List Node → Draft
with_list d xs = record { nodes = xs; bases = d.bases; exts = d.exts; roots = d.roots }

-- ---- calls that make a node

-- 3: a handle that is no node's
unfoldable pub stranger : List Node → Expr → Bool
stranger xs e = leb (length xs) e.id || not (eqb (get_or xs e.id (node 0 0 0 0)).dim e.dim)

-- 3: a handle of no node of the program
abbrev pub stranger_row : Draft → Expr → Row
stranger_row d e = row (stranger d.nodes e) 3

-- the call's own rows, then 4, else the id of an equal node or the next id
abbrev pub making : Room → List Row → Draft → Node → Told
making r rows d w =
    let o = push_list r.nodes d.nodes w in
    record {
      said = first (rows ++ (row (missing o.id) 4 ∷ [])) (gives (found_at o.id ∷ w.dim ∷ []));
      draft = cond (any_holds rows) d (with_list d o.list);
    }

-- Add, Sub, Mul
abbrev pub binary : Room → ℕ → Draft → Expr → Expr → Told
binary r tag d a b = making r (row (stranger d.nodes a || stranger d.nodes b) 3 ∷ []) d (node tag a.id b.id (joined a.dim b.dim))

-- ---- constants

-- the first index of an entry that passes the test, else the length
unfoldable pub index_of : {A : Type 0} → (A → Bool) → List A → ℕ
index_of test [] = 0
index_of test (x ∷ xs) = let r = suc (index_of test xs) in cond (test x) 0 r

-- a constant's call: what it says, the nodes and the table of constants after it
pub record Shared (A : Type 0) : Type 0 where
  pub said : Said
  pub nodes : List Node
  pub consts : List A

-- the constant v among those of its table, by value; where it is new and its node fits, it is put last
abbrev pub sharing : {A : Type 0} → (nodes_fit consts_fit tag dim : ℕ) → (A → Bool) → A → List Node → List A → Shared A
sharing nodes_fit consts_fit tag dim same v xs cs =
    let i = index_of same cs in
    let new = leb (length cs) i in
    let o = push_list nodes_fit xs (node tag i 0 dim) in
    let rows = row (new && leb consts_fit (length cs)) 5 ∷ [] in
    record {
      said = first (rows ++ (row (missing o.id) 4 ∷ [])) (gives (found_at o.id ∷ dim ∷ []));
      nodes = cond (any_holds rows) xs o.list;
      consts = cond (any_holds rows || missing o.id) cs (cond new (cs ++ (v ∷ [])) cs);
    }

-- three limbs by value
abbrev pub limbs_of : List ℕ → List ℕ
limbs_of v = (get_or v 0 0 % p) ∷ (get_or v 1 0 % p) ∷ (get_or v 2 0 % p) ∷ []

-- two extension constants of one value
abbrev pub same_limbs : List ℕ → List ℕ → Bool
same_limbs a b = eqb (get_or a 0 0) (get_or b 0 0) && (eqb (get_or a 1 0) (get_or b 1 0) && eqb (get_or a 2 0) (get_or b 2 0))

-- a base constant, shared by value
abbrev pub base_shared : Room → Draft → ℕ → Shared ℕ
base_shared r d v = sharing r.nodes r.bases Op.const_base 0 (λ x. eqb x (v % p)) (v % p) d.nodes d.bases

-- an extension constant
abbrev pub ext_shared : Room → Draft → List ℕ → Shared (List ℕ)
ext_shared r d v = sharing r.nodes r.exts Op.const_ext 1 (λ x. same_limbs x (limbs_of v)) (limbs_of v) d.nodes d.exts

-- ---- roots

-- gaps become node 0, and a second root of a constraint takes the first's place
unfoldable pub rooted : List ℕ → ℕ → ℕ → List ℕ
rooted rs c id = cond (ltb c (length rs)) (set rs c id) ((rs ++ replicate (c - length rs) 0) ++ (id ∷ []))

-- emit: the root of constraint c
abbrev pub emission : Room → Draft → ℕ → Expr → Told
emission r d c e =
    let rows = stranger_row d e ∷ row (leb r.roots c) 6 ∷ [] in
    record {
      said = first rows (gives []);
      draft = record { nodes = d.nodes; bases = d.bases; exts = d.exts; roots = cond (any_holds rows) d.roots (rooted d.roots c e.id) };
    }

-- ---- every call

-- what each call answers, and the program after it
unfoldable pub told : Room → Draft → Call → Told
told r d (main offset col h) = making r (index_row col ∷ []) d (cell_node true offset col)
told r d (aux offset col h) = making r (index_row col ∷ []) d (cell_node false offset col)
told r d (challenge i) = making r (index_row i ∷ []) d (node Op.rap_challenge i 0 1)
told r d (alpha_power i) = making r (index_row i ∷ []) d (node Op.alpha_pow i 0 1)
told r d table_offset = making r [] d (node Op.table_offset 0 0 1)
told r d (const_base v) =
    let o = base_shared r d v in
    record { said = o.said; draft = record { nodes = o.nodes; bases = o.consts; exts = d.exts; roots = d.roots } }
told r d (const_ext v) =
    let o = ext_shared r d v in
    record { said = o.said; draft = record { nodes = o.nodes; bases = d.bases; exts = o.consts; roots = d.roots } }
told r d (add a b) = binary r Op.add d a b
told r d (sub a b) = binary r Op.sub d a b
told r d (mul a b) = binary r Op.mul d a b
told r d (neg a) = making r (stranger_row d a ∷ []) d (node Op.neg a.id 0 a.dim)
told r d (embed a) = making r (stranger_row d a ∷ []) d (node Op.embed a.id 0 1)
told r d (emit c e) = emission r d c e
