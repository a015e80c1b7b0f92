-- The blob check: tests on words, and a record of the slots that were filled. It reads no constant, no cell and no uniform.
-- Assumes nothing.
use Rattle.ir.specs.declared.refusal.Refusal.{Refusal}
use Rattle.std.specs.Prelude.{Bool, true, false, cond, not, ◌&&◌, ◌||◌, List, [], ◌∷◌, ◌++◌, ◌≡◌, ℕ, zero, suc, ◌+◌, ◌*◌, ◌%◌, eqb, ltb, length, get_or, drop, replicate, Option, None, Some, Result}
use Rattle.laws.specs.Folds.{lowest, or_else}
use Rattle.laws.specs.Maps.{upd}
use Rattle.laws.specs.Options.{at}
use Rattle.ir.specs.declared.frame.Shape.{Shape}
use Rattle.ir.specs.Words.{main_of, offset_of}
use Rattle.ir.specs.Shape.{over_shape}
use Rattle.ir.specs.Refusals.{Row, row, row_at, first, gives, said_of_outcome}
use Rattle.blob_rules.specs.declared.blob.BlobCounts.{BlobCounts}
use Rattle.blob_rules.specs.Blob.{Instr, instr_at, Blob, base_slots_of, ext_slots_of, num_base_of, is_ext, slot_of, kind_of, payload_of, size_of, ext_table, Form, entry, cell, offset, binary, negation, embedding, tags, Kind, base_slot, ext_slot, of, the_offset, kinds}

-- which slots of each class were filled
pub record Filled : Type 0 where
  pub bases : ℕ → Bool
  pub exts : ℕ → Bool

-- ---- words that name slots

module _ (c : BlobCounts) where
  -- a result word names a slot that there is
  abbrev pub slot_in : ℕ → Bool
  slot_in res = ltb (slot_of res) (cond (is_ext res) (ext_slots_of c) (base_slots_of c))

  -- and one of the class that is asked: of the extension where it is wide
  abbrev pub slot_of_class : Bool → ℕ → Bool
  slot_of_class wide res = cond wide (is_ext res) (not (is_ext res)) && slot_in res

  -- slot k of a class is there and was filled
  abbrev pub filled_in : Filled → Bool → ℕ → Bool
  filled_in f wide k = cond wide (ltb k (ext_slots_of c) && f.exts k) (ltb k (base_slots_of c) && f.bases k)

  -- a root names a slot that was filled
  abbrev pub root_ok : Filled → ℕ → Bool
  root_ok f w = filled_in f (is_ext w) (slot_of w)

-- the slots that were filled, after a node whose result word is `res`
abbrev pub mark : Filled → ℕ → Filled
mark f res =
    cond (is_ext res) (record { bases = f.bases; exts = upd f.exts (slot_of res) true })
    (record { bases = upd f.bases (slot_of res) true; exts = f.exts })

-- after the first i nodes
unfoldable pub filled_after : List ℕ → ℕ → Filled
filled_after nodes zero = record { bases = λ k. false; exts = λ k. false }
filled_after nodes (suc i) = mark (filled_after nodes i) (instr_at nodes i).res

-- ---- nodes

-- a trace cell inside the frame, with no other bit set
unfoldable pub cell_ok : Shape → ℕ → ℕ → Bool
cell_ok s x y =
    ltb x 65536 && ltb y 131072 && eqb (y % 256) 0 && ltb (offset_of y) s.steps && ltb x (cond (main_of y) s.main s.aux)

module _ (tags : List Form) (kinds : List Kind) (c : BlobCounts) (s : Shape) where
  -- an operand by its kind, for a result that is extension or not: a base result takes base slots and base constants
  abbrev pub kind_ok : Filled → Bool → Option Kind → ℕ → Bool
  kind_ok f wide None k = false
  kind_ok f wide (Some base_slot) k = filled_in c f false k
  kind_ok f wide (Some ext_slot) k = wide && filled_in c f true k
  kind_ok f wide (Some (of t)) k = cond (ext_table t) wide true && ltb k (size_of c s t)
  kind_ok f wide (Some the_offset) k = wide && eqb k 0

  -- an operand word
  unfoldable pub operand_ok : Filled → Bool → ℕ → Bool
  operand_ok f wide w = kind_ok f wide (at kinds (kind_of w)) (payload_of w)

  -- a node by what its tag says
  abbrev pub form_ok : Filled → Option Form → Instr → Bool
  form_ok f None w = false
  form_ok f (Some (entry t)) w = ltb w.a (size_of c s t) && eqb w.b 0 && slot_of_class c (ext_table t) w.res
  form_ok f (Some cell) w = cell_ok s w.a w.b && slot_of_class c (not (main_of w.b)) w.res
  form_ok f (Some offset) w = eqb w.a 0 && eqb w.b 0 && slot_of_class c true w.res
  form_ok f (Some (binary o)) w = operand_ok f (is_ext w.res) w.a && operand_ok f (is_ext w.res) w.b && slot_in c w.res
  form_ok f (Some negation) w = operand_ok f (is_ext w.res) w.a && eqb w.b 0 && slot_in c w.res
  form_ok f (Some embedding) w = operand_ok f true w.a && eqb w.b 0 && slot_of_class c true w.res

  -- a node, where f was filled before it
  unfoldable pub node_ok : Filled → Instr → Bool
  node_ok f w = form_ok f (at tags w.op) w

  -- ---- 11 and 12

  -- the lowest node that is not as it has to be, else the lowest root
  unfoldable pub illegal : List ℕ → List ℕ → Option ℕ
  illegal nodes roots =
      or_else (lowest (λ i. not (node_ok (filled_after nodes i) (instr_at nodes i))) c.nodes)
      (lowest (λ r. not (root_ok c (filled_after nodes c.nodes) (get_or roots r 0))) c.roots)

-- the lowest root below num_base that is extension
unfoldable pub ext_root : BlobCounts → List ℕ → Option ℕ
ext_root c roots = lowest (λ r. ltb r (num_base_of c) && is_ext (get_or roots r 0)) c.roots

-- ---- the call

-- the order in which document 01 has the numbers of blob calls tested; a call skips those that do not apply
abbrev pub blob_order : List ℕ
blob_order = 2 ∷ 1 ∷ 14 ∷ 11 ∷ 12 ∷ []

-- how many slots of both classes there are
abbrev pub slot_count : BlobCounts → ℕ
slot_count c = base_slots_of c + ext_slots_of c

-- 1: nodes, roots and one byte a slot
unfoldable pub short_check : BlobCounts → (nodes roots marks : ℕ) → Bool
short_check c nodes roots marks = ltb nodes (4 * c.nodes) || ltb roots c.roots || ltb marks (slot_count c)

-- the rows that every call on a blob ends in
abbrev pub legal_rows : Blob → Shape → List Row
legal_rows b s =
    row_at (illegal tags kinds b.counts s b.nodes b.roots) 11 ∷ row_at (ext_root b.counts b.roots) 12 ∷ []

-- the check's refusals in order
abbrev pub check_rows : Blob → Shape → ℕ → List Row
check_rows b s marks =
    row (over_shape s) 2 ∷ row (short_check b.counts (length b.nodes) (length b.roots) marks) 1 ∷ legal_rows b s

-- a room whose first n words are 0, and whose others stay
abbrev pub cleared : ℕ → List ℕ → List ℕ
cleared n l = replicate n 0 ++ drop n l

-- the promise: what is said, and the bytes, of which the slots' are 0 once 2 and 1 have passed
pub record CheckAnswer (b : Blob) (s : Shape) (r : Result (Unit {0}) Refusal) (marks marks' : List ℕ) : Type 0 where
  pub said : said_of_outcome r ≡ first (check_rows b s (length marks)) (gives [])
  pub marks_end :
      marks' ≡ cond (over_shape s || short_check b.counts (length b.nodes) (length b.roots) (length marks)) marks
      (cleared (slot_count b.counts) marks)
