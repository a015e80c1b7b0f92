-- The step rule: what a blob does, one node after the other, and where it stops.
--
-- What does each slot hold when an operand is read? There are base slots and extension slots, and at the start all are
-- empty. A node computes one value and puts it into one slot, which its result word names: bit 31 says of which class,
-- the other bits which one. A slot holds the value of the last node that put one there, until the next does. Nothing else
-- changes a slot. `slots_after i` is what all slots hold after the first i nodes; node i reads its operands from there.
--
-- What stops a blob that reads a slot nobody filled? An empty slot has no value, so an operand or a root that names one has
-- none, and the walk stops there. It stops too at
--   - a tag or an operand kind that its table does not have;
--   - a wrong class: a base result of an operand that is not base; a value put into a slot of the other class, so that
--     bit 31 of a result has to be the class that the tag fixes; a root below num_base that is extension;
--   - a set spare bit or a row in the words of a trace cell; an unused word or the unused payload of the table offset
--     that is not 0;
--   - an index outside its table: constants, challenges, alpha powers, cells by step and column, slots of either class.
-- `stops_at` is the place: the lowest node, else the lowest root.
--
-- The rule says what happens, not how to test for it beforehand: the blob check is defined apart, in Check.antt, and
-- `check_is_exact` of proofs/Theorem.antt says that the two agree. K is any tower; u is what constants, cells and uniforms hold.
-- Assumes nothing.
use Rattle.std.specs.Prelude.{cond, not, ◌&&◌, List, ℕ, zero, suc, eqb, ltb, get_or, Option, None, Some}
use Rattle.laws.specs.Folds.{lowest, or_else}
use Rattle.laws.specs.Maps.{upd}
use Rattle.laws.specs.Options.{after, on1, on2, only_if, missing, at}
use Rattle.extension.specs.Tower.{Tower}
use Rattle.ir.specs.declared.frame.Shape.{Shape}
use Rattle.ir.specs.Words.{main_of, offset_of, row_of}
use Rattle.values.specs.Values.{Value, base, ext, to_ext}
use Rattle.blob_rules.specs.declared.blob.BlobCounts.{BlobCounts}
use Rattle.blob_rules.specs.Blob.{Instr, instr_at, base_slots_of, ext_slots_of, is_ext, slot_of, kind_of, payload_of, Table, base_consts, ext_consts, challenges, alphas, size_of, Binary, plus, minus, times, Form, entry, cell, offset, binary, negation, embedding, Kind, base_slot, ext_slot, of, the_offset}

-- what constants, cells by step and column, and uniforms hold
pub record Contents (B X : Type 0) : Type 0 where
  pub base_const : ℕ → B
  pub ext_const : ℕ → X
  pub main : ℕ → ℕ → B
  pub aux : ℕ → ℕ → X
  pub challenge : ℕ → X
  pub alpha : ℕ → X
  pub table_offset : X

-- what each slot holds, if anything
pub record Slots (B X : Type 0) : Type 0 where
  pub bases : ℕ → Option B
  pub exts : ℕ → Option X

-- ---- leaves

module _ {B X : Type 0} (u : Contents B X) where
  -- entry k of a table
  abbrev pub content_of : Table → ℕ → Value B X
  content_of base_consts k = base (u.base_const k)
  content_of ext_consts k = ext (u.ext_const k)
  content_of challenges k = ext (u.challenge k)
  content_of alphas k = ext (u.alpha k)

  -- the same, where the table has it
  abbrev pub named : BlobCounts → Shape → Table → ℕ → Option (Value B X)
  named c s t k = only_if (ltb k (size_of c s t)) (Some (content_of t k))

  -- the trace cell that two words name: no spare bit, row 0, and inside the frame
  abbrev pub cell_of : Shape → ℕ → ℕ → Option (Value B X)
  cell_of s x y =
      only_if (ltb x 65536 && ltb y 131072 && eqb (row_of y) 0 && ltb (offset_of y) s.steps)
      (cond (main_of y)
      (only_if (ltb x s.main) (Some (base (u.main (offset_of y) x))))
      (only_if (ltb x s.aux) (Some (ext (u.aux (offset_of y) x)))))

-- ---- operands

-- a value, if it is base
abbrev pub only_base : {B X : Type 0} → Value B X → Option B
only_base (base x) = Some x
only_base (ext x) = None

module _ {B X : Type 0} (kinds : List Kind) (c : BlobCounts) (s : Shape) (u : Contents B X) where
  -- what an operand of a kind holds
  abbrev pub held_by : Slots B X → Kind → ℕ → Option (Value B X)
  held_by m base_slot k = on1 base (m.bases k)
  held_by m ext_slot k = on1 ext (m.exts k)
  held_by m (of t) k = named u c s t k
  held_by m the_offset k = only_if (eqb k 0) (Some (ext u.table_offset))

  -- what an operand word names
  abbrev pub operand : Slots B X → ℕ → Option (Value B X)
  operand m w = after (at kinds (kind_of w)) λ k. held_by m k (payload_of w)

  -- for a base result it has to be base
  unfoldable pub base_operand : Slots B X → ℕ → Option B
  base_operand m w = after (operand m w) only_base

  -- for an extension result it is embedded where it is base
  unfoldable pub ext_operand : Tower B X → Slots B X → ℕ → Option X
  ext_operand K m w = on1 (to_ext K) (operand m w)

-- ---- a node

module _ {B X : Type 0} (K : Tower B X) where
  -- an operation of the base field
  abbrev pub op₀ : Binary → B → B → B
  op₀ plus = K.add₀
  op₀ minus = K.sub₀
  op₀ times = K.mul₀

  -- and of the extension
  abbrev pub op₁ : Binary → X → X → X
  op₁ plus = K.add₁
  op₁ minus = K.sub₁
  op₁ times = K.mul₁

-- the slots with a value put where a result word says: its class is the value's, and there is such a slot
abbrev pub put : {B X : Type 0} → BlobCounts → Slots B X → ℕ → Value B X → Option (Slots B X)
put c m res (base x) =
    only_if (not (is_ext res) && ltb (slot_of res) (base_slots_of c)) (Some (record { bases = upd m.bases (slot_of res) (Some x); exts = m.exts }))
put c m res (ext x) =
    only_if (is_ext res && ltb (slot_of res) (ext_slots_of c)) (Some (record { bases = m.bases; exts = upd m.exts (slot_of res) (Some x) }))

module _ {B X : Type 0} (K : Tower B X) (tags : List Form) (kinds : List Kind) (c : BlobCounts) (s : Shape) (u : Contents B X) where
  -- operands of a base result, and of an extension result
  abbrev in₀ : Slots B X → ℕ → Option B
  in₀ = base_operand kinds c s u

  -- and of an extension result
  abbrev in₁ : Slots B X → ℕ → Option X
  in₁ = ext_operand kinds c s u K

  -- the value of a node, by what its tag says, from the slots before it
  abbrev pub value_by : Slots B X → Form → Instr → Option (Value B X)
  value_by m (entry t) w = only_if (eqb w.b 0) (named u c s t w.a)
  value_by m cell w = cell_of u s w.a w.b
  value_by m offset w = only_if (eqb w.a 0 && eqb w.b 0) (Some (ext u.table_offset))
  value_by m (binary o) w =
      cond (is_ext w.res) (on2 (λ x y. ext (op₁ K o x y)) (in₁ m w.a) (in₁ m w.b)) (on2 (λ x y. base (op₀ K o x y)) (in₀ m w.a) (in₀ m w.b))
  value_by m negation w =
      only_if (eqb w.b 0) (cond (is_ext w.res) (on1 (λ x. ext (K.neg₁ x)) (in₁ m w.a)) (on1 (λ x. base (K.neg₀ x)) (in₀ m w.a)))
  value_by m embedding w = only_if (eqb w.b 0) (on1 ext (in₁ m w.a))

  -- the value of a node
  abbrev pub value_of : Slots B X → Instr → Option (Value B X)
  value_of m w = after (at tags w.op) λ form. value_by m form w

  -- the slots after a node
  unfoldable pub step : Slots B X → Instr → Option (Slots B X)
  step m w = after (value_of m w) (put c m w.res)

  -- ---- the walk

  -- the slots after the first i nodes; at the start all are empty
  unfoldable pub slots_after : List ℕ → ℕ → Option (Slots B X)
  slots_after nodes zero = Some (record { bases = λ k. None; exts = λ k. None })
  slots_after nodes (suc i) = after (slots_after nodes i) λ m. step m (instr_at nodes i)

-- what a root word names
abbrev pub root_held : {B X : Type 0} → Slots B X → ℕ → Option (Value B X)
root_held m w = cond (is_ext w) (on1 ext (m.exts (slot_of w))) (on1 base (m.bases (slot_of w)))

-- the value of constraint r, whose word is w: below num_base it has to be base
unfoldable pub root_value : {B X : Type 0} → ℕ → Slots B X → ℕ → ℕ → Option (Value B X)
root_value leading m r w = only_if (not (ltb r leading && is_ext w)) (root_held m w)

module _ {B X : Type 0} (K : Tower B X) (tags : List Form) (kinds : List Kind) (c : BlobCounts) (s : Shape) (u : Contents B X) where
  -- where a blob stops: the lowest node, else the lowest root
  unfoldable pub stops_at : ℕ → List ℕ → List ℕ → Option ℕ
  stops_at leading nodes roots =
      let through = slots_after K tags kinds c s u nodes in
      or_else (lowest (λ i. missing (through (suc i))) c.nodes)
      (lowest (λ r. missing (after (through c.nodes) λ m. root_value leading m r (get_or roots r 0))) c.roots)
