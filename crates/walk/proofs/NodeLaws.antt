-- A node that the check let through: its operands, and its value.
-- Assumes nothing.
use mathlib.Core.Bool.{Bool, true, false, ◌&&◌}
use mathlib.Core.Path.{◌≡◌, refl, sym, ◌∙◌}
use Prim.Native.Nat.{ℕ, ◌<◌, ◌≤◌}
use native.Mathlib.Omega.{arith}
use lib.Dec.{eqb, ltb}
use borrow.Author.Tests.{ltb-true, ltb-false}
use Rattle.laws.specs.Options.{at}
use Rattle.laws.proofs.Cases.{by_test}
use Rattle.laws.proofs.Tests.{clash, and_left, and_right}
use Rattle.ir.specs.declared.frame.Shape.{Shape}
use Rattle.blob_rules.specs.declared.blob.BlobCounts.{BlobCounts}
use Rattle.blob_rules.specs.Blob.{Instr, is_ext, slot_of, base_slots_of, ext_slots_of, tags, kinds}
use Rattle.blob_rules.specs.Check.{Filled, slot_in, slot_of_class, operand_ok, form_ok}
use Rattle.blob_rules.proofs.CheckLaws.{node_unknown, node_by}
use Rattle.device.proofs.Theorem.{by_operation}
use Rattle.slots.specs.Steps.{NodeLegal, BaseLegal, ExtLegal}

-- what the check tells of an operation's operands
pub record OperandsLegal (c : BlobCounts) (s : Shape) (op a b res : ℕ) : Type 0 where
  pub ext_first : is_ext res ≡ true → ExtLegal c s a
  pub ext_second : is_ext res ≡ true → op < 9 → ExtLegal c s b
  pub base_tag : is_ext res ≡ false → op < 10
  pub base_first : is_ext res ≡ false → BaseLegal c a
  pub base_second : is_ext res ≡ false → op < 9 → BaseLegal c b

module _ (c : BlobCounts) (s : Shape) (a b res : ℕ) (f : Filled) where
  abbrev ok_of : ℕ → ℕ → Type 0
  ok_of op k = form_ok tags kinds c s f (at tags k) (record { op = op; a = a; b = b; res = res }) ≡ true

  -- an operand of a result of either class
  ext_of : (w : ℕ) → operand_ok tags kinds c s f (is_ext res) w ≡ true → is_ext res ≡ true → ExtLegal c s w
  ext_of w h e = record { filled = f; ok = rw e at h }

  base_of : (w : ℕ) → operand_ok tags kinds c s f (is_ext res) w ≡ true → is_ext res ≡ false → BaseLegal c w
  base_of w h e = record { shape = s; filled = f; ok = rw e at h }

  abbrev x : Bool
  x = operand_ok tags kinds c s f (is_ext res) a

  abbrev y : Bool
  y = operand_ok tags kinds c s f (is_ext res) b

  binary_legal : {op : ℕ} → op < 9 → (x && y && slot_in c res) ≡ true → OperandsLegal c s op a b res
  binary_legal l h =
      let p = and_left x y (and_left (x && y) (slot_in c res) h) in
      let q = and_right x y (and_left (x && y) (slot_in c res) h) in
      record { ext_first = ext_of a p; ext_second = λ e t. ext_of b q e; base_tag = λ e. omega arith; base_first = base_of a p; base_second = λ e t. base_of b q e }

  negation_legal : {op : ℕ} → op ≡ 9 → (x && eqb b 0 && slot_in c res) ≡ true → OperandsLegal c s op a b res
  negation_legal z h =
      let p = and_left x (eqb b 0) (and_left (x && eqb b 0) (slot_in c res) h) in
      record { ext_first = ext_of a p; ext_second = λ e t. absurd (omega arith); base_tag = λ e. omega arith; base_first = base_of a p; base_second = λ e t. absurd (omega arith) }

  embedding_legal : {op : ℕ} → op ≡ 10 → (operand_ok tags kinds c s f true a && eqb b 0 && slot_of_class c true res) ≡ true → OperandsLegal c s op a b res
  embedding_legal z h =
      let w = operand_ok tags kinds c s f true a in
      let p = and_left w (eqb b 0) (and_left (w && eqb b 0) (slot_of_class c true res) h) in
      let q : is_ext res ≡ true = and_left (is_ext res) (slot_in c res) (and_right (w && eqb b 0) (slot_of_class c true res) h) in
      record { ext_first = λ e. record { filled = f; ok = p }; ext_second = λ e t. absurd (omega arith); base_tag = λ e. clash q e; base_first = λ e. clash q e; base_second = λ e t. clash q e }

  -- by its tag
  by_tag : (op k : ℕ) → 6 ≤ k → k ≤ 10 → op ≡ k → ok_of op k → OperandsLegal c s op a b res
  by_tag op =
      by_operation (λ k. op ≡ k → ok_of op k → OperandsLegal c s op a b res)
      (λ e h. binary_legal (omega arith) h) (λ e h. binary_legal (omega arith) h) (λ e h. binary_legal (omega arith) h)
      (λ e h. negation_legal e h) (λ e h. embedding_legal e h)

module _ (c : BlobCounts) (s : Shape) (w : Instr) (h : NodeLegal c s w) where
  -- no other tag is let through
  pub known_tag : w.op ≤ 10
  known_tag =
      by_test (ltb 10 w.op) (w.op ≤ 10)
      (λ t. clash h.ok (node_unknown c s h.filled w (ltb-true 10 w.op t)))
      λ t. ltb-false 10 w.op t

  pub operands_legal : 6 ≤ w.op → OperandsLegal c s w.op w.a w.b w.res
  operands_legal l = by_tag c s w.a w.b w.res h.filled w.op w.op l known_tag refl (sym (node_by c s h.filled w w.op refl) ∙ h.ok)

-- ---- the slot of a result

pub ext_slot_in : (c : BlobCounts) (res : ℕ) → is_ext res ≡ true → slot_in c res ≡ true → slot_of res < ext_slots_of c
ext_slot_in c res e h = ltb-true (slot_of res) (ext_slots_of c) (rw e at h)

pub base_slot_in : (c : BlobCounts) (res : ℕ) → is_ext res ≡ false → slot_in c res ≡ true → slot_of res < base_slots_of c
base_slot_in c res e h = ltb-true (slot_of res) (base_slots_of c) (rw e at h)
