-- The value of each node of a program, over any tower: one definition for the three evaluators, which differ in how a
-- leaf is read. A value's class follows its operands: base where all of them are base; Embed is extension.
-- Assumes nothing.
use Rattle.std.specs.Prelude.{cond, List, ℕ, zero, suc, eqb, ltb}
use Rattle.laws.specs.Maps.{upd}
use Rattle.extension.specs.Tower.{Tower}
use Rattle.ir.specs.Words.{node_at, const_base, const_ext, var, rap_challenge, alpha_pow, add, sub, mul, neg, main_of, offset_of}

-- a value: of the base or of the extension
pub data Value (B X : Type 0) : Type 0 where
  base : B → Value B X
  ext : X → Value B X

-- its class: 0 for base, 1 for extension
abbrev pub class_of : {B X : Type 0} → Value B X → ℕ
class_of (base b) = 0
class_of (ext x) = 1

-- what a leaf can name
pub record Leaves (B X : Type 0) : Type 0 where
  pub base_const : ℕ → B
  pub ext_const : ℕ → X
  pub main : ℕ → ℕ → Value B X
  pub aux : ℕ → ℕ → X
  pub challenge : ℕ → X
  pub alpha : ℕ → X
  pub offset : X

module _ {B X : Type 0} (K : Tower B X) where
  -- as an extension value
  abbrev pub to_ext : Value B X → X
  to_ext (base b) = K.embed b
  to_ext (ext x) = x

  -- base where both are, else extension
  abbrev pub binop : (B → B → B) → (X → X → X) → Value B X → Value B X → Value B X
  binop f g (base a) (base b) = base (f a b)
  binop f g (base a) (ext y) = ext (g (K.embed a) y)
  binop f g (ext x) w = ext (g x (to_ext w))

  -- the class of the operand
  abbrev pub unop : (B → B) → (X → X) → Value B X → Value B X
  unop f g (base a) = base (f a)
  unop f g (ext x) = ext (g x)

  -- a leaf, by its tag
  unfoldable pub leaf_value : Leaves B X → ℕ → ℕ → ℕ → Value B X
  leaf_value u tag x y =
      cond (eqb tag const_base) (base (u.base_const x))
      (cond (eqb tag const_ext) (ext (u.ext_const x))
      (cond (eqb tag var) (cond (main_of y) (u.main (offset_of y) x) (ext (u.aux (offset_of y) x)))
      (cond (eqb tag rap_challenge) (ext (u.challenge x))
      (cond (eqb tag alpha_pow) (ext (u.alpha x))
      (ext u.offset)))))

  -- an operation, by its tag, on the values of earlier nodes
  unfoldable pub operation_value : (ℕ → Value B X) → ℕ → ℕ → ℕ → Value B X
  operation_value env tag x y =
      cond (eqb tag add) (binop K.add₀ K.add₁ (env x) (env y))
      (cond (eqb tag sub) (binop K.sub₀ K.sub₁ (env x) (env y))
      (cond (eqb tag mul) (binop K.mul₀ K.mul₁ (env x) (env y))
      (cond (eqb tag neg) (unop K.neg₀ K.neg₁ (env x))
      (ext (to_ext (env x))))))

  -- a node, by its tag
  unfoldable pub node_value : Leaves B X → (ℕ → Value B X) → ℕ → ℕ → ℕ → Value B X
  node_value u env tag x y = cond (ltb tag add) (leaf_value u tag x y) (operation_value env tag x y)

  -- the values of the first k nodes; the others are 0 here, and nobody reads them
  unfoldable pub values : Leaves B X → List ℕ → ℕ → ℕ → Value B X
  values u nodes zero = λ j. base K.zero
  values u nodes (suc k) =
      let w = node_at nodes k in
      upd (values u nodes k) k (node_value u (values u nodes k) w.tag w.x w.y)
