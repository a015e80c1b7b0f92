-- Commutative rings, up to a relation that says when two values are one element.
-- Assumes nothing.

-- O and I are zero and one, ⊖ the negation
module _ {A : Type 0} (◌~◌ : A → A → Type 0) (O I : A) (◌⊕◌ ◌⊗◌ : A → A → A) (⊖ : A → A) where
  infix 20 ◌~◌
  infixl 40 ◌⊕◌
  infixl 50 ◌⊗◌
  -- the laws of a commutative ring
  pub record Ring : Type 0 where
    pub same : (a : A) → a ~ a
    pub back : {a b : A} → a ~ b → b ~ a
    pub on : {a b c : A} → a ~ b → b ~ c → a ~ c
    pub add_same : {a b c d : A} → a ~ b → c ~ d → a ⊕ c ~ b ⊕ d
    pub mul_same : {a b c d : A} → a ~ b → c ~ d → a ⊗ c ~ b ⊗ d
    pub neg_same : {a b : A} → a ~ b → ⊖ a ~ ⊖ b
    pub add_comm : (a b : A) → a ⊕ b ~ b ⊕ a
    pub add_assoc : (a b c : A) → a ⊕ b ⊕ c ~ a ⊕ (b ⊕ c)
    pub add_zero : (a : A) → a ⊕ O ~ a
    pub add_neg : (a : A) → a ⊕ ⊖ a ~ O
    pub mul_comm : (a b : A) → a ⊗ b ~ b ⊗ a
    pub mul_assoc : (a b c : A) → a ⊗ b ⊗ c ~ a ⊗ (b ⊗ c)
    pub mul_one : (a : A) → a ⊗ I ~ a
    pub mul_add : (a b c : A) → a ⊗ (b ⊕ c) ~ a ⊗ b ⊕ a ⊗ c

-- f from values with ⊕, ⊗ and ⊖ to values with ⊞, ⊠ and ⊟
module _ {A B : Type 0} (◌~◌ : B → B → Type 0) (f : A → B)
    (◌⊕◌ ◌⊗◌ : A → A → A) (⊖ : A → A) (◌⊞◌ ◌⊠◌ : B → B → B) (⊟ : B → B) where
  infix 20 ◌~◌
  infixl 40 ◌⊕◌
  infixl 50 ◌⊗◌
  infixl 40 ◌⊞◌
  infixl 50 ◌⊠◌
  -- f respects sums, differences, products and negation
  pub record Respects : Type 0 where
    pub sum : (a b : A) → f (a ⊕ b) ~ f a ⊞ f b
    pub difference : (a b : A) → f (a ⊕ ⊖ b) ~ f a ⊞ ⊟ (f b)
    pub product : (a b : A) → f (a ⊗ b) ~ f a ⊠ f b
    pub negation : (a : A) → f (⊖ a) ~ ⊟ (f a)
