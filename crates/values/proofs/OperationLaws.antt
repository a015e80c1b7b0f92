-- Operations on words that stand for values stand for the operations on the values.
-- Assumes nothing.
use mathlib.Core.Bool.{Bool, true, false, cond}
use mathlib.Core.List.{List, [], ◌∷◌}
use mathlib.Core.Path.{◌≡◌, refl, sym, ap, ◌∙◌}
use Prim.Native.Nat.{ℕ, ◌+◌, ◌*◌, ◌%◌, ◌<◌, ◌≤◌}
use native.Mathlib.Nat.{add-zero}
use native.Mathlib.Omega.{arith}
use lib.Dec.{eqb, lit<}
use lib.ListN.{get_or, take, drop}
use lib.Seq.{get_or-take, get_or-drop, drop-drop}
use borrow.Author.Tests.{eqb-true, eqb-false, lt-ltb, le-ltb}
use Rattle.laws.specs.Lists.{block}
use Rattle.laws.proofs.Cases.{by_test}
use Rattle.field.specs.Base.{p, ◌≈◌, Is, minus}
use Rattle.extension.specs.Ext.{limb, minuses, embedded, Near, Limbs, LeastLimbs}
use Rattle.extension.specs.Tower.{goldilocks, remainders}
use Rattle.field.proofs.Laws.{◌then◌, equal, reduced, add≈, mul≈, minus≈, stands}
use Rattle.extension.proofs.ExtLaws.{near_trans, limbs_stand, least_limbs, sums_near, minuses_near, product_near, remainders_near, near_sym, limb_embedded}
use Rattle.values.specs.Values.{Value, base, ext, binop, unop, leaf_value, operation_value, node_value}
use Rattle.values.specs.declared.frame.Strides.{Strides}
use Rattle.values.specs.Frame.{Lent, leaves}
use Rattle.values.specs.Room.{Stands, ValueIs}
use Rattle.values.specs.Operations.{base_op, ext_op, Operates, Computes}
use Rattle.values.proofs.ValueLaws.{base_is, ext_is}

-- ---- a node's words in the room

pub class_word : (room : List ℕ) (x : ℕ) → get_or (block 4 room x) 0 0 ≡ get_or room (4 * x) 0
class_word room x = get_or-take 4 (drop (4 * x) room) 0 0 (lit< tt) ∙ get_or-drop (4 * x) room 0 0 ∙ ap (λ (n : ℕ). get_or room n 0) (add-zero (4 * x))

drop_one : (l : List ℕ) → drop 1 (take 4 l) ≡ take 3 (drop 1 l)
drop_one [] = refl
drop_one (x ∷ l) = refl

pub limb_words : (room : List ℕ) (x : ℕ) → drop 1 (block 4 room x) ≡ take 3 (drop (4 * x + 1) room)
limb_words room x = drop_one (drop (4 * x) room) ∙ ap (take 3) (drop-drop 1 (4 * x) room)

pub first_word : (room : List ℕ) (x : ℕ) → limb (drop 1 (block 4 room x)) 0 ≡ get_or room (4 * x + 1) 0
first_word room x =
    ap (λ (l : List ℕ). limb l 0) (limb_words room x)
    ∙ get_or-take 3 (drop (4 * x + 1) room) 0 0 (lit< tt)
    ∙ get_or-drop (4 * x + 1) room 0 0
    ∙ ap (λ (n : ℕ). get_or room n 0) (add-zero (4 * x + 1))

-- ---- the operations respect elements

either : (b : Bool) {x y u v : ℕ} → x ≈ u → y ≈ v → cond b x y ≈ cond b u v
either true e f = e
either false e f = f

either_near : (b : Bool) {x y u v : List ℕ} → Near 3 x u → Near 3 y v → Near 3 (cond b x y) (cond b u v)
either_near true e f = e
either_near false e f = f

base_op≈ : (tag : ℕ) {a b c d : ℕ} → a ≈ b → c ≈ d → base_op tag a c ≈ base_op tag b d
unfolding base_op
base_op≈ tag e f = either (eqb tag 6) (add≈ e f) (either (eqb tag 7) (add≈ e (minus≈ f)) (mul≈ e f))

ext_op_near : (tag : ℕ) {a b c d : List ℕ} → Near 3 a b → Near 3 c d → Near 3 (ext_op tag a c) (ext_op tag b d)
unfolding ext_op
ext_op_near tag e f = either_near (eqb tag 6) (sums_near 3 e f) (either_near (eqb tag 7) (sums_near 3 e (minuses_near 3 f)) (product_near e f))

-- ---- a binary operation, whichever it is

abbrev joint : ℕ → Value ℕ (List ℕ) → Value ℕ (List ℕ) → Value ℕ (List ℕ)
joint tag = binop goldilocks (λ a b. base_op tag a b % p) (λ a b. remainders 3 (ext_op tag a b))

joint_is : (env : ℕ → Value ℕ (List ℕ)) (tag x y : ℕ) → 6 ≤ tag → tag < 9 → operation_value goldilocks env tag x y ≡ joint tag (env x) (env y)
unfolding operation_value base_op ext_op
joint_is env tag x y l h =
    by_test (eqb tag 6) (operation_value goldilocks env tag x y ≡ joint tag (env x) (env y))
    (λ q. let e = eqb-true tag 6 q in rw e)
    λ q. by_test (eqb tag 7) (operation_value goldilocks env tag x y ≡ joint tag (env x) (env y))
    (λ r. let e = eqb-true tag 7 r in rw e)
    λ r. let e : tag ≡ 8 = eight l h (eqb-false tag 6 q) (eqb-false tag 7 r) in rw e
  where
    eight : {t : ℕ} → 6 ≤ t → t < 9 → (t ≡ 6 → ⊥) → (t ≡ 7 → ⊥) → t ≡ 8
    eight a b c d = omega arith

-- a base value's word
pub base_word : {b : ℕ} {l : List ℕ} → Near 3 l (remainders 3 (embedded 3 b)) → limb l 0 ≈ b
base_word {b} {l} e =
    (near_trans e (near_sym (remainders_near 3 (embedded 3 b)))).limb_near 0 (lit< tt) then equal (limb_embedded 3 b 0 (lit< tt))

-- no value is of both classes
two_classes : {P : Type 0} → ◌≡◌ {A = ℕ} 0 1 → P
two_classes e = absurd (omega arith)

joint_base : (tag : ℕ) {l m : List ℕ} {r : ℕ} (v w : Value ℕ (List ℕ)) → Stands v 0 l → Stands w 0 m → Is (base_op tag (limb l 0) (limb m 0)) r → ValueIs (joint tag v w) 0 (r ∷ 0 ∷ 0 ∷ [])
joint_base tag (base a) (base b) s t h = base_is (stands h (base_op≈ tag (base_word s.limbs_near) (base_word t.limbs_near) then reduced))
joint_base tag (base a) (ext y) s t h = two_classes t.class_is
joint_base tag (ext x) w s t h = two_classes s.class_is

joint_ext : (tag : ℕ) {c d : ℕ} {l m r : List ℕ} (v w : Value ℕ (List ℕ)) → Stands v c l → Stands w d m → (c ≡ 0 → d ≡ 0 → ⊥) → Limbs 3 (ext_op tag l m) r → ValueIs (joint tag v w) 1 r
joint_ext tag (base a) (base b) s t n h = absurd (n s.class_is t.class_is)
joint_ext tag (base a) (ext y) s t n h = ext_is (limbs_stand h (near_trans (ext_op_near tag s.limbs_near t.limbs_near) (remainders_near 3 _)))
joint_ext tag (ext x) w s t n h = ext_is (limbs_stand h (near_trans (ext_op_near tag s.limbs_near t.limbs_near) (remainders_near 3 _)))

-- ---- what the code computes

module _ (room : List ℕ) (tag x y : ℕ) where
  pub binary_base : {r : ℕ} → 6 ≤ tag → tag < 9 → get_or room (4 * x) 0 ≡ 0 → get_or room (4 * y) 0 ≡ 0 → Is (base_op tag (get_or room (4 * x + 1) 0) (get_or room (4 * y + 1) 0)) r → Operates room tag x y 0 (r ∷ 0 ∷ 0 ∷ [])
  binary_base {r} l h e f i =
      record {
        follows = λ env s t.
            let s' : Stands (env x) 0 (drop 1 (block 4 room x)) = rw (class_word room x ∙ e) at s in
            let t' : Stands (env y) 0 (drop 1 (block 4 room y)) = rw (class_word room y ∙ f) at (t h) in
            rw (joint_is env tag x y l h) (joint_base tag (env x) (env y) s' t' (rw (first_word room x, first_word room y) i));
      }

  pub binary_ext : {a b r : List ℕ} → 6 ≤ tag → tag < 9 → (get_or room (4 * x) 0 ≡ 0 → get_or room (4 * y) 0 ≡ 0 → ⊥) → a ≡ take 3 (drop (4 * x + 1) room) → b ≡ take 3 (drop (4 * y + 1) room) → Limbs 3 (ext_op tag a b) r → Operates room tag x y 1 r
  binary_ext {a} {b} {r} l h n e f i =
      record {
        follows = λ env s t.
            rw (joint_is env tag x y l h)
            (joint_ext tag (env x) (env y) s (t h) (λ u v. n (sym (class_word room x) ∙ u) (sym (class_word room y) ∙ v)) (rw (limb_words room x, limb_words room y, ← e, ← f) i));
      }

unop_base : {l : List ℕ} {r : ℕ} (v : Value ℕ (List ℕ)) → Stands v 0 l → Is (minus (limb l 0)) r → ValueIs (unop goldilocks goldilocks.neg₀ goldilocks.neg₁ v) 0 (r ∷ 0 ∷ 0 ∷ [])
unop_base (base a) s h = base_is (stands h (minus≈ (base_word s.limbs_near) then reduced))
unop_base (ext x) s h = two_classes s.class_is

unop_ext : {c : ℕ} {l r : List ℕ} (v : Value ℕ (List ℕ)) → Stands v c l → (c ≡ 0 → ⊥) → Limbs 3 (minuses 3 l) r → ValueIs (unop goldilocks goldilocks.neg₀ goldilocks.neg₁ v) 1 r
unop_ext (base a) s n h = absurd (n s.class_is)
unop_ext (ext x) s n h = ext_is (limbs_stand h (near_trans (minuses_near 3 s.limbs_near) (remainders_near 3 _)))

module _ (room : List ℕ) (tag x y : ℕ) where
  pub embedding : {a r : List ℕ} → 9 ≤ tag → tag ≤ 10 → (tag ≡ 9 → ⊥) → a ≡ take 3 (drop (4 * x + 1) room) → LeastLimbs 3 a r → Operates room tag x y 1 r
  unfolding operation_value
  embedding {a} {r} l h n e i =
      record {
        follows = λ env s t.
            let q : tag ≡ 10 = ten l h n in
            rw q (ext_is (limbs_stand (least_limbs i) (rw (e, ← limb_words room x) s.limbs_near)));
      }
    where
      ten : {t : ℕ} → 9 ≤ t → t ≤ 10 → (t ≡ 9 → ⊥) → t ≡ 10
      ten a b c = omega arith

  pub negation_base : {r : ℕ} → tag ≡ 9 → get_or room (4 * x) 0 ≡ 0 → Is (minus (get_or room (4 * x + 1) 0)) r → Operates room tag x y 0 (r ∷ 0 ∷ 0 ∷ [])
  unfolding operation_value
  negation_base {r} q e i =
      record {
        follows = λ env s t.
            let s' : Stands (env x) 0 (drop 1 (block 4 room x)) = rw (class_word room x ∙ e) at s in
            rw q (unop_base (env x) s' (rw (first_word room x) i));
      }

  pub negation_ext : {a r : List ℕ} → tag ≡ 9 → (get_or room (4 * x) 0 ≡ 0 → ⊥) → a ≡ take 3 (drop (4 * x + 1) room) → Limbs 3 (minuses 3 a) r → Operates room tag x y 1 r
  unfolding operation_value
  negation_ext {a} {r} q n e i =
      record { follows = λ env s t. rw q (unop_ext (env x) s (λ u. n (sym (class_word room x) ∙ u)) (rw (limb_words room x, ← e) i)) }

-- ---- one node

pub leaf_computes : {s : Strides} {l : Lent} {room : List ℕ} {tag x y class : ℕ} {limbs : List ℕ} → tag < 6 → ValueIs (leaf_value goldilocks (leaves s l) tag x y) class limbs → Computes s l room tag x y class limbs
unfolding node_value
leaf_computes h v = record { follows = λ env a b. rw (lt-ltb _ 6 h) v }

pub operation_computes : {s : Strides} {l : Lent} {room : List ℕ} {tag x y class : ℕ} {limbs : List ℕ} → 6 ≤ tag → Operates room tag x y class limbs → Computes s l room tag x y class limbs
unfolding node_value
operation_computes h v = record { follows = λ env a b. rw (le-ltb _ 6 h) (v.follows env (a h) (b h)) }
