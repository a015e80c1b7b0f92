-- What the field promises of words, said of values.
-- Assumes nothing.
use mathlib.Core.Bool.{true, false}
use mathlib.Core.Path.{◌≡◌, refl}
use mathlib.Core.List.{List, [], ◌∷◌}
use Prim.Native.Nat.{ℕ, ◌/◌, ◌%◌}
use borrow.Author.Tests.{eq-eqb, ne_eqb}
use Rattle.ir.specs.Words.{main_of}
use Rattle.laws.specs.Lists.{block}
use Rattle.field.specs.Base.{Is}
use Rattle.extension.specs.Ext.{embedded, Limbs, LeastLimbs}
use Rattle.field.proofs.Laws.{zero_is}
use Rattle.extension.proofs.ExtLaws.{limbs_of_lem, limbs_stand, least_limbs, remainders_near}
use Rattle.values.specs.Values.{base, ext}
use Rattle.values.specs.Frame.{triple}
use Rattle.values.specs.Room.{ValueIs}

-- a base word, embedded
embedded_limbs : {b r : ℕ} → Is b r → Limbs 3 (embedded 3 b) (r ∷ 0 ∷ 0 ∷ [])
unfolding embedded
embedded_limbs h = limbs_of_lem h zero_is zero_is

pub base_is : {b r : ℕ} → Is b r → ValueIs (base b) 0 (r ∷ 0 ∷ 0 ∷ [])
base_is {b} h = record { class_is = refl; limbs_are = limbs_stand (embedded_limbs h) (remainders_near 3 (embedded 3 b)) }

-- extension limbs
pub ext_is : {x l : List ℕ} → Limbs 3 x l → ValueIs (ext x) 1 l
ext_is h = record { class_is = refl; limbs_are = h }

pub ext_leaf_is : (s : List ℕ) (k : ℕ) {l r : List ℕ} → l ≡ block 3 s k → LeastLimbs 3 l r → ValueIs (ext (triple s k)) 1 r
ext_leaf_is s k e h = ext_is (limbs_stand (least_limbs (rw e at h)) (remainders_near 3 (block 3 s k)))

-- the main mark, as the code tests it
pub main_mark : (y : ℕ) → (y / 65536 % 2 ≡ 0 → ⊥) → main_of y ≡ true
main_mark y h = rw (ne_eqb (y / 65536 % 2) 0 h)

pub aux_mark : (y : ℕ) → y / 65536 % 2 ≡ 0 → main_of y ≡ false
aux_mark y h = rw (eq-eqb (y / 65536 % 2) 0 h)
