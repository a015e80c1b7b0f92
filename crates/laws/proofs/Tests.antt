-- Tests joined by && and ||, taken apart and put together.
-- Assumes nothing.
use mathlib.Core.Bool.{Bool, true, false, not, ◌&&◌, ◌||◌}
use mathlib.Core.Path.{◌≡◌, refl}
use Prim.Native.Nat.{ℕ}
use native.Mathlib.Omega.{arith}

-- no test both holds and fails
pub clash : {P : Type 0} {b : Bool} → b ≡ true → b ≡ false → P
clash p q = absurd (let z : ◌≡◌ {A = ℕ} 0 1 = cc in omega arith)

pub both : {a b : Bool} → a ≡ true → b ≡ true → (a && b) ≡ true
both {a} {b} p q = rw (p, q)

pub and_left : (a b : Bool) → (a && b) ≡ true → a ≡ true
and_left true b h = refl
and_left false b h = clash h refl

pub and_right : (a b : Bool) → (a && b) ≡ true → b ≡ true
and_right true b h = h
and_right false b h = clash h refl

pub or_left : (a b : Bool) → (a || b) ≡ false → a ≡ false
or_left true b h = clash refl h
or_left false b h = refl

pub or_right : (a b : Bool) → (a || b) ≡ false → b ≡ false
or_right true b h = clash refl h
or_right false b h = h

pub neither : {a b : Bool} → a ≡ false → b ≡ false → (a || b) ≡ false
neither {a} {b} p q = rw (p, q)

pub not_not : (b : Bool) → not (not b) ≡ b
not_not true = refl
not_not false = refl
