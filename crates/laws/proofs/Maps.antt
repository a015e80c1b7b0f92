-- Laws of maps changed at one place.
-- Assumes nothing.
use mathlib.Core.Path.{◌≡◌, refl}
use Prim.Native.Nat.{ℕ}
use borrow.Author.Tests.{eq-eqb, ne_eqb}
use Rattle.laws.specs.Maps.{upd}

module _ {A : Type 0} (f : ℕ → A) (i : ℕ) (v : A) where
  pub upd_here : upd f i v i ≡ v
  unfolding upd
  upd_here = rw (eq-eqb i i refl)

  pub upd_other : (j : ℕ) → (j ≡ i → ⊥) → upd f i v j ≡ f j
  unfolding upd
  upd_other j h = rw (ne_eqb j i h)
