-- Maps from numbers, changed at one place.
-- Assumes nothing.
use Rattle.std.specs.Prelude.{cond, ℕ, eqb}

-- f, but v at i
unfoldable pub upd : {A : Type 0} → (ℕ → A) → ℕ → A → ℕ → A
upd f i v j = cond (eqb j i) v (f j)
