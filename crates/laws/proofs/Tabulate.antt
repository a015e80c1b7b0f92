-- Lists by their places.
-- Assumes nothing.
use mathlib.Core.Path.{◌≡◌, refl, ap}
use Prim.Native.Nat.{ℕ, zero, suc, ◌<◌}
use native.Mathlib.Omega.{arith}
use mathlib.Core.List.{List, [], ◌∷◌}
use lib.ListN.{length, get_or}
use Rattle.laws.specs.Lists.{tabulate}

pub tabulate_at : (n : ℕ) (f : ℕ → ℕ) (i : ℕ) → i < n → get_or (tabulate n f) i 0 ≡ f i
tabulate_at zero f i h = absurd (omega arith)
tabulate_at (suc n) f zero h = refl
tabulate_at (suc n) f (suc i) h = tabulate_at n (λ j. f (suc j)) i (omega arith)

pub length_tabulate : (n : ℕ) (f : ℕ → ℕ) → length (tabulate n f) ≡ n
length_tabulate zero f = refl
length_tabulate (suc n) f = ap suc (length_tabulate n (λ j. f (suc j)))

-- a list is its elements
pub tabulate_self : (l : List ℕ) → tabulate (length l) (λ i. get_or l i 0) ≡ l
tabulate_self [] = refl
tabulate_self (x ∷ l) = ap (◌∷◌ x) (tabulate_self l)
