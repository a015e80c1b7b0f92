-- Lists by their places.
-- Assumes nothing.
use Rattle.std.specs.Prelude.{List, [], ◌∷◌, ℕ, zero, suc, ◌*◌, take, drop}

-- the list f 0, f 1, .. of n elements
abbrev pub tabulate : {A : Type 0} → ℕ → (ℕ → A) → List A
tabulate zero f = []
tabulate (suc n) f = f 0 ∷ tabulate n (λ i. f (suc i))

-- block j of a list that is read by blocks of n
abbrev pub block : ℕ → List ℕ → ℕ → List ℕ
block n l j = take n (drop (n * j) l)
