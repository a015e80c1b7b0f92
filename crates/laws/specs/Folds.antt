-- What is asked of the numbers below n, each a fold on n.
-- Assumes nothing.
use Rattle.std.specs.Prelude.{Bool, false, cond, ◌||◌, List, [], ◌∷◌, ◌++◌, ℕ, zero, suc, Option, None, Some}

-- whether the test holds at one of them
unfoldable pub any_below : (ℕ → Bool) → ℕ → Bool
any_below t zero = false
any_below t (suc k) = any_below t k || t k

-- the first of two places, else the second
abbrev pub or_else : Option ℕ → Option ℕ → Option ℕ
or_else None b = b
or_else (Some i) b = Some i

-- the first where it holds, if any
unfoldable pub lowest : (ℕ → Bool) → ℕ → Option ℕ
lowest t zero = None
lowest t (suc k) = or_else (lowest t k) (cond (t k) (Some k) None)

-- those where it holds, ascending
unfoldable pub all_below : (ℕ → Bool) → ℕ → List ℕ
all_below t zero = []
all_below t (suc k) = all_below t k ++ cond (t k) (k ∷ []) []

-- start, taken through a step at each of them in turn
unfoldable pub through : {A : Type 0} → (A → ℕ → A) → A → ℕ → A
through step start zero = start
through step start (suc k) = step (through step start k) k
