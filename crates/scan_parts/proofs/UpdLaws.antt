-- One place of a map set: that place, and the others.
-- Assumes nothing.
use mathlib.Core.Logic.{◌≢◌, by_cases}
use mathlib.Core.Path.{◌≡◌}
use Prim.Native.Nat.{ℕ}
use native.Mathlib.Decide.{ℕ_discrete}
use Rattle.laws.specs.Maps.{upd}
use Rattle.laws.proofs.Maps.{upd_here}
use Rattle.laws.proofs.Maps as Maps

pub upd_same : {A : Type 0} (f : ℕ → A) (i : ℕ) (v : A) (j : ℕ) → j ≡ i → upd f i v j ≡ v
upd_same f i v j e = rw e (upd_here f i v)

pub upd_other : {A : Type 0} (f : ℕ → A) (i : ℕ) (v : A) (j : ℕ) → j ≢ i → upd f i v j ≡ f j
upd_other f i v j n = Maps.upd_other f i v j n

pub upd_case : {A : Type 0} (P : A → Type 0) (f : ℕ → A) (i : ℕ) (v : A) (j : ℕ) → (j ≡ i → P v) → (j ≢ i → P (f j)) → P (upd f i v j)
upd_case P f i v j a b = by_cases (ℕ_discrete j i) (λ q. rw (upd_same f i v j q) (a q)) λ q. rw (upd_other f i v j q) (b q)
