-- Answers that may be missing.
-- Assumes nothing.
use Rattle.std.specs.Prelude.{Bool, true, false, List, [], ◌∷◌, ℕ, zero, suc, Option, None, Some}

-- the rest is asked only where there is an answer
abbrev pub after : {A B : Type 0} → Option A → (A → Option B) → Option B
after None f = None
after (Some a) f = f a

-- f of the answer
abbrev pub on1 : {A B : Type 0} → (A → B) → Option A → Option B
on1 f None = None
on1 f (Some a) = Some (f a)

-- f of two answers
abbrev pub on2 : {A B C : Type 0} → (A → B → C) → Option A → Option B → Option C
on2 f None b = None
on2 f (Some a) None = None
on2 f (Some a) (Some b) = Some (f a b)

-- the answer, where the test holds
abbrev pub only_if : {A : Type 0} → Bool → Option A → Option A
only_if true o = o
only_if false o = None

-- whether there is none
abbrev pub missing : {A : Type 0} → Option A → Bool
missing None = true
missing (Some a) = false

-- entry k of a list
abbrev pub at : {A : Type 0} → List A → ℕ → Option A
at [] k = None
at (x ∷ xs) zero = Some x
at (x ∷ xs) (suc k) = at xs k
