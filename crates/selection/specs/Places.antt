-- The places of a list whose items pass a test.
-- Assumes nothing.
use Rattle.std.specs.Prelude.{Bool, false, List, ◌≡◌, ◌<◌, ◌≤◌, ℕ, length, slice_get, Option, Some, None, Result, Ok, Err}
use Rattle.std.proofs.lemmas.List.Edits.{sets}
use Rattle.laws.specs.Folds.{all_below}
use Rattle.ir.specs.declared.refusal.Refusal.{Refusal}
use Rattle.ir.specs.declared.refusal.Refusal.TheVariants.{ShortOutput}

-- whether an item passes, if there is one
abbrev pub passes : {T : Type 0} → (T → Bool) → Option T → Bool
passes t None = false
passes t (Some x) = t x

-- the places of a list whose items pass, ascending
abbrev pub places : {T : Type 0} → (T → Bool) → List T → List ℕ
places t xs = all_below (λ i. passes t (slice_get xs i)) (length xs)

-- the promise: how many words there are, and they stand at the front of the room; or that the room is shorter, and it is as it was
abbrev pub Listed : {W : Type 0} → List W → List W → List W → Result ℕ Refusal → Type 0
Listed words old new (Ok count) = (count ≡ length words) × (length words ≤ length old) × (new ≡ sets old 0 words)
Listed words old new (Err why) = (why ≡ ShortOutput) × (length old < length words) × (new ≡ old)
