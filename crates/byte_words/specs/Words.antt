-- The words that bytes hold.
-- Assumes nothing.
use Rattle.std.specs.Prelude.{List, ℕ, ◌/◌, length}
use Rattle.stored_parts.specs.Form.{words}

-- how many whole words of n bytes each
abbrev pub whole : ℕ → List ℕ → ℕ
whole n bytes = length bytes / n

-- those words
abbrev pub words_in : ℕ → List ℕ → List ℕ
words_in n bytes = words n (whole n bytes) bytes
