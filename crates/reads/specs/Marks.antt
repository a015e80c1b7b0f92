-- How the columns are found: a map of marks, with a place for each column, that is made in one pass over the nodes.
-- Assumes nothing.
use Rattle.ir.specs.declared.refusal.Refusal.{Refusal}
use Rattle.std.specs.Prelude.{Bool, true, false, cond, ◌||◌, List, [], ◌∷◌, ◌≡◌, ℕ, ltb, length, get_or, set, Result}
use Rattle.std.proofs.lemmas.List.Edits.{sets}
use Rattle.laws.specs.Folds.{any_below}
use Rattle.reads.specs.Reads.{reads_next, column_at, reads_column, said_of_columns}
use Rattle.ir.specs.Refusals.{Said, row, first, gives, on_done}
use Rattle.ir.specs.Words.{Node}

-- the map after a node
abbrev pub marked_by : ℕ → Node → List Bool → List Bool
marked_by width w map = cond (reads_next w) (set map (column_at width w) true) map

-- the map after n nodes: true for each column that one of them reads at a later row, and the others as they were
pub record Marked (nodes : List ℕ) (n width : ℕ) (old new : List Bool) : Type 0 where
  pub long : length new ≡ length old
  pub place : (c : ℕ) → get_or new c false ≡ (any_below (reads_column nodes width c) n || get_or old c false)

-- what is said once the program is known to be well-formed
abbrev pub listed_said : List ℕ → ℕ → Said
listed_said columns room = first (row (ltb room (length columns)) 10 ∷ []) (gives (length columns ∷ []))

-- what the last part of the call says and writes, given the columns
pub record Listing (columns old new : List ℕ) (answer : Result ℕ Refusal) : Type 0 where
  pub said : said_of_columns answer ≡ listed_said columns (length old)
  pub words : new ≡ on_done (listed_said columns (length old)) (sets old 0 columns) old
