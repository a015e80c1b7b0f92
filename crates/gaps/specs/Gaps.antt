-- The gap report, over any lent words.
-- Assumes nothing.
use Rattle.std.specs.Prelude.{Bool, List, [], ◌∷◌, ◌≡◌, ℕ, eqb, ltb, length, get_or, Result, Ok, Err}
use Rattle.std.proofs.lemmas.List.Edits.{sets}
use Rattle.laws.specs.Folds.{all_below}
use Rattle.ir.specs.Refusals.{on_done, Said, Row, row, first, gives, said_of}
use Rattle.ir.specs.declared.refusal.Refusal.{Refusal}

-- the rule: a constraint whose root is node 0, which fills gaps, counts as one
abbrev pub no_root : ℕ → Bool
no_root root = eqb root 0

-- whether constraint c is a gap
abbrev pub is_gap : List ℕ → ℕ → Bool
is_gap roots c = no_root (get_or roots c 0)

-- the gaps among the first k constraints, ascending
abbrev pub gaps_of : List ℕ → ℕ → List ℕ
gaps_of roots k = all_below (is_gap roots) k

-- on 0 the number of gaps
abbrev pub said_of_gaps : Result ℕ Refusal → Said
said_of_gaps (Ok count) = gives (count ∷ [])
said_of_gaps (Err r) = said_of r

-- roots shorter than their count k, then a room of fewer words than there are gaps
abbrev pub gap_rows : List ℕ → ℕ → ℕ → List Row
gap_rows roots k room = row (ltb (length roots) k) 1 ∷ row (ltb room (length (gaps_of roots k))) 10 ∷ []

-- what the call says
unfoldable pub gaps_said : List ℕ → ℕ → ℕ → Said
gaps_said roots k room = first (gap_rows roots k room) (gives (length (gaps_of roots k) ∷ []))

-- the promise: what is said, and the room at exit, where at entry it held the words `old`; a refusal writes nothing
pub record GapsAnswer (roots : List ℕ) (k : ℕ) (old new : List ℕ) (answer : Result ℕ Refusal) : Type 0 where
  pub said : said_of_gaps answer ≡ gaps_said roots k (length old)
  pub written : new ≡ on_done (gaps_said roots k (length old)) (sets old 0 (gaps_of roots k)) old
