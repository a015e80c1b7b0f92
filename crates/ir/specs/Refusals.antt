-- What a call says: document 01's number, the place, and the values that it gives; and the order of refusals as a table.
-- Assumes nothing.
use Rattle.std.specs.Prelude.{Bool, true, false, cond, ◌||◌, List, [], ◌∷◌, ℕ, eqb, Option, None, Some, Result, Ok, Err}
use Rattle.ir.specs.declared.refusal.Refusal.{Refusal}
use Rattle.ir.specs.declared.refusal.Refusal.TheVariants.{ShortMemory, OverLimit, ForeignHandle, NodesFull, ConstantsFull, NoConstraint, IllFormed, TooManyNodes, TooManyRoots, ShortOutput, IllegalBlob, ExtensionRoot, LeafOutside, ShortEvals, BadFraming}

-- a call's answer, by document 01: 0 with its values, or the number of a refusal with its place
pub record Said : Type 0 where
  pub number : ℕ
  pub place : ℕ
  pub values : List ℕ

-- 0 with its values
abbrev pub gives : List ℕ → Said
gives vs = record { number = 0; place = 0; values = vs }

-- a number with its place
abbrev pub refuses : ℕ → ℕ → Said
refuses n at = record { number = n; place = at; values = [] }

-- the number and place of each case
abbrev pub said_of : Refusal → Said
said_of ShortMemory = refuses 1 0
said_of OverLimit = refuses 2 0
said_of ForeignHandle = refuses 3 0
said_of NodesFull = refuses 4 0
said_of ConstantsFull = refuses 5 0
said_of NoConstraint = refuses 6 0
said_of (IllFormed at) = refuses 7 at
said_of TooManyNodes = refuses 8 0
said_of TooManyRoots = refuses 9 0
said_of ShortOutput = refuses 10 0
said_of (IllegalBlob at) = refuses 11 at
said_of (ExtensionRoot at) = refuses 12 at
said_of (LeafOutside at) = refuses 13 at
said_of ShortEvals = refuses 14 0
said_of BadFraming = refuses 15 0

-- the same of an answer that is done or refused
abbrev pub said_of_outcome : Result (Unit {0}) Refusal → Said
said_of_outcome (Ok _) = gives []
said_of_outcome (Err r) = said_of r

-- ---- the order

-- the order in which document 01 has the numbers of program calls tested; a call skips those that do not apply
abbrev pub program_order : List ℕ
program_order = 8 ∷ 9 ∷ 2 ∷ 1 ∷ 14 ∷ 6 ∷ 7 ∷ 13 ∷ 12 ∷ 10 ∷ []

-- a row: whether it holds, its number and its place
pub record Row : Type 0 where
  pub holds : Bool
  pub number : ℕ
  pub place : ℕ

-- a row without a place
abbrev pub row : Bool → ℕ → Row
row b n = record { holds = b; number = n; place = 0 }

-- whether a search found a place
abbrev pub found : Option ℕ → Bool
found None = false
found (Some i) = true

-- the place that it found
abbrev pub found_at : Option ℕ → ℕ
found_at None = 0
found_at (Some i) = i

-- a row that holds where a search finds a place, and names it
abbrev pub row_at : Option ℕ → ℕ → Row
row_at o n = record { holds = found o; number = n; place = found_at o }

-- the first row that holds, else what is done
abbrev pub first : List Row → Said → Said
first [] s = s
first (r ∷ rs) s = cond r.holds (refuses r.number r.place) (first rs s)

-- whether a call refuses
abbrev pub any_holds : List Row → Bool
any_holds [] = false
any_holds (r ∷ rs) = r.holds || any_holds rs

-- the numbers of a call's rows stand in a list in that order
abbrev pub in_order : List Row → List ℕ → Bool
in_order [] order = true
in_order (r ∷ rs) [] = false
in_order (r ∷ rs) (n ∷ order) = cond (eqb r.number n) (in_order rs order) (in_order (r ∷ rs) order)

-- the words that are written on 0; a refusal leaves what was lent
abbrev pub on_done : Said → List ℕ → List ℕ → List ℕ
on_done s new old = cond (eqb s.number 0) new old
