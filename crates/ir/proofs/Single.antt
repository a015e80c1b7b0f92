-- A refusal is known by what it says, and the promise of the program check leaves one answer.
-- Assumes nothing.
use Rattle.std.specs.Prelude.{Result, Ok, Err}
use mathlib.Core.Bool.{false, cond}
use mathlib.Core.Path.{◌≡◌, refl, sym, ap, ◌∙◌}
use Prim.Native.Nat.{ℕ}
use lib.Dec.{eqb}
use Rattle.ir.specs.declared.refusal.Refusal.{Refusal}
use Rattle.ir.specs.declared.refusal.Refusal.TheVariants.{ShortMemory, OverLimit, ForeignHandle, NodesFull, ConstantsFull, NoConstraint, IllFormed, TooManyNodes, TooManyRoots, ShortOutput, IllegalBlob, ExtensionRoot, LeafOutside, ShortEvals, BadFraming}
use Rattle.ir.specs.Program.{Program, checked}
use Rattle.ir.specs.Refusals.{Said, said_of, said_of_outcome}

-- ---- a case is known by what it says

-- the refusal with a number and a place
abbrev pub refusal_of : ℕ → ℕ → Refusal
refusal_of n at =
    cond (eqb n 1) ShortMemory
    (cond (eqb n 2) OverLimit
    (cond (eqb n 3) ForeignHandle
    (cond (eqb n 4) NodesFull
    (cond (eqb n 5) ConstantsFull
    (cond (eqb n 6) NoConstraint
    (cond (eqb n 7) (IllFormed at)
    (cond (eqb n 8) TooManyNodes
    (cond (eqb n 9) TooManyRoots
    (cond (eqb n 10) ShortOutput
    (cond (eqb n 11) (IllegalBlob at)
    (cond (eqb n 12) (ExtensionRoot at) (cond (eqb n 13) (LeafOutside at) (cond (eqb n 14) ShortEvals BadFraming)))))))))))))

-- a refusal's number is not 0, and with the place it gives the refusal back
pub known : (r : Refusal) → (eqb (said_of r).number 0 ≡ false) × (refusal_of (said_of r).number (said_of r).place ≡ r)
known ShortMemory = (refl, refl)
known OverLimit = (refl, refl)
known ForeignHandle = (refl, refl)
known NodesFull = (refl, refl)
known ConstantsFull = (refl, refl)
known NoConstraint = (refl, refl)
known (IllFormed at) = (refl, refl)
known TooManyNodes = (refl, refl)
known TooManyRoots = (refl, refl)
known ShortOutput = (refl, refl)
known (IllegalBlob at) = (refl, refl)
known (ExtensionRoot at) = (refl, refl)
known (LeafOutside at) = (refl, refl)
known ShortEvals = (refl, refl)
known BadFraming = (refl, refl)

-- ---- calls that hand nothing back

abbrev outcome_said : Said → Result (Unit {0}) Refusal
outcome_said s = cond (eqb s.number 0) (Ok tt) (Err (refusal_of s.number s.place))

outcome_back : (o : Result (Unit {0}) Refusal) → outcome_said (said_of_outcome o) ≡ o
outcome_back (Ok tt) = refl
outcome_back (Err r) = rw ((known r).0, (known r).1)

pub outcome_single : (o o' : Result (Unit {0}) Refusal) → said_of_outcome o ≡ said_of_outcome o' → o ≡ o'
outcome_single o o' e = sym (outcome_back o) ∙ ap outcome_said e ∙ outcome_back o'

-- the program check's contract is an equation on what is said: one answer
pub check_program_single : (p : Program) {o o' : Result (Unit {0}) Refusal} → said_of_outcome o ≡ checked p → said_of_outcome o' ≡ checked p → o ≡ o'
check_program_single p {o} {o'} f g = outcome_single o o' (f ∙ sym g)
