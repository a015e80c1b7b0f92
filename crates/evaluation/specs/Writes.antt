-- What the writing of the roots asks and does. For inner functions: no public promise cites it.
-- Assumes nothing.
use Rattle.std.specs.Prelude.{cond, List, ◌≡◌, ℕ, ◌+◌, ◌*◌, ◌<◌, ◌≤◌, ltb, length, get_or, set}
use Rattle.std.proofs.lemmas.List.Edits.{sets}
use Rattle.values.specs.Values.{Value}
use Rattle.evaluation.specs.Evals.{base_word, ext_words, base_evals_of, ext_evals_of}
use Rattle.values.specs.Room.{RoomHolds}
use Rattle.values.specs.Operations.{StandsIn}

-- what one root asks
pub record RootIn (c leading root room bases exts : ℕ) : Type 0 where
  pub held : 4 * root + 4 ≤ room
  pub base_place : c < leading → c < bases
  pub ext_place : leading ≤ c → 3 * c + 3 ≤ exts

-- whatever value the root's words stand for, it is written, and nothing else is
pub record WritesRoot (c leading root : ℕ) (room bases bases' exts exts' : List ℕ) : Type 0 where
  pub follows :
      (v : Value ℕ (List ℕ)) → StandsIn room v root
      → (bases' ≡ cond (ltb c leading) (set bases c (base_word v)) bases) × (exts' ≡ cond (ltb c leading) exts (sets exts (3 * c) (ext_words v)))
  pub bases_long : length bases' ≡ length bases
  pub exts_long : length exts' ≡ length exts

-- what all roots ask
pub record RootsIn (count leading : ℕ) (roots : List ℕ) (room bases exts : ℕ) : Type 0 where
  pub roots_long : count ≤ length roots
  pub root : (c : ℕ) → c < count → RootIn c leading (get_or roots c 0) room bases exts

-- whatever values the roots' words stand for, they are written
pub record WritesRoots (count leading : ℕ) (roots room bases bases' exts exts' : List ℕ) : Type 0 where
  pub follows :
      (env : ℕ → Value ℕ (List ℕ)) → ((c : ℕ) → c < count → StandsIn room (env (get_or roots c 0)) (get_or roots c 0))
      → (bases' ≡ base_evals_of env roots leading count bases) × (exts' ≡ ext_evals_of env roots leading count exts)
  pub bases_long : length bases' ≡ length bases
  pub exts_long : length exts' ≡ length exts

-- ---- a whole evaluation: every node's value in the room, and the roots' values written

-- what a whole evaluation leaves in evals and room
pub record Completes (env : ℕ → Value ℕ (List ℕ)) (n leading count : ℕ) (roots base base' ext ext' room room' : List ℕ) : Type 0 where
  pub base_written : base' ≡ base_evals_of env roots leading count base
  pub ext_written : ext' ≡ ext_evals_of env roots leading count ext
  pub room_holds : RoomHolds env n room room'
