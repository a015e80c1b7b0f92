-- Each evaluator's promise leaves one answer and one memory: first by any rows and values, then by the contracts' own names.
-- Assumes nothing.
use Rattle.std.specs.Prelude.{Result, Ok, Err}
use Rattle.ir.specs.declared.refusal.Refusal.{Refusal}
use Rattle.evaluation.proofs.EvalLaws.{one_word}
use mathlib.Core.Bool.{Bool, true, false, cond}
use mathlib.Core.List.{List}
use mathlib.Core.Path.{◌≡◌, refl, sym, ap, ◌∙◌}
use Prim.Native.Nat.{ℕ, zero, suc, ◌+◌, ◌*◌, ◌-◌, ◌<◌, ◌≤◌, min}
use native.Mathlib.Omega.{arith}
use lib.Dec.{eqb, lit<}
use lib.ListN.{length, get_or, drop, length-take, length-drop}
use lib.Seq.{ext_get_or, get_or-drop}
use Rattle.laws.specs.Lists.{block}
use Rattle.laws.proofs.Blocks.{same_blocks}
use Rattle.laws.proofs.Cases.{by_test}
use Rattle.ir.specs.declared.program.Counts.{Counts}
use Rattle.ir.specs.declared.frame.Shape.{Shape}
use Rattle.ir.specs.Refusals.{Said, Row, any_holds}
use Rattle.ir.proofs.Single.{refusal_of, known, outcome_single}
use Rattle.values.specs.Values.{Value}
use Rattle.values.specs.Frame.{Lent}
use Rattle.values.specs.Room.{Kept, RoomHolds}
use Rattle.evaluation.specs.Evaluation.{said_of_evaluated, Evaluates, VerifierEvaluates, RowEvaluates, ProverAnswer, VerifierAnswer, RowAnswer}

-- a node's four words
kept_single : (v : Value ℕ (List ℕ)) (a b : List ℕ) → length a ≡ length b → length a ≤ 4 → Kept v a → Kept v b → a ≡ b
kept_single v a b e l f g = ext_get_or 0 a b e at_each
  where
    later : (i : ℕ) → i < 3 → get_or a (1 + i) 0 ≡ get_or b (1 + i) 0
    later i h =
        one_word
        (rw (get_or-drop 1 a i 0) at (f.stands.limbs_near.limb_near i h))
        (rw (get_or-drop 1 b i 0) at (g.stands.limbs_near.limb_near i h))
        (f.low.word_low (1 + i)) (g.low.word_low (1 + i))

    at_each : (k : ℕ) → k < length a → get_or a k 0 ≡ get_or b k 0
    at_each zero h = f.stands.class_is ∙ sym g.stands.class_is
    at_each (suc zero) h = later 0 (lit< tt)
    at_each (suc (suc zero)) h = later 1 (lit< tt)
    at_each (suc (suc (suc zero))) h = later 2 (lit< tt)
    at_each (suc (suc (suc (suc k)))) h = absurd (omega arith)

block_length : (l : List ℕ) (j : ℕ) → length (block 4 l j) ≡ min 4 (length l - 4 * j)
block_length l j = length-take 4 (drop (4 * j) l) ∙ ap (min 4) (length-drop (4 * j) l)

pub room_single : {env : ℕ → Value ℕ (List ℕ)} {n : ℕ} {old a b : List ℕ} → RoomHolds env n old a → RoomHolds env n old b → a ≡ b
room_single {env} {n} {old} {a} {b} f g =
    same_blocks 4 n a b
    (λ j h. kept_single (env j) (block 4 a j) (block 4 b j) (block_length a j ∙ ap (λ (x : ℕ). min 4 (x - 4 * j)) (f.long ∙ sym g.long) ∙ sym (block_length b j)) (short a j) (f.node j h) (g.node j h))
    (f.rest ∙ sym g.rest)
  where
    short : (l : List ℕ) (j : ℕ) → length (block 4 l j) ≤ 4
    short l j = let e = block_length l j in omega arith

-- a room that is kept where a row holds, and filled where none does
room_one : (b : Bool) {env : ℕ → Value ℕ (List ℕ)} {n : ℕ} {old a c : List ℕ} → (b ≡ true → a ≡ old) → (b ≡ false → RoomHolds env n old a) → (b ≡ true → c ≡ old) → (b ≡ false → RoomHolds env n old c) → a ≡ c
room_one b {env} {n} {old} {a} {c} f g h k =
    by_test b (a ≡ c) (λ t. f t ∙ sym (h t)) λ t. room_single (g t) (k t)

module _ {rows : List Row} {env : ℕ → Value ℕ (List ℕ)} {n count : ℕ} {roots : List ℕ} where
  pub evaluates_single : {leading : ℕ} {r r' : Result (Unit {0}) Refusal} {base base₁ base₂ ext ext₁ ext₂ room room₁ room₂ : List ℕ} → Evaluates rows env n leading count roots r base base₁ ext ext₁ room room₁ → Evaluates rows env n leading count roots r' base base₂ ext ext₂ room room₂ → (r ≡ r') × (base₁ ≡ base₂) × (ext₁ ≡ ext₂) × (room₁ ≡ room₂)
  evaluates_single {leading} {r} {r'} f g = (
    outcome_single r r' (f.said ∙ sym g.said),
    f.base_evals ∙ sym g.base_evals,
    f.ext_evals ∙ sym g.ext_evals,
    room_one (any_holds rows) f.room_kept f.room_holds g.room_kept g.room_holds,
  )

  pub verifier_evaluates_single : {r r' : Result (Unit {0}) Refusal} {ext ext₁ ext₂ room room₁ room₂ : List ℕ} → VerifierEvaluates rows env n count roots r ext ext₁ room room₁ → VerifierEvaluates rows env n count roots r' ext ext₂ room room₂ → (r ≡ r') × (ext₁ ≡ ext₂) × (room₁ ≡ room₂)
  verifier_evaluates_single {r} {r'} f g = (
    outcome_single r r' (f.said ∙ sym g.said),
    f.ext_evals ∙ sym g.ext_evals,
    room_one (any_holds rows) f.room_kept f.room_holds g.room_kept g.room_holds,
  )

-- a value, or a refusal, is known by what it says
abbrev evaluated_said : Said → Result ℕ Refusal
evaluated_said s = cond (eqb s.number 0) (Ok (get_or s.values 0 0)) (Err (refusal_of s.number s.place))

evaluated_back : (r : Result ℕ Refusal) → evaluated_said (said_of_evaluated r) ≡ r
evaluated_back (Ok v) = refl
evaluated_back (Err w) = rw ((known w).0, (known w).1)

pub row_evaluates_single : {rows : List Row} {env : ℕ → Value ℕ (List ℕ)} {n asked : ℕ} {roots : List ℕ} {r r' : Result ℕ Refusal} {room room₁ room₂ : List ℕ} → RowEvaluates rows env n asked roots r room room₁ → RowEvaluates rows env n asked roots r' room room₂ → (r ≡ r') × (room₁ ≡ room₂)
row_evaluates_single {rows} {env} {n} {asked} {roots} {r} {r'} f g = (
  sym (evaluated_back r) ∙ ap evaluated_said (f.said ∙ sym g.said) ∙ evaluated_back r',
  room_one (any_holds rows) f.room_kept f.room_holds g.room_kept g.room_holds,
)

-- ---- the three contracts

module _ (c : Counts) (s : Shape) (nodes roots : List ℕ) (l : Lent) {room room₁ room₂ : List ℕ} where
  pub eval_program_single : {r r' : Result (Unit {0}) Refusal} {base base₁ base₂ ext ext₁ ext₂ : List ℕ} → ProverAnswer c s nodes roots l r base base₁ ext ext₁ room room₁ → ProverAnswer c s nodes roots l r' base base₂ ext ext₂ room room₂ → (r ≡ r') × (base₁ ≡ base₂) × (ext₁ ≡ ext₂) × (room₁ ≡ room₂)
  eval_program_single f g = evaluates_single f g

  pub eval_program_verifier_single : {r r' : Result (Unit {0}) Refusal} {ext ext₁ ext₂ : List ℕ} → VerifierAnswer c s nodes roots l r ext ext₁ room room₁ → VerifierAnswer c s nodes roots l r' ext ext₂ room room₂ → (r ≡ r') × (ext₁ ≡ ext₂) × (room₁ ≡ room₂)
  eval_program_verifier_single f g = verifier_evaluates_single f g

pub eval_program_base_single : (c : Counts) (width asked : ℕ) (nodes roots : List ℕ) (l : Lent) {r r' : Result ℕ Refusal} {room room₁ room₂ : List ℕ} → RowAnswer c width asked nodes roots l r room room₁ → RowAnswer c width asked nodes roots l r' room room₂ → (r ≡ r') × (room₁ ≡ room₂)
eval_program_base_single c width asked nodes roots l f g = row_evaluates_single f g
