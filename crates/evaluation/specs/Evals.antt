-- What an evaluator writes of the roots. Evals are written below p.
-- Assumes nothing.
use Rattle.std.specs.Prelude.{cond, List, ℕ, zero, suc, ◌*◌, ltb, get_or, set}
use Rattle.std.proofs.lemmas.List.Edits.{sets}
use Rattle.extension.specs.Ext.{limb}
use Rattle.extension.specs.Tower.{goldilocks, remainders}
use Rattle.values.specs.Values.{Value, to_ext}

-- a value as three words
abbrev pub ext_words : Value ℕ (List ℕ) → List ℕ
ext_words v = remainders 3 (to_ext goldilocks v)

-- a base value as one word
abbrev pub base_word : Value ℕ (List ℕ) → ℕ
base_word v = limb (ext_words v) 0

module _ (env : ℕ → Value ℕ (List ℕ)) (roots : List ℕ) (num_base : ℕ) where
  -- of the first c roots, each below num_base goes to its place in base_evals
  unfoldable pub base_evals_of : ℕ → List ℕ → List ℕ
  base_evals_of zero l = l
  base_evals_of (suc c) l = cond (ltb c num_base) (set (base_evals_of c l) c (base_word (env (get_or roots c 0)))) (base_evals_of c l)

  -- and every other to its place in ext_evals: at c, and not at c - num_base
  unfoldable pub ext_evals_of : ℕ → List ℕ → List ℕ
  ext_evals_of zero l = l
  ext_evals_of (suc c) l = cond (ltb c num_base) (ext_evals_of c l) (sets (ext_evals_of c l) (3 * c) (ext_words (env (get_or roots c 0))))
