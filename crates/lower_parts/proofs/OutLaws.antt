-- Words written in a row over what was there.
-- Assumes nothing.
use mathlib.Core.List.{List, [], ◌∷◌, ◌++◌}
use mathlib.Core.Path.{◌≡◌, refl, sym, ap, ◌∙◌}
use Prim.Native.Nat.{ℕ, zero, suc, ◌+◌, ◌<◌}
use native.Mathlib.Numerals.{add-one}
use lib.ListN.{length, get_or, set, drop}
use lib.Seq.{drop-cons, set_at, append_snoc}
use Rattle.laws.specs.Lists.{tabulate}
use Rattle.laws.proofs.Tabulate.{length_tabulate}

snoc : (n : ℕ) (f : ℕ → ℕ) → tabulate (suc n) f ≡ tabulate n f ++ (f n ∷ [])
snoc zero f = refl
snoc (suc n) f = ap (λ l. f 0 ∷ l) (snoc n (λ i. f (suc i)))

-- the first k words are f's, the others as they were
abbrev pub laid : ℕ → (ℕ → ℕ) → List ℕ → List ℕ
laid k f old = tabulate k f ++ drop k old

module _ (f : ℕ → ℕ) (old : List ℕ) where
  pub laid_more : (k v : ℕ) → k < length old → v ≡ f k → set (laid k f old) k v ≡ laid (k + 1) f old
  laid_more k v h e =
      ap (λ (t : List ℕ). set (tabulate k f ++ t) k v) (drop-cons old k 0 h)
      ∙ set_at (tabulate k f) (get_or old k 0) (drop (suc k) old) v k (length_tabulate k f)
      ∙ ap (λ w. tabulate k f ++ w ∷ drop (suc k) old) e
      ∙ sym (append_snoc (tabulate k f) (f k) (drop (suc k) old))
      ∙ ap (λ l. l ++ drop (suc k) old) (sym (snoc k f))
      ∙ ap (λ m. laid m f old) (sym (add-one k))
