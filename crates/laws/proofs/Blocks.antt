-- A loop that replaces each block of n words of a list in turn, by a rule of its number and the new words.
-- Assumes nothing.
use mathlib.Core.Path.{◌≡◌, refl, sym, subst, ap, ◌∙◌}
use mathlib.Core.List.{List, ◌++◌}
use Prim.Native.Nat.{ℕ, zero, suc, ◌+◌, ◌*◌, ◌<◌, ◌≤◌}
use native.Mathlib.Nat.{mul-le-mul, le_refl, mul-add, mul-one, mul-zero}
use native.Mathlib.Numerals.{add-one}
use native.Mathlib.Omega.{arith}
use borrow.Author.Count.{below_none, below_more}
use lib.ListN.{length, take, drop, take-append-drop}
use lib.Seq.{sets, length-sets, take-add, drop-drop}
use Rattle.laws.specs.Lists.{block}
use Rattle.laws.proofs.Parts.{sets_here, sets_before, sets_after}

-- replaced below block j, and as it was from there on
pub record BlocksReplaced (n : ℕ) (P : ℕ → List ℕ → Type 0) (old new : List ℕ) (j : ℕ) : Type 0 where
  pub long : length new ≡ length old
  pub done : (i : ℕ) → i < j → P i (block n new i)
  pub kept : drop (n * j) new ≡ drop (n * j) old

pub blocks_none : (n : ℕ) (P : ℕ → List ℕ → Type 0) (old : List ℕ) → BlocksReplaced n P old old 0
blocks_none n P old = record { long = refl; done = below_none _; kept = refl }

-- a block ends where the next begins
next_block : (n j : ℕ) → n * (j + 1) ≡ n * j + n
next_block n j = mul-add n j 1 ∙ ap (λ (x : ℕ). n * j + x) (mul-one n)

pub block_before : (n : ℕ) {i j : ℕ} → i < j → n * i + n ≤ n * j
block_before n {i} {j} h = subst (λ (x : ℕ). x ≤ n * j) (next_block n i) (mul-le-mul (le_refl n) (omega arith))

pub blocks_more : (n : ℕ) (P : ℕ → List ℕ → Type 0) (old mid new ws : List ℕ) (j : ℕ) → length ws ≡ n → n * j + n ≤ length mid → BlocksReplaced n P old mid j → P j ws → new ≡ sets mid (n * j) ws → BlocksReplaced n P old new (j + 1)
blocks_more n P old mid new ws j e h w here q =
    rw q
    (record {
      long = length-sets mid (n * j) ws ∙ w.long;
      done =
          below_more (λ (i : ℕ). P i (block n (sets mid (n * j) ws) i)) j
          (λ i l. subst (P i) (sym (sets_before ws mid (n * j) n (n * i) (block_before n l))) (w.done i l))
          (subst (P j) (sym here_words) here);
      kept = rw (next_block n j) (sets_after ws mid (n * j) (n * j + n) (omega arith) ∙ later);
    })
  where
    here_words : block n (sets mid (n * j) ws) j ≡ ws
    here_words = subst (λ (m : ℕ). block m (sets mid (m * j) ws) j ≡ ws) e (sets_here mid (length ws * j) ws (subst (λ (m : ℕ). m * j + m ≤ length mid) (sym e) h))

    later : drop (n * j + n) mid ≡ drop (n * j + n) old
    later = sym (drop-drop n (n * j) mid) ∙ ap (drop n) w.kept ∙ drop-drop n (n * j) old

-- ---- a list is its blocks and what is left over

same_start : (n m : ℕ) (a b : List ℕ) → ((j : ℕ) → j < m → block n a j ≡ block n b j) → take (n * m) a ≡ take (n * m) b
same_start n zero a b h = rw (mul-zero n)
same_start n (suc m) a b h =
    let e : n * suc m ≡ n * m + n = ap (λ (x : ℕ). n * x) (sym (add-one m)) ∙ next_block n m in
    rw (e, take-add (n * m) n a, take-add (n * m) n b, same_start n m a b (λ j l. h j (omega arith)), h m (omega arith))

pub same_blocks : (n m : ℕ) (a b : List ℕ) → ((j : ℕ) → j < m → block n a j ≡ block n b j) → drop (n * m) a ≡ drop (n * m) b → a ≡ b
same_blocks n m a b h e =
    sym (take-append-drop (n * m) a)
    ∙ (λ i. same_start n m a b h i ++ e i)
    ∙ take-append-drop (n * m) b
