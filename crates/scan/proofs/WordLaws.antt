-- The words of a blob's nodes: what a slot, an operand and a list of nodes read as.
-- Assumes nothing.
use mathlib.Core.Bool.{true, false}
use mathlib.Core.List.{List, [], ◌∷◌, ◌++◌}
use mathlib.Core.Path.{◌≡◌, refl, sym, ◌∙◌}
use Prim.Native.Nat.{ℕ, zero, suc, ◌+◌, ◌*◌, ◌<◌}
use native.Mathlib.Omega.{arith}
use lib.ListN.{length}
use borrow.Author.Tests.{le-leb, lt-leb}
use Rattle.blob_rules.specs.Blob.{Instr, instr_at, is_ext, slot_of, kind_of, payload_of}
use Rattle.scan_parts.specs.Scan.{slot_word, flat}

-- ---- slots and operands

-- a result or a root of class 0 or 1
pub base_word : (k : ℕ) → k < 2147483648 → (is_ext (slot_word 0 k) ≡ false) × (slot_of (slot_word 0 k) ≡ k)
base_word k h = (lt-leb 2147483648 (0 + k) (omega arith), omega arith)

pub ext_word_lem : (k : ℕ) → k < 2147483648 → (is_ext (slot_word 1 k) ≡ true) × (slot_of (slot_word 1 k) ≡ k)
ext_word_lem k h = (le-leb 2147483648 (2147483648 + k) (omega arith), omega arith)

-- an operand's kind and payload
pub kind_of_lem : (d k : ℕ) → k < 536870912 → kind_of (d * 536870912 + k) ≡ d
kind_of_lem d k h = omega arith

pub payload_of_lem : (d k : ℕ) → k < 536870912 → payload_of (d * 536870912 + k) ≡ k
payload_of_lem d k h = omega arith

-- ---- nodes in a row

pub flat_length : (xs : List Instr) → length (flat xs) ≡ 4 * length xs
flat_length [] = refl
flat_length (x ∷ xs) = omega (arith, flat_length xs)

instr_next : (a b c d : ℕ) (l : List ℕ) (i : ℕ) → instr_at (a ∷ b ∷ c ∷ d ∷ l) (suc i) ≡ instr_at l i
instr_next a b c d l i = rw (one, two, three, four) refl
  where
    four : 4 * suc i ≡ suc (suc (suc (suc (4 * i))))
    four = omega arith

    one : 4 * suc i + 1 ≡ suc (suc (suc (suc (4 * i + 1))))
    one = omega arith

    two : 4 * suc i + 2 ≡ suc (suc (suc (suc (4 * i + 2))))
    two = omega arith

    three : 4 * suc i + 3 ≡ suc (suc (suc (suc (4 * i + 3))))
    three = omega arith

-- a node of the first ones, and the one behind them
pub instr_left : (xs ys : List Instr) (i : ℕ) → i < length xs → instr_at (flat (xs ++ ys)) i ≡ instr_at (flat xs) i
instr_left [] ys i h = absurd (omega arith)
instr_left (x ∷ xs) ys zero h = refl
instr_left (x ∷ xs) ys (suc i) h =
    instr_next x.op x.a x.b x.res (flat (xs ++ ys)) i ∙ instr_left xs ys i (omega arith) ∙ sym (instr_next x.op x.a x.b x.res (flat xs) i)

pub instr_here : (xs : List Instr) (x : Instr) → instr_at (flat (xs ++ (x ∷ []))) (length xs) ≡ x
instr_here [] x = refl
instr_here (y ∷ xs) x = instr_next y.op y.a y.b y.res (flat (xs ++ (x ∷ []))) (length xs) ∙ instr_here xs x

-- ---- tags

-- what holds of each leaf's tag
pub by_leaf : (P : ℕ → Type 0) → P 0 → P 1 → P 2 → P 3 → P 4 → P 5 → (k : ℕ) → k < 6 → P k
by_leaf P a b c d e f zero h = a
by_leaf P a b c d e f (suc zero) h = b
by_leaf P a b c d e f (suc (suc zero)) h = c
by_leaf P a b c d e f (suc (suc (suc zero))) h = d
by_leaf P a b c d e f (suc (suc (suc (suc zero)))) h = e
by_leaf P a b c d e f (suc (suc (suc (suc (suc zero))))) h = f
by_leaf P a b c d e f (suc (suc (suc (suc (suc (suc k)))))) h = absurd (omega arith)
