-- Where a constant stands in its table, and what is written of a new one.
-- Assumes nothing.
use Rattle.std.specs.Prelude.{Bool, cond, ◌&&◌, List, ℕ, zero, suc, ◌+◌, ◌*◌, ◌%◌, min, eqb, ltb, leb, get_or, set, Option, Some, None}
use Rattle.field.specs.Base.{p}
use Rattle.ir.specs.Program.{most}

-- from i on, the first of `left` numbers that passes the test, else the one after them
unfoldable pub scan : (ℕ → Bool) → ℕ → ℕ → ℕ
scan test zero i = i
scan test (suc left) i = let r = scan test left (suc i) in cond (test i) i r

-- the first of m numbers that passes the test, where one does
abbrev pub found : (ℕ → Bool) → ℕ → Option ℕ
found test m = cond (ltb (scan test m 0) m) (Some (scan test m 0)) None

-- whether constant j of one word has the value of v
abbrev pub same_base : List ℕ → ℕ → ℕ → Bool
same_base bs v j = eqb (get_or bs j 0 % p) (v % p)

-- whether the word at `at` has the value of limb k of v
abbrev pub same_limb : List ℕ → ℕ → List ℕ → ℕ → Bool
same_limb xs at v k = eqb (get_or xs at 0 % p) (get_or v k 0 % p)

-- whether constant j of three words has the value of v
abbrev pub same_ext : List ℕ → List ℕ → ℕ → Bool
same_ext xs v j = same_limb xs (3 * j) v 0 && (same_limb xs (3 * j + 1) v 1 && same_limb xs (3 * j + 2) v 2)

-- the first of m constants with the value of v, else m
unfoldable pub position_of : List ℕ → ℕ → ℕ → ℕ
position_of bs m v = scan (same_base bs v) m 0

-- the same of extension constants
unfoldable pub ext_position_of : List ℕ → ℕ → List ℕ → ℕ
ext_position_of xs m v = scan (same_ext xs v) m 0

-- the words with constant m written, put below p
abbrev pub with_base : List ℕ → ℕ → ℕ → List ℕ
with_base bs m v = set bs m (v % p)

-- the same of three words
abbrev pub with_ext : List ℕ → ℕ → List ℕ → List ℕ
with_ext xs m v = set (set (set xs (3 * m) (get_or v 0 0 % p)) (3 * m + 1) (get_or v 1 0 % p)) (3 * m + 2) (get_or v 2 0 % p)

-- 5: a new constant, and its table is full, which holds `fits` constants
unfoldable pub crowded_b : Bool → ℕ → ℕ → Bool
crowded_b new fits m = new && leb (min fits most) m
