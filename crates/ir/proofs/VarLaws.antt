-- `pack_var` and `unpack_var` undo each other.
-- Assumes nothing.
use mathlib.Core.Bool.{Bool, true, false}
use mathlib.Core.Path.{◌≡◌}
use Prim.Native.Nat.{ℕ, ◌+◌, ◌*◌, ◌/◌, ◌%◌, ◌<◌}
use native.Mathlib.Omega.{arith}
use lib.Dec.{eqb}
use borrow.Author.Tests.{eqb-true, eqb-false}
use Rattle.laws.proofs.Cases.{by_test}
use Rattle.ir.specs.declared.node.Packed.{Packed}
use Rattle.ir.specs.declared.node.Var.{Var}
use Rattle.ir.specs.Words.{bit, main_of, offset_of, row_of, column_of, packed, unpacked}

-- the word y of a main mark, an offset and a row
abbrev word : Bool → ℕ → ℕ → ℕ
word m o r = bit m * 65536 + o * 256 + r

module _ (o r : ℕ) (ho : o < 256) (hr : r < 256) where
  word_main : (m : Bool) → main_of (word m o r) ≡ m
  word_main true = let e : (1 * 65536 + o * 256 + r) / 65536 % 2 ≡ 1 = omega arith in rw e
  word_main false = let e : (0 * 65536 + o * 256 + r) / 65536 % 2 ≡ 0 = omega arith in rw e

  word_offset : (m : Bool) → offset_of (word m o r) ≡ o
  word_offset true = omega arith
  word_offset false = omega arith

  word_row : (m : Bool) → row_of (word m o r) ≡ r
  word_row true = omega arith
  word_row false = omega arith

-- a Var whose fields fit their widths comes back
pub unpacked_packed : (v : Var) → v.offset < 256 → v.row < 256 → v.col < 65536 → unpacked (packed v) ≡ v
unpacked_packed v ho hr hc =
    let c : column_of v.col ≡ v.col = omega arith in
    rw (word_main v.offset v.row ho hr v.main, word_offset v.offset v.row ho hr v.main, word_row v.offset v.row ho hr v.main, c)

-- the mark is the word's bit 16, the last that may be set
mark : (y : ℕ) → y < 131072 → bit (main_of y) ≡ y / 65536
mark y h =
    by_test (eqb (y / 65536 % 2) 0) (bit (main_of y) ≡ y / 65536)
    (λ t. rw t (omega (arith, eqb-true (y / 65536 % 2) 0 t)))
    λ t. rw t (omega (arith, eqb-false (y / 65536 % 2) 0 t))

-- words with no spare bit come back
pub packed_unpacked : (w : Packed) → w.a < 65536 → w.b < 131072 → packed (unpacked w) ≡ w
packed_unpacked w ha hb =
    let x : column_of w.a ≡ w.a = omega arith in
    let y : w.b / 65536 * 65536 + w.b / 256 % 256 * 256 + w.b % 256 ≡ w.b = omega arith in
    rw (mark w.b hb, x, y)
