-- The rows of each builder call stand in document 01's one order.
-- Assumes nothing.
use mathlib.Core.Bool.{Bool, true}
use mathlib.Core.List.{List, [], ◌∷◌, ◌++◌}
use mathlib.Core.Path.{◌≡◌, refl}
use Prim.Native.Nat.{ℕ}
use Rattle.ir.specs.Refusals.{Row, row, in_order}
use Rattle.builder.specs.declared.ir_builder.Expr.{Expr}
use Rattle.node_table.specs.Table.{Table}
use Rattle.builder.specs.Answers.{builder_order}
use Rattle.builder.specs.Calls.{indexed_rows, offset_rows, binary_rows, unary_rows}
use Rattle.builder.specs.Consts.{const_rows, new_rows}
use Rattle.builder.specs.Roots.{emit_rows}

-- calls that make a node: 4 comes last
module _ (t : Table) (full : Bool) where
  abbrev last : List Row
  last = row full 4 ∷ []

  pub indexed_in_order : (i : ℕ) → in_order (indexed_rows t i ++ last) builder_order ≡ true
  indexed_in_order i = refl

  pub offset_in_order : in_order (offset_rows t ++ last) builder_order ≡ true
  offset_in_order = refl

  pub binary_in_order : (a b : Expr) → in_order (binary_rows t a b ++ last) builder_order ≡ true
  binary_in_order a b = refl

  pub unary_in_order : (a : Expr) → in_order (unary_rows t a ++ last) builder_order ≡ true
  unary_in_order a = refl

  pub const_in_order : (fits m : ℕ) (new : Bool) → in_order (const_rows t fits m new ++ last) builder_order ≡ true
  const_in_order fits m new = refl

pub new_in_order : (t : Table) (bases : List ℕ) → in_order (new_rows t bases) builder_order ≡ true
new_in_order t bases = refl

pub emit_in_order : (nodes : List ℕ) (n : ℕ) (roots : List ℕ) (k at : ℕ) (e : Expr) → in_order (emit_rows nodes n roots k at e) builder_order ≡ true
emit_in_order nodes n roots k at e = refl
