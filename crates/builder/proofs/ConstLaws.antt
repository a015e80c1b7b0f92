-- A constant by its remainder is the constant.
-- Assumes nothing.
use mathlib.Core.List.{List}
use mathlib.Core.Path.{◌≡◌, ap, ◌∙◌, subst}
use Prim.Native.Nat.{ℕ, ◌%◌, min}
use native.Mathlib.Nat.{mod-mod}
use lib.Dec.{eqb}
use lib.ListN.{length, get_or, set}
use Rattle.field.specs.Base.{p}
use Rattle.ir.specs.Program.{most}
use Rattle.ir.specs.Words.{const_base}
use Rattle.node_table.specs.Hashing.{start_of}
use Rattle.node_table.specs.Table.{Table}
use Rattle.builder.specs.Consts.{intern_of, const_of, with_bases, Interns}
use Rattle.const_table.specs.Positions.{scan, position_of}
use Rattle.ir.specs.declared.refusal.Refusal.{Refusal}
use Rattle.builder.specs.declared.ir_builder.IrBuilder.{IrBuilder}
use Rattle.builder.specs.declared.ir_builder.Made.{Made}
use Rattle.std.specs.Prelude.{Result}

pub by_value : (t : Table) (bs : List ℕ) (m x n : ℕ) → x ≡ n % p → const_of start_of t bs m x ≡ const_of start_of t bs m n
unfolding position_of
by_value t bs m x n h =
    let e : x % p ≡ n % p = ap (λ k. k % p) h ∙ mod-mod n p in
    let q : position_of bs (min m most) x ≡ position_of bs (min m most) n = ap (λ k. scan (λ j. eqb (get_or bs j 0 % p) k) (min m most) 0) e in
    λ i. intern_of start_of t const_base 0 (length bs) m (q i) bs (set bs m (e i))

pub signed_gives : (t : Table) (bs : List ℕ) (m x n : ℕ) (b : IrBuilder) (r : Result Made Refusal) (ns ps bs' : List ℕ) → x ≡ n % p
    → Interns with_bases (const_of start_of t bs m x) b r ns ps bs' → Interns with_bases (const_of start_of t bs m n) b r ns ps bs'
signed_gives t bs m x n b r ns ps bs' h i = subst (λ o. Interns with_bases o b r ns ps bs') (by_value t bs m x n h) i
