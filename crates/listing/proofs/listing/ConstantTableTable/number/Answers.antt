use mathlib.Core.Path.{sym, ◌∙◌, ap}
use Prim.Native.Nat.{ℕ, ◌/◌, ◌%◌}
use lib.ListN.{length}
use native.Mathlib.Omega.{arith}
use Rattle.field.proofs.Laws.{least_exact}
use Rattle.field.specs.Base.{p}
use Rattle.stored_parts.specs.Form.{words}
use Rattle.stored_parts.proofs.WordLaws.{below_at}
use Rattle.listing.proofs.ListLaws.{constant_table_long, word_at}
use Rattle.listing.proofs.listing.ConstantTableTable.number.Goals as goal

pub overflow_mul-i : goal.overflow_mul-i
overflow_mul-i c = omega (arith, c.requires, constant_table_long c.args.self.now.0.now)

pub read_at-requires : goal.read_at-requires
read_at-requires c = omega (arith, c.requires, constant_table_long c.args.self.now.0.now)

pub returns : goal.returns
returns c =
    let file = c.args.self.now.0.now in
    let here = word_at 8 (length file / 8) c.args.i file (omega (arith, c.requires, constant_table_long file)) in
    least_exact c.reduce.ensures
    ∙ ap (λ (x : ℕ). x % p) (c.read_at.ensures ∙ sym here)
    ∙ sym (below_at (words 8 (length file / 8) file) c.args.i)
