-- `intern` meets its contract.
-- Assumes nothing.
use native.Mathlib.Omega.{arith}
use Rattle.std.proofs.Common.{rules}
use Rattle.const_table.proofs.PositionLaws.{place_of, is_new, new_space}
use Rattle.builder.specs.Consts.{intern_of}
use Rattle.builder.proofs.ir_builder.intern.Goals.{then-new, else-new}
use Rattle.builder.proofs.ir_builder.intern.Goals as goal

pub write-requires : goal.write-requires
write-requires g c = omega (arith, c.fits-fits.ensures, (new_space _ _ _ _ c.crowded.ensures c.if-crowded.false c.if-new.true).fit)

pub overflow_add-result : goal.overflow_add-result
overflow_add-result g c = elim c.if-new.branch [
  | then-new w ↦ omega (arith, rw w.if-new.true at c.from.ensures, (new_space _ _ _ _ c.crowded.ensures c.if-crowded.false w.if-new.true).few)
  | else-new w ↦ omega (arith, rw w.if-new.false at c.from.ensures)
]

pub returns : goal.returns
unfolding intern_of
returns g c = elim c.if-new.branch [
  | then-new w ↦ search (rules, place_of, is_new)
  | else-new w ↦ search (rules, place_of, is_new)
]
