-- `const_signed` meets its contract.
-- Assumes nothing.
use mir.Facts.{to_z-of_z}
use Rattle.field.specs.Base.{Least, signed}
use Rattle.field.proofs.Laws.{least_exact}
use Rattle.builder.proofs.ConstLaws.{signed_gives}
use Rattle.builder.proofs.ir_builder.IrBuilder.const_signed.Goals as goal

pub returns : goal.returns
returns c = let a = c.args in let h = c.from_i64.ensures in let k : Least (signed a.v) c.from_i64.result = rw (to_z-of_z c.ranges.v) at h in signed_gives _ a.bases.now a.self.bases _ _ _ _ _ _ _ (least_exact k) c.const_base.ensures
