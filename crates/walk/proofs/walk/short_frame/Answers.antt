use Rattle.evaluation.proofs.RefuseLaws.{cells_small}
use Rattle.ir.proofs.ProgramLaws.{within}
use native.Mathlib.Omega.{arith}
use Rattle.walk.proofs.walk.short_frame.Goals as goal

pub overflow_mul-s : goal.overflow_mul-s
overflow_mul-s c = let w = within _ c.requires in omega (arith, cells_small w.steps w.main)

pub overflow_mul-s-else-inputs-s : goal.overflow_mul-s-else-inputs-s
overflow_mul-s-else-inputs-s c = let w = within _ c.requires in omega (arith, cells_small w.steps w.aux)

pub overflow_mul-s-else-inputs-s-2 : goal.overflow_mul-s-else-inputs-s-2
overflow_mul-s-else-inputs-s-2 c = let w = within _ c.requires in omega (arith, cells_small w.steps w.aux)

pub overflow_mul-s-else-inputs-s-2-2 : goal.overflow_mul-s-else-inputs-s-2-2
overflow_mul-s-else-inputs-s-2-2 c = omega (arith, (within _ c.requires).challenges)

pub overflow_mul-result : goal.overflow_mul-result
overflow_mul-result c = omega (arith, (within _ c.requires).alphas)
