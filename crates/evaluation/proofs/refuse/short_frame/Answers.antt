-- `short_frame` meets its contract: within its limits the products are small.
-- Assumes nothing.
use Rattle.evaluation.proofs.RefuseLaws.{cells_small, words_small}
use Rattle.ir.proofs.ProgramLaws.{within}
use native.Mathlib.Omega.{arith}
use Rattle.evaluation.proofs.refuse.short_frame.Goals as goal

pub overflow_mul-s : goal.overflow_mul-s
overflow_mul-s c = let w = within _ c.requires.0 in omega (arith, cells_small w.steps w.main)

pub overflow_mul-limbs : goal.overflow_mul-limbs
overflow_mul-limbs c = let w = within _ c.requires.0 in omega (arith, words_small c.requires.1 (cells_small w.steps w.main))

pub overflow_mul-s-else-l-limbs : goal.overflow_mul-s-else-l-limbs
overflow_mul-s-else-l-limbs c = let w = within _ c.requires.0 in omega (arith, cells_small w.steps w.aux)

pub overflow_mul-s-else-l-limbs-2 : goal.overflow_mul-s-else-l-limbs-2
overflow_mul-s-else-l-limbs-2 c = let w = within _ c.requires.0 in omega (arith, cells_small w.steps w.aux)

pub overflow_mul-s-else-l-s : goal.overflow_mul-s-else-l-s
overflow_mul-s-else-l-s c = omega (arith, (within _ c.requires.0).challenges)

pub overflow_mul-result : goal.overflow_mul-result
overflow_mul-result c = omega (arith, (within _ c.requires.0).alphas)
