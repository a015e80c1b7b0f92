-- `step_const` meets its contract.
-- Assumes nothing.
use Rattle.trial_parts.proofs.TrialLaws.{const_fits}
use Rattle.values.proofs.ValueLaws.{base_is}
use Rattle.field.proofs.Laws.{reduced, least_stands}
use mathlib.Core.List.{[], ◌∷◌}
use Rattle.trial.proofs.step.step_const.Goals as goal

pub returns : goal.returns
returns c = let a = c.args in let d = c.if-dim-ne-DIM_BASE.false in λ e. (const_fits a.c a.m c.requires.0 a.x a.y a.dim c.if-y-ne0.false d c.if-c-place.false, rw d (record { limbs = _ ∷ 0 ∷ 0 ∷ []; value_is = base_is (least_stands c.reduce-v.ensures reduced); stored = c.put_base.ensures }))
