-- `step_main` meets its contract.
-- Assumes nothing.
use Rattle.trial_parts.proofs.TrialLaws.{main_fits}
use Rattle.values.proofs.ValueLaws.{base_is, main_mark}
use Rattle.field.proofs.Laws.{reduced, least_stands}
use native.Mathlib.Omega.{arith}
use mathlib.Core.List.{[], ◌∷◌}
use mathlib.Core.Path.{refl}
use Rattle.trial.proofs.step.step_main.Goals as goal

pub returns : goal.returns
returns c = let a = c.args in let o = c.if-y-ne1.false in λ e. (main_fits a.c a.m c.requires.0 a.x a.y 0 c.if-m-step.false c.if-y-ne0.false refl o c.if-m-col.false, main_mark a.y (λ z. omega arith), record { limbs = _ ∷ 0 ∷ 0 ∷ []; value_is = base_is (least_stands c.reduce-v.ensures reduced); stored = c.put_base.ensures })
