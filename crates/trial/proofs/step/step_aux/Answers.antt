-- `step_aux` meets its contract.
-- Assumes nothing.
use Rattle.trial_parts.proofs.TrialLaws.{aux_fits}
use Rattle.values.proofs.ValueLaws.{aux_mark}
use Rattle.trial_parts.proofs.StepLaws.{ext_class}
use native.Mathlib.Omega.{arith}
use mathlib.Core.Path.{refl}
use Rattle.trial.proofs.step.step_aux.Goals as goal

pub ext_leaf-v-requires : goal.ext_leaf-v-requires
ext_leaf-v-requires c = c.requires.1 _ _ c.if-m-step.false c.if-m-col.false

pub returns : goal.returns
returns c = let a = c.args in let o = c.if-y-ne0-2.false in λ e. (aux_fits a.c a.m c.requires.0 a.x a.y 1 c.if-m-step.false c.if-y-ne0.false refl o c.if-m-col.false, aux_mark a.y (omega arith), record { limbs = _; value_is = ext_class c.ext_leaf-v.ensures; stored = c.put_ext.ensures })
