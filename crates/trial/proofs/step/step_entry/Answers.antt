-- `step_entry` meets its contract.
-- Assumes nothing.
use Rattle.trial_parts.proofs.TrialLaws.{ext_fits}
use Rattle.trial_parts.proofs.StepLaws.{ext_class, entry_in}
use Rattle.trial_parts.specs.Trial.{leaf_limit}
use Prim.Native.Nat.{◌<◌}
use Rattle.trial.proofs.step.step_entry.Goals as goal

pub entry-v-requires : goal.entry-v-requires
entry-v-requires c = let a = c.args in entry_in a.c a.m a.tag a.x c.requires.1 c.requires.2 c.requires.3 (rw c.leaf_limit.ensures at c.if-leaf_limit-place.false)

pub returns : goal.returns
returns c = let a = c.args in let d = c.if-dim-ne-DIM_EXT.false in let g : a.x < leaf_limit a.c a.m a.tag = rw c.leaf_limit.ensures at c.if-leaf_limit-place.false in λ e. (ext_fits a.c a.m c.requires.0 a.tag a.x a.y a.dim c.requires.6 c.requires.5 c.if-y-ne0.false d g, rw d (record { limbs = _; value_is = ext_class c.entry-v.ensures; stored = c.put_ext.ensures }))
