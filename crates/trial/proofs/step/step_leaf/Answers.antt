-- `step_leaf` meets its contract.
-- Assumes nothing.
use Rattle.values.specs.Values.{leaf_value}
use Rattle.values.specs.Frame.{lent_in}
use Rattle.trial_parts.proofs.StepLaws.{leaf_entry}
use Rattle.trial.proofs.step.step_leaf.Goals as goal

pub step_main-requires : goal.step_main-requires
step_main-requires c = let q = c.requires in (q.2, λ step col a b. (q.0.main step col a b).base_cell q.1, q.3)

pub returns-then-dim-eq-DIM_BASE : goal.returns-then-dim-eq-DIM_BASE
unfolding leaf_value
returns-then-dim-eq-DIM_BASE c = λ e. let h = c.step_main.ensures e in rw (c.if-tag-eq-OP_VAR.true, c.if-dim-eq-DIM_BASE.true) (h.0, rw (h.1, c.requires.1) h.2)

pub returns-then-tag-eq-OP_VAR : goal.returns-then-tag-eq-OP_VAR
unfolding leaf_value
returns-then-tag-eq-OP_VAR c = λ e. let h = c.step_aux.ensures e in rw (c.if-tag-eq-OP_VAR.true, c.if-dim-ne-DIM_EXT.false) (h.0, rw h.1 h.2)

pub returns-then-tag-eq-OP_CONST_BASE : goal.returns-then-tag-eq-OP_CONST_BASE
unfolding leaf_value
returns-then-tag-eq-OP_CONST_BASE c = λ e. rw c.if-tag-eq-OP_CONST_BASE.true (c.step_const.ensures e)

pub returns : goal.returns
returns c = let a = c.args in λ e. rw (leaf_entry a.s (lent_in a.inputs.now) a.tag a.x a.y c.if-tag-eq-OP_CONST_BASE.false c.if-tag-eq-OP_VAR.false) (c.step_entry.ensures e)
