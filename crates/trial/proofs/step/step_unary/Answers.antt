-- `step_unary` meets its contract.
-- Assumes nothing.
use Rattle.trial_parts.proofs.StepLaws.{neg_ok, embed_ok}
use Rattle.values.proofs.OperationLaws.{negation_base, negation_ext, embedding}
use native.Mathlib.Omega.{arith}
use mathlib.Core.List.{[], ◌∷◌}
use mathlib.Core.Path.{refl, sym, ◌∙◌}
use Rattle.trial.proofs.step.step_unary.Goals as goal

pub returns-then-dim-eq-DIM_BASE : goal.returns-then-dim-eq-DIM_BASE
returns-then-dim-eq-DIM_BASE c = let a = c.args in let t = c.if-tag-eq-OP_NEG.true in let d = c.if-dim-eq-DIM_BASE.true in let w = c.if-room-at.false in λ e. rw d (record { limbs = _ ∷ 0 ∷ 0 ∷ []; operands_ok = neg_ok a.room.now a.i a.tag a.x a.y 0 t c.if-y-ne0.false (w ∙ d); operates = negation_base a.room.now a.tag a.x a.y t (w ∙ d) c.neg-v.ensures; stored = c.put_base.ensures })

pub returns-then-tag-eq-OP_NEG : goal.returns-then-tag-eq-OP_NEG
returns-then-tag-eq-OP_NEG c = let a = c.args in let t = c.if-tag-eq-OP_NEG.true in let d = c.if-dim-ne-DIM_EXT.false in let w = c.if-room-at.false in λ e. rw d (record { limbs = _; operands_ok = neg_ok a.room.now a.i a.tag a.x a.y 1 t c.if-y-ne0.false (w ∙ d); operates = negation_ext a.room.now a.tag a.x a.y t (λ z. c.if-dim-eq-DIM_BASE.false (sym w ∙ z)) c.load.ensures c.neg-v-then-tag-eq-OP_NEG.ensures; stored = c.put_ext.ensures })

pub returns : goal.returns
returns c = let a = c.args in let t = c.if-tag-ne-OP_EMBED.false in let d = c.if-dim-ne-DIM_EXT-2.false in λ e. rw d (record { limbs = _; operands_ok = embed_ok a.room.now a.i a.tag a.x a.y 1 t c.if-y-ne0.false refl; operates = embedding a.room.now a.tag a.x a.y c.requires.0 (omega (arith, t)) c.if-tag-eq-OP_NEG.false c.load-2.ensures c.reduce-v.ensures; stored = c.put_ext-2.ensures })
