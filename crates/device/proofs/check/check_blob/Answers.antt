use Rattle.device.proofs.CallLaws.{long_enough, check_over, check_short, check_legal}
use mathlib.Core.Path.{sym, ◌∙◌}
use Rattle.device.proofs.check.check_blob.Goals as goal

pub returns-then-over_shape : goal.returns-then-over_shape
returns-then-over_shape c = check_over _ _ _ (sym c.over_shape.ensures ∙ c.if-over_shape.true)

pub returns-then-short_check : goal.returns-then-short_check
returns-then-short_check c = check_short _ _ _ (sym c.over_shape.ensures ∙ c.if-over_shape.false) (sym c.short_check.ensures ∙ c.if-short_check.true)

pub legal_refusal-requires : goal.legal_refusal-requires
legal_refusal-requires c = let k = long_enough _ _ _ _ (sym c.short_check.ensures ∙ c.if-short_check.false) in (k.nodes_long, k.roots_long, k.marks_long)

pub returns : goal.returns
returns c = check_legal _ _ _ (sym c.over_shape.ensures ∙ c.if-over_shape.false) (sym c.short_check.ensures ∙ c.if-short_check.false) c.legal_refusal.ensures
