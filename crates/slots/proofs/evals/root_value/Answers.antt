use Rattle.slots.proofs.RootLaws.{reads_ext_root, reads_base_root}
use mathlib.Core.Path.{sym, ◌∙◌}
use Rattle.slots.proofs.evals.root_value.Goals as goal

pub returns-then-is_ext : goal.returns-then-is_ext
returns-then-is_ext c = let a = c.args in reads_ext_root a.c a.slots.now a.w (sym c.is_ext.ensures ∙ c.if-is_ext.true) (rw c.slot_of-k.ensures at c.load.ensures) c.reduce.ensures

pub returns-else-is_ext : goal.returns-else-is_ext
returns-else-is_ext c = let a = c.args in reads_base_root a.c a.slots.now a.w (sym c.is_ext.ensures ∙ c.if-is_ext.false) (rw c.slot_of-k.ensures at c.embed.ensures)
