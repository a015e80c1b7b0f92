use Rattle.walk.proofs.NodeLaws.{ext_slot_in, base_slot_in}
use native.Mathlib.Omega.{arith}
use mathlib.Core.Path.{sym, ◌∙◌}
use Rattle.walk.proofs.row.store.Goals as goal

pub store-requires : goal.store-requires
store-requires c = let a = c.args in let p = c.requires in let k = ext_slot_in a.c a.res (sym c.is_ext.ensures ∙ c.if-is_ext.true) p.0 in rw c.slot_of-k.ensures (omega (arith, k, p.1))

pub bounds-slots-k : goal.bounds-slots-k
bounds-slots-k c = let a = c.args in let p = c.requires in let k = base_slot_in a.c a.res (sym c.is_ext.ensures ∙ c.if-is_ext.false) p.0 in rw c.slot_of-k.ensures (omega (arith, k, p.1))

pub returns-then-is_ext : goal.returns-then-is_ext
returns-then-is_ext c = rw (sym c.is_ext.ensures ∙ c.if-is_ext.true, ← c.slot_of-k.ensures) c.store.ensures

pub returns-else-is_ext : goal.returns-else-is_ext
returns-else-is_ext c = rw (sym c.is_ext.ensures ∙ c.if-is_ext.false, ← c.slot_of-k.ensures)
