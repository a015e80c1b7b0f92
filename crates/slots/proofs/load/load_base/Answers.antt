use Rattle.slots.proofs.LoadLaws.{base_legal, reads_base_slot, reads_base_const}
use native.Mathlib.Omega.{arith}
use mathlib.Core.Path.{sym, ◌∙◌}
use Rattle.slots.proofs.load.load_base.Goals as goal

pub bounds-slots-k : goal.bounds-slots-k
bounds-slots-k c = let p = c.requires in let a = c.args in let k = (base_legal a.c a.w p.2).0 (sym c.kind_of.ensures ∙ c.in-0.is) in rw c.payload_of-k.ensures (omega (arith, k, p.1))

pub bounds-bases-k : goal.bounds-bases-k
bounds-bases-k c = let p = c.requires in let a = c.args in let k = (base_legal a.c a.w p.2).1 (λ e. c.in_default.in_default-own.rest.1 (c.kind_of.ensures ∙ e)) in rw c.payload_of-k.ensures (omega (arith, k.1, p.0))

pub returns-in-0 : goal.returns-in-0
returns-in-0 c = let a = c.args in rw c.payload_of-k.ensures (reads_base_slot a.c a.bases.now a.slots.now a.w (sym c.kind_of.ensures ∙ c.in-0.is))

pub returns-in_default : goal.returns-in_default
returns-in_default c = let p = c.requires in let a = c.args in let k = (base_legal a.c a.w p.2).1 (λ e. c.in_default.in_default-own.rest.1 (c.kind_of.ensures ∙ e)) in rw c.payload_of-k.ensures (reads_base_const a.c a.bases.now a.slots.now a.w k.0)
