use Rattle.values.specs.Frame.{lent_in}
use Rattle.slots.proofs.LoadLaws.{ext_legal, ext_base_slot, ext_ext_slot, ext_base_const, ext_ext_const, ext_challenge, ext_alpha, ext_offset, last_kind}
use native.Mathlib.Omega.{arith}
use mathlib.Core.Path.{sym, ◌∙◌}
use Rattle.slots.proofs.load.load_ext.Goals as goal

pub bounds-slots-k : goal.bounds-slots-k
bounds-slots-k c = let p = c.requires in let a = c.args in let i = ext_legal a.c a.s a.w p.2 in let k = i.base_slot (sym c.kind_of.ensures ∙ c.in-0.is) in rw c.payload_of-k.ensures (omega (arith, k, p.1))

pub load-requires : goal.load-requires
load-requires c = let p = c.requires in let a = c.args in let i = ext_legal a.c a.s a.w p.2 in let k = i.ext_slot (sym c.kind_of.ensures ∙ c.in-1.is) in rw c.payload_of-k.ensures (omega (arith, k, p.1))

pub bounds-inputs-k : goal.bounds-inputs-k
bounds-inputs-k c = let p = c.requires in let a = c.args in let i = ext_legal a.c a.s a.w p.2 in let k = i.base_const (sym c.kind_of.ensures ∙ c.in-2.is) in rw c.payload_of-k.ensures (omega (arith, k, p.0.bases_long))

pub load-requires-in-3 : goal.load-requires-in-3
load-requires-in-3 c = let p = c.requires in let a = c.args in let i = ext_legal a.c a.s a.w p.2 in let k = i.ext_const (sym c.kind_of.ensures ∙ c.in-3.is) in rw c.payload_of-k.ensures (omega (arith, k, p.0.exts_long))

pub load-requires-in-4 : goal.load-requires-in-4
load-requires-in-4 c = let p = c.requires in let a = c.args in let i = ext_legal a.c a.s a.w p.2 in let k = i.challenge (sym c.kind_of.ensures ∙ c.in-4.is) in rw c.payload_of-k.ensures (omega (arith, k, p.0.challenges_long))

pub load-requires-in-5 : goal.load-requires-in-5
load-requires-in-5 c = let p = c.requires in let a = c.args in let i = ext_legal a.c a.s a.w p.2 in let k = i.alpha (sym c.kind_of.ensures ∙ c.in-5.is) in rw c.payload_of-k.ensures (omega (arith, k, p.0.alphas_long))

pub returns-in-0 : goal.returns-in-0
returns-in-0 c = let a = c.args in ext_base_slot a.c a.s (lent_in a.inputs.now) a.slots.now a.w (sym c.kind_of.ensures ∙ c.in-0.is) (rw c.payload_of-k.ensures at c.embed.ensures)

pub returns-in-1 : goal.returns-in-1
returns-in-1 c = let a = c.args in ext_ext_slot a.c a.s (lent_in a.inputs.now) a.slots.now a.w (sym c.kind_of.ensures ∙ c.in-1.is) (rw c.payload_of-k.ensures at c.load.ensures)

pub returns-in-2 : goal.returns-in-2
returns-in-2 c = let a = c.args in ext_base_const a.c a.s (lent_in a.inputs.now) a.slots.now a.w (sym c.kind_of.ensures ∙ c.in-2.is) (rw c.payload_of-k.ensures at c.embed-in-2.ensures)

pub returns-in-3 : goal.returns-in-3
returns-in-3 c = let a = c.args in ext_ext_const a.c a.s (lent_in a.inputs.now) a.slots.now a.w (sym c.kind_of.ensures ∙ c.in-3.is) (rw c.payload_of-k.ensures at c.load-in-3.ensures)

pub returns-in-4 : goal.returns-in-4
returns-in-4 c = let a = c.args in ext_challenge a.c a.s (lent_in a.inputs.now) a.slots.now a.w (sym c.kind_of.ensures ∙ c.in-4.is) (rw c.payload_of-k.ensures at c.load-in-4.ensures)

pub returns-in-5 : goal.returns-in-5
returns-in-5 c = let a = c.args in ext_alpha a.c a.s (lent_in a.inputs.now) a.slots.now a.w (sym c.kind_of.ensures ∙ c.in-5.is) (rw c.payload_of-k.ensures at c.load-in-5.ensures)

pub returns-in_default : goal.returns-in_default
returns-in_default c = let p = c.requires in let a = c.args in let i = ext_legal a.c a.s a.w p.2 in let q = c.in_default.in_default-own.rest in ext_offset a.c a.s (lent_in a.inputs.now) a.slots.now a.w (sym c.kind_of.ensures ∙ last_kind (rw c.kind_of.ensures i.known) q.0.0.0.0.0.1 q.0.0.0.0.1 q.0.0.0.1 q.0.0.1 q.0.1 q.1)
