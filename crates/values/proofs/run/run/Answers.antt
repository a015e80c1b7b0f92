use Rattle.values.proofs.RunLaws.{passed_low, passed_more, passed_all}
use Rattle.values.specs.Frame.{lent_in}
use native.Mathlib.Omega.{arith}
use mathlib.Core.Path.{◌≡◌}
use Rattle.values.proofs.run.run.Goals as goal

pub node_value-v-requires : goal.node_value-v-requires
node_value-v-requires c = let l = c.loop-i in let a = c.args in let h = c.loop-i.auto.i-end in (omega (arith, c.requires.room_long, l.invariant.long), c.requires.node l.i (omega arith), passed_low a.s (lent_in a.inputs.now) a.nodes.now a.room.now l.room l.i l.invariant)

pub loop-i-preserved : goal.loop-i-preserved
loop-i-preserved c = let l = c.loop-i in let a = c.args in passed_more a.s (lent_in a.inputs.now) a.nodes.now a.room.now l.room _ _ l.i _ (omega (arith, c.requires.room_long, l.invariant.long)) l.invariant (c.requires.node l.i (omega arith)) c.node_value-v.ensures c.store_value.ensures

pub returns : goal.returns
returns c = let l = c.loop-i in let a = c.args in let e : l.i ≡ a.n = omega arith in passed_all a.s (lent_in a.inputs.now) a.nodes.now a.room.now l.room a.n (rw e at l.invariant)
