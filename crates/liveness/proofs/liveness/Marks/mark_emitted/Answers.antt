use Rattle.liveness.specs.LiveLists.{bit}
use Rattle.liveness.proofs.MarkLaws.{emits_none, emits_more}
use mathlib.Core.Bool.{Bool, true, false}
use mathlib.Core.Path.{◌≡◌, ◌∙◌, ap, refl, sym}
use mir.Val.{bool_byte}
use Rattle.liveness.proofs.liveness.Marks.mark_emitted.Goals as goal

byte_bit : (b : Bool) → bool_byte b ≡ bit b
byte_bit true = refl
byte_bit false = refl

pub loop-i-init : goal.loop-i-init
loop-i-init c = record { emitted = emits_none _ _ _; roots = refl; last = refl; same = (refl, refl, refl) }

pub loop-i-preserved : goal.loop-i-preserved
loop-i-preserved c =
    let l = c.loop-i in
    let e = c.from.ensures in
    record {
      emitted = rw (c.from-count.ensures ∙ sym e) (emits_more _ _ _ l.i l.count c.from.result _ c.loop-i-test.true (e ∙ byte_bit _ ∙ ap bit c.emits-emitted.ensures) l.invariant.emitted);
      roots = l.invariant.roots;
      last = l.invariant.last;
      same = l.invariant.same;
    }
