use Rattle.scan.proofs.ReadyLaws.{begins, ready, scanned_more}
use mathlib.Core.Path.{refl, ◌∙◌}
use Rattle.scan.proofs.scan.scan_nodes.Goals as goal

pub loop-i-init : goal.loop-i-init
loop-i-init c = record { long = refl; same = (refl, refl, refl); scanned = begins _ _ _ _ _ _ _ c.requires }

pub step-requires : goal.step-requires
step-requires c = let l = c.loop-i.invariant in ready _ _ _ _ _ _ _ c.requires _ _ _ _ _ _ _ l.scanned l.long c.loop-i-test.true

pub loop-i-preserved : goal.loop-i-preserved
loop-i-preserved c =
    let l = c.loop-i.invariant in
    let m = c.step.ensures in
    record {
      long = m.advanced.stands.slot_long ∙ l.long;
      same = (m.same_lists.0 ∙ l.same.0, m.same_lists.1 ∙ l.same.1, m.same_lists.2 ∙ l.same.2);
      scanned = scanned_more _ _ _ _ _ _ _ c.requires _ _ _ _ _ _ _ l.scanned l.long _ _ _ _ _ _ m.advanced;
    }
