use Rattle.liveness.proofs.MarkLaws.{readers_more}
use mathlib.Core.Path.{◌∙◌}
use Rattle.liveness.proofs.liveness.Marks.mark_readers.Goals as goal

pub loop-i-preserved : goal.loop-i-preserved
loop-i-preserved c =
    let l = c.loop-i.invariant in
    let m = c.mark_node.ensures in
    record {
      read = readers_more _ _ _ l.read m.marked.0;
      roots = m.marked.1 ∙ l.roots;
      same = (m.same_marks.0 ∙ l.same.0, m.same_marks.1 ∙ l.same.1, m.same_marks.2 ∙ l.same.2);
    }
