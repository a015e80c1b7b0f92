use Rattle.liveness.specs.LiveLists.{Readers, SameMarks}
use mathlib.Core.Path.{◌≡◌}
use Rattle.liveness.proofs.liveness.Marks.mark_readers.Given as goal

abbrev pub invariant-loop-i : goal.invariant-loop-i
invariant-loop-i l =
    record {
      read : Readers l.nodes l.i l.n l.self.used.now l.self.last_use.now;
      roots : l.self.is_root.now ≡ l.initial.self.is_root.now;
      same : SameMarks l.self l.initial.self;
    }
