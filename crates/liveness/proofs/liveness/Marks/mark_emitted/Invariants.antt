use Rattle.liveness.specs.LiveLists.{Emits, SameMarks}
use mathlib.Core.Path.{◌≡◌}
use Rattle.liveness.proofs.liveness.Marks.mark_emitted.Given as goal

abbrev pub invariant-loop-i : goal.invariant-loop-i
invariant-loop-i l =
    record {
      emitted : Emits l.i l.nodes l.self.is_root.now l.initial.self.used.now l.self.used.now l.count;
      roots : l.self.is_root.now ≡ l.initial.self.is_root.now;
      last : l.self.last_use.now ≡ l.initial.self.last_use.now;
      same : SameMarks l.self l.initial.self;
    }
