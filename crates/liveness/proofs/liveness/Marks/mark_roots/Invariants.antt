use Rattle.liveness.specs.LiveLists.{Rooted, SameMarks}
use mathlib.Core.Path.{◌≡◌}
use Rattle.liveness.proofs.liveness.Marks.mark_roots.Given as goal

abbrev pub invariant-loop-j : goal.invariant-loop-j
invariant-loop-j l =
    record {
      rooted : Rooted l.roots l.j-index l.n l.self.is_root.now;
      used : l.self.used.now ≡ l.initial.self.used.now;
      last : l.self.last_use.now ≡ l.initial.self.last_use.now;
      same : SameMarks l.self l.initial.self;
    }
