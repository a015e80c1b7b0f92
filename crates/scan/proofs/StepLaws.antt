-- What the operands of a node give back, over the lists.
-- Assumes nothing.
use Rattle.scan_parts.proofs.SpellLaws.{w, operands_two, operands_one}
use mathlib.Core.List.{List}
use mathlib.Core.Path.{sym, ap, ◌∙◌}
use Prim.Native.Nat.{ℕ, ◌*◌, ◌<◌, ◌≤◌}
use native.Mathlib.Omega.{arith}
use Rattle.scan_parts.specs.Scan.{give}
use Rattle.scan_parts.specs.Pools.{GiveOk, Gives}
use Rattle.scan.specs.Arrays.{Released}
use Rattle.liveness.specs.LiveLists.{listed}

module _ (i : ℕ) (nodes last pinned slot free tops next : List ℕ) where
  -- one that could give its slot back can after another has
  pub give_ok_after : (j k : ℕ) {slot' free' tops' : List ℕ} → GiveOk j nodes last pinned slot free tops next → Gives i k nodes last pinned slot free tops next slot' free' tops'
      → GiveOk j nodes last pinned slot' free' tops' next
  give_ok_after j k g v =
      record {
        place = rw v.long.0 g.place;
        last_long = g.last_long ∙ sym v.long.0;
        pinned_long = g.pinned_long ∙ sym v.long.0;
        free_long = v.long.1 ∙ g.free_long ∙ ap (λ n. 2 * n) (sym v.long.0);
        class = g.class;
        pairs = (v.long.2, g.pairs.1);
        few = omega (arith, v.few, v.long.0, g.few);
      }

  module _ (h : 6 ≤ (w nodes i).tag) (slot₁ free₁ tops₁ : List ℕ) (g : Gives i (w nodes i).x nodes last pinned slot free tops next slot₁ free₁ tops₁) where
    pub released_one : 9 ≤ (w nodes i).tag → Released i nodes last pinned slot free tops next slot₁ free₁ tops₁
    released_one k =
        record { long = g.long; few = g.few; follows = λ emitted s v. rw (operands_one nodes i h k) (g.follows emitted s v) }

    pub released_two : (slot₂ free₂ tops₂ : List ℕ) → (w nodes i).tag < 9 → Gives i (w nodes i).y nodes last pinned slot₁ free₁ tops₁ next slot₂ free₂ tops₂
        → Released i nodes last pinned slot free tops next slot₂ free₂ tops₂
    released_two slot₂ free₂ tops₂ k g₂ =
        record {
          long = (g₂.long.0 ∙ g.long.0, g₂.long.1 ∙ g.long.1, g₂.long.2);
          few = g₂.few ∙ g.few;
          follows = λ emitted s v. rw (operands_two nodes i h k)
              (rw g.long.0 at (g₂.follows emitted (give nodes (listed emitted last pinned) i (w nodes i).x s) (rw (← g.long.0) at (g.follows emitted s v))));
        }
