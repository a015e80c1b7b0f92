-- The promise of `mark_live` leaves one answer and one memory.
-- Assumes nothing.
use mathlib.Core.List.{List}
use mathlib.Core.Path.{◌≡◌, refl, sym, ap, ◌∙◌}
use Prim.Native.Nat.{ℕ, zero, suc, ◌<◌}
use native.Mathlib.Omega.{arith}
use lib.ListN.{length, get_or}
use Rattle.laws.specs.Lists.{tabulate}
use Rattle.laws.proofs.Tabulate.{tabulate_self}
use Rattle.ir.specs.declared.program.Counts.{Counts}
use Rattle.liveness.specs.LiveLists.{Tab, Alive}

pub tabulate_same : (k : ℕ) (f g : ℕ → ℕ) → ((i : ℕ) → i < k → f i ≡ g i) → tabulate k f ≡ tabulate k g
tabulate_same zero f g h = refl
tabulate_same (suc k) f g h = rw (h 0 (omega arith), tabulate_same k (λ i. f (suc i)) (λ i. g (suc i)) (λ i b. h (suc i) (omega arith))) refl

-- a list that is as long as its map says is the map's
listed_whole : (l : List ℕ) (n : ℕ) (f : ℕ → ℕ) → length l ≡ n → Tab l n f → l ≡ tabulate n f
listed_whole l n f e t = sym (tabulate_self l) ∙ ap (λ k. tabulate k (λ i. get_or l i 0)) e ∙ tabulate_same n (λ i. get_or l i 0) f t

pub mark_live_single : {c : Counts} {nodes roots used last pinned used' last' pinned' : List ℕ} {count count' : ℕ} → Alive c nodes roots used last pinned count → Alive c nodes roots used' last' pinned' count'
    → (count ≡ count') × (used ≡ used') × (last ≡ last') × (pinned ≡ pinned')
mark_live_single {c} {nodes} {roots} {used} {last} {pinned} {used'} {last'} {pinned'} a b = (
  a.counted ∙ sym b.counted,
  listed_whole used c.nodes _ a.long.0 a.emits ∙ sym (listed_whole used' c.nodes _ b.long.0 b.emits),
  listed_whole last c.nodes _ a.long.1 a.lasts ∙ sym (listed_whole last' c.nodes _ b.long.1 b.lasts),
  listed_whole pinned c.nodes _ a.long.2 a.pins ∙ sym (listed_whole pinned' c.nodes _ b.long.2 b.pins),
)
