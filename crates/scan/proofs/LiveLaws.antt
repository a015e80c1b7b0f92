-- Document 01's liveness is sound.
-- Assumes nothing.
use mathlib.Core.Bool.{Bool, true, false, not, ◌&&◌, ◌||◌}
use mathlib.Core.List.{List}
use mathlib.Core.Logic.{by_cases}
use mathlib.Core.Path.{◌≡◌, refl, sym, ap, ◌∙◌}
use Prim.Native.Nat.{ℕ, zero, suc, ◌<◌, ◌≤◌}
use native.Mathlib.Decide.{ℕ_discrete}
use native.Mathlib.Omega.{arith}
use lib.Dec.{eqb}
use lib.ListN.{get_or}
use borrow.Author.Tests.{eq-eqb}
use Rattle.laws.specs.Folds.{any_below}
use Rattle.laws.proofs.Tests.{clash}
use Rattle.ir.specs.declared.program.Counts.{Counts}
use Rattle.ir.specs.Words.{node_at}
use Rattle.liveness.specs.Liveness.{is_uniform, Sound, reads_of, is_root_of, last_by, is_used, live}
use Rattle.scan.proofs.ScanLaws.{cond_case}

-- one that holds is enough
any_some : (t : ℕ → Bool) (n i : ℕ) → i < n → t i ≡ true → any_below t n ≡ true
unfolding any_below
any_some t zero i h e = absurd (omega arith)
any_some t (suc n) i h e =
    by_cases (ℕ_discrete i n) (λ q. or_second (any_below t n) (ap t (sym q) ∙ e)) λ q. rw (any_some t n i (omega arith) e) refl
  where
    or_second : (a : Bool) {b : Bool} → b ≡ true → (a || b) ≡ true
    or_second true f = refl
    or_second false f = f

-- a root is used, and never left out; what is read and left out is a uniform leaf
root_in : (used root uniform : Bool) → root ≡ true → ((used || root) && (not uniform || root)) ≡ true
root_in used false uniform e = clash refl (sym e)
root_in true true true e = refl
root_in true true false e = refl
root_in false true true e = refl
root_in false true false e = refl

left_out : (used root uniform : Bool) → used ≡ true → ((used || root) && (not uniform || root)) ≡ false → uniform ≡ true
left_out used root true u e = refl
left_out used root false u e = clash (rw u refl) e

module _ (c : Counts) (nodes roots : List ℕ) where
  root_is : (r : ℕ) → r < c.roots → is_root_of c roots (get_or roots r 0) ≡ true
  unfolding is_root_of
  root_is r h = any_some (λ k. eqb (get_or roots k 0) (get_or roots r 0)) c.roots r h (eq-eqb (get_or roots r 0) (get_or roots r 0) refl)

  last_after : (k i j : ℕ) → i < k → reads_of nodes j i ≡ true → i ≤ last_by nodes k j
  unfolding last_by
  last_after zero i j h e = absurd (omega arith)
  last_after (suc k) i j h e =
      let ih = last_after k i j in
      cond_case (λ (x : ℕ). i ≤ x) (reads_of nodes j k) k (last_by nodes k j) (λ q. omega arith)
      λ q. by_cases (ℕ_discrete i k) (λ z. clash (ap (reads_of nodes j) (sym z) ∙ e) q) λ z. ih (omega arith) e

  pub live_sound : Sound c nodes roots (live c nodes roots)
  unfolding is_used
  live_sound =
      record {
        root_emitted =
            λ r h. let j = get_or roots r 0 in
            root_in (any_below (reads_of nodes j) c.nodes) (is_root_of c roots j) (is_uniform (node_at nodes j)) (root_is r h);
        root_pinned = root_is;
        operand_named =
            λ i j h e o q. left_out (any_below (reads_of nodes j) c.nodes) (is_root_of c roots j) (is_uniform (node_at nodes j))
            (any_some (reads_of nodes j) c.nodes i h o) q;
        last_read = λ i j h e o q. last_after c.nodes i j h o;
      }
