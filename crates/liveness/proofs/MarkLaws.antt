-- The liveness lists, node by node.
-- Assumes nothing.
use mathlib.Core.Bool.{Bool, true, false, cond, not, ◌||◌}
use mathlib.Core.List.{List, [], ◌∷◌}
use mathlib.Core.Path.{◌≡◌, refl, sym, ap, ◌∙◌}
use Prim.Native.Nat.{ℕ, zero, suc, ◌+◌, ◌<◌, ◌≤◌}
use native.Mathlib.Omega.{arith}
use native.Mathlib.Numerals.{add-one}
use lib.Dec.{eqb}
use lib.ListN.{length, get_or, set, length-set}
use lib.Seq.{get_or-set_same, get_or-set_other}
use borrow.Author.Tests.{eqb-true, eqb-false, eq-eqb, ne_eqb}
use Rattle.laws.specs.Folds.{any_below}
use Rattle.laws.proofs.Cases.{by_test}
use Rattle.laws.proofs.Tests.{clash}
use Rattle.ir.specs.declared.program.Counts.{Counts}
use Rattle.ir.specs.Words.{node_at}
use Rattle.liveness.specs.Liveness.{reads_of, last_by, is_root_of, is_used, live}
use Rattle.liveness.specs.LiveLists.{bit, Readers, NodeMarked, Rooted, emits_word, count_below, busy, Emits, LiveOk, Alive}

-- where nothing is held, every word is 0
pub idle : (l : List ℕ) → busy l ≡ 0 → (j : ℕ) → get_or l j 0 ≡ 0
unfolding busy
idle [] e j = refl
idle (x ∷ l) e zero = by_test (eqb x 0) (x ≡ 0) (λ t. eqb-true x 0 t) λ t. absurd (omega (arith, rw t at e))
idle (x ∷ l) e (suc j) = idle l (by_test (eqb x 0) (busy l ≡ 0) (λ t. rw t at e) λ t. absurd (omega (arith, rw t at e))) j

-- a store, as a change of the map
pub set_at : (l : List ℕ) (x v j : ℕ) → x < length l → get_or (set l x v) j 0 ≡ cond (eqb j x) v (get_or l j 0)
set_at l x v j h =
    by_test (eqb j x) (get_or (set l x v) j 0 ≡ cond (eqb j x) v (get_or l j 0))
    (λ t. rw (t, eqb-true j x t) (get_or-set_same l x v 0 h))
    λ t. rw t (get_or-set_other l x j v 0 (eqb-false j x t))

eqb_swap : (a b : ℕ) → eqb a b ≡ eqb b a
eqb_swap a b =
    by_test (eqb a b) (eqb a b ≡ eqb b a)
    (λ t. t ∙ sym (eq-eqb b a (sym (eqb-true a b t))))
    λ t. t ∙ sym (ne_eqb b a (λ e. eqb-false a b t (sym e)))

-- one node more
pub readers_more : (nodes : List ℕ) (i n : ℕ) {used last used' last' : List ℕ} → Readers nodes i n used last
    → NodeMarked i (node_at nodes i).tag (node_at nodes i).x (node_at nodes i).y used last used' last' → Readers nodes (i + 1) n used' last'
unfolding any_below last_by
readers_more nodes i n {used} {last} r m =
    record {
      used_long = m.used_long ∙ r.used_long;
      last_long = m.last_long ∙ r.last_long;
      reads = λ j h. rw (add-one i) (m.reads j ∙ ap (cond (reads_of nodes j i) 1) (r.reads j h) ∙ marked (reads_of nodes j i) (any_below (reads_of nodes j) i));
      lasts = λ j h. rw (add-one i) (m.lasts j ∙ ap (cond (reads_of nodes j i) i) (r.lasts j h));
    }
  where
    marked : (t before : Bool) → cond t 1 (bit before) ≡ bit (before || t)
    marked true true = refl
    marked true false = refl
    marked false true = refl
    marked false false = refl

-- one root more
pub rooted_more : (roots : List ℕ) (k n : ℕ) (marks : List ℕ) (marks' : List ℕ) → get_or roots k 0 < n → marks' ≡ set marks (get_or roots k 0) 1 → Rooted roots k n marks → Rooted roots (k + 1) n marks'
unfolding any_below
rooted_more roots k n marks marks' h e m =
    let x = get_or roots k 0 in (
      rw e (length-set marks x 1 ∙ m.0),
      λ j b. rw (add-one k, e)
          (set_at marks x 1 j (omega (arith, m.0)) ∙ ap (cond (eqb j x) 1) (m.1 j b)
          ∙ marked (eqb j x) (eqb x j) (eqb_swap j x) (any_below (λ r. eqb (get_or roots r 0) j) k)),
    )
  where
    marked : (t u : Bool) → t ≡ u → (before : Bool) → cond t 1 (bit before) ≡ bit (before || u)
    marked true true e true = refl
    marked true true e false = refl
    marked false false e true = refl
    marked false false e false = refl
    marked true false e b = clash refl e
    marked false true e b = clash e refl

-- ---- which nodes are emitted

module _ (nodes root old : List ℕ) where
  pub emits_none : Emits 0 nodes root old old 0
  unfolding count_below
  emits_none =
      record { long = refl; done = λ j h. absurd (omega arith); rest = λ j h. refl; counted = refl; few = omega arith }

  -- one node more
  pub emits_more : (i count e : ℕ) (new : List ℕ) → i < length old → e ≡ bit (emits_word (node_at nodes i).tag (get_or new i 0) (get_or root i 0))
      → Emits i nodes root old new count → Emits (i + 1) nodes root old (set new i e) (count + e)
  unfolding count_below
  emits_more i count e new h q m =
      let f : e ≡ bit (emits_word (node_at nodes i).tag (get_or old i 0) (get_or root i 0)) = rw (m.rest i (omega arith)) at q in
      record {
        long = length-set new i e ∙ m.long;
        done = λ j b. set_at new i e j (omega (arith, m.long))
            ∙ by_test (eqb j i) (cond (eqb j i) e (get_or new j 0) ≡ bit (emits_word (node_at nodes j).tag (get_or old j 0) (get_or root j 0)))
            (λ t. rw (t, eqb-true j i t) f)
            λ t. rw t (m.done j (omega (arith, eqb-false j i t)));
        rest = λ j b. set_at new i e j (omega (arith, m.long)) ∙ rw (ne_eqb j i (λ z. absurd (omega arith))) (m.rest j (omega arith));
        counted = rw (add-one i, ← f) (ap (λ k. k + e) m.counted);
        few = omega (arith, m.few, bit_low (emits_word (node_at nodes i).tag (get_or old i 0) (get_or root i 0)), f);
      }
    where
      bit_low : (b : Bool) → bit b ≤ 1
      bit_low true = omega arith
      bit_low false = omega arith

-- ---- the whole pass

true_bit : (b : Bool) → not (eqb (bit b) 0) ≡ b
true_bit true = refl
true_bit false = refl

count_same : (t u : ℕ → Bool) (k : ℕ) → ((j : ℕ) → j < k → t j ≡ u j) → count_below t k ≡ count_below u k
unfolding count_below
count_same t u zero h = refl
count_same t u (suc k) h = rw (count_same t u k (λ j b. h j (omega arith)), h k (omega arith)) refl

module _ (c : Counts) (nodes roots used₀ last₀ pinned₀ : List ℕ) (g : LiveOk c nodes roots used₀ last₀ pinned₀) where
  pub readers_none : Readers nodes 0 c.nodes used₀ last₀
  unfolding any_below last_by
  readers_none =
      record {
        used_long = g.long.0;
        last_long = g.long.1;
        reads = λ j h. idle used₀ g.clear.0 j;
        lasts = λ j h. idle last₀ g.clear.1 j;
      }

  pub rooted_none : Rooted roots 0 c.nodes pinned₀
  unfolding any_below
  rooted_none = (g.long.2, λ j h. idle pinned₀ g.clear.2 j)

  pub alive : (used used' last pinned : List ℕ) (count : ℕ) → Readers nodes c.nodes c.nodes used last → Rooted roots c.roots c.nodes pinned
      → Emits (length used) nodes pinned used used' count → Alive c nodes roots used' last pinned count
  unfolding is_used is_root_of
  alive used used' last pinned count r m e =
      let n = c.nodes in
      let same : (j : ℕ) → j < n → emits_word (node_at nodes j).tag (get_or used j 0) (get_or pinned j 0) ≡ (live c nodes roots).emitted j =
      λ j h. rw (r.reads j h, m.1 j h, true_bit (any_below (reads_of nodes j) n), true_bit (any_below (λ i. eqb (get_or roots i 0) j) c.roots)) refl
      in
      let f = e.counted in
      record {
        long = (e.long ∙ r.used_long, r.last_long, m.0);
        emits = λ j h. e.done j (omega (arith, r.used_long)) ∙ ap bit (same j h);
        lasts = r.lasts;
        pins = m.1;
        counted = f ∙ ap (count_below (λ j. emits_word (node_at nodes j).tag (get_or used j 0) (get_or pinned j 0))) r.used_long ∙ count_same _ (live c nodes roots).emitted n same;
        few = omega (arith, e.few, r.used_long);
      }
