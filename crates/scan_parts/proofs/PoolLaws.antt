-- The lists of the scan: free slots as stacks, and how many there are.
-- Assumes nothing.
use mathlib.Core.Bool.{Bool, true, not, ◌&&◌}
use mathlib.Core.List.{List, [], ◌∷◌}
use mathlib.Core.Path.{◌≡◌, refl, sym, ap, ◌∙◌}
use Prim.Native.Nat.{ℕ, zero, suc, ◌+◌, ◌-◌, ◌*◌, ◌<◌, ◌≤◌}
use native.Mathlib.Omega.{arith}
use native.Mathlib.Numerals.{add-one}
use lib.Dec.{eqb}
use lib.ListN.{length, get_or, set, length-set}
use lib.Seq.{get_or-set_same, get_or-set_other}
use borrow.Author.Tests.{eq-eqb, ne_eqb}
use Rattle.laws.specs.Maps.{upd}
use Rattle.laws.proofs.Cases.{by_test}
use Rattle.ir.specs.Words.{node_at}
use Rattle.scan_parts.specs.Pools.{stack, Takes, GiveOk, Gives}
use Rattle.liveness.specs.LiveLists.{Tab, busy}
use Rattle.scan_parts.proofs.UpdLaws.{upd_case}

-- ---- taking a slot

module _ (class : ℕ) (free tops next : List ℕ) (h : class < 2) (pairs : (length tops ≡ 2) × (length next ≡ 2)) where
  -- where none is free: a new number
  pub takes_new : get_or tops class 0 ≡ 0 → Takes class free tops next (get_or next class 0) tops (set next class (get_or next class 0 + 1))
  unfolding stack
  takes_new e =
      record {
        picked = rw e refl;
        rest = rw e refl;
        count = get_or-set_same next class (get_or next class 0 + 1) 0 (omega (arith, pairs.1)) ∙ rw e (add-one (get_or next class 0));
        other_tops = λ c n. refl;
        other_next = λ c n. get_or-set_other next class c (get_or next class 0 + 1) 0 n;
        fewer = omega arith;
        pairs = (pairs.0, length-set next class (get_or next class 0 + 1) ∙ pairs.1);
      }

  -- else the last freed
  pub takes_last : (get_or tops class 0 ≡ 0 → ⊥) → Takes class free tops next (get_or free (2 * (get_or tops class 0 - 1) + class) 0) (set tops class (get_or tops class 0 - 1)) next
  unfolding stack
  takes_last n = go (get_or tops class 0) refl n
    where
      go : (k : ℕ) → get_or tops class 0 ≡ k → (k ≡ 0 → ⊥) → Takes class free tops next (get_or free (2 * (get_or tops class 0 - 1) + class) 0) (set tops class (get_or tops class 0 - 1)) next
      go zero e n = absurd (n refl)
      go (suc k) e n =
          let f : get_or tops class 0 - 1 ≡ k = omega arith in
          let g = get_or-set_same tops class k 0 (omega (arith, pairs.0)) in
          rw f
          (record {
            picked = rw e refl;
            rest = rw (e, g) refl;
            count = rw e refl;
            other_tops = λ c m. get_or-set_other tops class c k 0 m;
            other_next = λ c m. refl;
            fewer = omega (arith, e, g);
            pairs = (length-set tops class k ∙ pairs.0, pairs.1);
          })

-- ---- stacks

-- a store at another place
stack_other : (l : List ℕ) (at v c k : ℕ) → ((t : ℕ) → t < k → 2 * t + c ≡ at → ⊥) → stack (set l at v) c k ≡ stack l c k
unfolding stack
stack_other l at v c zero h = refl
stack_other l at v c (suc k) h =
    rw (get_or-set_other l at (2 * k + c) v 0 (h k (omega arith)), stack_other l at v c k (λ t b. h t (omega arith))) refl

-- a push onto class c, seen from class d
pub stack_push : (l : List ℕ) (v c k : ℕ) → 2 * k + c < length l → stack (set l (2 * k + c) v) c (k + 1) ≡ v ∷ stack l c k
unfolding stack
stack_push l v c k h =
    rw (add-one k, get_or-set_same l (2 * k + c) v 0 h, stack_other l (2 * k + c) v c k (λ t b e. absurd (omega arith))) refl

pub stack_apart : (l : List ℕ) (v c k d m : ℕ) → c < 2 → d < 2 → (d ≡ c → ⊥) → stack (set l (2 * k + c) v) d m ≡ stack l d m
stack_apart l v c k d m hc hd n = stack_other l (2 * k + c) v d m (λ t b e. n (omega arith))

-- ---- slots that are held

pub busy_clear : (l : List ℕ) (j : ℕ) → (get_or l j 0 ≡ 0 → ⊥) → busy l ≡ suc (busy (set l j 0))
unfolding busy
busy_clear [] j n = absurd (n refl)
busy_clear (x ∷ l) zero n = rw (ne_eqb x 0 n) refl
busy_clear (x ∷ l) (suc j) n =
    by_test (eqb x 0) (busy (x ∷ l) ≡ suc (busy (set (x ∷ l) (suc j) 0))) (λ t. rw t (busy_clear l j n)) λ t. rw t (ap suc (busy_clear l j n))

pub busy_set : (l : List ℕ) (j v : ℕ) → busy (set l j v) ≤ suc (busy l)
unfolding busy
busy_set [] j v = omega arith
busy_set (x ∷ l) zero v =
    by_test (eqb x 0) (busy (set (x ∷ l) zero v) ≤ suc (busy (x ∷ l)))
    (λ t. by_test (eqb v 0) (busy (v ∷ l) ≤ suc (busy (x ∷ l))) (λ u. rw (t, u) (omega arith)) λ u. rw (t, u) (omega arith))
    λ t. by_test (eqb v 0) (busy (v ∷ l) ≤ suc (busy (x ∷ l))) (λ u. rw (t, u) (omega arith)) λ u. rw (t, u) (omega arith)
busy_set (x ∷ l) (suc j) v =
    let h = busy_set l j v in
    by_test (eqb x 0) (busy (set (x ∷ l) (suc j) v) ≤ suc (busy (x ∷ l))) (λ t. rw t h) λ t. rw t (omega arith)

-- a store, as a change of the map
pub tab_set : (l : List ℕ) (n : ℕ) (f : ℕ → ℕ) (i v : ℕ) → i < length l → Tab l n f → Tab (set l i v) n (upd f i v)
tab_set l n f i v h t j b =
    upd_case (λ x. get_or (set l i v) j 0 ≡ x) f i v j (λ q. rw q (get_or-set_same l i v 0 h)) λ q. get_or-set_other l i j v 0 q ∙ t j b

-- the tops of both classes, where one grows
tops_push : (tops : List ℕ) (c : ℕ) → c < 2 → length tops ≡ 2 → get_or (set tops c (get_or tops c 0 + 1)) 0 0 + get_or (set tops c (get_or tops c 0 + 1)) 1 0 ≡ suc (get_or tops 0 0 + get_or tops 1 0)
tops_push (a ∷ b ∷ []) zero h e = omega arith
tops_push (a ∷ b ∷ []) (suc zero) h e = omega arith
tops_push (a ∷ b ∷ []) (suc (suc c)) h e = absurd (omega arith)
tops_push [] c h e = absurd (omega arith)
tops_push (a ∷ []) c h e = absurd (omega arith)
tops_push (a ∷ b ∷ d ∷ l) c h e = absurd (omega arith)

pub tops_le : (tops : List ℕ) (c : ℕ) → c < 2 → get_or tops c 0 ≤ get_or tops 0 0 + get_or tops 1 0
tops_le tops zero h = omega arith
tops_le tops (suc zero) h = omega arith
tops_le tops (suc (suc c)) h = absurd (omega arith)

-- ---- giving a slot back

module _ (i j : ℕ) (nodes last pinned slot free tops next : List ℕ) (g : GiveOk j nodes last pinned slot free tops next) where
  abbrev class : ℕ
  class = (node_at nodes j).dim

  abbrev test : ℕ → Bool
  test held = not (not (eqb (get_or pinned j 0) 0)) && eqb (get_or last j 0) i && not (eqb held 0)

  pub gone : (get_or slot j 0 ≡ 0 → ⊥) → get_or pinned j 0 ≡ 0 → get_or last j 0 ≡ i → test (get_or slot j 0) ≡ true
  gone n p l = rw (ne_eqb (get_or slot j 0) 0 n, eq-eqb (get_or pinned j 0) 0 p, eq-eqb (get_or last j 0) i l) refl

  -- where a slot is given back, its class has room
  pub top_room : (get_or slot j 0 ≡ 0 → ⊥) → 2 * get_or tops class 0 + class < length free
  top_room n = omega (arith, g.few, g.free_long, g.class.dim, tops_le tops class g.class.dim, busy_clear slot j n)

  pub gives_one : (get_or slot j 0 ≡ 0 → ⊥) → test (get_or slot j 0) ≡ true
      → Gives i j nodes last pinned slot free tops next (set slot j 0) (set free (2 * get_or tops class 0 + class) (get_or slot j 0 - 1)) (set tops class (get_or tops class 0 + 1))
  gives_one n e =
      let top = get_or tops class 0 in
      let k = get_or slot j 0 - 1 in
      let free' = set free (2 * top + class) k in
      let tops' = set tops class (top + 1) in
      let here : get_or tops' class 0 ≡ top + 1 = get_or-set_same tops class (top + 1) 0 (omega (arith, g.pairs.0, g.class.dim)) in
      record {
        long = (length-set slot j 0, length-set free (2 * top + class) k, length-set tops class (top + 1) ∙ g.pairs.0);
        few = omega (arith, busy_clear slot j n, tops_push tops class g.class.dim g.pairs.0);
        follows = λ emitted s v.
            let q : s.slot j ≡ get_or slot j 0 = sym (v.slots j g.place) in
            rw (q, e)
            (record {
              slot_long = length-set slot j 0;
              free_long = length-set free (2 * top + class) k ∙ v.free_long;
              pairs = (length-set tops class (top + 1) ∙ v.pairs.0, v.pairs.1);
              slots = tab_set slot (length slot) s.slot j 0 g.place v.slots;
              frees = λ c h. upd_case (λ l. stack free' c (get_or tops' c 0) ≡ l) s.free class (k ∷ s.free class) c
                  (λ b. rw (b, here) (stack_push free k class top (top_room n) ∙ ap (λ l. k ∷ l) (v.frees class g.class.dim)))
                  λ b. rw (get_or-set_other tops class c (top + 1) 0 b) (stack_apart free k class top c (get_or tops c 0) g.class.dim h b ∙ v.frees c h);
              nexts = v.nexts;
            });
      }
