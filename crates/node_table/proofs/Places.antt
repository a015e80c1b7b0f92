-- Over memory that pushes made, the hash places stand for the list of nodes, whatever the hash: a push answers as on the list, and
-- keeps it so.
-- Assumes nothing.
use Rattle.std.proofs.Common.{◌≡◌, ℕ, suc, ◌+◌, ◌-◌, ◌*◌, ◌<◌, ◌≤◌, Bool, true, false, ◌&&◌, leb, ◌≢◌, ◌⊎◌, List, [], ◌∷◌, ◌++◌, length, get_or, set, sym, ap, ◌∙◌, subst, inl, inr, ⊎_elim, arith, length-set, get_or-set_other, get_or-set_same, eq-eqb, ne_eqb, le-leb, leb-true}
use mathlib.Core.Logic.{by_cases}
use native.Mathlib.Decide.{ℕ_discrete, dec_lt}
use Rattle.ir.specs.Words.{Node, node_at}
use Rattle.node_table.specs.Words.{put, same, view}
use Rattle.node_table.specs.Table.{onward, Table, stops, find, appended, Reached, Sound}
use Rattle.laws.proofs.Tests.{clash, and_left, and_right}
use Rattle.node_table.proofs.Laws.{same_eq, eq_same, put_other, put_same, view_same}
use Rattle.node_table.proofs.Ring.{walk_within, meets, Stop, Missed, seek_cases, used_set, used_free}

-- ---- one place

module _ (nodes : List ℕ) (n : ℕ) (w : Node) where
  stops_free : (v : ℕ) → v ≡ 0 → stops nodes n w v ≡ true
  unfolding stops
  stops_free v e = rw (eq-eqb v 0 e)

  stops_at : (v i : ℕ) → v ≡ suc i → i < n → node_at nodes i ≡ w → stops nodes n w v ≡ true
  unfolding stops
  stops_at v i e h q =
      let z : v - 1 ≡ i = omega arith in
      rw (ne_eqb v 0 (λ y. omega arith), le-leb v n (omega arith), z) (eq_same (node_at nodes i) w q)

  stops_why : (v : ℕ) → stops nodes n w v ≡ true → (v ≡ 0) ⊎ ((i : ℕ) × (v ≡ suc i) × (i < n) × (node_at nodes i ≡ w))
  unfolding stops
  stops_why v e =
      by_cases (ℕ_discrete v 0) (λ q. inl q)
      λ q.
      let e' : leb v n && same (node_at nodes (v - 1)) w ≡ true = rw (ne_eqb v 0 q) at e in
      let l = leb-true v n (and_left (leb v n) (same (node_at nodes (v - 1)) w) e') in
      inr (v - 1, omega arith, omega arith, same_eq _ _ (and_right (leb v n) (same (node_at nodes (v - 1)) w) e'))

-- a free place that was met from s before any other
pub record Fresh (k : ℕ) (places : List ℕ) (s r : ℕ) : Type 0 where
  pub steps : ℕ
  pub low : steps < k
  pub place : r ≡ onward k s steps
  pub free : get_or places r 0 ≡ 0
  pub passed : (e : ℕ) → e < steps → get_or places (onward k s e) 0 ≢ 0

-- ---- what a lookup comes out with

module _ (start : Node → ℕ) (t : Table) (w : Node) (sound : Sound start t) where
  abbrev k : ℕ
  k = length t.places

  abbrev at_word : ℕ → ℕ
  at_word r = get_or t.places r 0

  abbrev test : ℕ → Bool
  test r = stops t.nodes t.count w (at_word r)

  abbrev Absent : Type 0
  Absent = (j : ℕ) → j < t.count → node_at t.nodes j ≢ w

  no_free_first : (i r : ℕ) → i < t.count → node_at t.nodes i ≡ w → Stop test k k (start w) r → at_word r ≢ 0
  no_free_first i r h e s z =
      let c = subst (λ v. Reached k t.places (start v) i) e (sound.reached i h) in
      let z' : at_word (onward k (start w) s.steps) ≡ 0 = ap at_word (sym s.place) ∙ z in
      by_cases (dec_lt s.steps c.steps)
      (λ l. c.passed s.steps l z')
      λ l.
      by_cases (dec_lt c.steps s.steps)
      (λ m. clash (stops_at t.nodes t.count w _ i c.here h e) (s.before c.steps m))
      λ m.
      let q : c.steps ≡ s.steps = omega arith in
      let y : 0 ≡ suc i = sym z' ∙ ap (λ d. at_word (onward k (start w) d)) (sym q) ∙ c.here in
      omega arith

  present_at : (i r : ℕ) → i < t.count → node_at t.nodes i ≡ w → Stop test k k (start w) r ⊎ Missed test k k (start w) r → (r < k) × (at_word r ≡ suc i)
  present_at i r h e (inl s) = (
    rw s.place (walk_within k (start w) s.steps (sound.starts w)),
    ⊎_elim (λ z. absurd (no_free_first i r h e s z)) (λ j. j.1 ∙ ap suc (sound.apart j.0 i j.2 h (j.3 ∙ sym e)))
        (stops_why t.nodes t.count w (at_word r) s.passes),
  )
  present_at i r h e (inr m) =
      let c = subst (λ v. Reached k t.places (start v) i) e (sound.reached i h) in
      clash (stops_at t.nodes t.count w _ i c.here h e) (m.all c.steps c.low)

  -- a node of the list: its place
  pub present : (i : ℕ) → i < t.count → node_at t.nodes i ≡ w → (find (start w) t w < k) × (at_word (find (start w) t w) ≡ suc i)
  unfolding find
  present i h e = present_at i _ h e (seek_cases test k k (start w))

  only_free : Absent → (v : ℕ) → stops t.nodes t.count w v ≡ true → v ≡ 0
  only_free a v e = ⊎_elim (λ z. z) (λ j. absurd (a j.0 j.2 j.3)) (stops_why t.nodes t.count w v e)

  not_free : (v : ℕ) → stops t.nodes t.count w v ≡ false → v ≢ 0
  not_free v e z = clash (stops_free t.nodes t.count w v z) e

  absent_at : Absent → (r : ℕ) → Stop test k k (start w) r ⊎ Missed test k k (start w) r → r < k → Fresh k t.places (start w) r
  absent_at a r (inl s) l =
      record {
        steps = s.steps;
        low = s.low;
        place = s.place;
        free = only_free a (at_word r) s.passes;
        passed = λ e h. not_free _ (s.before e h);
      }
  absent_at a r (inr m) l = absurd (omega (arith, m.end))

  -- no node of the list: where it comes out, it is free
  pub absent : Absent → find (start w) t w < k → Fresh k t.places (start w) (find (start w) t w)
  unfolding find
  absent a = absent_at a _ (seek_cases test k k (start w))

  finds_at : t.count < k → (r : ℕ) → Stop test k k (start w) r ⊎ Missed test k k (start w) r → r < k
  finds_at h r (inl s) = rw s.place (walk_within k (start w) s.steps (sound.starts w))
  finds_at h r (inr m) =
      let f = used_free t.places (omega (arith, sound.filled)) in
      let d = meets k (start w) f.0 (sound.starts w) f.1 in
      absurd (not_free _ (m.all d.0 d.1) (ap at_word d.2 ∙ f.2))

  -- and while there are more places than nodes, it comes out
  pub finds : t.count < k → find (start w) t w < k
  unfolding find
  finds h = finds_at h _ (seek_cases test k k (start w))

  -- ---- a node is appended

  module _ (a : Absent) (r : ℕ) (f : Fresh k t.places (start w) r) (fits : 4 * t.count + 4 ≤ length t.nodes) where
    abbrev places' : List ℕ
    places' = set t.places r (suc t.count)

    abbrev nodes' : List ℕ
    nodes' = put t.nodes t.count w

    r_low : r < k
    r_low = rw f.place (walk_within k (start w) f.steps (sound.starts w))

    same_r : (q : ℕ) → q ≡ r → get_or places' q 0 ≡ suc t.count
    same_r q e = rw e (get_or-set_same t.places r (suc t.count) 0 r_low)

    other_r : (q : ℕ) → q ≢ r → get_or places' q 0 ≡ at_word q
    other_r q n = get_or-set_other t.places r q (suc t.count) 0 n

    names' : (q : ℕ) → get_or places' q 0 ≤ suc t.count
    names' q = by_cases (ℕ_discrete q r) (λ e. omega (arith, same_r q e)) λ n. omega (arith, other_r q n, sound.names q)

    stays : (q : ℕ) → at_word q ≢ 0 → get_or places' q 0 ≢ 0
    stays q h z = by_cases (ℕ_discrete q r) (λ e. omega (arith, same_r q e)) λ n. h (sym (other_r q n) ∙ z)

    reached_new : Reached k places' (start w) t.count
    reached_new = record { steps = f.steps; low = f.low; here = same_r _ (sym f.place); passed = λ e h. stays _ (f.passed e h) }

    reached_old : (i s : ℕ) → Reached k t.places s i → Reached k places' s i
    reached_old i s c =
        record {
          steps = c.steps;
          low = c.low;
          here = by_cases (ℕ_discrete (onward k s c.steps) r)
              (λ e. absurd (omega (arith, sym f.free ∙ ap at_word (sym e) ∙ c.here))) λ n. other_r _ n ∙ c.here;
          passed = λ e h. stays _ (c.passed e h);
        }

    node_new : node_at nodes' t.count ≡ w
    node_new = put_same t.nodes t.count w fits

    node_old : (i : ℕ) → i < t.count → node_at nodes' i ≡ node_at t.nodes i
    node_old i h = put_other t.nodes t.count w i h

    reached' : (i : ℕ) → i < suc t.count → Reached k places' (start (node_at nodes' i)) i
    reached' i h =
        by_cases (ℕ_discrete i t.count)
        (λ e. subst (λ j. Reached k places' (start (node_at nodes' j)) j) (sym e) (subst (λ v. Reached k places' (start v) t.count) (sym node_new) reached_new))
        λ n.
        let l : i < t.count = omega arith in
        subst (λ v. Reached k places' (start v) i) (sym (node_old i l)) (reached_old i _ (sound.reached i l))

    apart' : (i j : ℕ) → i < suc t.count → j < suc t.count → node_at nodes' i ≡ node_at nodes' j → i ≡ j
    apart' i j hi hj e =
        by_cases (ℕ_discrete i t.count)
        (λ p.
        by_cases (ℕ_discrete j t.count) (λ q. p ∙ sym q)
        λ q. let l : j < t.count = omega arith in absurd (a j l (sym (node_old j l) ∙ sym e ∙ ap (node_at nodes') p ∙ node_new)))
        λ p.
        let m : i < t.count = omega arith in
        by_cases (ℕ_discrete j t.count)
        (λ q. absurd (a i m (sym (node_old i m) ∙ e ∙ ap (node_at nodes') q ∙ node_new)))
        λ q. let l : j < t.count = omega arith in sound.apart i j m l (sym (node_old i m) ∙ e ∙ node_old j l)

    k' : length places' ≡ k
    k' = length-set t.places r (suc t.count)

    pub append_sound : Sound start (appended t w r)
    append_sound =
        record {
          starts = λ v. rw k' (sound.starts v);
          names = names';
          reached = λ i h. subst (λ m. Reached m places' (start (node_at nodes' i)) i) (sym k') (reached' i h);
          apart = apart';
          filled = used_set t.places r t.count r_low f.free ∙ ap suc sound.filled;
        }

    pub append_view : view nodes' (suc t.count) ≡ view t.nodes t.count ++ (w ∷ [])
    unfolding view
    append_view = rw (view_same nodes' t.nodes t.count node_old, node_new)
