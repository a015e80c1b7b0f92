-- A push over sound memory is a push on the list, and leaves sound memory.
-- Assumes nothing.
use Rattle.std.proofs.Common.{◌≡◌, ℕ, zero, suc, ◌+◌, ◌-◌, ◌*◌, ◌<◌, ◌≤◌, ◌≢◌, ◌⊎◌, List, [], ◌∷◌, ◌++◌, length, get_or, sym, refl, ap, ◌∙◌, inl, inr, ⊎_elim, arith, le-ltb, lt-ltb, eq-eqb, ne_eqb}
use mathlib.Core.Logic.{by_cases}
use Rattle.std.specs.Prelude.{None, Some}
use native.Mathlib.Decide.{ℕ_discrete, dec_lt}
use Rattle.ir.specs.Words.{Node, node_at}
use Rattle.node_table.specs.Words.{same, view, lookup}
use Rattle.node_table.specs.Table.{used, Table, find, room, appended, push_at, push, Sound}
use Rattle.node_table.specs.Model.{push_list, Follows}
use Rattle.laws.proofs.Cases.{by_test}
use Rattle.laws.proofs.Tests.{clash}
use Rattle.node_table.proofs.Laws.{same_eq, eq_same, view_length, lookup_absent, lookup_present}
use Rattle.node_table.proofs.Places.{present, absent, finds, append_sound, append_view}

pub is_there : (w : Node) (l : List ℕ) (n : ℕ) → ((i : ℕ) × (i < n) × (node_at l i ≡ w)) ⊎ ((i : ℕ) → i < n → node_at l i ≢ w)
is_there w l zero = inr (λ i h e. omega arith)
is_there w l (suc n) =
    ⊎_elim (λ p. inl (p.0, omega (arith, p.1), p.2))
    (λ a.
    by_test (same (node_at l n) w) _ (λ q. inl (n, omega arith, same_eq _ _ q))
    λ q. inr (λ i h e. by_cases (ℕ_discrete i n) (λ p. clash (eq_same _ _ (ap (node_at l) (sym p) ∙ e)) q) λ p. a i (omega arith) e))
    (is_there w l n)

-- ---- the three answers

module _ (t : Table) (w : Node) (at : ℕ) where
  pub push_old : at < length t.places → (get_or t.places at 0 ≡ 0 → ⊥) → push_at t w at ≡ record { id = Some (get_or t.places at 0 - 1); after = t }
  unfolding push_at
  push_old h n = rw (lt-ltb at (length t.places) h, ne_eqb (get_or t.places at 0) 0 n)

  pub push_new : at < length t.places → get_or t.places at 0 ≡ 0 → t.count < room t → push_at t w at ≡ record { id = Some t.count; after = appended t w at }
  unfolding push_at
  push_new h e r = rw (lt-ltb at (length t.places) h, eq-eqb (get_or t.places at 0) 0 e, lt-ltb t.count (room t) r)

  pub push_full : (at < length t.places → get_or t.places at 0 ≡ 0) → room t ≤ t.count → push_at t w at ≡ record { id = None; after = t }
  unfolding push_at
  push_full e r =
      by_cases (dec_lt at (length t.places))
      (λ h. rw (lt-ltb at (length t.places) h, eq-eqb (get_or t.places at 0) 0 (e h), le-ltb t.count (room t) r))
      λ h. rw (le-ltb at (length t.places) (omega arith))

module _ (room : ℕ) (xs : List Node) (w : Node) where
  list_old : lookup w xs < length xs → push_list room xs w ≡ record { id = Some (lookup w xs); list = xs }
  unfolding push_list
  list_old h = rw (lt-ltb (lookup w xs) (length xs) h)

  list_new : length xs ≤ lookup w xs → length xs < room → push_list room xs w ≡ record { id = Some (length xs); list = xs ++ (w ∷ []) }
  unfolding push_list
  list_new h r = rw (le-ltb (lookup w xs) (length xs) h, lt-ltb (length xs) room r)

  list_full : length xs ≤ lookup w xs → room ≤ length xs → push_list room xs w ≡ record { id = None; list = xs }
  unfolding push_list
  list_full h r = rw (le-ltb (lookup w xs) (length xs) h, le-ltb (length xs) room r)

-- ---- the theorem

pub record Kept (start : Node → ℕ) (t : Table) (w : Node) : Type 0 where
  pub follows : Follows (push (start w) t w) (push_list (room t) (view t.nodes t.count) w)
  pub sound : Sound start (push (start w) t w).after

module _ (start : Node → ℕ) (t : Table) (w : Node) (sound : Sound start t) where
  kept_old : (i : ℕ) → i < t.count → node_at t.nodes i ≡ w → Kept start t w
  unfolding push
  kept_old i h e =
      let n = view_length t.nodes t.count in
      let p = present start t w sound i h e in
      let l = lookup_present w t.nodes t.count i h e (λ j m q. sound.apart j i m h (q ∙ sym e)) in
      let o = push_old t w (find (start w) t w) p.0 (λ z. omega (arith, p.1)) in
      let m = list_old (room t) (view t.nodes t.count) w (omega arith) in
      let v : get_or t.places (find (start w) t w) 0 - 1 ≡ lookup w (view t.nodes t.count) = omega (arith, p.1) in
      record { follows = rw (o, m) (record { ids = ap Some v; lists = refl }); sound = rw o sound }

  module _ (a : (j : ℕ) → j < t.count → node_at t.nodes j ≢ w) where
    kept_new : t.count < room t → Kept start t w
    unfolding push
    kept_new r =
        let n = view_length t.nodes t.count in
        let h = finds start t w sound (omega arith) in
        let f = absent start t w sound a h in
        let l = lookup_absent w t.nodes t.count a in
        let o = push_new t w (find (start w) t w) h f.free r in
        let m = list_new (room t) (view t.nodes t.count) w (omega arith) (omega arith) in
        let fits : 4 * t.count + 4 ≤ length t.nodes = omega arith in
        record {
          follows = rw (o, m) (record { ids = ap Some (sym n); lists = append_view start t w sound a _ f fits });
          sound = rw o (append_sound start t w sound a _ f fits);
        }

    kept_full : room t ≤ t.count → Kept start t w
    unfolding push
    kept_full r =
        let n = view_length t.nodes t.count in
        let l = lookup_absent w t.nodes t.count a in
        let o = push_full t w (find (start w) t w) (λ h. (absent start t w sound a h).free) r in
        let m = list_full (room t) (view t.nodes t.count) w (omega arith) (omega arith) in
        record { follows = rw (o, m) (record { ids = refl; lists = refl }); sound = rw o sound }

  pub kept : Kept start t w
  kept =
      ⊎_elim (λ p. kept_old p.0 p.1 p.2)
      (λ a. by_cases (dec_lt t.count (room t)) (λ r. kept_new a r) λ r. kept_full a (omega arith))
      (is_there w t.nodes t.count)

-- two hashes, one list: one id
pub one_id : (start start' : Node → ℕ) (t t' : Table) (w : Node) → Sound start t → Sound start' t'
    → view t.nodes t.count ≡ view t'.nodes t'.count → room t ≡ room t' → (push (start w) t w).id ≡ (push (start' w) t' w).id
one_id start start' t t' w s s' v r =
    (kept start t w s).follows.ids ∙ ap (λ xs. (push_list (room t) xs w).id) v ∙ ap (λ n. (push_list n (view t'.nodes t'.count) w).id) r
    ∙ sym (kept start' t' w s').follows.ids

-- ---- the beginning

used_none : (l : List ℕ) → ((at : ℕ) → get_or l at 0 ≡ 0) → used l ≡ 0
unfolding used
used_none [] h = refl
used_none (x ∷ xs) h = rw (eq-eqb x 0 (h 0)) (used_none xs λ at. h (suc at))

pub sound_start : (start : Node → ℕ) (nodes places : List ℕ) → ((w : Node) → start w < length places) → ((at : ℕ) → get_or places at 0 ≡ 0)
    → Sound start (record { nodes = nodes; places = places; count = 0 })
sound_start start nodes places s h =
    record {
      starts = s;
      names = λ at. omega (arith, h at);
      reached = λ i l. absurd (omega arith);
      apart = λ i j l. absurd (omega arith);
      filled = used_none places h;
    }
