-- Laws of the places of a list whose items pass a test: counted, and written one after another.
-- Assumes nothing.
use mathlib.Core.Bool.{Bool, true, false}
use mathlib.Core.List.{List, [], ◌∷◌, ◌++◌, append-nil, map, map-append}
use mathlib.Core.Path.{◌≡◌, refl, sym, ap, ◌∙◌}
use Prim.Native.Nat.{ℕ, zero, suc, ◌+◌, ◌<◌, ◌≤◌}
use native.Mathlib.Numerals.{add-one}
use native.Mathlib.Omega.{arith}
use lib.ListN.{length, get_or, set, take, length-map}
use lib.Seq.{sets, length-sets, take_all}
use Rattle.std.specs.List.{slice_get, count_by}
use Rattle.std.specs.Prelude.{Ok, Err}
use Rattle.ir.specs.declared.refusal.Refusal.TheVariants.{ShortOutput}
use Rattle.std.proofs.Common.{inl, inr}
use Rattle.std.proofs.lemmas.Option.{slice_get_read, slice_get_cases}
use Rattle.std.proofs.lemmas.List.Sums.{count_by_more_no, count_by_more_yes}
use Rattle.laws.proofs.Cases.{by_test}
use Rattle.laws.specs.Folds.{all_below}
use Rattle.laws.proofs.Folds.{all_start, all_more, all_count, all_grows}
use Rattle.selection.specs.Places.{passes, places, Listed}

-- a word put after those that stand at the front
set_after : {A : Type 0} (ws l : List A) (i : ℕ) (v : A) → set (sets l i ws) (i + length ws) v ≡ sets l i (ws ++ (v ∷ []))
set_after [] l i v = let e : i + 0 ≡ i = omega arith in rw e
set_after (a ∷ ws) l i v = let e : i + suc (length ws) ≡ suc i + length ws = omega arith in rw e (set_after ws (set l i a) (suc i) v)

module _ {T : Type 0} (t : T → Bool) (xs : List T) where
  -- whether the item at a place passes
  abbrev pub held : ℕ → Bool
  held i = passes t (slice_get xs i)

  pub held_is : (i : ℕ) (x : T) → i < length xs → x ≡ get_or xs i x → held i ≡ t x
  held_is i x h e = ap (passes t) (slice_get_read xs (length xs) i x refl h e)

  counted_to : (i : ℕ) → i ≤ length xs → count_by t (take i xs) ≡ length (all_below held i)
  counted_to zero h = rw (all_start held)
  counted_to (suc i) h =
      elim ((slice_get_cases xs i).1) [
        | inl (x, l, s, e) ↦
            by_test (t x) (count_by t (take (suc i) xs) ≡ length (all_below held (suc i)))
            (λ k. rw (← add-one i, count_by_more_yes t xs i x l (rw e k), all_count held i, s, k) (ap (λ (n : ℕ). n + 1) (counted_to i (omega arith))))
            λ k. rw (← add-one i, count_by_more_no t xs i x l (rw e k), all_count held i, s, k) (counted_to i (omega arith) ∙ omega arith)
        | inr (l, s) ↦ absurd (omega arith)
      ]

  pub counted : count_by t xs ≡ length (places t xs)
  counted = ap (count_by t) (sym (take_all (length xs) xs (omega arith))) ∙ counted_to (length xs) (omega arith)

  -- counted up to the end of the list, all are counted
  pub counted_all : {n i : ℕ} → n ≡ count_by t (take i xs) → i ≡ length xs → n ≡ count_by t xs
  counted_all {n} {i} e h = e ∙ ap (count_by t) (take_all i xs (omega arith))

  module _ {W : Type 0} (w : ℕ → W) (old : List W) where
    -- the places below i, written as words at the front of the room
    pub record Put (i at : ℕ) (new : List W) : Type 0 where
      pub next : at ≡ length (all_below held i)
      pub words : new ≡ sets old 0 (map w (all_below held i))

    pub put_start : Put 0 0 old
    put_start = record { next = rw (all_start held); words = rw (all_start held) }

    pub put_passed : {i at : ℕ} {new : List W} (x : T) (v : W) → i < length xs → x ≡ get_or xs i x → t x ≡ true → v ≡ w i → Put i at new → Put (i + 1) (at + 1) (set new at v)
    put_passed {i} {at} {new} x v h e k q p =
        let here : held i ≡ true = held_is i x h e ∙ k in
        let ws = all_below held i in
        let all : map w (all_below held (i + 1)) ≡ map w ws ++ (w i ∷ []) = rw (all_more held i, here) (map-append w ws (i ∷ [])) in
        let z : at ≡ 0 + length (map w ws) = rw (length-map ws w) (p.next ∙ omega arith) in
        record {
          next = rw (all_count held i, here, ← p.next);
          words = rw (p.words, z, q, all) (set_after (map w ws) old 0 (w i));
        }

    pub put_failed : {i at : ℕ} {new : List W} (x : T) → i < length xs → x ≡ get_or xs i x → t x ≡ false → Put i at new → Put (i + 1) at new
    put_failed {i} {at} {new} x h e k p =
        let here : held i ≡ false = held_is i x h e ∙ k in
        record {
          next = rw (all_count held i, here) (p.next ∙ omega arith);
          words = rw (all_more held i, here, append-nil (all_below held i)) p.words;
        }

    put_long : {i at : ℕ} {new : List W} → Put i at new → length new ≡ length old
    put_long {i} p = ap length p.words ∙ length-sets old 0 (map w (all_below held i))

    -- a room for all places has the next
    pub put_room : {count i at : ℕ} {new : List W} (x : T) → count ≡ count_by t xs → count ≤ length old → i < length xs → x ≡ get_or xs i x → t x ≡ true → Put i at new → (at < count) × (at < length new)
    put_room {i = i} x n fits h e k p =
        let here : held i ≡ true = held_is i x h e ∙ k in
        let l : i + 1 ≤ length xs = omega arith in
        let more : length (all_below held (i + 1)) ≡ length (all_below held i) + 1 = rw (all_count held i, here) in
        let below = all_grows held l in
        (omega (arith, n, counted, below, more, p.next), omega (arith, n, counted, below, more, p.next, fits, put_long p))

    -- the answers: a room that is too short, and all places written
    pub no_room : {count : ℕ} → count ≡ count_by t xs → length old < count → Listed (map w (places t xs)) old old (Err ShortOutput)
    no_room e h = let l = length-map (places t xs) w in (refl, omega (arith, l, counted, e), refl)

    pub all_put : {count i at : ℕ} {new : List W} → count ≡ count_by t xs → count ≤ length old → i ≡ length xs → Put i at new → Listed (map w (places t xs)) old new (Ok count)
    all_put {i} {at} {new} e h q p =
        let l = length-map (places t xs) w in (omega (arith, l, counted, e), omega (arith, l, counted, e), rw q at p.words)
