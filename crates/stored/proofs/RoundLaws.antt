-- Words of n bytes each: both round trips, and a file's trailer.
-- Assumes nothing.
use mathlib.Core.List.{List, [], ◌∷◌, ◌++◌, append_assoc}
use mathlib.Core.Path.{◌≡◌, refl, sym, ap, ◌∙◌}
use Prim.Native.Nat.{ℕ, zero, suc, ◌+◌, ◌-◌, ◌*◌, ◌%◌, ◌^◌, ◌<◌, ◌≤◌}
use native.Mathlib.Nat.{mul-suc, mul-zero, mod-lt, mod-eq_of_lt, pow-succ'}
use native.Mathlib.Omega.{arith}
use lib.ListN.{length, get_or, take, drop, length-append, length-drop, length-map}
use lib.Seq.{sets, take_at, drop_at, take-add, drop-drop, drop-append-add, length-take-le, get_or-take, get_or-drop}
use Rattle.laws.proofs.Parts.{sets_here}
use Rattle.little_endian.specs.Bytes.{le_value, le_bytes}
use Rattle.little_endian.proofs.BytesLaws.{value_bytes, bytes_value, bytes_long}
use Rattle.field.specs.Base.{p}
use Rattle.stored_parts.specs.Form.{spread, words, below_p, trailer_word}
use Rattle.stored_parts.proofs.WordLaws.{drop_none, below_at}

-- each word is below m
pub record Below (m : ℕ) (ws : List ℕ) : Type 0 where
  pub each : (i : ℕ) → i < length ws → get_or ws i 0 < m

module _ {m : ℕ} where
  below_first : {w : ℕ} {ws : List ℕ} → Below m (w ∷ ws) → w < m
  below_first b = b.each 0 (omega arith)

  below_rest : {w : ℕ} {ws : List ℕ} → Below m (w ∷ ws) → Below m ws
  below_rest b = record { each = λ i h. b.each (suc i) (omega arith) }

  pub below_take : (k : ℕ) (ws : List ℕ) → k ≤ length ws → Below m ws → Below m (take k ws)
  below_take k ws h b =
      let e = length-take-le k ws h in
      record { each = λ i l. rw (get_or-take k ws i 0 (omega arith)) (b.each i (omega arith)) }

  pub below_drop : (k : ℕ) (ws : List ℕ) → Below m ws → Below m (drop k ws)
  below_drop k ws b =
      let e = length-drop k ws in
      record { each = λ i l. rw (get_or-drop k ws i 0) (b.each (k + i) (omega arith)) }

pub below_p_lem : (ws : List ℕ) → Below p (below_p ws)
below_p_lem ws = record { each = λ i l. rw (below_at ws i) (mod-lt (get_or ws i 0) (omega arith)) }

-- a word below p fits eight bytes
pub eight_fit : {ws : List ℕ} → Below p ws → Below (256 ^ 8) ws
eight_fit b = record { each = λ i l. let h = b.each i l in omega arith }

-- words below p stay as they are
pub below_kept : (ws : List ℕ) → Below p ws → below_p ws ≡ ws
below_kept [] b = refl
below_kept (w ∷ ws) b =
    let e : w % p ≡ w = mod-eq_of_lt (below_first b) in rw (e, below_kept ws (below_rest b))

module _ (n : ℕ) where
  -- words written are read back
  pub words_spread : (ws rest : List ℕ) → Below (256 ^ n) ws → words n (length ws) (spread n ws ++ rest) ≡ ws
  words_spread [] rest b = refl
  words_spread (w ∷ ws) rest b =
      let e = append_assoc (le_bytes n w) (spread n ws) rest in
      let h = take_at (le_bytes n w) (spread n ws ++ rest) n (bytes_long n w) in
      let t = drop_at (le_bytes n w) (spread n ws ++ rest) n (bytes_long n w) in
      rw (e, h, t, value_bytes n w (below_first b), words_spread ws rest (below_rest b))

  -- the same of words that stand further on
  pub words_part : (pre ws post : List ℕ) (at k : ℕ) → length pre ≡ at → length ws ≡ k → Below (256 ^ n) ws → words n k (drop at (pre ++ (spread n ws ++ post))) ≡ ws
  words_part pre ws post at k e f b =
      rw (drop_at pre (spread n ws ++ post) at e, ← f) (words_spread ws post b)

  -- bytes read are written back
  pub spread_words : (k : ℕ) (bs : List ℕ) → n * k ≤ length bs → Below 256 bs → spread n (words n k bs) ≡ take (n * k) bs
  spread_words zero bs h b = rw (mul-zero n) (none bs)
    where
      none : (l : List ℕ) → [] ≡ take 0 l
      none [] = refl
      none (x ∷ l) = refl
  spread_words (suc k) bs h b =
      let e : n * suc k ≡ n + n * k = omega (arith, mul-suc n k) in
      let long = length-take-le n bs (omega arith) in
      let few = below_take n bs (omega arith) b in
      let front = bytes_value n (take n bs) long (λ i l. few.each i (omega arith)) in
      rw (e, take-add n (n * k) bs, front, spread_words k (drop n bs) (rw (length-drop n bs) (omega arith)) (below_drop n bs b))

-- bytes hold less than their number says
pub value_below : (bs : List ℕ) → Below 256 bs → le_value bs < 256 ^ length bs
value_below [] b = omega arith
value_below (x ∷ bs) b = let h = below_first b in omega (arith, value_below bs (below_rest b), pow-succ' 256 (length bs))

-- five parts in a row: each part with what follows it, after what stands before
module _ (a b d e f : List ℕ) where
  pub from_first : a ++ b ++ d ++ e ++ f ≡ a ++ (b ++ (d ++ (e ++ f)))
  from_first = simp append_assoc

  pub from_third : a ++ b ++ d ++ e ++ f ≡ (a ++ b) ++ (d ++ (e ++ f))
  from_third = simp append_assoc

  pub from_fourth : a ++ b ++ d ++ e ++ f ≡ (a ++ b ++ d) ++ (e ++ f)
  from_fourth = simp append_assoc

-- ---- words at the front of a room

pub front : (room ws : List ℕ) (k : ℕ) → length ws ≡ k → k ≤ length room → take k (sets room 0 ws) ≡ ws
front room ws k e h =
    rw (← e) (ap (take (length ws)) (sym (drop_none (sets room 0 ws))) ∙ sets_here room 0 ws (omega arith))

pub take_below : (k : ℕ) (ws : List ℕ) → take k (below_p ws) ≡ below_p (take k ws)
take_below zero [] = refl
take_below zero (w ∷ ws) = refl
take_below (suc k) [] = refl
take_below (suc k) (w ∷ ws) = ap (◌∷◌ (w % p)) (take_below k ws)

-- constants below p at the front of a room
pub front_below : (room ws : List ℕ) (k : ℕ) → length ws ≡ k → k ≤ length room → take k (below_p (sets room 0 (below_p ws))) ≡ below_p ws
front_below room ws k e h =
    take_below k (sets room 0 (below_p ws))
    ∙ ap below_p (front room (below_p ws) k (length-map ws (λ w. w % p) ∙ e) h)
    ∙ below_kept (below_p ws) (below_p_lem ws)

-- ---- a file's trailer

-- word k of what stands in the last 32 bytes
pub trailer_at : (pre post : List ℕ) (k : ℕ) → length post ≡ 32 → trailer_word (pre ++ post) k ≡ le_value (take 4 (drop (4 * k) post))
trailer_at pre post k e =
    let long = length-append pre post in
    let at : length (pre ++ post) - 32 + 4 * k ≡ length pre + 4 * k = omega arith in
    ap (λ (i : ℕ). le_value (take 4 (drop i (pre ++ post)))) at ∙ ap (λ (l : List ℕ). le_value (take 4 l)) (drop-append-add pre post (4 * k))

-- the eight words of the trailer
module _ (file : List ℕ) where
  abbrev from : ℕ → List ℕ
  from i = drop (length file - 32 + 4 * i) file

  step : (k i : ℕ) → words 4 (suc k) (from i) ≡ trailer_word file i ∷ words 4 k (from (suc i))
  step k i =
      let e : length file - 32 + 4 * i + 4 ≡ length file - 32 + 4 * suc i = omega arith in
      ap (λ l. trailer_word file i ∷ words 4 k l) (drop-drop 4 (length file - 32 + 4 * i) file ∙ ap (λ (j : ℕ). drop j file) e)

  pub trailer_words_lem : words 4 8 (drop (length file - 32) file) ≡ trailer_word file 0 ∷ trailer_word file 1 ∷ trailer_word file 2 ∷ trailer_word file 3 ∷ trailer_word file 4 ∷ trailer_word file 5 ∷ trailer_word file 6 ∷ trailer_word file 7 ∷ []
  trailer_words_lem =
      let z : length file - 32 ≡ length file - 32 + 4 * 0 = omega arith in
      ap (λ (j : ℕ). words 4 8 (drop j file)) z
      ∙ step 7 0
      ∙ ap (◌∷◌ (trailer_word file 0)) (step 6 1
      ∙ ap (◌∷◌ (trailer_word file 1)) (step 5 2
      ∙ ap (◌∷◌ (trailer_word file 2)) (step 4 3
      ∙ ap (◌∷◌ (trailer_word file 3)) (step 3 4
      ∙ ap (◌∷◌ (trailer_word file 4)) (step 2 5
      ∙ ap (◌∷◌ (trailer_word file 5)) (step 1 6
      ∙ ap (◌∷◌ (trailer_word file 6)) (step 0 7)))))))
