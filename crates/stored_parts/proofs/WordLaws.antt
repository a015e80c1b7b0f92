-- Laws of words of n bytes each: one more written, one more read, and a constant put below p.
-- Assumes nothing.
use mathlib.Core.List.{List, [], ◌∷◌, ◌++◌, append_assoc, append-nil, map, map-append}
use mathlib.Core.Path.{◌≡◌, refl, sym, ap, ◌∙◌}
use Prim.Native.Nat.{ℕ, zero, suc, ◌+◌, ◌*◌, ◌%◌, ◌<◌, ◌≤◌}
use native.Mathlib.Nat.{mul-suc, mul-zero}
use native.Mathlib.Numerals.{add-one}
use native.Mathlib.Omega.{arith}
use lib.ListN.{length, get_or, set, take, drop, length-append, get_or-map, length-map}
use lib.Seq.{sets, sets-eq, length-sets, drop-drop, length-take-le}
use Rattle.laws.proofs.Parts.{sets_append}
use Rattle.little_endian.specs.Bytes.{le_value, le_bytes}
use Rattle.little_endian.proofs.BytesLaws.{bytes_long}
use Rattle.std.proofs.lemmas.List.{drop_all, drop-map, map-set, get_or-map as number_of}
use Rattle.field.specs.Base.{p}
use Rattle.stored_parts.specs.Form.{spread, words, below_p}

-- ---- a row of words of any kind, and the numbers that it is

module _ {W : Type 0} (number : W → ℕ) (numbers : List W → List ℕ) (each : (ws : List W) → map number ws ≡ numbers ws) where
  pub number_set : (ws : List W) (i : ℕ) (w : W) → numbers (set ws i w) ≡ set (numbers ws) i (number w)
  number_set ws i w = sym (each (set ws i w)) ∙ map-set number ws i w ∙ ap (λ (l : List ℕ). set l i (number w)) (each ws)

  pub numbers_long : (ws : List W) → length (numbers ws) ≡ length ws
  numbers_long ws = ap length (sym (each ws)) ∙ length-map ws number

  pub number_at : (ws : List W) (i : ℕ) {w : W} → i < length ws → w ≡ get_or ws i w → number w ≡ get_or (numbers ws) i 0
  number_at ws i {w} h e = ap number e ∙ sym (number_of number ws i w 0 h) ∙ ap (λ (l : List ℕ). get_or l i 0) (each ws)

  pub numbers_put : (new ws : List W) (k : ℕ) → numbers (new ++ drop k ws) ≡ numbers new ++ drop k (numbers ws)
  numbers_put new ws k =
      sym (each (new ++ drop k ws))
      ∙ map-append number new (drop k ws)
      ∙ (λ i. each new i ++ (sym (drop-map number k ws) ∙ ap (drop k) (each ws)) i)

-- ---- words of n bytes each

module _ (n : ℕ) where
  pub spread_long : (ws : List ℕ) → length (spread n ws) ≡ n * length ws
  spread_long [] = omega arith
  spread_long (w ∷ ws) = length-append (le_bytes n w) (spread n ws) ∙ omega (arith, bytes_long n w, spread_long ws, mul-suc n (length ws))

  -- one word more
  pub spread_more : (ws : List ℕ) (i : ℕ) → i < length ws → spread n (take (i + 1) ws) ≡ spread n (take i ws) ++ le_bytes n (get_or ws i 0)
  spread_more ws i h = rw (add-one i) (go ws i h)
    where
      go : (l : List ℕ) (k : ℕ) → k < length l → spread n (take (suc k) l) ≡ spread n (take k l) ++ le_bytes n (get_or l k 0)
      go [] k l = absurd (omega arith)
      go (w ∷ ws) zero l = append-nil (le_bytes n w)
      go (w ∷ ws) (suc k) l = ap (λ t. le_bytes n w ++ t) (go ws k (omega arith)) ∙ sym (append_assoc (le_bytes n w) (spread n (take k ws)) (le_bytes n (get_or ws k 0)))

  -- written where the words before end
  pub spread_set : (out : List ℕ) {mid new : List ℕ} (ws : List ℕ) (i : ℕ) → i < length ws → mid ≡ sets out 0 (spread n (take i ws)) → new ≡ sets mid (n * i) (le_bytes n (get_or ws i 0)) → new ≡ sets out 0 (spread n (take (i + 1) ws))
  spread_set out {mid} {new} ws i h p q =
      let e : n * i ≡ 0 + length (spread n (take i ws)) = rw (spread_long (take i ws), length-take-le i ws (omega arith)) (omega arith) in
      rw (p, e) at q ∙ sym (sets_append (spread n (take i ws)) (le_bytes n (get_or ws i 0)) out 0) ∙ ap (sets out 0) (sym (spread_more ws i h))

  pub words_more : (bs : List ℕ) (i : ℕ) → words n (i + 1) bs ≡ words n i bs ++ (le_value (take n (drop (n * i) bs)) ∷ [])
  words_more bs i = rw (add-one i) (go bs i)
    where
      go : (l : List ℕ) (k : ℕ) → words n (suc k) l ≡ words n k l ++ (le_value (take n (drop (n * k) l)) ∷ [])
      go l zero = rw (mul-zero n)
      go l (suc k) =
          let e : n * suc k ≡ n + n * k = omega (arith, mul-suc n k) in
          ap (◌∷◌ (le_value (take n l))) (go (drop n l) k ∙ rw (drop-drop (n * k) n l, e))

  pub words_long : (k : ℕ) (bs : List ℕ) → length (words n k bs) ≡ k
  words_long zero bs = refl
  words_long (suc k) bs = ap suc (words_long k (drop n bs))

-- stores keep a list's length
pub sets_long : {new : List ℕ} (old : List ℕ) (at : ℕ) (ws : List ℕ) → new ≡ sets old at ws → length new ≡ length old
sets_long old at ws e = ap length e ∙ length-sets old at ws

-- a word put after those that stand at the front
pub set_more : (to : List ℕ) {mid : List ℕ} (ws : List ℕ) (i v : ℕ) → length ws ≡ i → mid ≡ sets to 0 ws → set mid i v ≡ sets to 0 (ws ++ (v ∷ []))
set_more to {mid} ws i v e p =
    let z : i ≡ 0 + length ws = omega arith in
    rw (p, z) (sym (sets_append ws (v ∷ []) to 0))

-- words that are as many as the room takes
pub filled : (to : List ℕ) {new : List ℕ} (ws : List ℕ) → length ws ≡ length to → new ≡ sets to 0 ws → new ≡ ws
filled to ws e q =
    let long : length to ≤ 0 + length ws = omega arith in
    q ∙ sets-eq ws to 0 (omega arith) ∙ rw (drop_all (0 + length ws) to long) (append-nil ws)

module _ (n : ℕ) (bytes to : List ℕ) {new : List ℕ} (i : ℕ) where
  -- the next word into a room
  pub words_set : (v : ℕ) → v ≡ le_value (take n (drop (n * i) bytes)) → new ≡ sets to 0 (words n i bytes) → set new i v ≡ sets to 0 (words n (i + 1) bytes)
  words_set v e q =
      set_more to (words n i bytes) i v (words_long n i bytes) q
      ∙ ap (sets to 0) (ap (λ (x : ℕ). words n i bytes ++ (x ∷ [])) e ∙ sym (words_more n bytes i))

  -- and put below p
  pub constants_more : (v : ℕ) → v ≡ le_value (take n (drop (n * i) bytes)) % p → new ≡ sets to 0 (below_p (words n i bytes)) → set new i v ≡ sets to 0 (below_p (words n (i + 1) bytes))
  constants_more v e q =
      set_more to (below_p (words n i bytes)) i v (length-map (words n i bytes) (λ w. w % p) ∙ words_long n i bytes) q
      ∙ ap (sets to 0) (ap (λ (x : ℕ). below_p (words n i bytes) ++ (x ∷ [])) e ∙ sym (ap below_p (words_more n bytes i) ∙ map-append (λ w. w % p) (words n i bytes) (le_value (take n (drop (n * i) bytes)) ∷ [])))

  -- the room is full
  pub words_read : length to ≡ i → new ≡ sets to 0 (words n i bytes) → new ≡ words n (length to) bytes
  words_read e q = filled to (words n i bytes) (words_long n i bytes ∙ sym e) q ∙ ap (λ (k : ℕ). words n k bytes) (sym e)

  pub constants_read : length to ≡ i → new ≡ sets to 0 (below_p (words n i bytes)) → new ≡ below_p (words n (length to) bytes)
  constants_read e q =
      filled to (below_p (words n i bytes)) (length-map (words n i bytes) (λ w. w % p) ∙ words_long n i bytes ∙ sym e) q
      ∙ ap (λ (k : ℕ). below_p (words n k bytes)) (sym e)

pub below_at : (ws : List ℕ) (i : ℕ) → get_or (below_p ws) i 0 ≡ get_or ws i 0 % p
below_at ws i = get_or-map (λ w. w % p) ws i 0

-- the next constant written
pub constants_set : (out : List ℕ) {mid new : List ℕ} (ws : List ℕ) (i v : ℕ) → i < length ws → v ≡ get_or ws i 0 % p → mid ≡ sets out 0 (spread 8 (take i (below_p ws))) → new ≡ sets mid (8 * i) (le_bytes 8 v) → new ≡ sets out 0 (spread 8 (take (i + 1) (below_p ws)))
constants_set out {mid} ws i v h e q r =
    spread_set 8 out (below_p ws) i (rw (length-map ws (λ w. w % p)) h) q (r ∙ ap (λ (x : ℕ). sets mid (8 * i) (le_bytes 8 x)) (e ∙ sym (below_at ws i)))

pub drop_none : (l : List ℕ) → drop 0 l ≡ l
drop_none [] = refl
drop_none (x ∷ l) = refl
