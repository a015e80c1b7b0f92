-- Laws of little-endian words: the two round trips for any width, and the library's bytes of a word.
-- Assumes nothing.
use mathlib.Core.List.{List, [], ◌∷◌}
use mathlib.Core.Path.{◌≡◌, refl, sym, ap, ◌∙◌}
use Prim.Native.Nat.{ℕ, zero, suc, ◌+◌, ◌-◌, ◌*◌, ◌/◌, ◌%◌, ◌^◌, ◌<◌, ◌≤◌}
use native.Mathlib.Nat.{div-div-eq-div-mul, pow-suc}
use native.Mathlib.Omega.{arith}
use borrow.Rule.Slice.PartMut.{put_mid}
use lib.ListN.{length, get_or}
use lib.Seq.{sets, sets-eq, take_all}
use Rattle.std.proofs.lemmas.Slice.{put_mid-paste}
use Rattle.std.specs.Int.{byte_at, bytes_low_first}
use Rattle.little_endian.specs.Bytes.{le_value, le_bytes}

-- a word that n bytes hold comes back
pub value_bytes : (n w : ℕ) → w < 256 ^ n → le_value (le_bytes n w) ≡ w
value_bytes zero w h = omega arith
value_bytes (suc n) w h = omega (arith, value_bytes n (w / 256) (omega arith))

-- and so do n bytes
pub bytes_value : (n : ℕ) (bs : List ℕ) → length bs ≡ n → ((i : ℕ) → i < n → get_or bs i 0 < 256) → le_bytes n (le_value bs) ≡ bs
bytes_value zero [] e h = refl
bytes_value zero (b ∷ bs) e h = absurd (omega arith)
bytes_value (suc n) [] e h = absurd (omega arith)
bytes_value (suc n) (b ∷ bs) e h =
    let below : b < 256 = h 0 (omega arith) in
    let low : (b + 256 * le_value bs) % 256 ≡ b = omega arith in
    let rest : (b + 256 * le_value bs) / 256 ≡ le_value bs = omega arith in
    rw (low, rest, bytes_value n bs (omega arith) (λ i l. h (suc i) (omega arith)))

-- ---- the library's bytes of a word, stored in a row

byte_is : (i w : ℕ) → byte_at i w ≡ w / 256 ^ i % 256
byte_is zero w = omega arith
byte_is (suc i) w = refl

low_first : (n i w : ℕ) → bytes_low_first i n w ≡ le_bytes n (w / 256 ^ i)
low_first zero i w = refl
low_first (suc n) i w =
    let next : w / 256 ^ suc i ≡ w / 256 ^ i / 256 = ap (λ (x : ℕ). w / x) (pow-suc 256 i) ∙ sym (div-div-eq-div-mul w (256 ^ i) 256) in
    rw (byte_is i w, low_first n (suc i) w, next)

pub bytes_long : (n w : ℕ) → length (le_bytes n w) ≡ n
bytes_long zero w = refl
bytes_long (suc n) w = ap suc (bytes_long n _)

-- a word of n bytes that was copied over those from a place on
pub copied : (l : List ℕ) (at n e w : ℕ) {new : List ℕ} → e ≡ at + n → e ≤ length l → new ≡ bytes_low_first 0 n w → put_mid at (e - at) l new ≡ sets l at (le_bytes n w)
copied l at n e w {new} p h q =
    let whole : w / 256 ^ 0 ≡ w = omega arith in
    let same : new ≡ le_bytes n w = q ∙ low_first n 0 w ∙ ap (le_bytes n) whole in
    let k : length new ≡ n = ap length same ∙ bytes_long n w in
    put_mid-paste at (e - at) l new new (length new) refl (omega arith) refl
    ∙ rw (take_all (length new) new (omega arith)) (sym (sets-eq new l at (omega arith)))
    ∙ ap (sets l at) same
