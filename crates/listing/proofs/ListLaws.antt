-- Laws of the listing: text put piece by piece, digits, and lines one after another.
-- Assumes nothing.
use mathlib.Core.Bool.{Bool, true, false}
use mathlib.Core.List.{List, [], ◌∷◌, ◌++◌, append_assoc, append-nil}
use mathlib.Core.Path.{◌≡◌, refl, sym, ap, ◌∙◌}
use Prim.Native.Nat.{ℕ, zero, suc, max, ◌+◌, ◌-◌, ◌*◌, ◌/◌, ◌%◌, ◌^◌, ◌<◌, ◌≤◌}
use native.Mathlib.Nat.{mod-eq_of_lt, mul-suc, mul-zero, mul-le-mul_left}
use native.Mathlib.Numerals.{add-one}
use native.Mathlib.Omega.{arith}
use lib.ListN.{length, get_or, set, take, drop, length-append, length-drop, length-map}
use lib.Seq.{sets, paste, take_all, take-suc, drop-drop, length-take-le, sets-eq}
use borrow.Rule.Slice.PartMut.{put_mid}
use Rattle.std.specs.Fmt as Fmt
use Rattle.std.proofs.lemmas.Fmt.{AppendsLastDigit, decimal_from_appends, length-decimal-le}
use Rattle.std.proofs.lemmas.List.{get_or-drop, drop-take, take-take, take-append-drop}
use Rattle.std.proofs.lemmas.Slice.{put_mid-paste}
use borrow.Author.Tests.{lt-ltb, le-ltb}
use Rattle.laws.proofs.Parts.{sets_append}
use Rattle.little_endian.specs.Bytes.{le_value}
use Rattle.blob_rules.specs.declared.blob.BlobCounts.{BlobCounts}
use Rattle.stored_parts.specs.Form.{words, below_p, counts_in, bad_framing, tables_in}
use Rattle.stored.specs.Answer.{counts_of}
use Rattle.listing.specs.Listing.{digits, decimal, ending, numbers, line, lines, blob_name, node_name, const_name, ext_name, root_name, end_line, refused_name, listing, blob_list, Listable, Holds, SectionsOf, Puts}
use Rattle.listing.specs.declared.listing.Sections.{Sections}
use Rattle.stored_parts.proofs.WordLaws.{drop_none, words_long, sets_long}
use Rattle.field.specs.Base.{p}
use Rattle.stored.proofs.RoundLaws.{trailer_words_lem}

-- ---- pieces

module _ {out : List ℕ} {at : ℕ} where
  -- one piece, then another where it ends
  pub puts_more : {m n k r : ℕ} {mid new : List ℕ} (a b : List ℕ) → Puts out at m a mid k → Puts mid k n b new r → Puts out at (m + n) (a ++ b) new r
  puts_more {m} {n} {k} {r} a b x y =
      let e = x.next in
      let f = y.next in
      let s = x.small in
      let t = y.small in
      record {
        stands = (rw (x.stands, e) at y.stands) ∙ sym (sets_append a b out at);
        next = rw (length-append a b) (omega arith);
        small = omega arith;
      }

  pub puts_within : {m n r : ℕ} {new : List ℕ} {a : List ℕ} → Puts out at m a new r → m ≤ n → Puts out at n a new r
  puts_within x h = let s = x.small in record { stands = x.stands; next = x.next; small = omega arith }

  pub puts_as : {m r : ℕ} {new : List ℕ} {a b : List ℕ} → Puts out at m a new r → a ≡ b → Puts out at m b new r
  puts_as x e = record { stands = rw e at x.stands; next = rw e at x.next; small = x.small }

  -- a room stays as long as it was
  pub puts_room : {m r : ℕ} {new a : List ℕ} → Puts out at m a new r → length new ≡ length out
  puts_room {a = a} x = sets_long out at a x.stands

  -- what stands in the room, where it ends as another list
  pub puts_end : {m r : ℕ} {new a end : List ℕ} → Puts out at m a new r → end ≡ new → Puts out at m a end r
  puts_end x e = record { stands = e ∙ x.stands; next = x.next; small = x.small }

-- ---- digits

-- the number as the library prints it
pub decimal_is : (n : ℕ) → n < 2 ^ 64 → Fmt.decimal n ≡ decimal n
unfolding decimal
decimal_is n h = sym (decimal_from_appends digits appends 20 n h (length-decimal-le 20 n (omega arith) (omega arith) h))
  where
    appends : AppendsLastDigit digits
    appends =
        record {
          one = λ k n l. let t = lt-ltb n 10 l in let e : n % 10 ≡ n = mod-eq_of_lt l in rw (t, e);
          more = λ k n l. let t = le-ltb n 10 l in rw t;
        }

pub number_put : {out : List ℕ} {at : ℕ} {new : List ℕ} {r : ℕ} (n : ℕ) {text : List ℕ} → n < 2 ^ 64 → text ≡ Fmt.decimal n → Puts out at (length text) text new r → Puts out at 20 (decimal n) new r
number_put n {text} h e x =
    let short = length-decimal-le 20 n (omega arith) (omega arith) h in
    puts_within (puts_as x (e ∙ decimal_is n h)) (omega (arith, ap length e))

power_some : (i : ℕ) → 1 ≤ 10 ^ i
power_some zero = omega arith
power_some (suc i) = omega (arith, power_some i)

-- a number from 10 to the k on, and below ten times that, has k + 1 digits
digits_long : (j k n : ℕ) → k < j → 10 ^ k ≤ n → n < 10 * 10 ^ k → length (digits j n) ≡ k + 1
digits_long zero k n h l u = absurd (omega arith)
digits_long (suc j) zero n h l u = rw (lt-ltb n 10 (omega arith)) refl
digits_long (suc j) (suc k) n h l u =
    let more : 10 ≤ n = omega (arith, power_some k) in
    let e = digits_long j k (n / 10) (omega arith) (omega arith) (omega arith) in
    rw (le-ltb n 10 more, length-append (digits j (n / 10)) ((48 + n % 10) ∷ [])) (omega (arith, e))

pub decimal_long : (n k : ℕ) → k < 20 → 10 ^ k ≤ max n 1 → max n 1 < 10 * 10 ^ k → k + 1 ≡ length (decimal n)
unfolding decimal
decimal_long zero zero h l u = refl
decimal_long zero (suc k) h l u = absurd (omega (arith, power_some k))
decimal_long (suc n) k h l u = sym (digits_long 20 k (suc n) h (omega arith) (omega arith))

pub decimal_short : (n : ℕ) → n < 10 → (48 + n) ∷ [] ≡ decimal n
unfolding decimal
decimal_short n h = let e : n % 10 ≡ n = mod-eq_of_lt h in rw (lt-ltb n 10 h, e)

-- one byte put at a place
pub byte_put : (out : List ℕ) (at b : ℕ) → Puts out at 1 (b ∷ []) (set out at b) (at + 1)
byte_put out at b = record { stands = refl; next = refl; small = omega arith }

-- digits written to their place
pub digits_put : (out : List ℕ) (at end r : ℕ) (text : List ℕ) {new : List ℕ} → at + length text ≡ end → end ≤ length out → r + length text ≡ end → drop r new ≡ text ++ drop end out → take r new ≡ take r out → Puts out at (length text) text new end
digits_put out at end r text {new} e h q d t =
    let same : r ≡ at = omega arith in
    let last : end ≡ at + length text = omega arith in
    let front : take at new ≡ take at out = rw same at t in
    let back : drop at new ≡ text ++ drop (at + length text) out = rw (same, last) at d in
    record {
      stands = sym (take-append-drop at new) ∙ rw (front, back) (sym (append_assoc (take at out) text (drop (at + length text) out)) ∙ sym (sets-eq text out at (omega arith)));
      next = last;
      small = omega arith;
    }

-- ---- text

-- text copied to a place
pub text_copied : (out : List ℕ) (at k : ℕ) (text : List ℕ) {copy : List ℕ} → at + length text ≤ length out → length text ≡ k → copy ≡ text → Puts out at (length text) text (put_mid at k out copy) (at + length text)
text_copied out at k text {copy} h l e =
    let whole : paste out at text (length text) ≡ sets out at text = rw (take_all (length text) text (omega arith)) (sym (sets-eq text out at h)) in
    record { stands = put_mid-paste at k out copy text (length text) e l refl ∙ whole; next = refl; small = omega arith }

-- ---- numbers of one line

numbers_more : (k : ℕ) (ws : List ℕ) (v : ℕ) → numbers k (ws ++ (v ∷ [])) ≡ numbers (suc k) ws ++ (decimal v ++ (ending k ∷ []))
numbers_more k [] v =
    let e : 0 + k ≡ k = omega arith in
    append-nil (decimal v ++ (ending (0 + k) ∷ [])) ∙ ap (λ (j : ℕ). decimal v ++ (ending j ∷ [])) e
numbers_more k (w ∷ ws) v =
    let long = length-append ws (v ∷ []) in
    let e : length (ws ++ (v ∷ [])) + k ≡ length ws + suc k = omega arith in
    ap (λ (j : ℕ). decimal w ++ (ending j ∷ []) ++ numbers k (ws ++ (v ∷ []))) e
    ∙ ap (λ (l : List ℕ). decimal w ++ (ending (length ws + suc k) ∷ []) ++ l) (numbers_more k ws v)
    ∙ sym (append_assoc (decimal w ++ (ending (length ws + suc k) ∷ [])) (numbers (suc k) ws) (decimal v ++ (ending k ∷ [])))

-- a newline follows the last number, a space each other
pub newline : (left : ℕ) → left ≡ 0 → 10 ∷ [] ≡ ending left ∷ []
newline left h = rw h

pub spaced : (left : ℕ) → (left ≡ 0 → ⊥) → 32 ∷ [] ≡ ending left ∷ []
spaced zero h = absurd (h refl)
spaced (suc left) h = refl

-- a number and what follows it
pub ended : {out : List ℕ} {at : ℕ} {k r : ℕ} {mid new : List ℕ} (n left : ℕ) {e : List ℕ} → e ≡ ending left ∷ [] → Puts out at 20 (decimal n) mid k → Puts mid k (length e) e new r → Puts out at 21 (decimal n ++ (ending left ∷ [])) new r
ended n left {e} q x y = puts_as (puts_within (puts_more (decimal n) e x y) (omega (arith, ap length q))) (ap (λ (b : List ℕ). decimal n ++ b) q)

-- the next number of those from one place up to another
pub number_step : {out : List ℕ} {at : ℕ} {mid new : List ℕ} {k r : ℕ} (ws : List ℕ) (from end i v : ℕ) → from ≤ i → i < end → end ≤ length ws → v ≡ get_or ws i 0
    → Puts out at (21 * (i - from)) (numbers (end - i) (take (i - from) (drop from ws))) mid k → Puts mid k 21 (decimal v ++ (ending (end - 1 - i) ∷ [])) new r
    → Puts out at (21 * (i + 1 - from)) (numbers (end - (i + 1)) (take (i + 1 - from) (drop from ws))) new r
number_step ws from end i v l h f e x y =
    let z : end - 1 - i ≡ end - (i + 1) = omega arith in
    let s : end - i ≡ suc (end - (i + 1)) = omega arith in
    let t : i + 1 - from ≡ suc (i - from) = omega arith in
    let j : from + (i - from) ≡ i = omega arith in
    let front = take (i - from) (drop from ws) in
    let last : v ≡ get_or (drop from ws) (i - from) 0 = e ∙ ap (λ (n : ℕ). get_or ws n 0) (sym j) ∙ sym (get_or-drop from ws (i - from) 0) in
    let here : take (i + 1 - from) (drop from ws) ≡ front ++ (v ∷ []) = rw (t, last) (take-suc (drop from ws) (i - from) 0 (omega (arith, length-drop from ws))) in
    let same : numbers (end - i) front ++ (decimal v ++ (ending (end - 1 - i) ∷ [])) ≡ numbers (end - (i + 1)) (take (i + 1 - from) (drop from ws)) = rw (z, s, here) (sym (numbers_more (end - (i + 1)) front v)) in
    puts_within (puts_as (puts_more (numbers (end - i) front) (decimal v ++ (ending (end - 1 - i) ∷ [])) x y) same) (omega arith)

-- ---- lines

lines_more : (name : List ℕ) (n : ℕ) (i : ℕ) (ws : List ℕ) → lines name n (i + 1) ws ≡ lines name n i ws ++ line name (take n (drop (n * i) ws))
lines_more name n i ws = rw (add-one i) (go i ws)
  where
    go : (k : ℕ) (l : List ℕ) → lines name n (suc k) l ≡ lines name n k l ++ line name (take n (drop (n * k) l))
    go zero l = rw (mul-zero n, drop_none l) (append-nil (line name (take n l)))
    go (suc k) l =
        let e : n * suc k ≡ n + n * k = omega (arith, mul-suc n k) in
        ap (λ (x : List ℕ). line name (take n l) ++ x) (go k (drop n l))
        ∙ sym (append_assoc (line name (take n l)) (lines name n k (drop n l)) (line name (take n (drop (n * k) (drop n l)))))
        ∙ rw (drop-drop (n * k) n l, e)

-- room for all lines has room for the next
pub line_room : (w i k : ℕ) → i < k → w * i + w ≤ w * k
line_room w i k h = omega (arith, mul-suc w i, mul-le-mul_left w (let l : suc i ≤ k = omega arith in l))

-- the next line: its name, then its numbers
pub line_step : {out : List ℕ} {at : ℕ} {mid text new : List ℕ} {k l r a b : ℕ} (name : List ℕ) (n i : ℕ) (ws : List ℕ) → b ≡ n
    → Puts out at ((a + 21 * n) * i) (lines name n i ws) mid k → Puts mid k a name text l → Puts text l (21 * b) (numbers 0 (take b (drop (n * i) ws))) new r
    → Puts out at ((a + 21 * n) * (i + 1)) (lines name n (i + 1) ws) new r
line_step {a = a} {b = b} name n i ws q x y z =
    let part = take n (drop (n * i) ws) in
    let e : (a + 21 * n) * (i + 1) ≡ (a + 21 * n) * i + (a + 21 * n) = rw (add-one i) (omega (arith, mul-suc (a + 21 * n) i)) in
    rw e (puts_as (puts_more (lines name n i ws) (line name part) x (puts_more name (numbers 0 part) y (rw q at z))) (sym (lines_more name n i ws)))

-- ---- tables in the file

-- word i of a table
pub word_at : (b k i : ℕ) (bs : List ℕ) → i < k → get_or (words b k bs) i 0 ≡ le_value (take b (drop (b * i) bs))
word_at b zero i bs h = absurd (omega arith)
word_at b (suc k) zero bs h = rw (mul-zero b, drop_none bs)
word_at b (suc k) (suc i) bs h =
    let e : b * suc i ≡ b + b * i = omega (arith, mul-suc b i) in
    word_at b k i (drop b bs) (omega arith) ∙ rw (drop-drop (b * i) b bs, e)

-- the numbers of a table
pub word_table_long : (bs : List ℕ) → length (words 4 (length bs / 4) bs) ≡ length bs / 4
word_table_long bs = words_long 4 (length bs / 4) bs

pub constant_table_long : (bs : List ℕ) → length (below_p (words 8 (length bs / 8) bs)) ≡ length bs / 8
constant_table_long bs = length-map (words 8 (length bs / 8) bs) (λ w. w % p) ∙ words_long 8 (length bs / 8) bs

-- words read no further than they go
words_in : (b k m : ℕ) (bs : List ℕ) → m ≡ b * k → words b k (take m bs) ≡ words b k bs
words_in b k m bs h = rw h (go k bs)
  where
    go : (j : ℕ) (l : List ℕ) → words b j (take (b * j) l) ≡ words b j l
    go zero l = refl
    go (suc j) l =
        let e : b * suc j ≡ b + b * j = omega (arith, mul-suc b j) in
        rw (e, take-take b (b + b * j) l (omega arith), drop-take b (b * j) l) (ap (◌∷◌ (le_value (take b l))) (go j (drop b l)))

-- the file cut up from the front
module _ {file : List ℕ} {c : BlobCounts} (h : Holds file c) {rest₁ rest₂ rest₃ trailer : List ℕ}
    (after_nodes : rest₁ ≡ drop (16 * c.nodes) file) (after_bases : rest₂ ≡ drop (8 * c.bases) rest₁)
    (after_exts : rest₃ ≡ drop (24 * c.exts) rest₂) (after_roots : trailer ≡ drop (4 * c.roots) rest₃) where
  bases_at : rest₂ ≡ drop (16 * c.nodes + 8 * c.bases) file
  bases_at = rw (after_bases, after_nodes) (drop-drop (8 * c.bases) (16 * c.nodes) file)

  exts_at : rest₃ ≡ drop (16 * c.nodes + 8 * c.bases + 24 * c.exts) file
  exts_at = rw (after_exts, bases_at) (drop-drop (24 * c.exts) (16 * c.nodes + 8 * c.bases) file)

  trailer_at : trailer ≡ drop (length file - 32) file
  trailer_at =
      let whole = h.whole in
      let e : 16 * c.nodes + 8 * c.bases + 24 * c.exts + 4 * c.roots ≡ length file - 32 = omega arith in
      rw (after_roots, exts_at) (drop-drop (4 * c.roots) (16 * c.nodes + 8 * c.bases + 24 * c.exts) file ∙ ap (λ (i : ℕ). drop i file) e)

  pub cut_up : {s : Sections} → s.nodes.now ≡ take (16 * c.nodes) file → s.bases.now ≡ take (8 * c.bases) rest₁ → s.exts.now ≡ take (24 * c.exts) rest₂
      → s.roots.now ≡ take (4 * c.roots) rest₃ → s.counts.now ≡ take 28 trailer → SectionsOf file c s
  cut_up nodes bases exts roots counts =
      let whole = h.whole in
      let long₁ : length rest₁ ≡ length file - 16 * c.nodes = rw after_nodes (length-drop (16 * c.nodes) file) in
      let long₂ : length rest₂ ≡ length file - (16 * c.nodes + 8 * c.bases) = rw bases_at (length-drop (16 * c.nodes + 8 * c.bases) file) in
      let long₃ : length rest₃ ≡ length file - (16 * c.nodes + 8 * c.bases + 24 * c.exts) = rw exts_at (length-drop (16 * c.nodes + 8 * c.bases + 24 * c.exts) file) in
      let long₄ : length trailer ≡ length file - (length file - 32) = rw trailer_at (length-drop (length file - 32) file) in
      record {
        nodes_long = ap length nodes ∙ length-take-le (16 * c.nodes) file (omega arith);
        bases_long = ap length bases ∙ length-take-le (8 * c.bases) rest₁ (omega arith);
        exts_long = ap length exts ∙ length-take-le (24 * c.exts) rest₂ (omega arith);
        roots_long = ap length roots ∙ length-take-le (4 * c.roots) rest₃ (omega arith);
        counts_long = ap length counts ∙ length-take-le 28 trailer (omega arith);
        nodes_are = rw nodes (words_in 4 (4 * c.nodes) (16 * c.nodes) file (omega arith));
        bases_are = rw bases (ap below_p (words_in 8 c.bases (8 * c.bases) rest₁ refl ∙ ap (words 8 c.bases) after_nodes));
        exts_are = rw exts (ap below_p (words_in 8 (3 * c.exts) (24 * c.exts) rest₂ (omega arith) ∙ ap (words 8 (3 * c.exts)) bases_at));
        roots_are = rw roots (words_in 4 c.roots (4 * c.roots) rest₃ refl ∙ ap (words 4 c.roots) exts_at);
        counts_are = rw counts (words_in 4 7 28 trailer refl ∙ ap (words 4 7) trailer_at ∙ ap (take 7) (trailer_words_lem file) ∙ ap counts_of (sym h.counts_are));
      }

-- ---- the whole

-- the numbers of each section, and room for its lines
pub record Counted (c : BlobCounts) (s : Sections) : Type 0 where
  pub counts : length (words 4 (length s.counts.now / 4) s.counts.now) / 7 ≡ 1
  pub nodes : length (words 4 (length s.nodes.now / 4) s.nodes.now) / 4 ≡ c.nodes
  pub bases : length (below_p (words 8 (length s.bases.now / 8) s.bases.now)) / 1 ≡ c.bases
  pub exts : length (below_p (words 8 (length s.exts.now / 8) s.exts.now)) / 3 ≡ c.exts
  pub roots : length (words 4 (length s.roots.now / 4) s.roots.now) / 1 ≡ c.roots
  pub short : 89 * c.nodes + 27 * c.bases + 67 * c.exts + 26 * c.roots ≤ 524288 - 156

pub counted : {file : List ℕ} {c : BlobCounts} {room : ℕ} {s : Sections} → Listable file c room → SectionsOf file c s → Counted c s
counted {s = s} l p =
    let whole = l.whole in
    let few = l.few in
    record {
      counts = omega (arith, word_table_long s.counts.now);
      nodes = omega (arith, word_table_long s.nodes.now);
      bases = omega (arith, constant_table_long s.bases.now);
      exts = omega (arith, constant_table_long s.exts.now);
      roots = omega (arith, word_table_long s.roots.now);
      short = omega arith;
    }

-- all lines of a table
lines_of : {out : List ℕ} {at : ℕ} {new : List ℕ} {r : ℕ} (name : List ℕ) (w n k : ℕ) {ws vs : List ℕ} → ws ≡ vs → length ws / n ≡ k → Puts out at (w * (length ws / n)) (lines name n (length ws / n) ws) new r → Puts out at (w * k) (lines name n k vs) new r
lines_of name w n k e f x = rw e at (rw f at x)

module _ {file : List ℕ} {c : BlobCounts} {room : ℕ} {s : Sections} (l : Listable file c room) (p : SectionsOf file c s) where
  counts : words 4 (length s.counts.now / 4) s.counts.now ≡ counts_of c
  counts = let z : length s.counts.now / 4 ≡ 7 = omega (arith, p.counts_long) in rw z p.counts_are

  nodes : words 4 (length s.nodes.now / 4) s.nodes.now ≡ (tables_in c file).nodes
  nodes = let z : length s.nodes.now / 4 ≡ 4 * c.nodes = omega (arith, p.nodes_long) in rw z p.nodes_are

  bases : below_p (words 8 (length s.bases.now / 8) s.bases.now) ≡ (tables_in c file).bases
  bases = let z : length s.bases.now / 8 ≡ c.bases = omega (arith, p.bases_long) in rw z p.bases_are

  exts : below_p (words 8 (length s.exts.now / 8) s.exts.now) ≡ (tables_in c file).exts
  exts = let z : length s.exts.now / 8 ≡ 3 * c.exts = omega (arith, p.exts_long) in rw z p.exts_are

  roots : words 4 (length s.roots.now / 4) s.roots.now ≡ (tables_in c file).roots
  roots = let z : length s.roots.now / 4 ≡ c.roots = omega (arith, p.roots_long) in rw z p.roots_are

  pub blob_listed : {out o₁ o₂ o₃ o₄ o₅ o₆ : List ℕ} {at k₁ k₂ k₃ k₄ k₅ k₆ : ℕ}
      → Puts out at (152 * (length (words 4 (length s.counts.now / 4) s.counts.now) / 7)) (lines blob_name 7 (length (words 4 (length s.counts.now / 4) s.counts.now) / 7) (words 4 (length s.counts.now / 4) s.counts.now)) o₁ k₁
      → Puts o₁ k₁ (89 * (length (words 4 (length s.nodes.now / 4) s.nodes.now) / 4)) (lines node_name 4 (length (words 4 (length s.nodes.now / 4) s.nodes.now) / 4) (words 4 (length s.nodes.now / 4) s.nodes.now)) o₂ k₂
      → Puts o₂ k₂ (27 * (length (below_p (words 8 (length s.bases.now / 8) s.bases.now)) / 1)) (lines const_name 1 (length (below_p (words 8 (length s.bases.now / 8) s.bases.now)) / 1) (below_p (words 8 (length s.bases.now / 8) s.bases.now))) o₃ k₃
      → Puts o₃ k₃ (67 * (length (below_p (words 8 (length s.exts.now / 8) s.exts.now)) / 3)) (lines ext_name 3 (length (below_p (words 8 (length s.exts.now / 8) s.exts.now)) / 3) (below_p (words 8 (length s.exts.now / 8) s.exts.now))) o₄ k₄
      → Puts o₄ k₄ (26 * (length (words 4 (length s.roots.now / 4) s.roots.now) / 1)) (lines root_name 1 (length (words 4 (length s.roots.now / 4) s.roots.now) / 1) (words 4 (length s.roots.now / 4) s.roots.now)) o₅ k₅
      → Puts o₅ k₅ 4 end_line o₆ k₆
      → Puts out at 524288 (listing c (tables_in c file)) o₆ k₆
  unfolding listing
  blob_listed p₁ p₂ p₃ p₄ p₅ p₆ =
      let n = counted l p in
      let t = tables_in c file in
      let a = line blob_name (counts_of c) in
      let b = a ++ lines node_name 4 c.nodes t.nodes in
      let d = b ++ lines const_name 1 c.bases t.bases in
      let e = d ++ lines ext_name 3 c.exts t.exts in
      let f = e ++ lines root_name 1 c.roots t.roots in
      let q₁ = puts_as (lines_of blob_name 152 7 1 counts n.counts p₁) (append-nil a) in
      let q₂ = puts_more a (lines node_name 4 c.nodes t.nodes) q₁ (lines_of node_name 89 4 c.nodes nodes n.nodes p₂) in
      let q₃ = puts_more b (lines const_name 1 c.bases t.bases) q₂ (lines_of const_name 27 1 c.bases bases n.bases p₃) in
      let q₄ = puts_more d (lines ext_name 3 c.exts t.exts) q₃ (lines_of ext_name 67 3 c.exts exts n.exts p₄) in
      let q₅ = puts_more e (lines root_name 1 c.roots t.roots) q₄ (lines_of root_name 26 1 c.roots roots n.roots p₅) in
      puts_within (puts_more f end_line q₅ p₆) (omega (arith, n.short))

module _ (file : List ℕ) {out new : List ℕ} {r : ℕ} where
  pub list_long : 65536 < length file → Puts out 0 29 (line refused_name (1 ∷ [])) new r → Puts out 0 524288 (blob_list file) new r
  unfolding blob_list
  list_long h x = puts_within (puts_as x (rw (lt-ltb _ _ h))) (omega arith)

  pub list_misframed : length file ≤ 65536 → {b : Bool} → b ≡ bad_framing file → b ≡ true → Puts out 0 29 (line refused_name (15 ∷ [])) new r → Puts out 0 524288 (blob_list file) new r
  unfolding blob_list
  list_misframed h e k x = puts_within (puts_as x (rw (le-ltb _ _ h, sym e ∙ k))) (omega arith)

  pub list_framed : length file ≤ 65536 → {b : Bool} → b ≡ bad_framing file → b ≡ false → {c : BlobCounts} → c ≡ counts_in file → Puts out 0 524288 (listing c (tables_in c file)) new r → Puts out 0 524288 (blob_list file) new r
  unfolding blob_list
  list_framed h e k q x = puts_as x (rw (le-ltb _ _ h, sym e ∙ k) (ap (λ (y : BlobCounts). listing y (tables_in y file)) q))
