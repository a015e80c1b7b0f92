-- Laws of the four tables written and read one after another.
-- Assumes nothing.
use Rattle.stored_parts.proofs.WordLaws.{spread_long, words_long, sets_long}
use Rattle.stored.proofs.PartLaws.{front_put, tail, with_tail, tail_put}
use Rattle.std.proofs.lemmas.List.{take-map}
use mathlib.Core.List.{List, ◌++◌}
use mathlib.Core.Path.{◌≡◌, sym, ap, ◌∙◌}
use Prim.Native.Nat.{ℕ, ◌+◌, ◌*◌, ◌%◌, ◌≤◌}
use native.Mathlib.Omega.{arith}
use lib.ListN.{length, take, drop, length-append, length-map}
use lib.Seq.{sets, length-sets, length-take-le}
use Rattle.laws.proofs.Parts.{sets_append}
use Rattle.field.specs.Base.{p}
use Rattle.blob_rules.specs.declared.blob.BlobCounts.{BlobCounts}
use Rattle.stored_parts.specs.Form.{Tables, spread, words, below_p, distance, named, body}
use Rattle.stored_parts.specs.Rooms.{Long}
use Rattle.stored.specs.Answer.{put}

-- two runs in a row
pub runs : (out : List ℕ) {mid new : List ℕ} (vs ws : List ℕ) (k : ℕ) → mid ≡ sets out 0 vs → new ≡ sets mid k ws → length vs ≡ k → new ≡ sets out 0 (vs ++ ws)
runs out vs ws k q r e =
    let z : k ≡ 0 + length vs = omega arith in
    rw (q, z) at r ∙ sym (sets_append vs ws out 0)

taken_long : (n k : ℕ) (ws : List ℕ) → k ≤ length ws → length (spread n (take k ws)) ≡ n * k
taken_long n k ws h = spread_long n (take k ws) ∙ ap (λ (m : ℕ). n * m) (length-take-le k ws h)

module _ (c : BlobCounts) (t : Tables) (l : Long c t) where
  abbrev nodes : List ℕ
  nodes = spread 4 (named c t).nodes

  abbrev bases : List ℕ
  bases = spread 8 (named c t).bases

  abbrev exts : List ℕ
  exts = spread 8 (named c t).exts

  abbrev roots : List ℕ
  roots = spread 4 (named c t).roots

  pub nodes_bytes : length nodes ≡ 4 * (4 * c.nodes)
  nodes_bytes = taken_long 4 (4 * c.nodes) t.nodes l.nodes_long

  pub bases_bytes : length bases ≡ 8 * c.bases
  bases_bytes = taken_long 8 c.bases (below_p t.bases) (rw (length-map t.bases (λ w. w % p)) l.bases_long)

  pub exts_bytes : length exts ≡ 8 * (3 * c.exts)
  exts_bytes = taken_long 8 (3 * c.exts) (below_p t.exts) (rw (length-map t.exts (λ w. w % p)) l.exts_long)

  pub roots_bytes : length roots ≡ 4 * c.roots
  roots_bytes = taken_long 4 c.roots t.roots l.roots_long

  pub two_bytes : length (nodes ++ bases) ≡ 4 * (4 * c.nodes) + 8 * c.bases
  two_bytes = length-append nodes bases ∙ omega (arith, nodes_bytes, bases_bytes)

  pub three_bytes : length (nodes ++ bases ++ exts) ≡ 4 * (4 * c.nodes) + 8 * c.bases + 8 * (3 * c.exts)
  three_bytes = length-append (nodes ++ bases) exts ∙ omega (arith, two_bytes, exts_bytes)

  pub body_bytes : length (body (named c t)) ≡ 4 * distance c
  body_bytes = length-append (nodes ++ bases ++ exts) roots ∙ omega (arith, three_bytes, roots_bytes)

  -- the tables written one after another
  pub body_set : (out : List ℕ) {o₁ o₂ o₃ o₄ : List ℕ} → o₁ ≡ sets out 0 nodes → o₂ ≡ sets o₁ (4 * (4 * c.nodes)) bases → o₃ ≡ sets o₂ (4 * (4 * c.nodes) + 8 * c.bases) exts → o₄ ≡ sets o₃ (4 * (4 * c.nodes) + 8 * c.bases + 8 * (3 * c.exts)) roots → o₄ ≡ sets out 0 (body (named c t))
  body_set out {o₁} {o₂} {o₃} {o₄} e₁ e₂ e₃ e₄ =
      let two = runs out nodes bases (4 * (4 * c.nodes)) e₁ e₂ nodes_bytes in
      let three = runs out (nodes ++ bases) exts (4 * (4 * c.nodes) + 8 * c.bases) two e₃ two_bytes in
      runs out (nodes ++ bases ++ exts) roots (4 * (4 * c.nodes) + 8 * c.bases + 8 * (3 * c.exts)) three e₄ three_bytes

  -- each into the tail that those before it leave
  pub body_put : (out : List ℕ) {o₁ n₂ n₃ n₄ : List ℕ} → 4 * distance c ≤ length out
      → o₁ ≡ sets out 0 nodes
      → n₂ ≡ sets (tail o₁ (4 * (4 * c.nodes))) 0 (spread 8 (below_p (take c.bases t.bases)))
      → n₃ ≡ sets (tail (with_tail o₁ (4 * (4 * c.nodes)) n₂) (4 * (4 * c.nodes) + 8 * c.bases)) 0 (spread 8 (below_p (take (3 * c.exts) t.exts)))
      → n₄ ≡ sets (tail (with_tail (with_tail o₁ (4 * (4 * c.nodes)) n₂) (4 * (4 * c.nodes) + 8 * c.bases) n₃) (4 * (4 * c.nodes) + 8 * c.bases + 8 * (3 * c.exts))) 0 roots
      → with_tail (with_tail (with_tail o₁ (4 * (4 * c.nodes)) n₂) (4 * (4 * c.nodes) + 8 * c.bases) n₃) (4 * (4 * c.nodes) + 8 * c.bases + 8 * (3 * c.exts)) n₄ ≡ sets out 0 (body (named c t))
  body_put out {o₁} {n₂} {n₃} {n₄} fits e₁ e₂ e₃ e₄ =
      let k₁ = 4 * (4 * c.nodes) in
      let k₂ = 4 * (4 * c.nodes) + 8 * c.bases in
      let k₃ = 4 * (4 * c.nodes) + 8 * c.bases + 8 * (3 * c.exts) in
      let l₁ = sets_long out 0 nodes e₁ in
      let s₂ = tail_put o₁ {new = n₂} k₁ bases (omega (arith, l₁)) (e₂ ∙ ap (λ (x : List ℕ). sets (tail o₁ k₁) 0 (spread 8 x)) (sym (take-map (λ w. w % p) c.bases t.bases))) in
      let o₂ = with_tail o₁ k₁ n₂ in
      let l₂ = sets_long o₁ k₁ bases s₂ in
      let s₃ = tail_put o₂ {new = n₃} k₂ exts (omega (arith, l₁, l₂)) (e₃ ∙ ap (λ (x : List ℕ). sets (tail o₂ k₂) 0 (spread 8 x)) (sym (take-map (λ w. w % p) (3 * c.exts) t.exts))) in
      let o₃ = with_tail o₂ k₂ n₃ in
      let l₃ = sets_long o₂ k₂ exts s₃ in
      body_set out e₁ s₂ s₃ (tail_put o₃ {new = n₄} k₃ roots (omega (arith, l₁, l₂, l₃)) e₄)

-- as many words as the front of a room takes
pub words_put : (n k : ℕ) (room bytes : List ℕ) {new : List ℕ} → k ≤ length room → new ≡ words n (length (take k room)) bytes → new ++ drop k room ≡ sets room 0 (words n k bytes)
words_put n k room bytes h e =
    front_put room k (words n k bytes) (words_long n k bytes) h (e ∙ ap (λ (m : ℕ). words n m bytes) (length-take-le k room h))

pub constants_put : (n k : ℕ) (room bytes : List ℕ) {new : List ℕ} → k ≤ length room → new ≡ below_p (words n (length (take k room)) bytes) → new ++ drop k room ≡ sets room 0 (below_p (words n k bytes))
constants_put n k room bytes h e =
    front_put room k (below_p (words n k bytes)) (length-map (words n k bytes) (λ w. w % p) ∙ words_long n k bytes) h (e ∙ ap (λ (m : ℕ). below_p (words n m bytes)) (length-take-le k room h))

-- and the rooms stay as long
pub put_long : (c : BlobCounts) (t rooms : Tables) → Long c rooms → Long c (put t rooms)
put_long c t rooms l =
    record {
      nodes_long = rw (length-sets rooms.nodes 0 t.nodes) l.nodes_long;
      bases_long = rw (length-sets rooms.bases 0 t.bases) l.bases_long;
      exts_long = rw (length-sets rooms.exts 0 t.exts) l.exts_long;
      roots_long = rw (length-sets rooms.roots 0 t.roots) l.roots_long;
    }
