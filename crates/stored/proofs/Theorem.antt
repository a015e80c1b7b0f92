-- A blob that is written and read is the same blob; a file that is read and written is the same file.
-- Assumes nothing.
use Rattle.std.specs.Prelude.{Result, Ok}
use Rattle.ir.specs.declared.refusal.Refusal.{Refusal}
use mathlib.Core.Bool.{false}
use mathlib.Core.List.{List, [], ◌∷◌, ◌++◌}
use mathlib.Core.Path.{◌≡◌, refl, sym, ap, ◌∙◌}
use Prim.Native.Nat.{ℕ, ◌+◌, ◌-◌, ◌*◌, ◌%◌, ◌^◌, ◌<◌, ◌≤◌}
use native.Mathlib.Omega.{arith}
use lib.ListN.{length, take, drop, length-append, length-drop, length-map, take-append-drop}
use lib.Seq.{sets, take-add, take_all, length-take-le}
use Rattle.little_endian.specs.Bytes.{le_value}
use Rattle.little_endian.proofs.BytesLaws.{value_bytes}
use Rattle.field.specs.Base.{p}
use Rattle.blob_rules.specs.declared.blob.BlobCounts.{BlobCounts}
use Rattle.stored_parts.specs.Form.{Tables, spread, words, below_p, distance, size, named, body, trailer_words, stored, trailer_word, counts_in, bad_framing, tables_in}
use Rattle.stored_parts.specs.Rooms.{Long}
use Rattle.stored.specs.Answer.{WriteAnswer, put, ReadAnswer}
use Rattle.stored.proofs.AnswerLaws.{not_short, has_room, write_gives, wrote_ok, Framed, well_framed, read_ok, read_done}
use Rattle.stored.proofs.FormLaws.{put_long, nodes_bytes, two_bytes, three_bytes, body_bytes}
use Rattle.stored_parts.proofs.WordLaws.{drop_none, words_long}
use Rattle.stored.proofs.Single.{write_stored_single, read_stored_single}
use Rattle.stored.proofs.RoundLaws.{Below, below_take, below_drop, below_p_lem, below_kept, eight_fit, value_below, from_first, from_third, from_fourth, front, front_below, words_part, spread_words, trailer_at, trailer_words_lem}

-- every count is a u32
pub record Counted (c : BlobCounts) : Type 0 where
  pub nodes : c.nodes < 4294967296
  pub bases : c.bases < 4294967296
  pub exts : c.exts < 4294967296
  pub roots : c.roots < 4294967296
  pub leading : c.num_base < 4294967296
  pub base_slots : c.base_slots < 4294967296
  pub ext_slots : c.ext_slots < 4294967296

tables_same : {n n' b b' x x' r r' : List ℕ} → n ≡ n' → b ≡ b' → x ≡ x' → r ≡ r' → ◌≡◌ {A = Tables} (record { nodes = n; bases = b; exts = x; roots = r }) (record { nodes = n'; bases = b'; exts = x'; roots = r' })
tables_same p₁ p₂ p₃ p₄ = rw (p₁, p₂, p₃, p₄)

-- ---- written, then read

module _ (c : BlobCounts) (t : Tables) (counted : Counted c) (short : distance c < 4294967296) (l : Long c t) (nodes_fit : Below 4294967296 t.nodes) (roots_fit : Below 4294967296 t.roots) where
  abbrev ending : List ℕ
  ending = spread 4 (trailer_words c)

  -- the trailer's words come back
  pub counts_back : counts_in (stored c t) ≡ c
  counts_back =
      let front = body (named c t) in
      let n = trailer_at front ending 0 refl ∙ value_bytes 4 c.nodes counted.nodes in
      let b = trailer_at front ending 1 refl ∙ value_bytes 4 c.bases counted.bases in
      let x = trailer_at front ending 2 refl ∙ value_bytes 4 c.exts counted.exts in
      let r = trailer_at front ending 3 refl ∙ value_bytes 4 c.roots counted.roots in
      let m = trailer_at front ending 4 refl ∙ value_bytes 4 c.num_base counted.leading in
      let s = trailer_at front ending 5 refl ∙ value_bytes 4 c.base_slots counted.base_slots in
      let e = trailer_at front ending 6 refl ∙ value_bytes 4 c.ext_slots counted.ext_slots in
      counts_same n b x r m s e
    where
      counts_same : {n n' b b' x x' r r' m m' s s' e e' : ℕ} → n ≡ n' → b ≡ b' → x ≡ x' → r ≡ r' → m ≡ m' → s ≡ s' → e ≡ e' → ◌≡◌ {A = BlobCounts} (record { nodes = n; bases = b; exts = x; roots = r; num_base = m; base_slots = s; ext_slots = e }) (record { nodes = n'; bases = b'; exts = x'; roots = r'; num_base = m'; base_slots = s'; ext_slots = e' })
      counts_same p₁ p₂ p₃ p₄ p₅ p₆ p₇ = rw (p₁, p₂, p₃, p₄, p₅, p₆, p₇)

  pub told_back : trailer_word (stored c t) 7 ≡ distance c
  told_back = trailer_at (body (named c t)) ending 7 refl ∙ value_bytes 4 (distance c) short

  pub stored_long : length (stored c t) ≡ size c
  stored_long = length-append (body (named c t)) ending ∙ ap (λ (k : ℕ). k + 32) (body_bytes c t l)

  -- the framing is right
  pub framing_back : bad_framing (stored c t) ≡ false
  framing_back =
      well_framed (stored c t)
      (record {
        room = rw stored_long (omega arith);
        told = told_back ∙ ap distance (sym counts_back);
        whole = stored_long ∙ ap size (sym counts_back);
      })

  -- each table is read where it was written
  pub tables_back : tables_in c (stored c t) ≡ named c t
  tables_back =
      let n = (named c t).nodes in
      let b = (named c t).bases in
      let x = (named c t).exts in
      let r = (named c t).roots in
      let ns = spread 4 n in
      let bs = spread 8 b in
      let xs = spread 8 x in
      let rs = spread 4 r in
      let b_long : length (below_p t.bases) ≡ length t.bases = length-map t.bases (λ w. w % p) in
      let x_long : length (below_p t.exts) ≡ length t.exts = length-map t.exts (λ w. w % p) in
      let b_fit : Below p b = below_take c.bases (below_p t.bases) (rw b_long l.bases_long) (below_p_lem t.bases) in
      let x_fit : Below p x = below_take (3 * c.exts) (below_p t.exts) (rw x_long l.exts_long) (below_p_lem t.exts) in
      let n_at : length ns ≡ 16 * c.nodes = nodes_bytes c t l ∙ omega arith in
      let b_at : length (ns ++ bs) ≡ 16 * c.nodes + 8 * c.bases = two_bytes c t l ∙ omega arith in
      let x_at : length (ns ++ bs ++ xs) ≡ 16 * c.nodes + 8 * c.bases + 24 * c.exts = three_bytes c t l ∙ omega arith in
      let nodes_read =
      ap (words 4 (4 * c.nodes)) (from_first ns bs xs rs ending ∙ sym (drop_none (ns ++ (bs ++ (xs ++ (rs ++ ending))))))
      ∙ words_part 4 [] n (bs ++ (xs ++ (rs ++ ending))) 0 (4 * c.nodes) refl (length-take-le (4 * c.nodes) t.nodes l.nodes_long) (below_take (4 * c.nodes) t.nodes l.nodes_long nodes_fit) in
      let bases_read =
      ap (λ (f : List ℕ). below_p (words 8 c.bases (drop (16 * c.nodes) f))) (from_first ns bs xs rs ending)
      ∙ ap below_p (words_part 8 ns b (xs ++ (rs ++ ending)) (16 * c.nodes) c.bases n_at (length-take-le c.bases (below_p t.bases) (rw b_long l.bases_long)) (eight_fit b_fit))
      ∙ below_kept b b_fit in
      let exts_read =
      ap (λ (f : List ℕ). below_p (words 8 (3 * c.exts) (drop (16 * c.nodes + 8 * c.bases) f))) (from_third ns bs xs rs ending)
      ∙ ap below_p (words_part 8 (ns ++ bs) x (rs ++ ending) (16 * c.nodes + 8 * c.bases) (3 * c.exts) b_at (length-take-le (3 * c.exts) (below_p t.exts) (rw x_long l.exts_long)) (eight_fit x_fit))
      ∙ below_kept x x_fit in
      let roots_read =
      ap (λ (f : List ℕ). words 4 c.roots (drop (16 * c.nodes + 8 * c.bases + 24 * c.exts) f)) (from_fourth ns bs xs rs ending)
      ∙ words_part 4 (ns ++ bs ++ xs) r ending (16 * c.nodes + 8 * c.bases + 24 * c.exts) c.roots x_at (length-take-le c.roots t.roots l.roots_long) (below_take c.roots t.roots l.roots_long roots_fit) in
      tables_same nodes_read bases_read exts_read roots_read

-- ---- read, then written

module _ (c : BlobCounts) (file : List ℕ) where
  abbrev to_exts : ℕ
  to_exts = 16 * c.nodes + 8 * c.bases

  abbrev to_roots : ℕ
  to_roots = 16 * c.nodes + 8 * c.bases + 24 * c.exts

  -- the file's constants are below p
  pub record ConstantsBelow : Type 0 where
    pub bases_below : Below p (words 8 c.bases (drop (16 * c.nodes) file))
    pub exts_below : Below p (words 8 (3 * c.exts) (drop to_exts file))

  -- the tables are the bytes before the trailer
  pub body_back : Below 256 file → 4 * distance c ≤ length file → ConstantsBelow → body (tables_in c file) ≡ take (4 * distance c) file
  body_back bytes h q =
      let b_left = length-drop (16 * c.nodes) file in
      let x_left = length-drop to_exts file in
      let r_left = length-drop to_roots file in
      let e₁ : 4 * (4 * c.nodes) ≡ 16 * c.nodes = omega arith in
      let e₃ : 8 * (3 * c.exts) ≡ 24 * c.exts = omega arith in
      let e₄ : to_roots + 4 * c.roots ≡ 4 * distance c = omega arith in
      let ns : spread 4 (tables_in c file).nodes ≡ take (16 * c.nodes) file = rw e₁ at (spread_words 4 (4 * c.nodes) file (omega arith) bytes) in
      let bs : spread 8 (tables_in c file).bases ≡ take (8 * c.bases) (drop (16 * c.nodes) file) =
      ap (spread 8) (below_kept (words 8 c.bases (drop (16 * c.nodes) file)) q.bases_below)
      ∙ spread_words 8 c.bases (drop (16 * c.nodes) file) (omega arith) (below_drop (16 * c.nodes) file bytes) in
      let xs : spread 8 (tables_in c file).exts ≡ take (24 * c.exts) (drop to_exts file) =
      ap (spread 8) (below_kept (words 8 (3 * c.exts) (drop to_exts file)) q.exts_below)
      ∙ (rw e₃ at (spread_words 8 (3 * c.exts) (drop to_exts file) (omega arith) (below_drop to_exts file bytes))) in
      let rs : spread 4 (tables_in c file).roots ≡ take (4 * c.roots) (drop to_roots file) =
      spread_words 4 c.roots (drop to_roots file) (omega arith) (below_drop to_roots file bytes) in
      rw (ns, bs, xs, rs)
      (rw (← (take-add (16 * c.nodes) (8 * c.bases) file), ← (take-add to_exts (24 * c.exts) file), ← (take-add to_roots (4 * c.roots) file), e₄))

  -- tables at the front of rooms are the blob's
  pub named_back : (rooms : Tables) → Long c rooms → named c (put (tables_in c file) rooms) ≡ tables_in c file
  named_back rooms l =
      tables_same
      (front rooms.nodes (words 4 (4 * c.nodes) file) (4 * c.nodes) (words_long 4 (4 * c.nodes) file) l.nodes_long)
      (front_below rooms.bases (words 8 c.bases (drop (16 * c.nodes) file)) c.bases (words_long 8 c.bases (drop (16 * c.nodes) file)) l.bases_long)
      (front_below rooms.exts (words 8 (3 * c.exts) (drop to_exts file)) (3 * c.exts) (words_long 8 (3 * c.exts) (drop to_exts file)) l.exts_long)
      (front rooms.roots (words 4 c.roots (drop to_roots file)) c.roots (words_long 4 c.roots (drop to_roots file)) l.roots_long)

module _ (file : List ℕ) (bytes : Below 256 file) (f : Framed file) where
  -- the trailer is the file's last 32 bytes
  pub trailer_back : spread 4 (trailer_words (counts_in file)) ≡ drop (length file - 32) file
  trailer_back =
      let room = f.room in
      let left : length (drop (length file - 32) file) ≡ 32 = length-drop (length file - 32) file ∙ omega arith in
      ap (λ (w : ℕ). spread 4 (trailer_word file 0 ∷ trailer_word file 1 ∷ trailer_word file 2 ∷ trailer_word file 3 ∷ trailer_word file 4 ∷ trailer_word file 5 ∷ trailer_word file 6 ∷ w ∷ [])) (sym f.told)
      ∙ ap (spread 4) (sym (trailer_words_lem file))
      ∙ spread_words 4 8 (drop (length file - 32) file) (omega arith) (below_drop (length file - 32) file bytes)
      ∙ take_all 32 (drop (length file - 32) file) (omega arith)

  -- a distance fits 32 bits
  pub distance_fits : distance (counts_in file) ≤ 4294967295
  distance_fits =
      let room = f.room in
      let last = drop (length file - 32 + 4 * 7) file in
      let left = length-drop (length file - 32 + 4 * 7) file in
      let four : length (take 4 last) ≡ 4 = length-take-le 4 last (omega arith) in
      let v = value_below (take 4 last) (below_take 4 last (omega arith) (below_drop (length file - 32 + 4 * 7) file bytes)) in
      let w : le_value (take 4 last) < 256 ^ 4 = rw four at v in
      rw (← f.told) (omega arith)

  -- the tables and the counts give the file
  pub file_back : ConstantsBelow (counts_in file) file → body (tables_in (counts_in file) file) ++ spread 4 (trailer_words (counts_in file)) ≡ file
  file_back q =
      let whole = f.whole in
      let e : length file - 32 ≡ 4 * distance (counts_in file) = omega arith in
      ap (λ (l : List ℕ). l ++ spread 4 (trailer_words (counts_in file))) (body_back (counts_in file) file bytes (omega arith) q)
      ∙ ap (λ (l : List ℕ). take (4 * distance (counts_in file)) file ++ l) (trailer_back ∙ ap (λ (k : ℕ). drop k file) e)
      ∙ take-append-drop (4 * distance (counts_in file)) file

-- ---- the calls

-- what `write_stored` wrote, `read_stored` reads: the counts, and the named words, constants below p
pub write_then_read : {c : BlobCounts} {t rooms rooms' : Tables} {out out' : List ℕ} {bytes : ℕ} {answer : Result BlobCounts Refusal}
    → Counted c → Below 4294967296 t.nodes → Below 4294967296 t.roots
    → WriteAnswer c t out (Ok bytes) out' → Long c rooms → ReadAnswer (take bytes out') rooms answer rooms'
    → (answer ≡ Ok c) × (rooms' ≡ put (named c t) rooms)
write_then_read {c} {t} {rooms} {rooms'} {out} {out'} {bytes} {answer} counted n r w long a =
    let ok = wrote_ok c t out w in
    let short : distance c < 4294967296 = let h = ok.room_long.0 in omega arith in
    let l = ok.tables_long in
    let sized = stored_long c t counted short l n r in
    let file : take bytes out' ≡ stored c t =
    ap (take bytes) ok.file_stands ∙ front out (stored c t) bytes (sized ∙ sym ok.bytes_are) (rw ok.bytes_are ok.room_long.1) in
    let same = counts_back c t counted short l n r in
    let read : ReadAnswer (stored c t) rooms (Ok c) (put (tables_in c (stored c t)) rooms) =
    read_done (stored c t) rooms (sym (framing_back c t counted short l n r)) refl (sym same) (sym (not_short c rooms long)) refl refl in
    let one = read_stored_single (rw file at a) read in
    (one.0, one.1 ∙ ap (λ (x : Tables). put x rooms) (tables_back c t counted short l n r))

-- what `read_stored` read, `write_stored` writes: the same file, where its constants are below p
pub read_then_write : {file : List ℕ} {c : BlobCounts} {rooms rooms' : Tables} {out out' : List ℕ} {answer : Result ℕ Refusal}
    → Below 256 file → ConstantsBelow c file
    → ReadAnswer file rooms (Ok c) rooms' → length file ≤ length out → WriteAnswer c rooms' out answer out'
    → (answer ≡ Ok (length file)) × (out' ≡ sets out 0 file)
read_then_write {file} {c} {rooms} {rooms'} {out} {out'} {answer} bytes below r room w =
    let had = read_ok file rooms r in
    let k = counts_in file in
    let f = had.framing_right in
    let put_in = put (tables_in k file) rooms in
    let told = distance_fits file bytes f in
    let fits : size k ≤ length out = let whole = f.whole in omega arith in
    let gives =
    write_gives k put_in out (not_short k put_in (put_long k (tables_in k file) rooms had.rooms_long)) (has_room (distance k) (length out) told fits) in
    let one = write_stored_single (rw (had.counts_are, had.tables_stand) at w) gives in
    let same =
    ap (λ (x : Tables). body x ++ spread 4 (trailer_words k)) (named_back k file rooms had.rooms_long)
    ∙ file_back file bytes f (rw had.counts_are at below) in
    (one.0 ∙ ap Ok (sym f.whole), one.1 ∙ ap (sets out 0) same)
