-- What writing and reading answer, test by test.
-- Assumes nothing.
use Rattle.std.specs.Prelude.{Ok, Err}
use mathlib.Core.Bool.{Bool, true, false, not, ◌||◌}
use mathlib.Core.List.{List}
use mathlib.Core.Path.{◌≡◌, refl, sym, ap, ◌∙◌}
use Prim.Native.Nat.{ℕ, ◌+◌, ◌*◌, ◌≤◌}
use native.Mathlib.Omega.{arith}
use lib.Dec.{eqb, ltb}
use lib.ListN.{length, get_or}
use lib.Seq.{sets}
use borrow.Author.Tests.{le-ltb, ltb-false, eq-eqb, eqb-true}
use Rattle.laws.proofs.Cases.{by_test}
use Rattle.laws.proofs.Tests.{or_left, or_right}
use Rattle.ir.specs.declared.refusal.Refusal.{Refusal}
use Rattle.ir.specs.declared.refusal.Refusal.TheVariants.{ShortMemory, ShortOutput, BadFraming}
use Rattle.ir.specs.Refusals.{Said, said_of}
use Rattle.blob_rules.specs.declared.blob.BlobCounts.{BlobCounts}
use Rattle.stored_parts.specs.Form.{Tables, spread, named, body, distance, size, stored, trailer_words, trailer_word, counts_in, bad_framing, tables_in}
use Rattle.stored_parts.specs.Rooms.{short_tables, Long, no_room}
use Rattle.stored.specs.Answer.{write_said, WriteAnswer, put, read_said, ReadAnswer}
use Rattle.stored.proofs.FormLaws.{runs, body_bytes}

-- tables that are long enough
pub long : (c : BlobCounts) (t : Tables) → short_tables c t ≡ false → Long c t
long c t h =
    let n = ltb (length t.nodes) (4 * c.nodes) in
    let b = ltb (length t.bases) c.bases in
    let x = ltb (length t.exts) (3 * c.exts) in
    let r = ltb (length t.roots) c.roots in
    let nbx = or_left (n || b || x) r h in
    let nb = or_left (n || b) x nbx in
    record {
      nodes_long = ltb-false _ _ (or_left n b nb);
      bases_long = ltb-false _ _ (or_right n b nb);
      exts_long = ltb-false _ _ (or_right (n || b) x nbx);
      roots_long = ltb-false _ _ (or_right (n || b || x) r h);
    }

pub not_short : (c : BlobCounts) (t : Tables) → Long c t → short_tables c t ≡ false
not_short c t l =
    rw (le-ltb _ _ l.nodes_long, le-ltb _ _ l.bases_long, le-ltb _ _ l.exts_long, le-ltb _ _ l.roots_long)

-- ---- writing

-- a body of so many words has room
pub roomy : (words room : ℕ) → no_room words room ≡ false → (words ≤ 4294967295) × (4 * words + 32 ≤ room)
roomy words room h =
    (ltb-false _ _ (or_left (ltb 4294967295 words) (ltb room (4 * words + 32)) h), ltb-false _ _ (or_right (ltb 4294967295 words) (ltb room (4 * words + 32)) h))

pub has_room : (words room : ℕ) → words ≤ 4294967295 → 4 * words + 32 ≤ room → no_room words room ≡ false
has_room words room h k = rw (le-ltb _ _ h, le-ltb _ _ k)

module _ (c : BlobCounts) (t : Tables) (out : List ℕ) where
  -- the file stands in the room
  pub write_gives : short_tables c t ≡ false → no_room (distance c) (length out) ≡ false → WriteAnswer c t out (Ok (size c)) (sets out 0 (stored c t))
  unfolding write_said
  write_gives s n = record { said = rw (s, n); wrote = rw (s, n) }

  -- what an answer 0 says
  pub record Wrote (bytes : ℕ) (new : List ℕ) : Type 0 where
    pub tables_long : Long c t
    pub room_long : (distance c ≤ 4294967295) × (size c ≤ length out)
    pub bytes_are : bytes ≡ size c
    pub file_stands : new ≡ sets out 0 (stored c t)

  pub wrote_ok : {bytes : ℕ} {new : List ℕ} → WriteAnswer c t out (Ok bytes) new → Wrote bytes new
  unfolding write_said
  wrote_ok {bytes} {new} a =
      by_test (short_tables c t) (Wrote bytes new)
      (λ h. absurd (let z : 0 ≡ 1 = ap (λ (s : Said). s.number) (rw h at a.said) in omega arith))
      λ h.
      by_test (no_room (distance c) (length out)) (Wrote bytes new)
      (λ k. absurd (let z : 0 ≡ 10 = ap (λ (s : Said). s.number) (rw (h, k) at a.said) in omega arith))
      λ k.
      record {
        tables_long = long c t h;
        room_long = roomy (distance c) (length out) k;
        bytes_are = ap (λ (s : Said). get_or s.values 0 0) (rw (h, k) at a.said);
        file_stands = rw (h, k) at a.wrote;
      }

  write_refused : (r : Refusal) → eqb (said_of r).number 0 ≡ false → write_said c t out ≡ said_of r → WriteAnswer c t out (Err r) out
  write_refused r z e = record { said = sym e; wrote = rw (e, z) refl }

  -- a table is too short
  pub write_short : {s : Bool} → s ≡ short_tables c t → s ≡ true → WriteAnswer c t out (Err ShortMemory) out
  unfolding write_said
  write_short e h = write_refused ShortMemory refl (rw (sym e ∙ h) refl)

  module _ {s : Bool} (e : s ≡ short_tables c t) (h : s ≡ false) {words : ℕ} (w : words ≡ distance c) {n : Bool} (m : n ≡ no_room words (length out)) where
    -- there is no room
    pub write_crowded : n ≡ true → WriteAnswer c t out (Err ShortOutput) out
    unfolding write_said
    write_crowded k = write_refused ShortOutput refl (rw (sym e ∙ h, ← w, sym m ∙ k) refl)

    -- body and trailer stand in the room
    pub write_done : n ≡ false → {mid new : List ℕ} → mid ≡ sets out 0 (body (named c t)) → new ≡ sets mid (4 * words) (spread 4 (trailer_words c)) → WriteAnswer c t out (Ok (4 * words + 32)) new
    unfolding write_said
    write_done k {mid} {new} q r =
        let file : new ≡ sets out 0 (stored c t) = runs out (body (named c t)) (spread 4 (trailer_words c)) (4 * words) q r (body_bytes c t (long c t (sym e ∙ h)) ∙ ap (λ (x : ℕ). 4 * x) (sym w)) in
        let z : no_room (distance c) (length out) ≡ false = ap (λ (x : ℕ). no_room x (length out)) (sym w) ∙ sym m ∙ k in
        record { said = rw (sym e ∙ h, z) (rw w refl); wrote = rw (sym e ∙ h, z) file }

-- ---- reading

not_false : (b : Bool) → not b ≡ false → b ≡ true
not_false true h = refl
not_false false h = sym h

-- the counts among the values
abbrev pub counts_said : Said → BlobCounts
counts_said s =
    let v = s.values in
    record {
      nodes = get_or v 0 0;
      bases = get_or v 1 0;
      exts = get_or v 2 0;
      roots = get_or v 3 0;
      num_base = get_or v 4 0;
      base_slots = get_or v 5 0;
      ext_slots = get_or v 6 0;
    }

module _ (file : List ℕ) where
  -- what right framing says
  pub record Framed : Type 0 where
    pub room : 32 ≤ length file
    pub told : trailer_word file 7 ≡ distance (counts_in file)
    pub whole : length file ≡ size (counts_in file)

  pub well_framed : Framed → bad_framing file ≡ false
  well_framed f = rw (le-ltb _ _ f.room, eq-eqb _ _ f.told, eq-eqb _ _ f.whole)

  pub framed : bad_framing file ≡ false → Framed
  framed h =
      let a = ltb (length file) 32 in
      let d = eqb (trailer_word file 7) (distance (counts_in file)) in
      let l = eqb (length file) (size (counts_in file)) in
      let q = or_right a (not d || not l) h in
      record {
        room = ltb-false _ _ (or_left a (not d || not l) h);
        told = eqb-true _ _ (not_false d (or_left (not d) (not l) q));
        whole = eqb-true _ _ (not_false l (or_right (not d) (not l) q));
      }

  module _ (rooms : Tables) where
    read_refused : (r : Refusal) → eqb (said_of r).number 0 ≡ false → read_said file rooms ≡ said_of r → ReadAnswer file rooms (Err r) rooms
    read_refused r z e = record { said = sym e; wrote = rw (e, z) refl }

    pub read_misframed : {b : Bool} → b ≡ bad_framing file → b ≡ true → ReadAnswer file rooms (Err BadFraming) rooms
    unfolding read_said
    read_misframed e h = read_refused BadFraming refl (rw (sym e ∙ h) refl)

    -- what an answer 0 says
    pub record Had (c : BlobCounts) (new : Tables) : Type 0 where
      pub framing_right : Framed
      pub counts_are : c ≡ counts_in file
      pub rooms_long : Long (counts_in file) rooms
      pub tables_stand : new ≡ put (tables_in (counts_in file) file) rooms

    pub read_ok : {c : BlobCounts} {new : Tables} → ReadAnswer file rooms (Ok c) new → Had c new
    unfolding read_said
    read_ok {c} {new} a =
        by_test (bad_framing file) (Had c new)
        (λ h. absurd (let z : 0 ≡ 15 = ap (λ (s : Said). s.number) (rw h at a.said) in omega arith))
        λ h.
        by_test (short_tables (counts_in file) rooms) (Had c new)
        (λ k. absurd (let z : 0 ≡ 10 = ap (λ (s : Said). s.number) (rw (h, k) at a.said) in omega arith))
        λ k.
        record {
          framing_right = framed h;
          counts_are = ap counts_said (rw (h, k) at a.said);
          rooms_long = long (counts_in file) rooms k;
          tables_stand = rw (h, k) at a.wrote;
        }

    module _ {b : Bool} (e : b ≡ bad_framing file) (h : b ≡ false) {c : BlobCounts} (w : c ≡ counts_in file) {s : Bool} (m : s ≡ short_tables c rooms) where
      room_test : short_tables (counts_in file) rooms ≡ s
      room_test = ap (λ x. short_tables x rooms) (sym w) ∙ sym m

      pub read_short : s ≡ true → ReadAnswer file rooms (Err ShortOutput) rooms
      unfolding read_said
      read_short k = read_refused ShortOutput refl (rw (sym e ∙ h, room_test ∙ k) refl)

      pub read_done : s ≡ false → {new : Tables} → new ≡ put (tables_in c file) rooms → ReadAnswer file rooms (Ok c) new
      unfolding read_said
      read_done k q =
          record { said = rw (sym e ∙ h, room_test ∙ k) (rw w refl); wrote = rw (sym e ∙ h, room_test ∙ k) (q ∙ ap (λ x. put (tables_in x file) rooms) w) }
