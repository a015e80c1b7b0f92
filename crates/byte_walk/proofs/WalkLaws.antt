-- What the walk over bytes answers, case by case.
-- Assumes nothing.
use Rattle.std.specs.Prelude.{Result, Ok, Err}
use mathlib.Core.Bool.{false, ◌||◌}
use mathlib.Core.List.{List, ◌++◌}
use mathlib.Core.Path.{◌≡◌, refl, sym, ap, subst, ◌∙◌}
use Prim.Native.Nat.{ℕ, ◌+◌, ◌≤◌}
use native.Mathlib.Omega.{arith}
use lib.ListN.{length, take, drop}
use lib.Seq.{sets, sets-eq}
use borrow.Author.Tests.{ltb-false, ne_eqb}
use Rattle.laws.proofs.Parts.{sets_after}
use Rattle.laws.proofs.Tests.{or_left, or_right, clash}
use Rattle.ir.specs.declared.frame.Shape.{Shape}
use Rattle.ir.specs.declared.refusal.Refusal.{Refusal}
use Rattle.ir.specs.Refusals.{said_of}
use Rattle.ir.specs.Shape.{over_shape}
use Rattle.ir.proofs.RefusalLaws.{refusal_number}
use Rattle.values.specs.Frame.{Lent}
use Rattle.blob_rules.specs.Blob.{Blob}
use Rattle.walk.specs.Walk.{WalkAnswer}
use Rattle.stored_parts.specs.Form.{Tables, spread}
use Rattle.stored_parts.proofs.WordLaws.{words_long}
use Rattle.byte_words.specs.Words.{whole, words_in}
use Rattle.byte_walk.specs.Walking.{Frame, Evals, frame_words, eval_words, put_frame, tight, short_frame_rooms, FrameFits, EvalsFit, lent_in, Memory, short_rooms, Packed, Walked, WalkBytes}
use Rattle.byte_words.proofs.WordLaws.{unpacked}

-- ---- rooms

pub frame_fits : (f rooms : Frame) → short_frame_rooms f rooms ≡ false → FrameFits f rooms
frame_fits f rooms h =
    let m = tight (length f.main) (length rooms.main) in
    let a = tight (length f.aux) (length rooms.aux) in
    let c = tight (length f.challenges) (length rooms.challenges) in
    let p = tight (length f.alphas) (length rooms.alphas) in
    let mac = or_left (m || a || c) p h in
    let ma = or_left (m || a) c mac in
    record {
      main_fits = ltb-false _ _ (or_left m a ma);
      aux_fits = ltb-false _ _ (or_right m a ma);
      challenges_fit = ltb-false _ _ (or_right (m || a) c mac);
      alphas_fit = ltb-false _ _ (or_right (m || a || c) p h);
    }

-- the first words of each room
abbrev pub frame_fronts : Frame → Frame → Frame
frame_fronts f rooms =
    record {
      main = take (whole 8 f.main) rooms.main;
      aux = take (whole 8 f.aux) rooms.aux;
      challenges = take (whole 8 f.challenges) rooms.challenges;
      alphas = take (whole 8 f.alphas) rooms.alphas;
    }

frame_fronts_are : (f rooms : Frame) {rooms' : Frame} → FrameFits f rooms → rooms' ≡ put_frame (frame_words f) rooms → frame_fronts f rooms' ≡ frame_words f
frame_fronts_are f rooms h e =
    ap (frame_fronts f) e
    ∙ rw (unpacked 8 f.main rooms.main h.main_fits refl, unpacked 8 f.aux rooms.aux h.aux_fits refl, unpacked 8 f.challenges rooms.challenges h.challenges_fit refl, unpacked 8 f.alphas rooms.alphas h.alphas_fit refl)

-- ---- the walk of words

module _ {b : Blob} {s : Shape} {l : Lent} {evals words words' : Evals} {marks marks' slots slots' : List ℕ} {o : Result (Unit {0}) Refusal} (a : WalkAnswer b s l o words.base words'.base words.ext words'.ext marks marks' slots slots') where
  pub packed_refused : {why : Refusal} → o ≡ Err why → Packed b s l evals words marks slots (Err why) evals words' marks' slots'
  packed_refused {why} e =
      record { walked = rw e at a; packed = rw (ne_eqb (said_of why).number 0 (refusal_number why)) }

  pub packed_done : {done : Unit {0}} {base ext : List ℕ} → o ≡ Ok done → base ≡ sets evals.base 0 (spread 8 words'.base) → ext ≡ sets evals.ext 0 (spread 8 words'.ext) → Packed b s l evals words marks slots (Ok done) (record { base = base; ext = ext }) words' marks' slots'
  packed_done e p q = record { walked = rw e at a; packed = rw (p, q) }

-- ---- frame and evals in rooms

pub bytes_done : {b : Blob} {t : Tables} {offset : List ℕ} (s : Shape) (f : Frame) (m : Memory) → over_shape s ≡ false → short_rooms f m ≡ false → {answer : Result (Unit {0}) Refusal} {m' : Memory} → m'.frame_rooms ≡ put_frame (frame_words f) m.frame_rooms → Walked b s (lent_in t (frame_fronts f m'.frame_rooms) offset) m.evals m.eval_rooms m.marks m.slots answer m'.evals m'.eval_rooms m'.marks m'.slots → WalkBytes b s t offset f m answer m'
bytes_done {b} {t} {offset} s f m e k {answer} {m'} u g =
    record {
      over = λ o. clash o e;
      short = λ o q. clash q k;
      unpacked = λ o q. u;
      walked = λ o q. subst (λ (x : Frame). Walked b s (lent_in t x offset) m.evals m.eval_rooms m.marks m.slots answer m'.evals m'.eval_rooms m'.marks m'.slots) (frame_fronts_are f m.frame_rooms (frame_fits f m.frame_rooms (or_left _ _ k)) u) g;
    }

-- ---- evals in rooms

-- words over the front of a room that other words stood at
front_over : (room : List ℕ) {mid : List ℕ} (ws vs : List ℕ) (k : ℕ) → mid ≡ sets room 0 ws → length ws ≡ k → length vs ≡ k → k ≤ length room → vs ++ drop k mid ≡ sets room 0 vs
front_over room ws vs k e w v h =
    let z : 0 + length vs ≡ k = omega arith in
    ap (λ (l : List ℕ). vs ++ drop k l) e
    ∙ ap (λ (l : List ℕ). vs ++ l) (sets_after ws room 0 k (omega arith))
    ∙ sym (sets-eq vs room 0 (omega arith) ∙ ap (λ (n : ℕ). take 0 room ++ vs ++ drop n room) z)

pub walked_in : {b : Blob} {s : Shape} {l : Lent} (evals rooms : Evals) {marks marks' slots slots' : List ℕ} {answer : Result (Unit {0}) Refusal} {evals' after : Evals} {base ext : List ℕ} → EvalsFit evals rooms
    → base ≡ sets rooms.base 0 (words_in 8 evals.base) → ext ≡ sets rooms.ext 0 (words_in 8 evals.ext)
    → Packed b s l evals (record { base = take (whole 8 evals.base) base; ext = take (whole 8 evals.ext) ext }) marks slots answer evals' after marks' slots'
    → length after.base ≡ length (take (whole 8 evals.base) base) → length after.ext ≡ length (take (whole 8 evals.ext) ext)
    → Walked b s l evals rooms marks slots answer evals' (record { base = after.base ++ drop (whole 8 evals.base) base; ext = after.ext ++ drop (whole 8 evals.ext) ext }) marks' slots'
walked_in {b} {s} {l} evals rooms {marks} {marks'} {slots} {slots'} {answer} {evals'} {after} {base} {ext} f p q w m n =
    let tb = unpacked 8 evals.base rooms.base f.base_fits p in
    let tx = unpacked 8 evals.ext rooms.ext f.ext_fits q in
    let lb = words_long 8 (whole 8 evals.base) evals.base in
    let lx = words_long 8 (whole 8 evals.ext) evals.ext in
    let eb = front_over rooms.base (words_in 8 evals.base) after.base (whole 8 evals.base) p lb (m ∙ ap length tb ∙ lb) f.base_fits in
    let ex = front_over rooms.ext (words_in 8 evals.ext) after.ext (whole 8 evals.ext) q lx (n ∙ ap length tx ∙ lx) f.ext_fits in
    let front : ◌≡◌ {A = Evals} (record { base = take (whole 8 evals.base) base; ext = take (whole 8 evals.ext) ext }) (eval_words evals) = rw (tb, tx) in
    record {
      after = after;
      promised = subst (λ (x : Evals). Packed b s l evals x marks slots answer evals' after marks' slots') front w;
      rooms_end = rw (eb, ex);
    }
