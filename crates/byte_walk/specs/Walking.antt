-- The walk over bytes: a blob in stored form A is read, frame and evals are unpacked, the blob is walked, and on 0 the evals
-- are packed back.
-- Assumes nothing.
use Rattle.std.specs.Prelude.{Bool, true, false, cond, ◌||◌, List, ◌≡◌, ℕ, ◌/◌, ◌≤◌, eqb, ltb, length, Result, Ok, Err}
use Rattle.std.proofs.lemmas.List.Edits.{sets}
use Rattle.ir.specs.declared.frame.Shape.{Shape}
use Rattle.ir.specs.declared.refusal.Refusal.{Refusal}
use Rattle.ir.specs.declared.refusal.Refusal.TheVariants.{OverLimit, ShortMemory}
use Rattle.ir.specs.Refusals.{said_of_outcome}
use Rattle.ir.specs.Shape.{over_shape}
use Rattle.values.specs.Frame.{Lent, lent}
use Rattle.blob_rules.specs.declared.blob.BlobCounts.{BlobCounts}
use Rattle.blob_rules.specs.Blob.{Blob}
use Rattle.walk.specs.Walk.{WalkAnswer}
use Rattle.stored_parts.specs.Form.{Tables, spread}
use Rattle.stored.specs.Answer.{ReadAnswer}
use Rattle.byte_walk.specs.declared.walking.FrameBytes.{FrameBytes}
use Rattle.byte_words.specs.Words.{whole, words_in}
use Rattle.byte_words.specs.Reading.{blob_in}

-- a frame's four tables
pub record Frame : Type 0 where
  pub main : List ℕ
  pub aux : List ℕ
  pub challenges : List ℕ
  pub alphas : List ℕ

-- the same by the program's slices of them
abbrev pub frame_in : FrameBytes → Frame
frame_in f = record { main = f.main.now; aux = f.aux.now; challenges = f.challenges.now; alphas = f.alphas.now }

-- the evals, which the walk reads and writes
pub record Evals : Type 0 where
  pub base : List ℕ
  pub ext : List ℕ

-- ---- their words

-- a frame's words
abbrev pub frame_words : Frame → Frame
frame_words f =
    record {
      main = words_in 8 f.main;
      aux = words_in 8 f.aux;
      challenges = words_in 8 f.challenges;
      alphas = words_in 8 f.alphas;
    }

-- the evals' words
abbrev pub eval_words : Evals → Evals
eval_words e = record { base = words_in 8 e.base; ext = words_in 8 e.ext }

-- words at the front of rooms
abbrev pub put_frame : Frame → Frame → Frame
put_frame f rooms =
    record {
      main = sets rooms.main 0 f.main;
      aux = sets rooms.aux 0 f.aux;
      challenges = sets rooms.challenges 0 f.challenges;
      alphas = sets rooms.alphas 0 f.alphas;
    }

-- the same of evals
abbrev pub put_evals : Evals → Evals → Evals
put_evals e rooms = record { base = sets rooms.base 0 e.base; ext = sets rooms.ext 0 e.ext }

-- words as bytes
abbrev pub eval_bytes : Evals → Evals
eval_bytes e = record { base = spread 8 e.base; ext = spread 8 e.ext }

-- 1: a room has fewer words than its bytes; lengths in bytes, then in words
abbrev pub tight : ℕ → ℕ → Bool
tight bytes room = ltb room (bytes / 8)

-- of one of the four tables
abbrev pub short_frame_rooms : Frame → Frame → Bool
short_frame_rooms f rooms =
    tight (length f.main) (length rooms.main)
    || tight (length f.aux) (length rooms.aux)
    || tight (length f.challenges) (length rooms.challenges)
    || tight (length f.alphas) (length rooms.alphas)

-- of base or extension evals
abbrev pub short_eval_rooms : Evals → Evals → Bool
short_eval_rooms e rooms = tight (length e.base) (length rooms.base) || tight (length e.ext) (length rooms.ext)

-- no room has
pub record FrameFits (f rooms : Frame) : Type 0 where
  pub main_fits : whole 8 f.main ≤ length rooms.main
  pub aux_fits : whole 8 f.aux ≤ length rooms.aux
  pub challenges_fit : whole 8 f.challenges ≤ length rooms.challenges
  pub alphas_fit : whole 8 f.alphas ≤ length rooms.alphas

-- nor one of the evals
pub record EvalsFit (e rooms : Evals) : Type 0 where
  pub base_fits : whole 8 e.base ≤ length rooms.base
  pub ext_fits : whole 8 e.ext ≤ length rooms.ext

-- what the walk reads, from a blob's tables and a frame
abbrev pub lent_in : Tables → Frame → List ℕ → Lent
lent_in t f o = lent t.bases t.exts f.main f.aux f.challenges f.alphas o

-- ---- the promises

-- all that a walk over bytes writes, besides the rooms that the blob is read into
pub record Memory : Type 0 where
  pub evals : Evals
  pub frame_rooms : Frame
  pub eval_rooms : Evals
  pub marks : List ℕ
  pub slots : List ℕ

-- 1: a room is too short
abbrev pub short_rooms : Frame → Memory → Bool
short_rooms f m = short_frame_rooms f m.frame_rooms || short_eval_rooms m.evals m.eval_rooms

-- evals are packed back on 0 alone
abbrev pub packed_on : Result (Unit {0}) Refusal → Evals → Evals → Evals
packed_on answer after old = cond (eqb (said_of_outcome answer).number 0) (put_evals (eval_bytes after) old) old

-- the walk of words, whose evals are packed back
pub record Packed (b : Blob) (s : Shape) (l : Lent) (evals words : Evals) (marks slots : List ℕ) (answer : Result (Unit {0}) Refusal) (evals' words' : Evals) (marks' slots' : List ℕ) : Type 0 where
  pub walked : WalkAnswer b s l answer words.base words'.base words.ext words'.ext marks marks' slots slots'
  pub packed : evals' ≡ packed_on answer words' evals

-- evals unpacked into rooms, walked and packed back; after a refusal the rooms hold them as they were unpacked
pub record Walked (b : Blob) (s : Shape) (l : Lent) (evals rooms : Evals) (marks slots : List ℕ) (answer : Result (Unit {0}) Refusal) (evals' rooms' : Evals) (marks' slots' : List ℕ) : Type 0 where
  pub after : Evals
  pub promised : Packed b s l evals (eval_words evals) marks slots answer evals' after marks' slots'
  pub rooms_end : rooms' ≡ put_evals after rooms

-- 2 where the shape is past its limits, then 1 where a room is too short for its bytes, and nothing is written; else the frame's
-- words stand in their rooms, and all else is as the walk over those words has it
pub record WalkBytes (b : Blob) (s : Shape) (t : Tables) (offset : List ℕ) (frame : Frame) (m : Memory) (answer : Result (Unit {0}) Refusal) (m' : Memory) : Type 0 where
  pub over : over_shape s ≡ true → (answer ≡ Err OverLimit) × (m' ≡ m)
  pub short : over_shape s ≡ false → short_rooms frame m ≡ true → (answer ≡ Err ShortMemory) × (m' ≡ m)
  pub unpacked : over_shape s ≡ false → short_rooms frame m ≡ false → m'.frame_rooms ≡ put_frame (frame_words frame) m.frame_rooms
  pub walked : over_shape s ≡ false → short_rooms frame m ≡ false → Walked b s (lent_in t (frame_words frame) offset) m.evals m.eval_rooms m.marks m.slots answer m'.evals m'.eval_rooms m'.marks m'.slots

-- the file is read as `read_stored` reads it; its refusal is the answer, and all else stays; else the blob that was read is
-- walked
pub record WalkStored (s : Shape) (offset file : List ℕ) (rooms : Tables) (frame : Frame) (m : Memory) (answer : Result (Unit {0}) Refusal) (rooms' : Tables) (m' : Memory) : Type 0 where
  pub read : Result BlobCounts Refusal
  pub promised : ReadAnswer file rooms read rooms'
  pub refused : (why : Refusal) → read ≡ Err why → (answer ≡ Err why) × (m' ≡ m)
  pub walked : (c : BlobCounts) → read ≡ Ok c → WalkBytes (blob_in c rooms') s rooms' offset frame m answer m'
