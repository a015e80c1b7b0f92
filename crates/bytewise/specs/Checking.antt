-- The blob check over stored form A: reading, then the check.
-- Assumes nothing.
use Rattle.std.specs.Prelude.{List, ◌≡◌, ℕ, Result, Ok, Err}
use Rattle.ir.specs.declared.frame.Shape.{Shape}
use Rattle.ir.specs.declared.refusal.Refusal.{Refusal}
use Rattle.blob_rules.specs.declared.blob.BlobCounts.{BlobCounts}
use Rattle.blob_rules.specs.Check.{CheckAnswer}
use Rattle.stored_parts.specs.Form.{Tables}
use Rattle.stored.specs.Answer.{ReadAnswer}
use Rattle.byte_words.specs.Reading.{blob_in}

-- the promise: the file is read as `read_stored` reads it; its refusal is the answer, and the bytes stay; else the answer and
-- the bytes are the check's of the blob that was read
pub record CheckStored (s : Shape) (file : List ℕ) (rooms : Tables) (marks : List ℕ) (answer : Result (Unit {0}) Refusal) (rooms' : Tables) (marks' : List ℕ) : Type 0 where
  pub read : Result BlobCounts Refusal
  pub promised : ReadAnswer file rooms read rooms'
  pub refused : (why : Refusal) → read ≡ Err why → (answer ≡ Err why) × (marks' ≡ marks)
  pub checked : (c : BlobCounts) → read ≡ Ok c → CheckAnswer (blob_in c rooms') s answer marks marks'
