-- The promises of `write_stored` and `read_stored` leave one answer and one memory, and rows stand in document 01's order.
-- Assumes nothing.
use Rattle.std.specs.Prelude.{Result, Ok, Err}
use Rattle.ir.specs.declared.refusal.Refusal.{Refusal}
use mathlib.Core.Bool.{true, cond}
use mathlib.Core.List.{List, [], ◌∷◌}
use mathlib.Core.Path.{◌≡◌, refl, sym, ap, ◌∙◌}
use Prim.Native.Nat.{ℕ}
use lib.Dec.{eqb}
use lib.ListN.{get_or}
use Rattle.ir.specs.Refusals.{Said, in_order}
use Rattle.ir.proofs.Single.{refusal_of, known}
use Rattle.blob_rules.specs.declared.blob.BlobCounts.{BlobCounts}
use Rattle.stored_parts.specs.Form.{Tables}
use Rattle.stored.specs.Answer.{write_rows, said_of_stored, WriteAnswer, read_rows, said_of_read, ReadAnswer}
use Rattle.stored.proofs.AnswerLaws.{counts_said}

-- ---- writing

abbrev stored_said : Said → Result ℕ Refusal
stored_said s =
    cond (eqb s.number 0) (Ok (get_or s.values 0 0)) (Err (refusal_of s.number s.place))

stored_back : (a : Result ℕ Refusal) → stored_said (said_of_stored a) ≡ a
stored_back (Ok bytes) = refl
stored_back (Err r) = rw ((known r).0, (known r).1)

-- an answer is known by what it says
pub stored_same : (a a' : Result ℕ Refusal) → said_of_stored a ≡ said_of_stored a' → a ≡ a'
stored_same a a' e = sym (stored_back a) ∙ ap stored_said e ∙ stored_back a'

pub write_stored_single : {c : BlobCounts} {t : Tables} {out out' out'' : List ℕ} {a a' : Result ℕ Refusal} → WriteAnswer c t out a out' → WriteAnswer c t out a' out'' → (a ≡ a') × (out' ≡ out'')
write_stored_single {c} {t} {out} {out'} {out''} {a} {a'} f g =
    (stored_same a a' (f.said ∙ sym g.said), f.wrote ∙ sym g.wrote)

pub write_in_order : (c : BlobCounts) (t : Tables) (out : List ℕ) → in_order (write_rows c t out) (1 ∷ 10 ∷ []) ≡ true
write_in_order c t out = refl

-- ---- reading

abbrev read_said_of : Said → Result BlobCounts Refusal
read_said_of s =
    cond (eqb s.number 0) (Ok (counts_said s)) (Err (refusal_of s.number s.place))

read_back : (a : Result BlobCounts Refusal) → read_said_of (said_of_read a) ≡ a
read_back (Ok c) = refl
read_back (Err r) = rw ((known r).0, (known r).1)

pub read_same : (a a' : Result BlobCounts Refusal) → said_of_read a ≡ said_of_read a' → a ≡ a'
read_same a a' e = sym (read_back a) ∙ ap read_said_of e ∙ read_back a'

pub read_stored_single : {file : List ℕ} {rooms rooms' rooms'' : Tables} {a a' : Result BlobCounts Refusal} → ReadAnswer file rooms a rooms' → ReadAnswer file rooms a' rooms'' → (a ≡ a') × (rooms' ≡ rooms'')
read_stored_single {file} {rooms} {rooms'} {rooms''} {a} {a'} f g =
    (read_same a a' (f.said ∙ sym g.said), f.wrote ∙ sym g.wrote)

pub read_in_order : (file : List ℕ) (rooms : Tables) → in_order (read_rows file rooms) (15 ∷ 10 ∷ []) ≡ true
read_in_order file rooms = refl
