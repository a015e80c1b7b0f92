-- The calls on form A, done and refused; and each leaves one answer and one memory.
-- Assumes nothing.
use Rattle.std.specs.Prelude.{Result, Ok}
use mathlib.Core.List.{List, [], ◌∷◌}
use mathlib.Core.Path.{◌≡◌, sym, ◌∙◌}
use Prim.Native.Nat.{ℕ, ◌<◌, ◌≤◌}
use native.Mathlib.Omega.{arith}
use lib.ListN.{length}
use borrow.Author.Tests.{lt-ltb, le-ltb}
use Rattle.ir.specs.declared.refusal.Refusal.{Refusal}
use Rattle.ir.specs.declared.refusal.Refusal.TheVariants.{ShortOutput}
use Rattle.ir.specs.Refusals.{gives, said_of}
use Rattle.blob_rules.specs.declared.blob.BlobCounts.{BlobCounts}
use Rattle.stored_parts.specs.Form.{Tables}
use Rattle.stored.specs.Answer.{ReadAnswer}
use Rattle.listing.specs.Listing.{blob_list, Puts}
use Rattle.stored.proofs.AnswerLaws.{read_ok}
use Rattle.host_answer.specs.Answer.{answer_of}
use Rattle.host_stored.specs.StoredCalls.{tables, WritesFile, ReadsFile, list_said, ListsFile}

-- ---- writing

pub cir_write_stored_single : {c : BlobCounts} {t : Tables} {file f f' : List ℕ} {old a a' n n' : ℕ} → WritesFile c t file old a f n → WritesFile c t file old a' f' n' → (a ≡ a') × (f ≡ f') × (n ≡ n')
cir_write_stored_single p q = (p.answered ∙ sym q.answered, p.wrote ∙ sym q.wrote, p.measured ∙ sym q.measured)

-- ---- reading

module _ {file : List ℕ} {rooms rooms' : Tables} {o : Result BlobCounts Refusal} (p : ReadAnswer file rooms o rooms') {old : BlobCounts} where
  pub reads : {k : BlobCounts} → o ≡ Ok k → ReadsFile file rooms old 0 rooms' k
  reads {k} e =
      let q : ReadAnswer file rooms (Ok k) rooms' = rw e at p in
      let s = sym q.said in
      record { answered = rw s; wrote = p.wrote; counted = rw s (read_ok file rooms q).counts_are }

-- the same, told of rooms that are the same one by one
pub told : {file : List ℕ} {rooms : Tables} {old new : BlobCounts} {a : ℕ} (r : Tables) (n b x t : List ℕ) → n ≡ r.nodes → b ≡ r.bases → x ≡ r.exts → t ≡ r.roots → ReadsFile file rooms old a r new → ReadsFile file rooms old a (tables n b x t) new
told r n b x t e f g h p = rw (e, f, g, h) p

pub cir_read_stored_single : {file : List ℕ} {rooms r r' : Tables} {old k k' : BlobCounts} {a a' : ℕ} → ReadsFile file rooms old a r k → ReadsFile file rooms old a' r' k' → (a ≡ a') × (r ≡ r') × (k ≡ k')
cir_read_stored_single p q = (p.answered ∙ sym q.answered, p.wrote ∙ sym q.wrote, p.counted ∙ sym q.counted)

-- ---- the listing

module _ (file out : List ℕ) where
  said_short : length out < 524288 → list_said file out ≡ said_of ShortOutput
  unfolding list_said
  said_short h = rw (lt-ltb (length out) 524288 h)

  said_listed : 524288 ≤ length out → list_said file out ≡ gives (length (blob_list file) ∷ [])
  unfolding list_said
  said_listed h = rw (le-ltb (length out) 524288 h)

  pub lists_not : {a old : ℕ} → length out < 524288 → a ≡ answer_of (said_of ShortOutput) → ListsFile file out old a out old
  lists_not h q = let s = said_short h in record { answered = rw (s, q); wrote = rw s; measured = rw s }

  pub lists : {out' : List ℕ} {r old : ℕ} → 524288 ≤ length out → Puts out 0 524288 (blob_list file) out' r → ListsFile file out old 0 out' r
  lists h p =
      let s = said_listed h in
      record { answered = rw s; wrote = rw s p.stands; measured = rw s (omega (arith, p.next)) }

pub cir_list_stored_single : {file out o o' : List ℕ} {old a a' n n' : ℕ} → ListsFile file out old a o n → ListsFile file out old a' o' n' → (a ≡ a') × (o ≡ o') × (n ≡ n')
cir_list_stored_single p q = (p.answered ∙ sym q.answered, p.wrote ∙ sym q.wrote, p.measured ∙ sym q.measured)
