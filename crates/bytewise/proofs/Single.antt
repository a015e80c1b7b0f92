-- Each promise on bytes leaves one answer and one memory.
-- Assumes nothing.
use Rattle.std.specs.Prelude.{Result, Ok, Err}
use Rattle.ir.specs.declared.refusal.Refusal.{Refusal}
use Rattle.blob_rules.specs.declared.blob.BlobCounts.{BlobCounts}
use mathlib.Core.List.{List}
use mathlib.Core.Path.{◌≡◌, refl, sym, subst, ◌∙◌}
use Prim.Native.Nat.{ℕ}
use Rattle.laws.proofs.Cases.{by_test}
use Rattle.ir.specs.declared.program.Counts.{Counts}
use Rattle.ir.specs.declared.frame.Shape.{Shape}
use Rattle.ir.specs.Program.{Program}
use Rattle.device.proofs.Single.{check_blob_single}
use Rattle.lower_parts.specs.Answer.{Lists, Output}
use Rattle.lower.proofs.Single.{lower_single}
use Rattle.stored_parts.specs.Form.{Tables}
use Rattle.stored.specs.Answer.{WriteAnswer}
use Rattle.stored.proofs.Single.{read_stored_single, write_stored_single}
use Rattle.bytewise.specs.Checking.{CheckStored}
use Rattle.bytewise.specs.Lowering.{refused_early, tables_out, LowerFile, LowerStored}

module _ {s : Shape} {file : List ℕ} {rooms : Tables} {marks : List ℕ} {a a' : Result (Unit {0}) Refusal} {rooms₁ rooms₂ : Tables} {marks₁ marks₂ : List ℕ} (f : CheckStored s file rooms marks a rooms₁ marks₁) (g : CheckStored s file rooms marks a' rooms₂ marks₂) where
  check_after : (r : Result BlobCounts Refusal) → f.read ≡ r → g.read ≡ r → rooms₂ ≡ rooms₁ → (a ≡ a') × (marks₁ ≡ marks₂)
  check_after (Err why) p q e =
      ((f.refused why p).0 ∙ sym (g.refused why q).0, (f.refused why p).1 ∙ sym (g.refused why q).1)
  check_after (Ok c) p q e =
      check_blob_single (f.checked c p) (rw e at (g.checked c q))

  pub check_stored_single : (a ≡ a') × (rooms₁ ≡ rooms₂) × (marks₁ ≡ marks₂)
  check_stored_single =
      let r = read_stored_single f.promised g.promised in
      let t = check_after f.read refl (sym r.0) (sym r.1) in
      (t.0, r.1, t.1)

module _ {p : Program} {lists lists₁ lists₂ : Lists} {out out₁ out₂ : Output} {file file₁ file₂ : List ℕ} {a a' : Result ℕ Refusal} (f : LowerFile p lists out file a lists₁ out₁ file₁) (g : LowerFile p lists out file a' lists₂ out₂ file₂) where
  file_after : (l : Result BlobCounts Refusal) → f.lowered ≡ l → g.lowered ≡ l → out₂ ≡ out₁ → (a ≡ a') × (file₁ ≡ file₂)
  file_after (Err why) m q e =
      ((f.refused why m).0 ∙ sym (g.refused why q).0, (f.refused why m).1 ∙ sym (g.refused why q).1)
  file_after (Ok k) m q e =
      write_stored_single (f.written k m) (subst (λ (o : Output). WriteAnswer k (tables_out o) file a' file₂) e (g.written k q))

  pub lower_file_single : (a ≡ a') × (lists₁ ≡ lists₂) × (out₁ ≡ out₂) × (file₁ ≡ file₂)
  lower_file_single =
      let r = lower_single f.promised g.promised in
      let t = file_after f.lowered refl (sym r.0) (sym r.2) in
      (t.0, r.1, r.2, t.1)

pub lower_stored_single : {c : Counts} {t rooms rooms₁ rooms₂ : Tables} {lists lists₁ lists₂ : Lists} {out out₁ out₂ : Output} {file file₁ file₂ : List ℕ} {a a' : Result ℕ Refusal}
    → LowerStored c t rooms lists out file a rooms₁ lists₁ out₁ file₁ → LowerStored c t rooms lists out file a' rooms₂ lists₂ out₂ file₂
    → (a ≡ a') × (rooms₁ ≡ rooms₂) × (lists₁ ≡ lists₂) × (out₁ ≡ out₂) × (file₁ ≡ file₂)
lower_stored_single {c} {t} {rooms} {rooms₁} {rooms₂} {lists} {lists₁} {lists₂} {out} {out₁} {out₂} {file} {file₁} {file₂} {a} {a'} f g =
    by_test (refused_early c t rooms) ((a ≡ a') × (rooms₁ ≡ rooms₂) × (lists₁ ≡ lists₂) × (out₁ ≡ out₂) × (file₁ ≡ file₂))
    (λ h.
    let m = f.early h in
    let n = g.early h in
    (m.0 ∙ sym n.0, m.1 ∙ sym n.1, m.2 ∙ sym n.2, m.3 ∙ sym n.3, m.4 ∙ sym n.4))
    λ h.
    let r = lower_file_single (f.lowering h) (g.lowering h) in
    (r.0, f.unpacked h ∙ sym (g.unpacked h), r.1, r.2, r.3)
