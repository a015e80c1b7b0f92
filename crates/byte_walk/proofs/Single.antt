-- The promises of the walk over bytes leave one answer and one memory.
-- Assumes nothing.
use Rattle.std.specs.Prelude.{Result, Ok, Err}
use Rattle.ir.specs.declared.refusal.Refusal.{Refusal}
use Rattle.blob_rules.specs.declared.blob.BlobCounts.{BlobCounts}
use mathlib.Core.List.{List}
use mathlib.Core.Path.{◌≡◌, refl, sym, ap, subst, ◌∙◌}
use Prim.Native.Nat.{ℕ}
use Rattle.laws.proofs.Cases.{by_test}
use Rattle.ir.specs.declared.frame.Shape.{Shape}
use Rattle.ir.specs.Shape.{over_shape}
use Rattle.values.specs.Frame.{Lent}
use Rattle.blob_rules.specs.Blob.{Blob}
use Rattle.walk.proofs.Single.{walk_single}
use Rattle.stored_parts.specs.Form.{Tables}
use Rattle.stored.proofs.Single.{read_stored_single}
use Rattle.byte_words.specs.Reading.{blob_in}
use Rattle.byte_walk.specs.Walking.{Frame, Evals, Memory, put_evals, short_rooms, packed_on, Walked, WalkBytes, WalkStored}

module _ {b : Blob} {s : Shape} {l : Lent} {evals rooms : Evals} {marks slots : List ℕ} {a a' : Result (Unit {0}) Refusal} {evals₁ evals₂ rooms₁ rooms₂ : Evals} {marks₁ marks₂ slots₁ slots₂ : List ℕ} (f : Walked b s l evals rooms marks slots a evals₁ rooms₁ marks₁ slots₁) (g : Walked b s l evals rooms marks slots a' evals₂ rooms₂ marks₂ slots₂) where
  pub walked_single : (a ≡ a') × (evals₁ ≡ evals₂) × (rooms₁ ≡ rooms₂) × (marks₁ ≡ marks₂) × (slots₁ ≡ slots₂)
  walked_single =
      let q = walk_single f.promised.walked g.promised.walked in
      let after : f.after ≡ g.after = λ i. record { base = q.1 i; ext = q.2 i } in (
        q.0,
        f.promised.packed ∙ (λ i. packed_on (q.0 i) (after i) evals) ∙ sym g.promised.packed,
        f.rooms_end ∙ ap (λ (e : Evals). put_evals e rooms) after ∙ sym g.rooms_end,
        q.3,
        q.4,
      )

pub walk_bytes_single : {b : Blob} {s : Shape} {t : Tables} {offset : List ℕ} {frame : Frame} {m m₁ m₂ : Memory} {a a' : Result (Unit {0}) Refusal} → WalkBytes b s t offset frame m a m₁ → WalkBytes b s t offset frame m a' m₂ → (a ≡ a') × (m₁ ≡ m₂)
walk_bytes_single {s = s} {frame = frame} {m = m} {m₁ = m₁} {m₂ = m₂} {a = a} {a' = a'} f g =
    by_test (over_shape s) ((a ≡ a') × (m₁ ≡ m₂))
    (λ o. ((f.over o).0 ∙ sym (g.over o).0, (f.over o).1 ∙ sym (g.over o).1))
    λ o.
    by_test (short_rooms frame m) ((a ≡ a') × (m₁ ≡ m₂))
    (λ h. ((f.short o h).0 ∙ sym (g.short o h).0, (f.short o h).1 ∙ sym (g.short o h).1))
    λ h.
    let q = walked_single (f.walked o h) (g.walked o h) in
    let r = f.unpacked o h ∙ sym (g.unpacked o h) in
    (q.0, λ i. record { evals = q.1 i; frame_rooms = r i; eval_rooms = q.2 i; marks = q.3 i; slots = q.4 i })

module _ {s : Shape} {offset file : List ℕ} {rooms : Tables} {frame : Frame} {m : Memory} {a a' : Result (Unit {0}) Refusal} {rooms₁ rooms₂ : Tables} {m₁ m₂ : Memory} (f : WalkStored s offset file rooms frame m a rooms₁ m₁) (g : WalkStored s offset file rooms frame m a' rooms₂ m₂) where
  walk_after : (r : Result BlobCounts Refusal) → f.read ≡ r → g.read ≡ r → rooms₂ ≡ rooms₁ → (a ≡ a') × (m₁ ≡ m₂)
  walk_after (Err why) p q e =
      ((f.refused why p).0 ∙ sym (g.refused why q).0, (f.refused why p).1 ∙ sym (g.refused why q).1)
  walk_after (Ok c) p q e =
      walk_bytes_single (f.walked c p) (subst (λ (r : Tables). WalkBytes (blob_in c r) s r offset frame m a' m₂) e (g.walked c q))

  pub walk_stored_single : (a ≡ a') × (rooms₁ ≡ rooms₂) × (m₁ ≡ m₂)
  walk_stored_single =
      let r = read_stored_single f.promised g.promised in
      let t = walk_after f.read refl (sym r.0) (sym r.1) in
      (t.0, r.1, t.1)
