-- The roots' values, read and written.
-- Assumes nothing.
use mathlib.Core.Bool.{true, false, cond}
use mathlib.Core.List.{List}
use Rattle.std.specs.Prelude.{Option, None, Some}
use mathlib.Core.Path.{◌≡◌, refl, ap, ◌∙◌}
use Prim.Native.Nat.{ℕ, ◌+◌, ◌*◌}
use native.Mathlib.Numerals.{add-one}
use native.Mathlib.Omega.{arith}
use lib.Dec.{ltb}
use lib.ListN.{get_or, set}
use lib.Seq.{sets}
use Rattle.laws.specs.Options.{on1}
use Rattle.laws.proofs.Folds.{none_some}
use Rattle.extension.specs.Ext.{embedded, Limbs, LeastLimbs}
use Rattle.extension.specs.Tower.{goldilocks, remainders}
use Rattle.extension.proofs.ExtLaws.{near_trans, limbs_stand, limbs_exact, least_limbs, embedded_near, remainders_near}
use Rattle.values.specs.Values.{Value, base, ext, to_ext}
use Rattle.evaluation.specs.Evals.{base_word, ext_words, base_evals_of, ext_evals_of}
use Rattle.blob_rules.specs.declared.blob.BlobCounts.{BlobCounts}
use Rattle.blob_rules.specs.Blob.{Blob, num_base_of, is_ext, slot_of}
use Rattle.device.specs.StepRule.{Slots}
use Rattle.slots.specs.Slots.{ext_word, limbs_at}
use Rattle.slots.specs.Steps.{Holds, RootReads, RootWritten, RootsWritten}
use Rattle.std.proofs.lemmas.Option.{same_Some}

-- limbs that stand for a value and are below p are its words
exact_words : (v : Value ℕ (List ℕ)) {r : List ℕ} → Limbs 3 (to_ext goldilocks v) r → r ≡ ext_words v
unfolding remainders
exact_words v h = limbs_exact h

module _ (c : BlobCounts) (room : List ℕ) (w : ℕ) where
  pub reads_ext_root : {l r : List ℕ} → is_ext w ≡ true → l ≡ limbs_at room (ext_word c (slot_of w)) → LeastLimbs 3 l r → RootReads c room w r
  reads_ext_root {l} {r} e q h = record { follows = λ m v held z. from_slot (m.exts (slot_of w)) refl held (rw e at z); long = h.long }
    where
      from_slot : {m : Slots ℕ (List ℕ)} {v : Value ℕ (List ℕ)} (o : Option (List ℕ)) → m.exts (slot_of w) ≡ o → Holds c m room → on1 ext o ≡ Some v → r ≡ ext_words v
      from_slot None k held z = none_some refl z
      from_slot {m} {v} (Some x) k held z =
          rw (← same_Some (ext x) v z) (exact_words (ext x) (limbs_stand (least_limbs h) (rw q (held.exts (slot_of w) x k).1)))

  pub reads_base_root : {r : List ℕ} → is_ext w ≡ false → Limbs 3 (embedded 3 (get_or room (slot_of w) 0)) r → RootReads c room w r
  reads_base_root {r} e h = record { follows = λ m v held z. from_slot (m.bases (slot_of w)) refl held (rw e at z); long = h.long }
    where
      from_slot : {m : Slots ℕ (List ℕ)} {v : Value ℕ (List ℕ)} (o : Option ℕ) → m.bases (slot_of w) ≡ o → Holds c m room → on1 base o ≡ Some v → r ≡ ext_words v
      from_slot None k held z = none_some refl z
      from_slot {m} {v} (Some x) k held z =
          rw (← same_Some (base x) v z) (exact_words (base x) (limbs_stand h (near_trans (embedded_near 3 (held.bases (slot_of w) x k).1) (remainders_near 3 (embedded 3 x)))))

-- ---- all of them

module _ (b : Blob) (room bases exts : List ℕ) where
  pub roots_none : RootsWritten b 0 room bases bases exts exts
  unfolding base_evals_of ext_evals_of
  roots_none = record { follows = λ m env held z. (refl, refl); bases_long = refl; exts_long = refl }

  pub roots_more : (i : ℕ) (x x' y y' : List ℕ) → RootsWritten b i room bases x exts y → RootWritten b.counts i (num_base_of b.counts) room (get_or b.roots i 0) x x' y y' → RootsWritten b (i + 1) room bases x' exts y'
  unfolding base_evals_of ext_evals_of
  roots_more i x x' y y' k r =
      rw add-one
      (record {
        follows = λ m env held z.
            let q = k.follows m env held (λ j l. z j (omega arith)) in
            let t = r.follows m (env (get_or b.roots i 0)) held (z i (omega arith)) in (
              t.0 ∙ ap (λ (l : List ℕ). cond (ltb i (num_base_of b.counts)) (set l i (base_word (env (get_or b.roots i 0)))) l) q.0,
              t.1 ∙ ap (λ (l : List ℕ). cond (ltb i (num_base_of b.counts)) l (sets l (3 * i) (ext_words (env (get_or b.roots i 0))))) q.1,
            );
        bases_long = r.bases_long ∙ k.bases_long;
        exts_long = r.exts_long ∙ k.exts_long;
      })
