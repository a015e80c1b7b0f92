-- The pass over the nodes of one row.
-- Assumes nothing.
use mathlib.Core.List.{List}
use Rattle.std.specs.Prelude.{None, Some}
use mathlib.Core.Path.{◌≡◌, refl, ap, ◌∙◌}
use Prim.Native.Nat.{ℕ, ◌+◌, ◌≤◌}
use native.Mathlib.Numerals.{add-one}
use lib.ListN.{length}
use Rattle.laws.specs.Options.{after}
use Rattle.laws.proofs.Folds.{none_some}
use Rattle.laws.proofs.Options.{after_some}
use Rattle.extension.specs.Tower.{goldilocks}
use Rattle.ir.specs.declared.frame.Shape.{Shape}
use Rattle.values.specs.Frame.{Lent}
use Rattle.blob_rules.specs.declared.blob.BlobCounts.{BlobCounts}
use Rattle.blob_rules.specs.Blob.{Instr, instr_at, Blob, tags, kinds}
use Rattle.device.specs.StepRule.{value_of, put, step, slots_after}
use Rattle.slots.specs.Slots.{slot_words}
use Rattle.slots.specs.Trace.{contents}
use Rattle.slots.specs.Steps.{Uniforms, Cells, LeafGives, OperationGives, NodeGives, StepStores, RowWalked}
use Rattle.walk.proofs.RoomLaws.{kept_put, stored_long}
use Rattle.std.proofs.lemmas.Option.{same_Some}

-- ---- a node's value

module _ (c : BlobCounts) (s : Shape) (rows row : ℕ) (l : Lent) where
  uniforms : Uniforms (contents rows row s l) l
  uniforms = record { base_const = λ k. refl; ext_const = λ k. refl; challenge = λ k. refl; alpha = λ k. refl; table_offset = refl }

  cells : Cells (contents rows row s l) s rows row l
  cells = record { main_cell = λ i j. refl; aux_cell = λ i j. refl }

  pub leaf_node : (room : List ℕ) (w : Instr) {class : ℕ} {limbs : List ℕ} → LeafGives c s rows row l w class limbs → NodeGives c s rows row l room w class limbs
  leaf_node room w h = record { follows = λ m v held z. h.follows (contents rows row s l) uniforms cells m v z }

  pub operation_node : (room : List ℕ) (w : Instr) {class : ℕ} {limbs : List ℕ} → OperationGives c s l room w class limbs → NodeGives c s rows row l room w class limbs
  operation_node room w h = record { follows = λ m v held z. h.follows (contents rows row s l) uniforms m v held z }

-- ---- the pass

module _ (b : Blob) (s : Shape) (rows row : ℕ) (l : Lent) (old : List ℕ) where
  -- no slot is filled yet
  pub walked_none : RowWalked b s rows row l 0 old old
  unfolding slots_after
  walked_none =
      record {
        follows = λ m e.
            rw (← same_Some (record { bases = λ k. None; exts = λ k. None }) m e)
            (record {
              holds = record { bases = λ k x z. none_some refl z; exts = λ k x z. none_some refl z };
              base_low = λ k x z. none_some refl z;
              base_kept = λ k q z. refl;
              ext_low = λ k x z. none_some refl z;
              ext_kept = λ k q z. refl;
              rest = refl;
              long = refl;
            });
        long = refl;
      }

  pub walked_more : (mid new : List ℕ) (i : ℕ) → slot_words b.counts ≤ length mid → RowWalked b s rows row l i old mid → StepStores b.counts s rows row l (instr_at b.nodes i) mid new → RowWalked b s rows row l (i + 1) old new
  unfolding slots_after step
  walked_more mid new i long h k =
      record {
        follows = λ n e.
            let z : after (slots_after goldilocks tags kinds b.counts s (contents rows row s l) b.nodes i) (λ m. step goldilocks tags kinds b.counts s (contents rows row s l) m (instr_at b.nodes i)) ≡ Some n = rw (add-one i) at e in
            let q = after_some (slots_after goldilocks tags kinds b.counts s (contents rows row s l) b.nodes i) (λ m. step goldilocks tags kinds b.counts s (contents rows row s l) m (instr_at b.nodes i)) z in
            let r = h.follows q.0 q.1 in
            let v = after_some (value_of goldilocks tags kinds b.counts s (contents rows row s l) q.0 (instr_at b.nodes i)) (put b.counts q.0 (instr_at b.nodes i).res) q.2 in
            kept_put b.counts q.0 old mid r long (instr_at b.nodes i).res v.0 v.2 (k.gives.follows q.0 v.0 r.holds v.1) k.stores;
        long = ap length k.stores ∙ stored_long b.counts (instr_at b.nodes i).res k.limbs mid ∙ h.long;
      }
