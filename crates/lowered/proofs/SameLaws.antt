-- Evaluator and walk read their tables where the program does, and nowhere else.
-- Assumes nothing.
use mathlib.Core.List.{List}
use mathlib.Core.Path.{◌≡◌, refl, ap}
use Prim.Native.Nat.{ℕ, zero, suc, ◌+◌, ◌*◌, ◌<◌, ◌≤◌}
use native.Mathlib.Omega.{arith}
use lib.Dec.{ltb}
use lib.ListN.{length, get_or, drop, get_or-append}
use borrow.Author.Tests.{ltb-true}
use Rattle.laws.specs.Maps.{upd}
use Rattle.laws.specs.Options.{after}
use Rattle.laws.proofs.Cases.{by_test}
use Rattle.extension.specs.Tower.{Tower}
use Rattle.ir.specs.declared.frame.Shape.{Shape}
use Rattle.ir.specs.Words.{node_at}
use Rattle.values.specs.Values.{Value, Leaves, leaf_value, node_value, values}
use Rattle.evaluation.specs.Evals.{base_evals_of, ext_evals_of}
use Rattle.blob_rules.specs.declared.blob.BlobCounts.{BlobCounts}
use Rattle.blob_rules.specs.Blob.{instr_at, Form, Kind}
use Rattle.device.specs.StepRule.{Contents, step, slots_after}
use Rattle.lower_parts.specs.Answer.{over}

-- ---- words over others

pub over_at : (ws old : List ℕ) (i : ℕ) → i < length ws → get_or (over ws old) i 0 ≡ get_or ws i 0
over_at ws old i h = get_or-append ws (drop (length ws) old) 0 i h

pub instr_over : (ws old : List ℕ) (i : ℕ) → 4 * i + 4 ≤ length ws → instr_at (over ws old) i ≡ instr_at ws i
instr_over ws old i h =
    rw (over_at ws old (4 * i) (omega arith), over_at ws old (4 * i + 1) (omega arith), over_at ws old (4 * i + 2) (omega arith), over_at ws old (4 * i + 3) (omega arith)) refl

-- ---- the walk

module _ {B X : Type 0} (K : Tower B X) (tags : List Form) (kinds : List Kind) (c : BlobCounts) (s : Shape) (u : Contents B X) where
  pub slots_same : (a b : List ℕ) (k : ℕ) → ((i : ℕ) → i < k → instr_at a i ≡ instr_at b i) → slots_after K tags kinds c s u a k ≡ slots_after K tags kinds c s u b k
  unfolding slots_after
  slots_same a b zero h = refl
  slots_same a b (suc k) h =
      rw (slots_same a b k (λ i l. h i (omega arith)))
      (ap (λ w. after (slots_after K tags kinds c s u b k) λ m. step K tags kinds c s u m w) (h k (omega arith)))

-- ---- the evaluator

module _ {B X : Type 0} (K : Tower B X) (u v : Leaves B X) (nodes : List ℕ) where
  pub values_same : (k : ℕ) → ((i : ℕ) → i < k → (node_at nodes i).tag < 6 → leaf_value K u (node_at nodes i).tag (node_at nodes i).x (node_at nodes i).y ≡ leaf_value K v (node_at nodes i).tag (node_at nodes i).x (node_at nodes i).y)
      → values K u nodes k ≡ values K v nodes k
  unfolding values node_value
  values_same zero h = refl
  values_same (suc k) h =
      let w = node_at nodes k in
      rw (values_same k (λ i l. h i (omega arith)))
      (by_test (ltb w.tag 6)
      (upd (values K v nodes k) k (node_value K u (values K v nodes k) w.tag w.x w.y) ≡ upd (values K v nodes k) k (node_value K v (values K v nodes k) w.tag w.x w.y))
      (λ t. ap (upd (values K v nodes k) k) (rw t (h k (omega arith) (ltb-true w.tag 6 t))))
      λ t. ap (upd (values K v nodes k) k) (rw t refl))

-- ---- what is written

module _ (f g : ℕ → Value ℕ (List ℕ)) (a b : List ℕ) (leading : ℕ) where
  pub base_evals_same : (k : ℕ) (l : List ℕ) → ((r : ℕ) → r < k → f (get_or a r 0) ≡ g (get_or b r 0)) → base_evals_of f a leading k l ≡ base_evals_of g b leading k l
  unfolding base_evals_of
  base_evals_same zero l h = refl
  base_evals_same (suc k) l h = rw (base_evals_same k l (λ r m. h r (omega arith)), h k (omega arith)) refl

  pub ext_evals_same : (k : ℕ) (l : List ℕ) → ((r : ℕ) → r < k → f (get_or a r 0) ≡ g (get_or b r 0)) → ext_evals_of f a leading k l ≡ ext_evals_of g b leading k l
  unfolding ext_evals_of
  ext_evals_same zero l h = refl
  ext_evals_same (suc k) l h = rw (ext_evals_same k l (λ r m. h r (omega arith)), h k (omega arith)) refl
