-- What a value that is put into a slot changes, and the walk of one node more.
-- Assumes nothing.
use mathlib.Core.Bool.{cond, not}
use mathlib.Core.List.{List, [], ◌∷◌, ◌++◌}
use Rattle.std.specs.Prelude.{Option, Some}
use mathlib.Core.Path.{◌≡◌, refl}
use Prim.Native.Nat.{ℕ, zero, suc, ◌<◌, ◌≤◌}
use native.Mathlib.Omega.{arith}
use lib.Dec.{eqb}
use lib.ListN.{length, length-append}
use borrow.Author.Tests.{lt-ltb}
use Rattle.laws.specs.Maps.{upd}
use Rattle.extension.specs.Tower.{Tower}
use Rattle.ir.specs.declared.frame.Shape.{Shape}
use Rattle.values.specs.Values.{Value, base, ext, class_of}
use Rattle.blob_rules.specs.declared.blob.BlobCounts.{BlobCounts}
use Rattle.blob_rules.specs.Blob.{Instr, base_slots_of, ext_slots_of, is_ext, Form, Kind}
use Rattle.device.specs.StepRule.{Contents, Slots, put, step, slots_after, root_held}
use Rattle.scan_parts.specs.Scan.{slot_word, flat}
use Rattle.scan_parts.proofs.UpdLaws.{upd_same, upd_other}
use Rattle.scan.proofs.WordLaws.{base_word, ext_word_lem, instr_left, instr_here}
use Rattle.lowered.proofs.ValueLaws.{slot_at}

-- ---- a value put into a slot

abbrev pub put_at : {B X : Type 0} → Slots B X → ℕ → Value B X → Slots B X
put_at m k (base x) = record { bases = upd m.bases k (Some x); exts = m.exts }
put_at m k (ext x) = record { bases = m.bases; exts = upd m.exts k (Some x) }

-- how many slots of a class there are
abbrev pub room_of : BlobCounts → ℕ → ℕ
room_of c d = cond (eqb d 0) (base_slots_of c) (ext_slots_of c)

-- a result word's class
pub word_class : (d k : ℕ) → d < 2 → k < 2147483648 → is_ext (slot_word d k) ≡ not (eqb d 0)
word_class zero k h l = (base_word k l).0
word_class (suc zero) k h l = (ext_word_lem k l).0
word_class (suc (suc d)) k h l = absurd (omega arith)

module _ {B X : Type 0} (c : BlobCounts) (m : Slots B X) where
  pub put_lands : (d k : ℕ) (v : Value B X) → class_of v ≡ d → k < 2147483648 → k < room_of c d → put c m (slot_word d k) v ≡ Some (put_at m k v)
  put_lands zero k (base x) e l h = rw ((base_word k l).0, (base_word k l).1, lt-ltb k (base_slots_of c) h) refl
  put_lands zero k (ext x) e l h = absurd (omega arith)
  put_lands (suc zero) k (base x) e l h = absurd (omega arith)
  put_lands (suc zero) k (ext x) e l h = rw ((ext_word_lem k l).0, (ext_word_lem k l).1, lt-ltb k (ext_slots_of c) h) refl
  put_lands (suc (suc d)) k (base x) e l h = absurd (omega arith)
  put_lands (suc (suc d)) k (ext x) e l h = absurd (omega arith)

module _ {B X : Type 0} (m : Slots B X) where
  -- the slot itself, and each other
  pub put_same : (d k : ℕ) (v : Value B X) → class_of v ≡ d → slot_at (put_at m k v) d k ≡ Some v
  put_same zero k (base x) e = rw (upd_same m.bases k (Some x) k refl) refl
  put_same zero k (ext x) e = absurd (omega arith)
  put_same (suc zero) k (base x) e = absurd (omega arith)
  put_same (suc zero) k (ext x) e = rw (upd_same m.exts k (Some x) k refl) refl
  put_same (suc (suc d)) k (base x) e = absurd (omega arith)
  put_same (suc (suc d)) k (ext x) e = absurd (omega arith)

  pub put_other : (d k t : ℕ) (v : Value B X) → d < 2 → (d ≡ class_of v → t ≡ k → ⊥) → slot_at (put_at m k v) d t ≡ slot_at m d t
  put_other zero k t (base x) h n = rw (upd_other m.bases k (Some x) t (n refl)) refl
  put_other zero k t (ext x) h n = refl
  put_other (suc zero) k t (base x) h n = refl
  put_other (suc zero) k t (ext x) h n = rw (upd_other m.exts k (Some x) t (n refl)) refl
  put_other (suc (suc d)) k t v h n = absurd (omega arith)

  -- a root's word
  pub root_word_lem : (d t : ℕ) → d < 2 → t < 2147483648 → root_held m (slot_word d t) ≡ slot_at m d t
  root_word_lem zero t h l = rw ((base_word t l).0, (base_word t l).1) refl
  root_word_lem (suc zero) t h l = rw ((ext_word_lem t l).0, (ext_word_lem t l).1) refl
  root_word_lem (suc (suc d)) t h l = absurd (omega arith)

-- ---- one node more

module _ {B X : Type 0} (K : Tower B X) (tags : List Form) (kinds : List Kind) (c : BlobCounts) (s : Shape) (u : Contents B X) where
  abbrev through : List Instr → ℕ → Option (Slots B X)
  through xs = slots_after K tags kinds c s u (flat xs)

  -- the first nodes are walked as if they were alone
  slots_prefix : (xs ys : List Instr) (i : ℕ) → i ≤ length xs → through (xs ++ ys) i ≡ through xs i
  unfolding slots_after
  slots_prefix xs ys zero h = refl
  slots_prefix xs ys (suc i) h = rw (slots_prefix xs ys i (omega arith), instr_left xs ys i h) refl

  pub slots_snoc : (xs : List Instr) (x : Instr) (m : Slots B X) → through xs (length xs) ≡ Some m → through (xs ++ (x ∷ [])) (length (xs ++ (x ∷ []))) ≡ step K tags kinds c s u m x
  unfolding slots_after
  slots_snoc xs x m e = rw (more_one) (rw (slots_prefix xs (x ∷ []) (length xs) (omega arith), e, instr_here xs x) refl)
    where
      more_one : length (xs ++ (x ∷ [])) ≡ suc (length xs)
      more_one = omega (arith, length-append xs (x ∷ []))
