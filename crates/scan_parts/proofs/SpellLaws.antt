-- Operands encoded, and the words of a node.
-- Assumes nothing.
use mathlib.Core.Bool.{Bool, true, false, ◌||◌}
use mathlib.Core.List.{List, [], ◌∷◌, ◌++◌}
use mathlib.Core.Path.{◌≡◌, refl, sym, ◌∙◌}
use Prim.Native.Nat.{ℕ, ◌+◌, ◌-◌, ◌*◌, ◌<◌, ◌≤◌}
use lib.Dec.{eqb, ltb}
use lib.ListN.{get_or, length, take, drop}
use Rattle.std.proofs.lemmas.List.{append_assoc, drop-drop}
use Rattle.std.proofs.lemmas.List.Edits.{sets, sets-eq}
use borrow.Author.Tests.{eq-eqb, ne_eqb, lt-ltb, le-ltb}
use Rattle.laws.proofs.Cases.{by_test}
use Rattle.ir.specs.Words.{Node, node_at}
use Rattle.liveness.specs.Liveness.{has, operands}
use Rattle.liveness.specs.LiveLists.{listed}
use Rattle.scan_parts.specs.Scan.{encode}

module _ (nodes emitted last pinned : List ℕ) (slot : ℕ → ℕ) (j : ℕ) where
  pub encode_held : (get_or emitted j 0 ≡ 0 → ⊥) → encode nodes (listed emitted last pinned) slot j ≡ (node_at nodes j).dim * 536870912 + (slot j - 1)
  encode_held n = rw (ne_eqb (get_or emitted j 0) 0 n) refl

module _ (nodes : List ℕ) (i : ℕ) where
  abbrev pub w : Node
  w = node_at nodes i

  pub operands_two : 6 ≤ w.tag → w.tag < 9 → operands w ≡ w.x ∷ w.y ∷ []
  operands_two h k = rw (le-ltb w.tag 6 h, lt-ltb w.tag 9 k) refl

  pub operands_one : 6 ≤ w.tag → 9 ≤ w.tag → operands w ≡ w.x ∷ []
  operands_one h k = rw (le-ltb w.tag 6 h, le-ltb w.tag 9 k) refl

  pub has_first : 6 ≤ w.tag → has w.x (operands w) ≡ true
  has_first h =
      by_test (ltb w.tag 9) (has w.x (operands w) ≡ true)
      (λ t. rw (le-ltb w.tag 6 h, t, eq-eqb w.x w.x refl) refl)
      λ t. rw (le-ltb w.tag 6 h, t, eq-eqb w.x w.x refl) refl

  pub has_second : 6 ≤ w.tag → w.tag < 9 → has w.y (operands w) ≡ true
  has_second h k =
      rw (le-ltb w.tag 6 h, lt-ltb w.tag 9 k, eq-eqb w.y w.y refl) (or_true (eqb w.y w.x))
    where
      or_true : (b : Bool) → (b || (true || false)) ≡ true
      or_true true = refl
      or_true false = refl

-- words in the place of as many
pub overwritten : (vs l : List ℕ) (i : ℕ) → i + length vs ≤ length l → take i l ++ (vs ++ drop (length vs) (drop i l)) ≡ sets l i vs
overwritten vs l i h = rw (drop-drop (length vs) i l) (sym (append_assoc (take i l) vs (drop (i + length vs) l)) ∙ sym (sets-eq vs l i h))
