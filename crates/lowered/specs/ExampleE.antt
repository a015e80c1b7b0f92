-- Document 01's program E, lowered, checked and walked: what each slot holds after each node, by computation.
-- Assumes nothing.
use Rattle.std.specs.Prelude.{List, [], ◌∷◌, map, ◌≡◌, refl, ℕ}
use Rattle.laws.specs.Folds.{lowest}
use Rattle.laws.specs.Maps.{upd}
use Rattle.extension.specs.Ext.{sums, minuses, embedded, product}
use Rattle.extension.specs.Tower.{goldilocks, remainders}
use Rattle.ir.specs.Shape.{over_shape}
use Rattle.ir.specs.Refusals.{first, gives}
use Rattle.interp.specs.ExampleE.{shape, frame}
use Rattle.blob_rules.specs.Blob.{Blob, tags, kinds}
use Rattle.device.specs.StepRule.{base_operand, ext_operand, step, slots_after}
use Rattle.blob_rules.specs.Check.{operand_ok, cell_ok, node_ok, filled_after, illegal, ext_root, short_check, check_rows}
use Rattle.slots.specs.Slots.{held_word, held_limbs}
use Rattle.slots.specs.Trace.{contents}
use Rattle.walk.specs.Walk.{slots_or}

-- the listing of document 01: seven nodes, two constants, two roots, num_base 1, two base slots and one extension slot
pub blob : Blob
blob =
    record {
      counts = record { nodes = 7; bases = 2; exts = 0; roots = 2; num_base = 1; base_slots = 2; ext_slots = 1 };
      nodes =
          2 ∷ 0 ∷ 65536 ∷ 0
          ∷ 2 ∷ 0 ∷ 65792 ∷ 1
          ∷ 7 ∷ 1 ∷ 0 ∷ 0
          ∷ 7 ∷ 0 ∷ 1073741825 ∷ 0
          ∷ 2 ∷ 2 ∷ 0 ∷ 2147483648
          ∷ 8 ∷ 536870912 ∷ 2147483648 ∷ 2147483648
          ∷ 6 ∷ 536870912 ∷ 0 ∷ 2147483648
          ∷ [];
      roots = 0 ∷ 2147483648 ∷ [];
    }

-- base slots 0 and 1 and extension slot 0 after i nodes, 0 for an empty one
pub slots_at : ℕ → List (List ℕ)
slots_at i =
    let m = slots_or (slots_after goldilocks tags kinds blob.counts shape (contents 2 0 shape frame) blob.nodes i) in
    (held_word (m.bases 0) ∷ []) ∷ (held_word (m.bases 1) ∷ []) ∷ held_limbs (m.exts 0) ∷ []

-- what each slot holds, node by node
pub slots_hold :
    map slots_at (1 ∷ 2 ∷ 3 ∷ 4 ∷ 5 ∷ 6 ∷ 7 ∷ [])
    ≡ ((5 ∷ []) ∷ (0 ∷ []) ∷ (0 ∷ 0 ∷ 0 ∷ []) ∷ [])
    ∷ ((5 ∷ []) ∷ (9 ∷ []) ∷ (0 ∷ 0 ∷ 0 ∷ []) ∷ [])
    ∷ ((4 ∷ []) ∷ (9 ∷ []) ∷ (0 ∷ 0 ∷ 0 ∷ []) ∷ [])
    ∷ ((3 ∷ []) ∷ (9 ∷ []) ∷ (0 ∷ 0 ∷ 0 ∷ []) ∷ [])
    ∷ ((3 ∷ []) ∷ (9 ∷ []) ∷ (1 ∷ 2 ∷ 3 ∷ []) ∷ [])
    ∷ ((3 ∷ []) ∷ (9 ∷ []) ∷ (58 ∷ 49 ∷ 28 ∷ []) ∷ [])
    ∷ ((3 ∷ []) ∷ (9 ∷ []) ∷ (61 ∷ 49 ∷ 28 ∷ []) ∷ [])
    ∷ []
unfolding slots_at blob shape frame slots_after step base_operand ext_operand upd remainders sums minuses embedded product
slots_hold = refl

-- the check passes it
pub passes : first (check_rows blob shape 3) (gives []) ≡ gives []
unfolding blob shape over_shape short_check illegal ext_root lowest node_ok operand_ok cell_ok filled_after upd
passes = refl
