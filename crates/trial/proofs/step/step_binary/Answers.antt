-- `step_binary` meets its contract.
-- Assumes nothing.
use Rattle.trial_parts.proofs.StepLaws.{zero_words, base_ok, ext_ok, low_limbs}
use Rattle.values.proofs.OperationLaws.{binary_base, binary_ext}
use mathlib.Core.List.{[], ◌∷◌}
use mathlib.Core.Path.{◌≡◌, refl, sym, ◌∙◌}
use Prim.Native.Nat.{◌*◌}
use lib.ListN.{get_or}
use Rattle.trial.proofs.step.step_binary.Goals as goal
use Rattle.trial.proofs.step.step_binary.Goals.{then-room-at-eq-BASE, else-room-at-eq-BASE}
use Rattle.std.proofs.Common.{rules}

pub returns-then-all_base : goal.returns-then-all_base
returns-then-all_base c = let a = c.args in let z = zero_words a.dim (get_or a.room.now (4 * a.x) 0) (get_or a.room.now (4 * a.y) 0) (sym c.all_base.ensures ∙ c.if-all_base.true) in λ e. rw z.0 (record { limbs = _ ∷ 0 ∷ 0 ∷ []; operands_ok = base_ok a.room.now a.i a.tag a.x a.y 0 c.requires.1 c.requires.3 refl z.1 z.2; operates = binary_base a.room.now a.tag a.x a.y c.requires.0 c.requires.1 z.1 z.2 c.base_operation-v.ensures; stored = c.put_base.ensures })

pub ext_binary-v-requires : goal.ext_binary-v-requires
ext_binary-v-requires c = let a = c.args in let w = c.requires.5 in (low_limbs a.room.now a.i a.x w c.requires.2 c.load.ensures, low_limbs a.room.now a.i a.y w c.requires.3 c.load-2.ensures)

pub returns : goal.returns
returns c = let a = c.args in let d = c.if-dim-ne-DIM_EXT.false in let n : get_or a.room.now (4 * a.x) 0 ≡ 0 → get_or a.room.now (4 * a.y) 0 ≡ 0 → ⊥ = λ u v. elim c.if-room-at-eq-BASE.branch [ then-room-at-eq-BASE w ↦ (let t = w.value-is in let f = c.if-room-to-eq-BASE.false in search rules) | else-room-at-eq-BASE w ↦ w.if-room-at-eq-BASE.false u ] in λ e. rw d (record { limbs = _; operands_ok = ext_ok a.room.now a.i a.tag a.x a.y 1 c.requires.1 c.requires.3 refl n; operates = binary_ext a.room.now a.tag a.x a.y c.requires.0 c.requires.1 n c.load.ensures c.load-2.ensures c.ext_binary-v.ensures; stored = c.put_ext.ensures })
