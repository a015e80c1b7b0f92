-- `try_in` meets its contract: the copy is the last thing that is done.
-- Assumes nothing.
use Rattle.trial_parts.proofs.TrialLaws.{trial_done, trial_kept, zeros}
use Rattle.values.specs.Frame.{lent_in}
use borrow.Author.Tests.{not-false}
use lib.ListN.{length-replicate}
use Prim.Native.Nat.{ℕ}
use native.Mathlib.Omega.{arith}
use mathlib.Core.Path.{◌∙◌}
use Rattle.trial.proofs.trial.try_in.Goals as goal

pub pass-requires : goal.pass-requires
pass-requires g c = let q = c.requires in (record { fits = q.0.fits; base_cells = q.0.base_cells; narrow = q.0.narrow; nodes_long = q.0.nodes_long; room_long = omega (arith, q.1) }, zeros g.row.N)

pub returns-then-not-pass : goal.returns-then-not-pass
returns-then-not-pass g c = trial_kept _ _ _ _ _ _

pub overflow_mul-c : goal.overflow_mul-c
overflow_mul-c g c = omega (arith, c.requires.1)

pub copy_words-requires : goal.copy_words-requires
copy_words-requires g c = let q = c.requires in let t = c.pass.ensures (not-false _ c.if-not-pass.false-raw) in (omega (arith, t.holds.long ∙ length-replicate {A = ℕ} g.row.N 0, q.1), q.0.room_long)

pub returns : goal.returns
returns g c = let q = c.requires in let a = c.args in let t = c.pass.ensures (not-false _ c.if-not-pass.false-raw) in trial_done a.s a.m a.c (lent_in a.inputs.now) a.nodes.now _ _ a.room.now _ (omega (arith, t.holds.long ∙ length-replicate {A = ℕ} g.row.N 0, q.1)) q.0.room_long t c.copy_words.ensures
