-- The plain evaluator's attempt: from what it looked at, that no row refuses; and its answer.
-- Assumes nothing.
use mathlib.Core.Bool.{Bool, true, false, not}
use mathlib.Core.List.{List}
use Rattle.std.specs.Prelude.{None, Ok}
use mathlib.Core.Path.{◌≡◌, refl, ◌∙◌}
use Prim.Native.Nat.{ℕ, ◌<◌}
use native.Mathlib.Nat.{le_refl}
use lib.Dec.{leb}
use lib.ListN.{length, get_or}
use Rattle.laws.specs.Folds.{lowest}
use Rattle.laws.proofs.Folds.{none_lowest}
use Rattle.laws.proofs.Tests.{neither}
use Rattle.ir.specs.declared.program.Counts.{Counts}
use Rattle.ir.specs.declared.frame.Shape.{Shape}
use Rattle.ir.specs.Words.{node_at}
use Rattle.ir.specs.Program.{num_base_of, node_ok, ill_formed}
use Rattle.ir.specs.Refusals.{Row, any_holds}
use Rattle.ir.proofs.ProgramLaws.{within}
use Rattle.values.specs.declared.frame.Limits.{Limits}
use Rattle.evaluation.specs.declared.frame.Lengths.{Lengths}
use Rattle.values.specs.Values.{Value, values}
use Rattle.values.specs.Frame.{Lent, leaves, node_outside, prover_strides, frame_limits}
use Rattle.evaluation.specs.Evaluation.{memory_rows, prover_rest, prover_rows, lengths, ProverAnswer}
use Rattle.evaluation.specs.Writes.{RootsIn, WritesRoots}
use Rattle.trial_parts.specs.Trial.{Tryable, NodeFits, Trial}
use Rattle.evaluation.specs.Attempt.{Sufficient, Attempt}
use Rattle.extension.specs.Tower.{goldilocks}
use Rattle.interp.proofs.AnswerLaws.{answer_quiet, prover_ok, Asked, prover_asked}
use Rattle.evaluation.proofs.RefuseLaws.{any_append, memory_ok}
use Rattle.evaluation.proofs.EvalLaws.{completes}
use Rattle.values.proofs.ReadyLaws.{prover_fits}

-- every node passed, and every root was found below the count: 7 and 13 do not hold
module _ (c : Counts) (m : Limits) (nodes roots : List ℕ) (h : (j : ℕ) → j < c.nodes → NodeFits c m nodes j (node_at nodes j)) where
  none_ill : lowest (λ r. leb c.nodes (get_or roots r 0)) c.roots ≡ None → ill_formed c nodes roots ≡ None
  unfolding ill_formed node_ok
  none_ill e = rw (none_lowest (λ i. not (node_ok c nodes i)) c.nodes (λ i l. rw (h i l).formed), e)

  none_outside : lowest (node_outside m nodes) c.nodes ≡ None
  none_outside = none_lowest (node_outside m nodes) c.nodes (λ i l. (h i l).inside)

-- the converse of `prover_ok`
quiet_rows : (c : Counts) (s : Shape) (l : Lengths) (base ext : ℕ) (m : Limits) (nodes roots : List ℕ) → Sufficient c s l base ext nodes roots → ((j : ℕ) → j < c.nodes → NodeFits c m nodes j (node_at nodes j)) → any_holds (prover_rows c s l base ext m nodes roots) ≡ false
quiet_rows c s l base ext m nodes roots k h =
    let f = k.roots_fit in
    any_append (memory_rows c s 1 l) (prover_rest c base ext m nodes roots)
    ∙ neither k.memory (rw (f.evals_long, none_ill c m nodes roots h f.roots_below, none_outside c m nodes roots h, f.roots_base))

-- what the trial asks
pub prover_tryable : (c : Counts) (s : Shape) (nodes roots room : List ℕ) (l : Lent) (base ext : ℕ) → Sufficient c s (lengths nodes roots l room) base ext nodes roots → Tryable (prover_strides s) (frame_limits s) c l (length nodes) (length room)
prover_tryable c s nodes roots room l base ext k =
    let m = memory_ok c s 1 (lengths nodes roots l room) k.memory in
    let t = m.tables_long in
    let f = m.frame_long in
    let w = within s m.shape_within in
    record {
      fits = prover_fits s c l t.bases_long t.exts_long f.aux_long f.challenges_long f.alphas_long f.main_long;
      base_cells = refl;
      narrow = record { main = w.main; aux = w.aux; challenges = w.challenges; alphas = w.alphas; offsets = le_refl 1 };
      nodes_long = t.nodes_long;
      room_long = m.room_long;
    }

module _ (c : Counts) (s : Shape) (nodes roots : List ℕ) (l : Lent) (base ext : ℕ) where
  abbrev rows : List ℕ → List Row
  rows room = prover_rows c s (lengths nodes roots l room) base ext (frame_limits s) nodes roots

  abbrev env : ℕ → Value ℕ (List ℕ)
  env = values goldilocks (leaves (prover_strides s) l) nodes c.nodes

  pub attempt_made : (room room' : List ℕ) (r : Bool) → Sufficient c s (lengths nodes roots l room) base ext nodes roots → Trial (prover_strides s) (frame_limits s) c l nodes room room' r → Attempt (rows room) env c.nodes room room' r
  attempt_made room room' r k t =
      record {
        quiet = λ e. quiet_rows c s (lengths nodes roots l room) base ext (frame_limits s) nodes roots k (t.done e).node_fits;
        holds = λ e. (t.done e).holds;
        kept = t.kept;
      }

-- ---- its answer

module _ (c : Counts) (s : Shape) (nodes roots : List ℕ) (l : Lent) (base ext room : List ℕ) where
  asked : any_holds (rows c s nodes roots l (length base) (length ext) room) ≡ false → Asked (prover_strides s) c (num_base_of c) nodes roots l (length base) (length ext) (length room)
  asked q = prover_asked c s nodes roots l base ext room (prover_ok c s (lengths nodes roots l room) (length base) (length ext) (frame_limits s) nodes roots q)

  abbrev Attempted : List ℕ → Bool → Type 0
  Attempted room' r = Attempt (rows c s nodes roots l (length base) (length ext) room) (env c s nodes roots l (length base) (length ext)) c.nodes room room' r

  pub attempt_roots : (room' : List ℕ) {r : Bool} → Attempted room' r → r ≡ true → RootsIn c.roots (num_base_of c) roots (length room') (length base) (length ext)
  attempt_roots room' t e = rw (t.holds e).long (asked (t.quiet e)).1

  pub attempt_done : (room' base' ext' : List ℕ) {r : Bool} → Attempted room' r → r ≡ true → WritesRoots c.roots (num_base_of c) roots room' base base' ext ext' → ProverAnswer c s nodes roots l (Ok tt) base base' ext ext' room room'
  attempt_done room' base' ext' t e w = answer_quiet (rows c s nodes roots l (length base) (length ext) room) (t.quiet e) (completes (t.holds e) w (asked (t.quiet e)).2)
