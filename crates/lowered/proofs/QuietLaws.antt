-- What is known of a program and a frame that the plain evaluator answers.
-- Assumes nothing.
use mathlib.Core.Bool.{false, not, ◌&&◌, ◌||◌}
use mathlib.Core.List.{List, []}
use Rattle.std.specs.Prelude.{None, Ok}
use mathlib.Core.Path.{◌≡◌, refl, sym, ap}
use Prim.Native.Nat.{ℕ, ◌*◌, ◌<◌, ◌≤◌}
use native.Mathlib.Omega.{arith}
use lib.Dec.{eqb, ltb}
use lib.ListN.{length, get_or}
use borrow.Author.Tests.{ltb-false, lt-ltb, eqb-true}
use Rattle.laws.specs.Folds.{lowest}
use Rattle.laws.proofs.Cases.{by_test}
use Rattle.laws.proofs.Tests.{clash, or_left, or_right}
use Rattle.laws.proofs.Folds.{lowest_none}
use Rattle.ir.specs.declared.program.Counts.{Counts}
use Rattle.ir.specs.declared.frame.Shape.{Shape}
use Rattle.ir.specs.Words.{node_at}
use Rattle.ir.specs.Program.{num_base_of, too_many_nodes, too_many_roots, short_tables, ill_formed}
use Rattle.ir.specs.Shape.{over_shape}
use Rattle.ir.specs.Refusals.{Said, found, any_holds}
use Rattle.ir.proofs.RefusalLaws.{done_quiet, not_found}
use Rattle.evaluation.specs.declared.frame.Lengths.{Lengths}
use Rattle.values.specs.Frame.{Lent, node_outside, frame_limits}
use Rattle.evaluation.specs.Evaluation.{short_frame, short_memory, short_evals, ext_root, root_dim, prover_rows, lengths, ProverAnswer}

-- where 12 is not given, a root below num_base is base
pub leading_base : (c : Counts) (nodes roots : List ℕ) → ext_root c nodes roots ≡ None → (r : ℕ) → r < c.roots → r < num_base_of c → (node_at nodes (get_or roots r 0)).dim ≡ 0
unfolding ext_root
leading_base c nodes roots e r h b =
    let z = lowest_none (λ k. ltb k (num_base_of c) && not (eqb (root_dim nodes roots k) 0)) c.roots e r h in
    by_test (eqb (root_dim nodes roots r) 0) (root_dim nodes roots r ≡ 0)
    (λ t. eqb-true (root_dim nodes roots r) 0 t)
    λ t. clash refl (rw (lt-ltb r (num_base_of c) b, t) at z)

-- no row of the plain evaluator holds
pub record Answered (c : Counts) (s : Shape) (l : Lengths) (base ext : ℕ) (nodes roots : List ℕ) : Type 0 where
  pub few : too_many_nodes c ≡ false
  pub few_roots : too_many_roots c ≡ false
  pub shape : over_shape s ≡ false
  pub memory : short_memory c s 1 l ≡ false
  pub evals : short_evals c base ext ≡ false
  pub formed : ill_formed c nodes roots ≡ None
  pub inside : lowest (node_outside (frame_limits s) nodes) c.nodes ≡ None
  pub leading : ext_root c nodes roots ≡ None

-- the rows one by one
pub rows_quiet : (c : Counts) (s : Shape) (l : Lengths) (base ext : ℕ) (nodes roots : List ℕ) → any_holds (prover_rows c s l base ext (frame_limits s) nodes roots) ≡ false → Answered c s l base ext nodes roots
rows_quiet c s l base ext nodes roots h =
    let h₉ = or_right (too_many_nodes c) _ h in
    let h₂ = or_right (too_many_roots c) _ h₉ in
    let h₁ = or_right (over_shape s) _ h₂ in
    let h₁₄ = or_right (short_memory c s 1 l) _ h₁ in
    let h₇ = or_right (short_evals c base ext) _ h₁₄ in
    let i = ill_formed c nodes roots in
    let h₁₃ = or_right (found i) _ h₇ in
    let o = lowest (node_outside (frame_limits s) nodes) c.nodes in
    let h₁₂ = or_right (found o) _ h₁₃ in
    record {
      few = or_left (too_many_nodes c) _ h;
      few_roots = or_left (too_many_roots c) _ h₉;
      shape = or_left (over_shape s) _ h₂;
      memory = or_left (short_memory c s 1 l) _ h₁;
      evals = or_left (short_evals c base ext) _ h₁₄;
      formed = not_found i (or_left (found i) _ h₇);
      inside = not_found o (or_left (found o) _ h₁₃);
      leading = not_found (ext_root c nodes roots) (or_left (found (ext_root c nodes roots)) false h₁₂);
    }

module _ (c : Counts) (s : Shape) (nodes roots : List ℕ) (l : Lent) {base base₁ ext ext₁ room room₁ : List ℕ} (a : ProverAnswer c s nodes roots l (Ok tt) base base₁ ext ext₁ room room₁) where
  pub quiet : any_holds (prover_rows c s (lengths nodes roots l room) (length base) (length ext) (frame_limits s) nodes roots) ≡ false
  quiet =
      done_quiet [] (prover_rows c s (lengths nodes roots l room) (length base) (length ext) (frame_limits s) nodes roots) refl (ap (λ (t : Said). t.number) (sym a.said))

  pub answered : Answered c s (lengths nodes roots l room) (length base) (length ext) nodes roots
  answered = rows_quiet c s (lengths nodes roots l room) (length base) (length ext) nodes roots quiet

module _ {c : Counts} {s : Shape} {l : Lengths} {base ext : ℕ} {nodes roots : List ℕ} (a : Answered c s l base ext nodes roots) where
  -- the tables and the frame are long enough
  pub tables : short_tables c l.nodes l.bases l.exts l.roots ≡ false
  unfolding short_memory
  tables = or_left _ (short_frame s 1 l) (or_left _ (ltb l.room (4 * c.nodes)) a.memory)

  frame : short_frame s 1 l ≡ false
  unfolding short_memory
  frame = or_right (short_tables c l.nodes l.bases l.exts l.roots) (short_frame s 1 l) (or_left _ (ltb l.room (4 * c.nodes)) a.memory)

  pub frame_long : (s.steps * s.main ≤ l.main) × (3 * (s.steps * s.aux) ≤ l.aux) × (3 * s.challenges ≤ l.challenges) × (3 * s.alphas ≤ l.alphas)
  unfolding short_frame
  frame_long =
      let h = frame in
      let p = ltb l.main (1 * (s.steps * s.main)) in
      let q = ltb l.aux (3 * (s.steps * s.aux)) in
      let r = ltb l.challenges (3 * s.challenges) in
      let t = ltb l.alphas (3 * s.alphas) in
      let h₃ = or_left (p || q || r) t h in
      let h₂ = or_left (p || q) r h₃ in
      let m = ltb-false l.main (1 * (s.steps * s.main)) (or_left p q h₂) in
      (omega arith, ltb-false _ _ (or_right p q h₂), ltb-false _ _ (or_right (p || q) r h₃), ltb-false _ _ (or_right (p || q || r) t h))
