-- A built program lowers, and its walk is the plain evaluator.
-- Assumes nothing.
use mathlib.Core.Bool.{false}
use Rattle.std.specs.Prelude.{None}
use mathlib.Core.Path.{◌≡◌, refl}
use Rattle.ir.specs.Program.{Program, too_many_nodes, short_program, ill_formed}
use Rattle.evaluation.specs.Evaluation.{short_frame, short_memory}
use Rattle.lower_parts.specs.Answer.{lower_said}
use Rattle.lowered.proofs.Theorem.{lowering_is_faithful}
use Rattle.built.specs.Serves.{Serves, BuiltProgramsServe}
use Rattle.built.proofs.Theorems.{programs_are_well_formed}

module _ (q : Program) (few : too_many_nodes q.counts ≡ false) (long : short_program q ≡ false) (formed : ill_formed q.counts q.nodes q.roots ≡ None) where
  pub serving : Serves q
  unfolding lower_said short_memory short_frame
  serving =
      record {
        lowers = λ b o. rw (few, long, formed) refl;
        evaluates = λ s l base ext room. rw (few, long, formed) refl;
        faithful = lowering_is_faithful q;
      }

pub built_programs_serve : BuiltProgramsServe
built_programs_serve start low m e cs =
    let w = programs_are_well_formed start low m e cs in
    record { serves = λ base. serving _ (w.few base) (w.long base) (w.formed base) }
