-- `sufficient` meets its contract.
-- Assumes nothing.
use Rattle.std.specs.Prelude.{Result, Ok, Err}
use Rattle.std.specs.Result.{is_ok}
use Rattle.interp.proofs.OutcomeLaws.{tables_ok}
use Rattle.laws.proofs.Tests.{clash}
use mathlib.Core.Bool.{true}
use mathlib.Core.Path.{◌≡◌, refl, sym, ◌∙◌}
use Rattle.interp.proofs.interp.sufficient.Goals as goal

ok_unit : {E : Type 0} (r : Result (Unit {0}) E) → is_ok r ≡ true → r ≡ Ok tt
ok_unit (Ok u) h = refl
ok_unit (Err e) h = clash h refl

pub roots_fit-requires : goal.roots_fit-requires
roots_fit-requires c = let a = c.args in let q = c.requires in tables_ok a.c a.s 1 a.l c.memory_refusal.ensures q.0 q.1 (ok_unit c.memory_refusal.result (sym c.is_ok.ensures.value ∙ c.if-is_ok.true))
