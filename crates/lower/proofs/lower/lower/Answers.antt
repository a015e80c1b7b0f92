use Rattle.lower.proofs.AnswerLaws.{refused, lists_are, lower_ok, answered}
use Rattle.ir.specs.Program.{program_of}
use Rattle.ir.proofs.ProgramLaws.{few, long}
use Rattle.lower_parts.specs.Answer.{lower_said, output_of}
use mathlib.Core.Path.{refl, sym, ◌∙◌}
use Rattle.lower.proofs.lower.lower.Goals as goal

pub returns-then-too_many_nodes-clause-answer : goal.returns-then-too_many_nodes-clause-answer
unfolding lower_said
returns-then-too_many_nodes-clause-answer c = refused _ _ _ _ refl refl (rw (← c.too_many_nodes.ensures, c.if-too_many_nodes.true))

pub returns-then-too_many_roots-clause-answer : goal.returns-then-too_many_roots-clause-answer
unfolding lower_said
returns-then-too_many_roots-clause-answer c = refused _ _ _ _ refl refl (rw (← c.too_many_nodes.ensures, c.if-too_many_nodes.false, ← c.too_many_roots.ensures, c.if-too_many_roots.true))

pub returns-then-short_tables-clause-answer : goal.returns-then-short_tables-clause-answer
unfolding lower_said
returns-then-short_tables-clause-answer c = refused _ _ _ _ refl refl (rw (← c.too_many_nodes.ensures, c.if-too_many_nodes.false, ← c.too_many_roots.ensures, c.if-too_many_roots.false, ← c.short_tables.ensures, c.if-short_tables.true))

pub are_short-requires : goal.are_short-requires
are_short-requires c = (few _ (sym c.too_many_nodes.ensures ∙ c.if-too_many_nodes.false)).nodes

pub returns-then-are_short-clause-answer : goal.returns-then-are_short-clause-answer
unfolding lower_said
returns-then-are_short-clause-answer c = refused _ _ _ _ refl refl (rw (← c.too_many_nodes.ensures, c.if-too_many_nodes.false, ← c.too_many_roots.ensures, c.if-too_many_roots.false, ← c.short_tables.ensures, c.if-short_tables.false, ← c.are_short.ensures, c.if-are_short.true))

pub ill_formed-requires : goal.ill_formed-requires
ill_formed-requires c = let l = long _ _ _ _ _ (sym c.short_tables.ensures ∙ c.if-short_tables.false) in (l.nodes_long, l.roots_long)

pub returns-in-Some-clause-answer : goal.returns-in-Some-clause-answer
unfolding lower_said
returns-in-Some-clause-answer c = refused _ _ _ _ refl refl (rw (← c.too_many_nodes.ensures, c.if-too_many_nodes.false, ← c.too_many_roots.ensures, c.if-too_many_roots.false, ← c.short_tables.ensures, c.if-short_tables.false, ← c.are_short.ensures, c.if-are_short.false, ← c.ill_formed.ensures, c.in-Some.is))

pub lower_fronts-requires : goal.lower_fronts-requires
lower_fronts-requires c =
    let h = sym c.too_many_nodes.ensures ∙ c.if-too_many_nodes.false in
    let l = lists_are (program_of c.args.p.now) _ (output_of c.args.out.now) (few _ h).nodes (sym c.are_short.ensures ∙ c.if-are_short.false) in
    (lower_ok (program_of c.args.p.now) _ (output_of c.args.out.now) l h (sym c.too_many_roots.ensures ∙ c.if-too_many_roots.false) (sym c.short_tables.ensures ∙ c.if-short_tables.false) (sym c.ill_formed.ensures ∙ c.in_default.is), l)

pub returns-clause-answer : goal.returns-clause-answer
unfolding lower_said
returns-clause-answer c = answered _ _ _ _ (rw (← c.too_many_nodes.ensures, c.if-too_many_nodes.false, ← c.too_many_roots.ensures, c.if-too_many_roots.false, ← c.short_tables.ensures, c.if-short_tables.false, ← c.are_short.ensures, c.if-are_short.false, ← c.ill_formed.ensures, c.in_default.is) refl) c.lower_fronts.ensures.answer
