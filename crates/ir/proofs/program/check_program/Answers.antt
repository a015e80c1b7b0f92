-- `check_program` meets its contract: each return has the tests that led there.
-- Assumes nothing.
use Rattle.ir.proofs.ProgramLaws.{long}
use Rattle.ir.specs.Program.{checked}
use mathlib.Core.Path.{sym, ◌∙◌}
use Rattle.ir.proofs.program.check_program.Goals as goal

pub returns-then-too_many_nodes : goal.returns-then-too_many_nodes
unfolding checked
returns-then-too_many_nodes c = rw (← c.too_many_nodes.ensures, c.if-too_many_nodes.true)

pub returns-then-too_many_roots : goal.returns-then-too_many_roots
unfolding checked
returns-then-too_many_roots c = rw (← c.too_many_nodes.ensures, c.if-too_many_nodes.false, ← c.too_many_roots.ensures, c.if-too_many_roots.true)

pub short_tables-requires : goal.short_tables-requires
short_tables-requires c = sym c.too_many_nodes.ensures ∙ c.if-too_many_nodes.false

pub returns-then-short_tables : goal.returns-then-short_tables
unfolding checked
returns-then-short_tables c = rw (← c.too_many_nodes.ensures, c.if-too_many_nodes.false, ← c.too_many_roots.ensures, c.if-too_many_roots.false, ← c.short_tables.ensures, c.if-short_tables.true)

pub ill_formed-requires : goal.ill_formed-requires
ill_formed-requires c = let l = long _ _ _ _ _ (sym c.short_tables.ensures ∙ c.if-short_tables.false) in (l.nodes_long, l.roots_long)

pub returns-in-Some : goal.returns-in-Some
unfolding checked
returns-in-Some c = rw (← c.too_many_nodes.ensures, c.if-too_many_nodes.false, ← c.too_many_roots.ensures, c.if-too_many_roots.false, ← c.short_tables.ensures, c.if-short_tables.false, ← c.ill_formed.ensures, c.in-Some.is)

pub returns-in-None : goal.returns-in-None
unfolding checked
returns-in-None c = rw (← c.too_many_nodes.ensures, c.if-too_many_nodes.false, ← c.too_many_roots.ensures, c.if-too_many_roots.false, ← c.short_tables.ensures, c.if-short_tables.false, ← c.ill_formed.ensures, c.in-None.is)
