-- `next_row_trace_reads` meets its contract: each return has the tests that led there.
-- Assumes nothing.
use mathlib.Core.Path.{refl, sym, ◌∙◌}
use borrow.Author.Tests.{lt-ltb, le-ltb}
use Rattle.reads.specs.Reads.{reads_said}
use Rattle.ir.proofs.ProgramLaws.{long}
use Rattle.reads.proofs.ReadsLaws.{answer_refused, answer_listed}
use Rattle.reads.proofs.reads.next_row_trace_reads.Goals as goal

pub returns-then-too_many_nodes : goal.returns-then-too_many_nodes
unfolding reads_said
returns-then-too_many_nodes c = answer_refused _ _ _ _ refl (rw (← c.too_many_nodes.ensures, c.if-too_many_nodes.true))

pub returns-then-too_many_roots : goal.returns-then-too_many_roots
unfolding reads_said
returns-then-too_many_roots c = answer_refused _ _ _ _ refl (rw (← c.too_many_nodes.ensures, c.if-too_many_nodes.false, ← c.too_many_roots.ensures, c.if-too_many_roots.true))

pub returns-then-width-gt-MOST_COLUMNS : goal.returns-then-width-gt-MOST_COLUMNS
unfolding reads_said
returns-then-width-gt-MOST_COLUMNS c = answer_refused _ _ _ _ refl (rw (← c.too_many_nodes.ensures, c.if-too_many_nodes.false, ← c.too_many_roots.ensures, c.if-too_many_roots.false, lt-ltb _ _ c.if-width-gt-MOST_COLUMNS.true))

pub returns-then-short_tables : goal.returns-then-short_tables
unfolding reads_said
returns-then-short_tables c = answer_refused _ _ _ _ refl (rw (← c.too_many_nodes.ensures, c.if-too_many_nodes.false, ← c.too_many_roots.ensures, c.if-too_many_roots.false, le-ltb _ _ c.if-width-gt-MOST_COLUMNS.false, ← c.short_tables.ensures, c.if-short_tables.true))

pub ill_formed-requires : goal.ill_formed-requires
ill_formed-requires c = let l = long _ _ _ _ _ (sym c.short_tables.ensures ∙ c.if-short_tables.false) in (l.nodes_long, l.roots_long)

pub returns-in-Some : goal.returns-in-Some
unfolding reads_said
returns-in-Some c = answer_refused _ _ _ _ refl (rw (← c.too_many_nodes.ensures, c.if-too_many_nodes.false, ← c.too_many_roots.ensures, c.if-too_many_roots.false, le-ltb _ _ c.if-width-gt-MOST_COLUMNS.false, ← c.short_tables.ensures, c.if-short_tables.false, ← c.ill_formed.ensures, c.in-Some.is))

pub list_columns-requires : goal.list_columns-requires
list_columns-requires c = let l = long _ _ _ _ _ (sym c.short_tables.ensures ∙ c.if-short_tables.false) in l.nodes_long

pub returns : goal.returns
unfolding reads_said
returns c = answer_listed _ _ _ (rw (← c.too_many_nodes.ensures, c.if-too_many_nodes.false, ← c.too_many_roots.ensures, c.if-too_many_roots.false, le-ltb _ _ c.if-width-gt-MOST_COLUMNS.false, ← c.short_tables.ensures, c.if-short_tables.false, ← c.ill_formed.ensures, c.in_default.is)) c.list_columns.ensures
