use Rattle.lower.proofs.EndLaws.{Exact, made_few, exact_live, live_ok, write_ok, short_is, refused, done, told, write_told, exact_told}
use Rattle.lower_parts.specs.Inner.{WriteOk}
use Rattle.lower_parts.specs.Answer.{lists_of, output_of}
use mathlib.Core.Path.{refl, sym, ◌∙◌}
use borrow.Author.Rules.{rules}
use native.Mathlib.Omega.{arith}
use Rattle.lower.proofs.lower.lower_words.Goals as goal

pub mark_lists-count-requires : goal.mark_lists-count-requires
mark_lists-count-requires c = live_ok _ _ (output_of c.args.out.now) c.requires _ c.clear.ensures.emptied

pub returns-then-short_output-clause-answer : goal.returns-then-short_output-clause-answer
returns-then-short_output-clause-answer c =
    let o = output_of c.args.out.now in
    let e = c.clear.ensures.emptied in
    let m = c.mark_lists-count.ensures in
    let x = rw (← m.slots_unchanged.0, ← m.slots_unchanged.1) at (exact_live _ _ o c.requires _ e _ _ _ _ m.alive) in
    told (lists_of c.clear-then-short_output.new.self) _ _ _ _ _ (search rules) (search rules) (search rules) (search rules) (search rules) (refused _ _ o c.requires _ e _ _ _ _ m.alive _ _ (sym (short_is _ _ o c.requires _ e _ _ _ _ m.alive) ∙ sym c.short_output.ensures ∙ c.if-short_output.true) c.clear-then-short_output.ensures.emptied x _ refl)

pub write_blob-place-requires : goal.write_blob-place-requires
write_blob-place-requires c =
    let m = c.mark_lists-count.ensures in
    let l = c.mark_lists-count.new.lists in
    let p = c.args.p.now in
    let out = c.args.out.now in
    let k : WriteOk p.counts p.nodes.now p.bases.now p.exts.now p.roots.now l.used.now l.last_use.now l.is_root.now l.slot_of.now l.free.now c.mark_lists-count.result out.nodes.now out.bases.now out.exts.now out.roots.now = rw (m.slots_unchanged.0, m.slots_unchanged.1) (write_ok _ _ (output_of out) c.requires _ c.clear.ensures.emptied _ _ _ _ m.alive (sym c.short_output.ensures ∙ c.if-short_output.false)) in
    write_told (search rules) (search rules) (search rules) (search rules) (search rules) k

pub counts_of-requires : goal.counts_of-requires
counts_of-requires c =
    let g = c.requires in
    let w = c.write_blob-place.ensures in
    let few = made_few _ _ (output_of c.args.out.now) g _ c.clear.ensures.emptied _ _ _ _ c.mark_lists-count.ensures.alive in
    record { few = rw w.blob_written.counted (omega (arith, few, g.few.0)); constants = (g.few.1, g.few.2); leading = g.leading; pair = w.lists_long.2 }

pub returns-clause-answer : goal.returns-clause-answer
returns-clause-answer c =
    let o = output_of c.args.out.now in
    let e = c.clear.ensures.emptied in
    let m = c.mark_lists-count.ensures in
    let w = c.write_blob-place.ensures in
    let x = exact_live _ _ o c.requires _ e _ _ _ _ m.alive in
    let l = c.mark_lists-count.new.lists in
    let b = c.write_blob-place.new in
    let z : Exact c.args.p.now.counts.nodes (record { used = l.used.now; last = l.last_use.now; root = l.is_root.now; slot = b.slot_of; free = b.free }) = record { used_long = x.used_long; last_long = x.last_long; root_long = x.root_long; slot_long = w.lists_long.0; free_long = w.lists_long.1 } in
    told (lists_of c.clear-2.new.self) _ _ _ _ _ (search rules) (search rules) (search rules) (search rules) (search rules) (done _ _ o c.requires _ e _ _ _ _ m.alive _ _ _ _ _ _ (sym (short_is _ _ o c.requires _ e _ _ _ _ m.alive) ∙ sym c.short_output.ensures ∙ c.if-short_output.false) w.blob_written c.clear-2.ensures.emptied (exact_told (search rules) (search rules) (search rules) (search rules) (search rules) z) c.counts_of.ensures)
