use Rattle.blob_rules.specs.Blob.{instr_of}
use Rattle.walk.proofs.NodeLaws.{known_tag, operands_legal}
use mathlib.Core.Path.{sym, ◌∙◌}
use Rattle.walk.proofs.row.operation.Goals as goal

pub ext_arith-requires : goal.ext_arith-requires
ext_arith-requires c = let a = c.args in let p = c.requires in let k = operands_legal a.c a.s (instr_of a.w) p.1 p.0 in let e = sym c.is_ext.ensures ∙ c.if-is_ext.true in (p.0, known_tag a.c a.s (instr_of a.w) p.1, p.2, p.3, k.ext_first e, k.ext_second e)

pub base_arith-requires : goal.base_arith-requires
base_arith-requires c = let a = c.args in let p = c.requires in let k = operands_legal a.c a.s (instr_of a.w) p.1 p.0 in let e = sym c.is_ext.ensures ∙ c.if-is_ext.false in (p.0, k.base_tag e, p.2.bases_long, p.3, k.base_first e, k.base_second e)

pub returns-then-is_ext : goal.returns-then-is_ext
returns-then-is_ext c = let e = sym c.is_ext.ensures ∙ c.if-is_ext.true in record { follows = λ u t m v held z. rw c.of_ext.ensures (c.ext_arith.ensures.follows u t m v c.args.w.res held e z) }

pub returns-else-is_ext : goal.returns-else-is_ext
returns-else-is_ext c = let e = sym c.is_ext.ensures ∙ c.if-is_ext.false in record { follows = λ u t m v held z. rw c.of_base.ensures (c.base_arith.ensures.follows c.args.s u t.base_const m v c.args.w.res held e z) }
