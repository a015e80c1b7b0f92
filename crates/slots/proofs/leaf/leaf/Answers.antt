use Rattle.values.specs.Frame.{lent_in}
use Rattle.blob_rules.specs.Blob.{instr_of}
use Rattle.slots.proofs.LeafLaws.{leaf_in, cell_gives}
use native.Mathlib.Omega.{arith}
use Rattle.slots.proofs.leaf.leaf.Goals as goal

pub bounds-inputs-w : goal.bounds-inputs-w
bounds-inputs-w c = let a = c.args in let p = c.requires in let i = leaf_in a.c a.s (instr_of a.w) p.1 in let k = i.base_const c.in-0.is in omega (arith, k, p.2.uniforms.bases_long)

pub ext_leaf-requires : goal.ext_leaf-requires
ext_leaf-requires c = let a = c.args in let p = c.requires in let i = leaf_in a.c a.s (instr_of a.w) p.1 in let k = i.ext_const c.in-1.is in omega (arith, k, p.2.uniforms.exts_long)

pub cell-requires : goal.cell-requires
cell-requires c = let a = c.args in let p = c.requires in let i = leaf_in a.c a.s (instr_of a.w) p.1 in (i.cell c.in-2.is, p.2.trace)

pub ext_leaf-requires-in-3 : goal.ext_leaf-requires-in-3
ext_leaf-requires-in-3 c = let a = c.args in let p = c.requires in let i = leaf_in a.c a.s (instr_of a.w) p.1 in let k = i.challenge c.in-3.is in omega (arith, k, p.2.uniforms.challenges_long)

pub ext_leaf-requires-in-4 : goal.ext_leaf-requires-in-4
ext_leaf-requires-in-4 c = let a = c.args in let p = c.requires in let i = leaf_in a.c a.s (instr_of a.w) p.1 in let k = i.alpha c.in-4.is in omega (arith, k, p.2.uniforms.alphas_long)

pub returns-in-2 : goal.returns-in-2
returns-in-2 c = let a = c.args in cell_gives a.c a.s (instr_of a.w) a.t.rows a.t.row (lent_in a.inputs.now) c.in-2.is c.cell.ensures
