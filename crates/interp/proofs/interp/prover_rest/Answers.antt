-- `prover_rest` meets its contract: each return has the rows that led there.
-- Assumes nothing.
use Rattle.interp.proofs.OutcomeLaws.{form_passed}
use Rattle.values.specs.Frame.{frame_limits}
use Rattle.interp.proofs.interp.prover_rest.Goals as goal

pub lowest_ext_root-requires : goal.lowest_ext_root-requires
lowest_ext_root-requires c =
    let a = c.args in
    let q = c.requires in
    let h = rw c.frame_limits.ensures at c.form_refusal.ensures in
    let f = form_passed a.c (frame_limits a.s) a.nodes.now a.roots.now h c.in_ok-form_refusal.was in
    record { nodes_long = q.nodes_long; roots_long = q.roots_long; root_below = f.formed.root }
