-- `roots_fit` meets its contract: no root is too high, so each has a node.
-- Assumes nothing.
use Rattle.laws.proofs.Folds.{lowest_none}
use borrow.Author.Tests.{leb-false}
use Rattle.laws.specs.Folds.{lowest}
use Rattle.std.proofs.Common.{rules, leb, get_or, None, ◌≡◌}
use Rattle.evaluation.proofs.refuse.roots_fit.Goals as goal

pub lowest_ext_root-requires : goal.lowest_ext_root-requires
lowest_ext_root-requires c =
    let q = c.requires in
    let e : lowest (λ r. leb c.args.c.nodes (get_or c.args.roots.now r 0)) c.args.c.roots ≡ None = search rules in
    record { nodes_long = q.nodes_long; roots_long = q.roots_long; root_below = λ i l. leb-false _ _ (lowest_none _ _ e i l) }
