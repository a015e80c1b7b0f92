use Rattle.walk.proofs.WalkLaws.{row_done}
use Rattle.values.specs.Frame.{lent_in}
use Rattle.blob_rules.specs.Blob.{lent_blob}
use Rattle.walk.proofs.walk.walk_row.Goals as goal

pub returns : goal.returns
returns c = let a = c.args in row_done (lent_blob a.blob.now) a.s a.t.rows a.t.row (lent_in a.inputs.now) a.base.now _ a.ext.now _ a.slots.now _ c.walk_nodes.ensures c.write_roots.ensures
