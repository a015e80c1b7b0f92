-- `list_columns` meets its contract: the marks are the columns.
-- Assumes nothing.
use native.Mathlib.Omega.{arith}
use Rattle.reads.proofs.ReadsLaws.{columns_listed}
use Rattle.reads.proofs.reads.list_columns.Goals as goal

pub returns : goal.returns
returns c = columns_listed _ _ _ 131072 (omega (arith, c.requires)) c.mark_reads.ensures c.list_places.ensures
