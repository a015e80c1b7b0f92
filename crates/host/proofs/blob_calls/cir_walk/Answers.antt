use Rattle.host.proofs.blob_calls.cir_walk.Goals as goal

pub returns : goal.returns
returns c = record { outcome = c.walk.result; promised = rw (c.blob_counts_of.ensures, c.shape_of-s.ensures, c.ext_of.ensures) at c.walk.ensures; answered = c.coded_outcome.ensures }
