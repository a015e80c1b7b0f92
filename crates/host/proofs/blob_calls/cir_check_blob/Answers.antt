use Rattle.host.proofs.blob_calls.cir_check_blob.Goals as goal

pub returns : goal.returns
returns c = record { outcome = c.check_blob.result; promised = rw (c.blob_counts_of.ensures, c.shape_of-s.ensures) at c.check_blob.ensures; answered = c.coded_outcome.ensures }
