use Rattle.reads.proofs.ReadsLaws.{marked_start, marked_more}
use Rattle.reads.proofs.reads.mark_reads.Goals as goal

pub loop-i-init : goal.loop-i-init
loop-i-init c = marked_start _ _ _

pub loop-i-preserved : goal.loop-i-preserved
loop-i-preserved c = marked_more _ c.loop-i.i _ _ _ _ c.requires.0 c.loop-i.invariant c.mark_read.ensures
