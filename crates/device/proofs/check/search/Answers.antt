use Rattle.device.proofs.CallLaws.{search_stops, search_roots}
use Rattle.device.proofs.check.search.Goals as goal

pub returns-in-Some : goal.returns-in-Some
returns-in-Some c = let a = c.args in search_stops a.blob.now.counts a.s a.blob.now.nodes.now a.blob.now.roots.now a.marks.now _ c.lowest_bad_node.ensures c.in-Some.is

pub returns-in-None : goal.returns-in-None
returns-in-None c = let a = c.args in search_roots a.blob.now.counts a.s a.blob.now.nodes.now a.blob.now.roots.now a.marks.now _ c.lowest_bad_node.ensures c.in-None.is c.root_refusal.ensures
