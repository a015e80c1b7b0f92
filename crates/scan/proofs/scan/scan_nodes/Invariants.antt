use mathlib.Core.Path.{◌≡◌}
use Rattle.scan_parts.specs.Pools.{SameScan}
use Rattle.scan.specs.Arrays.{Scanned}
use lib.ListN.{length}
use Rattle.scan.proofs.scan.scan_nodes.Given as goal

abbrev pub invariant-loop-i : goal.invariant-loop-i
invariant-loop-i l =
    let s = l.scan in
    record {
      long : length s.slot_of.now ≡ l.n;
      same : SameScan s l.initial.scan;
      scanned : Scanned l.i l.nodes l.marks.used.now l.marks.last_use.now l.marks.is_root.now l.initial.scan.out.now s.slot_of.now s.free.now s.tops s.nexts s.out.now s.count;
    }
