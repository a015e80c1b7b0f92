-- The blob that the lists and tables of a checked program give.
-- Assumes nothing.
use mathlib.Core.List.{List, ◌++◌}
use mathlib.Core.Path.{◌≡◌, refl, sym, ap, ◌∙◌}
use Prim.Native.Nat.{ℕ, ◌*◌, ◌%◌}
use native.Mathlib.Omega.{arith}
use lib.ListN.{length, get_or, drop}
use Rattle.laws.specs.Lists.{tabulate}
use Rattle.laws.proofs.Tabulate.{length_tabulate}
use Rattle.field.specs.Base.{p}
use Rattle.ir.specs.declared.program.Counts.{Counts}
use Rattle.ir.specs.Words.{node_at}
use Rattle.liveness.specs.Liveness.{Liveness, live}
use Rattle.scan_parts.specs.Scan.{Scan, scan, flat}
use Rattle.lower_parts.specs.Lower.{root_word, Lowered, lowered}
use Rattle.lower_parts.specs.Answer.{over}
use Rattle.scan.specs.Arrays.{Begins, Scanned}
use Rattle.liveness.specs.LiveLists.{Tab, listed}
use Rattle.lower_parts.specs.Inner.{RootsOk, WriteOk, BlobWritten}
use Rattle.scan.proofs.LiveLaws.{live_sound}
use Rattle.scan.proofs.ScanLaws.{scan_kept, root_held_lem, next_le}
use Rattle.liveness.proofs.Single.{tabulate_same}
use Rattle.scan.proofs.WordLaws.{flat_length}
use Rattle.lower_parts.proofs.AgreeLaws.{agree, scannable, scan_same, out_count, operand_before, dim_two}

-- words in a row over what was there
over_rows : (k : ℕ) (f : ℕ → ℕ) (old : List ℕ) → tabulate k f ++ drop k old ≡ over (tabulate k f) old
over_rows k f old = rw (length_tabulate k f) refl

module _ (c : Counts) (nodes bases exts roots emitted last pinned slot free : List ℕ) (count : ℕ) (out_nodes out_bases out_exts out_roots : List ℕ)
    (g : WriteOk c nodes bases exts roots emitted last pinned slot free count out_nodes out_bases out_exts out_roots) where
  abbrev v : Liveness
  v = listed emitted last pinned

  abbrev s : Scan
  s = scan nodes (live c nodes roots) c.nodes

  abbrev made : Lowered
  made = lowered c nodes roots bases exts (live c nodes roots)

  same : scan nodes v c.nodes ≡ s
  same =
      scan_same nodes c.nodes v (live c nodes roots) (agree c nodes roots g.formed g.long.0 emitted last pinned count g.alive)
      (λ i j h o. omega (arith, operand_before c nodes roots g.formed i j h o)) c.nodes (omega arith)

  counted : length s.out ≡ count
  counted = out_count nodes (live c nodes roots) c.nodes ∙ sym g.alive.counted

  pub begins_ok : Begins nodes emitted last pinned slot free out_nodes
  begins_ok =
      let e = g.lists_long.0 in
      record {
        scannable = rw e (scannable c nodes roots g.formed g.long.0 emitted last pinned count g.alive g.few.0 g.few.1 g.few.2);
        emitted_long = g.alive.long.0 ∙ sym e;
        last_long = g.alive.long.1 ∙ sym e;
        pinned_long = g.alive.long.2 ∙ sym e;
        free_long = g.lists_long.1 ∙ ap (λ n. 2 * n) (sym e);
        none = g.clear;
        room = rw (e, same, counted) g.room.0;
      }

  module _ (slot' free' tops next out : List ℕ) (count' : ℕ) (x : Scanned (length slot) nodes emitted last pinned out_nodes slot' free' tops next out count')
      (l : length slot' ≡ length slot) where
    n_long : length slot' ≡ c.nodes
    n_long = l ∙ g.lists_long.0

    at_end : scan nodes v (length slot) ≡ s
    at_end = rw g.lists_long.0 same

    slots : Tab slot' c.nodes s.slot
    slots = rw (n_long, at_end) at x.stands.slots

    pub roots_ok : RootsOk c.roots nodes roots slot'
    roots_ok =
        record {
          long = g.long.3;
          each = λ r h.
              let j = get_or roots r 0 in
              let b = g.formed.root r h in
              let t = root_held_lem nodes (live c nodes roots) c roots (live_sound c nodes roots) r h b in
              let low = (scan_kept nodes (live c nodes roots) c.nodes).good.low j t.0 t.1 in
              let here = slots j b in
              record {
                place = omega (arith, n_long);
                class = record { long = omega (arith, g.long.0); dim = dim_two c nodes roots g.formed j b };
                held = (omega (arith, here, t.1), omega (arith, here, t.1, low, next_le nodes (live c nodes roots) c.nodes (node_at nodes j).dim, g.few.0));
              };
        }

    pub blob_written : (out_bases' out_exts' out_roots' : List ℕ)
        → out_roots' ≡ tabulate c.roots (λ r. root_word nodes (λ k. get_or slot' k 0) (get_or roots r 0)) ++ drop c.roots out_roots
        → out_bases' ≡ tabulate c.bases (λ k. get_or bases k 0 % p) ++ drop c.bases out_bases
        → out_exts' ≡ tabulate (3 * c.exts) (λ k. get_or exts k 0 % p) ++ drop (3 * c.exts) out_exts
        → BlobWritten c made (record { nodes = out_nodes; bases = out_bases; exts = out_exts; roots = out_roots })
        (record { nodes = out; bases = out_bases'; exts = out_exts'; roots = out_roots' }) count' next
    blob_written out_bases' out_exts' out_roots' er eb ex =
        let f = x.wrote.counted in
        let k : count' ≡ length s.out = rw at_end at f in
        let w : out ≡ flat s.out ++ drop (4 * count') out_nodes = rw at_end at x.wrote.words in
        let long : 4 * count' ≡ length (flat s.out) = omega (arith, flat_length s.out, k) in
        let nodes_over : out ≡ over (flat s.out) out_nodes = w ∙ ap (λ m. flat s.out ++ drop m out_nodes) long in
        let roots_over : out_roots' ≡ over made.roots out_roots =
        er ∙ ap (λ t. t ++ drop c.roots out_roots) (tabulate_same c.roots _ _ (λ r h. ap (λ z. root_word nodes (λ k. z) (get_or roots r 0)) (slots (get_or roots r 0) (g.formed.root r h)))) ∙ over_rows c.roots _ out_roots
        in
        record {
          words = rw (nodes_over, roots_over, eb ∙ over_rows c.bases _ out_bases, ex ∙ over_rows (3 * c.exts) _ out_exts) refl;
          counted = k;
          slots = (x.stands.nexts 0 (omega arith) ∙ ap (λ z. z.next 0) at_end, x.stands.nexts 1 (omega arith) ∙ ap (λ z. z.next 1) at_end);
        }
