-- What lowering makes of a program: the scan's nodes, the roots by their slots, and the constants below p.
-- Assumes nothing.
use Rattle.std.specs.Prelude.{List, ℕ, ◌*◌, ◌-◌, ◌%◌, length, get_or}
use Rattle.laws.specs.Lists.{tabulate}
use Rattle.field.specs.Base.{p}
use Rattle.ir.specs.declared.program.Counts.{Counts}
use Rattle.ir.specs.Words.{node_at}
use Rattle.ir.specs.Program.{num_base_of}
use Rattle.blob_rules.specs.Blob.{Blob}
use Rattle.liveness.specs.Liveness.{Liveness}
use Rattle.scan_parts.specs.Scan.{slot_word, scan, flat}

-- what lowering makes: how many nodes, the words of nodes, roots and constants, and the slots of each class
pub record Lowered : Type 0 where
  pub count : ℕ
  pub nodes : List ℕ
  pub bases : List ℕ
  pub exts : List ℕ
  pub roots : List ℕ
  pub base_slots : ℕ
  pub ext_slots : ℕ

-- a root's word: its slot, and its class
abbrev pub root_word : List ℕ → (ℕ → ℕ) → ℕ → ℕ
root_word nodes slot j = slot_word (node_at nodes j).dim (slot j - 1)

-- constants are put below p
abbrev pub lowered : Counts → (nodes roots bases exts : List ℕ) → Liveness → Lowered
lowered c nodes roots bases exts v =
    let s = scan nodes v c.nodes in
    record {
      count = length s.out;
      nodes = flat s.out;
      bases = tabulate c.bases (λ k. get_or bases k 0 % p);
      exts = tabulate (3 * c.exts) (λ k. get_or exts k 0 % p);
      roots = tabulate c.roots (λ r. root_word nodes s.slot (get_or roots r 0));
      base_slots = s.next 0;
      ext_slots = s.next 1;
    }

-- the blob that it is: constants' counts, roots' count and num_base are carried over
abbrev pub blob_of : Counts → Lowered → Blob
blob_of c l =
    record {
      counts =
          record {
            nodes = l.count;
            bases = c.bases;
            exts = c.exts;
            roots = c.roots;
            num_base = num_base_of c;
            base_slots = l.base_slots;
            ext_slots = l.ext_slots;
          };
      nodes = l.nodes;
      roots = l.roots;
    }
