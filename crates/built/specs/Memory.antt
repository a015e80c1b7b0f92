-- The memory that is lent to a builder, what each call makes of it, and when it stands for a program.
-- Assumes nothing.
use Rattle.std.specs.Prelude.{List, [], ◌∷◌, ◌≡◌, ℕ, ◌+◌, ◌*◌, ◌/◌, ◌%◌, ◌≤◌, min, length, get_or, take}
use Rattle.laws.specs.Lists.{tabulate}
use Rattle.field.specs.Base.{p}
use Rattle.ir.specs.Program.{most}
use Rattle.ir.specs.Refusals.{Said}
use Rattle.builder.specs.declared.ir_builder.IrBuilder.{IrBuilder}
use Rattle.node_table.specs.Words.{view}
use Rattle.node_table.specs.Hashing.{Start}
use Rattle.node_table.specs.Table.{Table, table, room}
use Rattle.builder.specs.Answers.{Built, with_nodes}
use Rattle.builder.specs.Calls.{main_cell_of, aux_cell_of, challenge_of, alpha_power_of, table_offset_of, add_of, sub_of, mul_of, neg_of, embed_of}
use Rattle.builder.specs.Roots.{emit_of, with_roots}
use Rattle.builder.specs.Consts.{const_of, const_ext_of, with_bases, with_exts, empty, new_of}
use Rattle.built.specs.Draft.{Draft, Room, Call, main, aux, challenge, alpha_power, table_offset, const_base, const_ext, add, sub, mul, neg, embed, emit}

-- the builder, which is its counts, and the words that are lent to it
pub record Memory : Type 0 where
  pub builder : IrBuilder
  pub nodes : List ℕ
  pub places : List ℕ
  pub bases : List ℕ
  pub exts : List ℕ
  pub roots : List ℕ

-- the table of nodes that the memory holds
abbrev pub table_of : Memory → Table
table_of m = table m.nodes m.places m.builder.nodes

-- ---- each call, with any rule of where a lookup starts: the definitions that the contracts of the code equate it to

-- what a call says, and the memory after it
pub record Answered : Type 0 where
  pub said : Said
  pub memory : Memory

-- the memory after a call on nodes and places
abbrev pub with_table : Memory → Built → Answered
with_table m o =
    record {
      said = o.said;
      memory = record { builder = with_nodes m.builder o.after.count; nodes = o.after.nodes; places = o.after.places; bases = m.bases; exts = m.exts; roots = m.roots };
    }

-- what each call answers over the memory, and the memory after it
unfoldable pub answered : Start → Memory → Call → Answered
answered start m (main offset col h) = with_table m (main_cell_of start (table_of m) offset col)
answered start m (aux offset col h) = with_table m (aux_cell_of start (table_of m) offset col)
answered start m (challenge i) = with_table m (challenge_of start (table_of m) i)
answered start m (alpha_power i) = with_table m (alpha_power_of start (table_of m) i)
answered start m table_offset = with_table m (table_offset_of start (table_of m))
answered start m (const_base v) =
    let o = const_of start (table_of m) m.bases m.builder.bases v in
    record {
      said = o.said;
      memory = record { builder = with_bases m.builder o.after.count o.count; nodes = o.after.nodes; places = o.after.places; bases = o.consts; exts = m.exts; roots = m.roots };
    }
answered start m (const_ext v) =
    let o = const_ext_of start (table_of m) m.exts m.builder.exts v in
    record {
      said = o.said;
      memory = record { builder = with_exts m.builder o.after.count o.count; nodes = o.after.nodes; places = o.after.places; bases = m.bases; exts = o.consts; roots = m.roots };
    }
answered start m (add a b) = with_table m (add_of start (table_of m) a b)
answered start m (sub a b) = with_table m (sub_of start (table_of m) a b)
answered start m (mul a b) = with_table m (mul_of start (table_of m) a b)
answered start m (neg a) = with_table m (neg_of start (table_of m) a)
answered start m (embed a) = with_table m (embed_of start (table_of m) a)
answered start m (emit c e) =
    let o = emit_of m.nodes m.builder.nodes m.roots m.builder.roots c e in
    record {
      said = o.said;
      memory = record { builder = with_roots m.builder o.count; nodes = m.nodes; places = m.places; bases = m.bases; exts = m.exts; roots = o.roots };
    }

-- a fresh builder, by `new`, over any lent words; the counts before it do not matter
unfoldable pub fresh : Start → Memory → Answered
fresh start m =
    let o = new_of start m.nodes m.places m.bases in
    record {
      said = o.said;
      memory = record { builder = with_bases empty o.after.count o.count; nodes = o.after.nodes; places = o.after.places; bases = o.consts; exts = m.exts; roots = m.roots };
    }

-- ---- what memory stands for

-- the value of constant j
abbrev pub base_at : List ℕ → ℕ → ℕ
base_at bs j = get_or bs j 0 % p

-- and of extension constant j, limb by limb
abbrev pub ext_at : List ℕ → ℕ → List ℕ
ext_at xs j = (get_or xs (3 * j) 0 % p) ∷ (get_or xs (3 * j + 1) 0 % p) ∷ (get_or xs (3 * j + 2) 0 % p) ∷ []

-- the program that the counted words are
abbrev pub draft_of : Memory → Draft
draft_of m =
    record {
      nodes = view m.nodes m.builder.nodes;
      bases = tabulate m.builder.bases (base_at m.bases);
      exts = tabulate m.builder.exts (ext_at m.exts);
      roots = take m.builder.roots m.roots;
    }

-- how many base constants fit
abbrev pub base_room : List ℕ → ℕ
base_room bs = min (length bs) most

-- how many extension constants fit
abbrev pub ext_room : List ℕ → ℕ
ext_room xs = min (length xs / 3) most

-- how much fits
abbrev pub room_of : Memory → Room
room_of m = record { nodes = room (table_of m); bases = base_room m.bases; exts = ext_room m.exts; roots = length m.roots }

-- the counted words are the program, and the counts are within the room
pub record Stands (m : Memory) (d : Draft) : Type 0 where
  pub program : draft_of m ≡ d
  pub nodes_fit : m.builder.nodes ≤ (room_of m).nodes
  pub bases_fit : m.builder.bases ≤ (room_of m).bases
  pub exts_fit : m.builder.exts ≤ (room_of m).exts
  pub roots_fit : m.builder.roots ≤ (room_of m).roots
