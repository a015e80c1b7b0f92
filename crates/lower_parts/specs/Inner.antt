-- What the inner functions of lowering ask and do: no public promise cites it.
-- Assumes nothing.
use Rattle.std.specs.Prelude.{cond, List, ◌≡◌, ℕ, ◌*◌, ◌<◌, ◌≤◌, length, get_or, take, Result}
use Rattle.ir.specs.declared.program.Counts.{Counts}
use Rattle.ir.specs.Program.{Program, most, most32}
use Rattle.ir.specs.Refusals.{gives, refuses}
use Rattle.ir.specs.declared.refusal.Refusal.{Refusal}
use Rattle.blob_rules.specs.declared.blob.BlobCounts.{BlobCounts}
use Rattle.ir.specs.WellFormed.{WellFormed}
use Rattle.scan_parts.specs.Pools.{ClassOk}
use Rattle.liveness.specs.LiveLists.{busy, Alive}
use Rattle.lower_parts.specs.declared.parts.Lists as Lent
use Rattle.lower_parts.specs.Lower.{Lowered, blob_of}
use Rattle.lower_parts.specs.Answer.{Lists, Output, lowering, short_output, counts_of, said_of_lowering, emptied}
use Rattle.lower_parts.specs.Answer as Answer

-- each list is still the one that was lent
abbrev pub SameLists : Lent.Lists → Lent.Lists → Type 0
SameLists b b' =
    (b.used.ghost_name ≡ b'.used.ghost_name) × (b.last_use.ghost_name ≡ b'.last_use.ghost_name) × (b.is_root.ghost_name ≡ b'.is_root.ghost_name) × (b.slot_of.ghost_name ≡ b'.slot_of.ghost_name) × (b.free.ghost_name ≡ b'.free.ghost_name)

-- ---- roots

-- node j has a slot
pub record RootOk (j : ℕ) (nodes slot : List ℕ) : Type 0 where
  pub place : j < length slot
  pub class : ClassOk nodes j
  pub held : (0 < get_or slot j 0) × (get_or slot j 0 ≤ 536870912)

-- each of some roots does
pub record RootsOk (count : ℕ) (nodes roots slot : List ℕ) : Type 0 where
  pub long : count ≤ length roots
  pub each : (r : ℕ) → r < count → RootOk (get_or roots r 0) nodes slot

-- ---- the blob

-- a program that was let through, its liveness on the lists, and room for `count` nodes
pub record WriteOk (c : Counts) (nodes bases exts roots emitted last pinned slot free : List ℕ) (count : ℕ) (out_nodes out_bases out_exts out_roots : List ℕ) : Type 0 where
  pub formed : WellFormed c nodes roots
  pub few : (c.nodes ≤ most) × (c.bases ≤ most) × (c.exts ≤ most)
  pub long : (4 * c.nodes ≤ length nodes) × (c.bases ≤ length bases) × (3 * c.exts ≤ length exts) × (c.roots ≤ length roots)
  pub alive : Alive c nodes roots emitted last pinned count
  pub lists_long : (length slot ≡ c.nodes) × (length free ≡ 2 * c.nodes)
  pub clear : busy slot ≡ 0
  pub room : (4 * count ≤ length out_nodes) × (c.bases ≤ length out_bases) × (3 * c.exts ≤ length out_exts) × (c.roots ≤ length out_roots)

-- the blob is written
pub record BlobWritten (c : Counts) (l : Lowered) (old new : Output) (count : ℕ) (next : List ℕ) : Type 0 where
  pub words : new ≡ Answer.written l old
  pub counted : count ≡ l.count
  pub slots : (get_or next 0 0 ≡ l.base_slots) × (get_or next 1 0 ≡ l.ext_slots)

-- the lists are long enough for n nodes
pub record ListsLong (n : ℕ) (b : Lists) : Type 0 where
  pub few : n ≤ most
  pub used_long : n ≤ length b.used
  pub last_long : n ≤ length b.last
  pub root_long : n ≤ length b.root
  pub slot_long : n ≤ length b.slot
  pub free_long : 2 * n ≤ length b.free

-- the front of each list, as long as n nodes need
abbrev pub front : ℕ → Lists → Lists
front n b =
    record { used = take n b.used; last = take n b.last; root = take n b.root; slot = take n b.slot; free = take (2 * n) b.free }

-- a blob's counts fit 32 bits
pub record CountsOk (c : Counts) (count : ℕ) (next : List ℕ) : Type 0 where
  pub few : count ≤ most
  pub constants : (c.bases ≤ most) × (c.exts ≤ most)
  pub leading : (c.roots ≤ most32) × (c.num_base ≤ most32)
  pub pair : length next ≡ 2

-- a program that passed 8, 9, 1 and 7, and lists that are as long as it needs
pub record LowerOk (q : Program) (b : Lists) : Type 0 where
  pub formed : WellFormed q.counts q.nodes q.roots
  pub few : (q.counts.nodes ≤ most) × (q.counts.bases ≤ most) × (q.counts.exts ≤ most)
  pub leading : (q.counts.roots ≤ most32) × (q.counts.num_base ≤ most32)
  pub long : (4 * q.counts.nodes ≤ length q.nodes) × (q.counts.bases ≤ length q.bases) × (3 * q.counts.exts ≤ length q.exts) × (q.counts.roots ≤ length q.roots)
  pub used_long : length b.used ≡ q.counts.nodes
  pub last_long : length b.last ≡ q.counts.nodes
  pub root_long : length b.root ≡ q.counts.nodes
  pub slot_long : length b.slot ≡ q.counts.nodes
  pub free_long : length b.free ≡ 2 * q.counts.nodes

-- 10 or the blob; the lists are 0 in either case
pub record WordsAnswer (q : Program) (b : Lists) (o : Output) (answer : Result BlobCounts Refusal) (b' : Lists) (o' : Output) : Type 0 where
  pub said : said_of_lowering answer ≡ cond (short_output (lowering q) o) (refuses 10 0) (gives (counts_of (blob_of q.counts (lowering q)).counts))
  pub wrote : o' ≡ cond (short_output (lowering q) o) o (Answer.written (lowering q) o)
  pub lists : b' ≡ emptied q.counts.nodes b
