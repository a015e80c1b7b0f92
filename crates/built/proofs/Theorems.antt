-- Histories of calls: the proofs of the statements in specs/History.antt.
-- Assumes nothing.
use mathlib.Core.Bool.{false, not}
use mathlib.Core.List.{List, [], ◌∷◌}
use Rattle.std.specs.Prelude.{None}
use mathlib.Core.Path.{◌≡◌, refl, sym, ap, ap₂, ◌∙◌, subst}
use Prim.Native.Nat.{ℕ, ◌*◌, ◌<◌}
use native.Mathlib.Nat.{mod-lt}
use native.Mathlib.Omega.{arith}
use lib.Dec.{eqb, leb}
use lib.ListN.{length, get_or}
use lib.Seq.{get_or-take, length-take-le}
use borrow.Author.Tests.{lt-leb, le-ltb}
use Rattle.laws.proofs.Folds.{none_lowest, all_same}
use Rattle.laws.specs.Folds.{all_below}
use Rattle.ir.specs.declared.program.Counts.{Counts}
use Rattle.ir.specs.Program.{most, node_ok, too_many_nodes, short_tables, ill_formed, checked}
use Rattle.builder.specs.declared.ir_builder.IrBuilder.{IrBuilder}
use Rattle.gaps.specs.Gaps.{gaps_of}
use Rattle.node_table.specs.Hashing.{Start, hash_of, start_of}
use Rattle.built.specs.Draft.{Draft, Room, Call, told, fresh_draft}
use Rattle.built.specs.Memory.{Memory, answered, fresh, base_at, ext_at, base_room, ext_room, room_of}
use Rattle.built.specs.History.{answers, after, replies, drafted, StartsInside, program_of, WellMade, gaps_in, BuilderFollowsRust, AnyHashWillDo, ProgramsAreWellFormed, GapsAreFound}
use Rattle.built.proofs.NodeLaws.{nodes_many, node_of}
use Rattle.built.proofs.ConstantLaws.{consts_many}
use Rattle.built.proofs.StepLaws.{Holds, holds_program, holds_stands, Step, step}
use Rattle.built.proofs.FormedLaws.{Reads, Sane, fresh_sane, told_sane}
use Rattle.built.proofs.FreshLaws.{begun}

-- ---- any calls from memory that stands for a program

pub record Ran (start : Start) (r : Room) (m : Memory) (d : Draft) (cs : List Call) : Type 0 where
  pub says : answers start m cs ≡ replies r d cs
  pub holds : Holds start (after start m cs) (drafted r d cs)

pub ran : (start : Start) (r : Room) (cs : List Call) (m : Memory) (d : Draft) → room_of m ≡ r → Holds start m d → Ran start r m d cs
unfolding answers after replies drafted
ran start r [] m d e h = record { says = refl; holds = h }
ran start r (c ∷ cs) m d e h =
    let s : Step start m (answered start m c) (told r d c) = subst (λ x. Step start m (answered start m c) (told x d c)) e (step start m d h c) in
    let f = ran start r cs (answered start m c).memory (told r d c).draft (s.rooms ∙ e) s.holds in
    record { says = ap₂ ◌∷◌ s.said f.says; holds = f.holds }

pub drafted_sane : (r : Room) (cs : List Call) (d : Draft) → Sane d → Sane (drafted r d cs)
unfolding drafted
drafted_sane r [] d s = s
drafted_sane r (c ∷ cs) d s = drafted_sane r cs (told r d c).draft (told_sane r d s c)

module _ (start other : Start) (low : StartsInside other) (m : Memory) (e : (fresh start m).said.number ≡ 0) (cs : List Call) where
  pub history : Ran other (room_of m) (fresh other m).memory fresh_draft cs
  history = let b = begun start other low m e in ran other (room_of m) cs (fresh other m).memory fresh_draft b.rooms b.holds

-- ---- counts

module _ (start : Start) (m : Memory) (d : Draft) (h : Holds start m d) where
  counted : m.builder ≡ record { nodes = length d.nodes; bases = length d.bases; exts = length d.exts; roots = length d.roots }
  counted =
      let n = nodes_many start _ d.nodes h.nodes in
      let b = consts_many base_at base_room m.bases m.builder.bases d.bases h.bases in
      let x = consts_many ext_at ext_room m.exts m.builder.exts d.exts h.exts in
      let k : m.builder.roots ≡ length d.roots = sym (length-take-le m.builder.roots m.roots h.roots.few) ∙ ap length h.roots.list in
      λ i. record { nodes = n i; bases = b i; exts = x i; roots = k i }

  root_at : (r : ℕ) → r < m.builder.roots → get_or m.roots r 0 ≡ get_or d.roots r 0
  root_at r l = sym (get_or-take m.builder.roots m.roots r 0 l) ∙ ap (λ rs. get_or rs r 0) h.roots.list

  gaps_at : gaps_of m.roots m.builder.roots ≡ gaps_in d
  gaps_at =
      let k = ap (λ (b : IrBuilder). b.roots) counted in
      all_same _ _ m.builder.roots (λ r l. ap (λ x. eqb x 0) (root_at r l)) ∙ ap (all_below (λ r. eqb (get_or d.roots r 0) 0)) k

  -- ---- well-formed

  module _ (s : Sane d) (base : ℕ) where
    abbrev c : Counts
    c = (program_of m base).counts

    pub is_formed : ill_formed c m.nodes m.roots ≡ None
    unfolding ill_formed
    is_formed =
        let n = nodes_many start _ d.nodes h.nodes in
        let b = consts_many base_at base_room m.bases m.builder.bases d.bases h.bases in
        let x = consts_many ext_at ext_room m.exts m.builder.exts d.exts h.exts in
        let reads : Reads m.nodes d.nodes = record { reads = λ j l. node_of start _ d.nodes h.nodes j (omega arith) } in
        rw (
          none_lowest (λ i. not (node_ok c m.nodes i)) c.nodes (λ i l. rw (s.nodes.each m.nodes reads c (omega arith) (omega arith) i (omega arith))),
          none_lowest (λ r. leb c.nodes (get_or m.roots r 0)) c.roots (λ r l. lt-leb c.nodes (get_or m.roots r 0) (omega (arith, root_at r l, s.roots.low r))),
        )

    pub is_few : too_many_nodes c ≡ false
    unfolding too_many_nodes
    is_few =
        let n = h.nodes.few in
        let b = h.bases.few in
        let x = h.exts.few in
        rw (le-ltb most c.nodes (omega arith), le-ltb most c.bases (omega arith), le-ltb most c.exts (omega arith))

    pub is_long : short_tables c (length m.nodes) (length m.bases) (length m.exts) (length m.roots) ≡ false
    unfolding short_tables
    is_long =
        let n = h.nodes.few in
        let b = h.bases.few in
        let x = h.exts.few in
        rw (
          le-ltb (length m.nodes) (4 * c.nodes) (omega arith),
          le-ltb (length m.bases) c.bases (omega arith),
          le-ltb (length m.exts) (3 * c.exts) (omega arith),
          le-ltb (length m.roots) c.roots h.roots.few,
        )

-- ---- the four

-- the code's own rule is one of them
pub code_starts_inside : StartsInside start_of
code_starts_inside k w h = mod-lt (hash_of w) h

pub builder_follows_rust : BuilderFollowsRust
builder_follows_rust start low m e cs =
    let h = history start start low m e cs in
    record { begins = (begun start start low m e).said; says = h.says; stands = holds_stands start _ _ h.holds }

pub any_hash_will_do : AnyHashWillDo
any_hash_will_do other low' start low m e cs =
    let h = history start start low m e cs in
    let g = history start other low' m e cs in
    let s = h.holds in
    let t = g.holds in
    record {
      begins = (begun start start low m e).said ∙ sym (begun start other low' m e).said;
      says = h.says ∙ sym g.says;
      builder = counted start _ _ s ∙ sym (counted other _ _ t);
      program = holds_program start _ _ s ∙ sym (holds_program other _ _ t);
    }

pub well_made : (start : Start) (m : Memory) (d : Draft) → Holds start m d → Sane d → WellMade m
unfolding checked
well_made start m d h s =
    record {
      few = is_few start m d h s;
      long = is_long start m d h s;
      formed = is_formed start m d h s;
      passes = λ base k. rw (is_few start m d h s base, k, is_long start m d h s base, is_formed start m d h s base);
    }

pub programs_are_well_formed : ProgramsAreWellFormed
programs_are_well_formed start low m e cs =
    well_made start _ _ (history start start low m e cs).holds (drafted_sane (room_of m) cs fresh_draft fresh_sane)

pub gaps_are_found : GapsAreFound
gaps_are_found start low m e cs =
    let h = (history start start low m e cs).holds in
    record { long = le-ltb _ _ h.roots.few; gaps = gaps_at start _ _ h }
