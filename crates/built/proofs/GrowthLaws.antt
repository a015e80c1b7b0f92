-- Memory with more words after those that were lent stands for the same program.
-- Assumes nothing.
use mathlib.Core.List.{List, [], ◌∷◌, ◌++◌}
use mathlib.Core.Path.{◌≡◌, refl, sym, ap, ap₂, subst, ◌∙◌}
use Prim.Native.Nat.{ℕ, zero, suc, ◌+◌, ◌*◌, ◌%◌, ◌<◌, ◌≤◌}
use native.Mathlib.Omega.{arith}
use lib.ListN.{length, get_or, length-append, get_or-append}
use lib.Seq.{take-append-le}
use Rattle.laws.specs.Lists.{tabulate}
use Rattle.field.specs.Base.{p}
use Rattle.ir.specs.Words.{Node, node_at}
use Rattle.node_table.specs.Words.{view}
use Rattle.node_table.specs.Hashing.{Start}
use Rattle.node_table.specs.Table.{Table, table, Reached}
use Rattle.built.specs.Draft.{Draft, fresh_draft}
use Rattle.built.specs.Memory.{Memory, room_of, base_at, ext_at, base_room, ext_room}
use Rattle.built.specs.History.{after, drafted}
use Rattle.built.specs.Growth.{Growth, grown, Stage, GoesOn, TablesMayGrow}
use Rattle.built.proofs.NodeLaws.{Nodes}
use Rattle.built.proofs.ConstantLaws.{Held}
use Rattle.built.proofs.StepLaws.{Holds, holds_stands}
use Rattle.built.proofs.FormedLaws.{Sane, fresh_sane}
use Rattle.built.proofs.Theorems.{ran, history, drafted_sane, well_made}
use Rattle.built.proofs.ServesLaws.{serving}

-- ---- nodes

node_kept : (l more : List ℕ) (n i : ℕ) → 4 * n ≤ length l → i < n → node_at (l ++ more) i ≡ node_at l i
node_kept l more n i f h =
    λ k.
    record {
      tag = get_or-append l more 0 (4 * i) (omega arith) k;
      x = get_or-append l more 0 (4 * i + 1) (omega arith) k;
      y = get_or-append l more 0 (4 * i + 2) (omega arith) k;
      dim = get_or-append l more 0 (4 * i + 3) (omega arith) k;
    }

view_kept : (l more : List ℕ) (n : ℕ) → 4 * n ≤ length l → view (l ++ more) n ≡ view l n
unfolding view
view_kept l more zero f = refl
view_kept l more (suc n) f =
    ap₂ (λ a b. a ++ (b ∷ [])) (view_kept l more n (omega arith)) (node_kept l more (suc n) n f (omega arith))

nodes_grown : (start : Start) (t : Table) (xs : List Node) (more : List ℕ) → Nodes start t xs → Nodes start (table (t.nodes ++ more) t.places t.count) xs
nodes_grown start t xs more h =
    let f : 4 * t.count ≤ length t.nodes = omega (arith, h.few) in
    let s = h.sound in
    let kept = node_kept t.nodes more t.count in
    record {
      sound =
          record {
            starts = s.starts;
            names = s.names;
            reached =
                λ i l.
                subst (λ (w : Node). Reached (length t.places) t.places (start (length t.places) w) i) (sym (kept i f l)) (s.reached i l);
            apart = λ i j a b e. s.apart i j a b (sym (kept i f a) ∙ e ∙ kept j f b);
            filled = s.filled;
          };
      list = view_kept t.nodes more t.count f ∙ h.list;
      few = omega (arith, h.few, length-append t.nodes more);
    }

-- ---- constants

tabulate_agree : {A : Type 0} (k : ℕ) (f g : ℕ → A) → ((i : ℕ) → i < k → f i ≡ g i) → tabulate k f ≡ tabulate k g
tabulate_agree zero f g h = refl
tabulate_agree (suc k) f g h =
    ap₂ ◌∷◌ (h 0 (omega arith)) (tabulate_agree k (λ i. f (suc i)) (λ i. g (suc i)) (λ i b. h (suc i) (omega arith)))

held_grown : {A : Type 0} (at : List ℕ → ℕ → A) (fits : List ℕ → ℕ) (words more : List ℕ) (m : ℕ) (cs : List A)
    → ((j : ℕ) → j < m → at (words ++ more) j ≡ at words j) → fits words ≤ fits (words ++ more)
    → Held at fits words m cs → Held at fits (words ++ more) m cs
held_grown at fits words more m cs kept wide h =
    record { values = tabulate_agree m _ _ kept ∙ h.values; few = omega (arith, h.few, wide) }

-- ---- the whole memory

module _ (start : Start) (m : Memory) (d : Draft) (g : Growth) (h : Holds start m d) where
  base_kept : (j : ℕ) → j < m.builder.bases → base_at (m.bases ++ g.bases) j ≡ base_at m.bases j
  base_kept j l = ap (λ x. x % p) (get_or-append m.bases g.bases 0 j (omega (arith, h.bases.few)))

  limb_kept : (j k : ℕ) → j < m.builder.exts → k < 3 → get_or (m.exts ++ g.exts) (3 * j + k) 0 % p ≡ get_or m.exts (3 * j + k) 0 % p
  limb_kept j k l b = ap (λ x. x % p) (get_or-append m.exts g.exts 0 (3 * j + k) (omega (arith, h.exts.few)))

  ext_kept : (j : ℕ) → j < m.builder.exts → ext_at (m.exts ++ g.exts) j ≡ ext_at m.exts j
  ext_kept j l =
      ap₂ ◌∷◌ (ap (λ x. x % p) (get_or-append m.exts g.exts 0 (3 * j) (omega (arith, h.exts.few))))
      (ap₂ ◌∷◌ (limb_kept j 1 l (omega arith)) (ap₂ ◌∷◌ (limb_kept j 2 l (omega arith)) refl))

  pub holds_grown : Holds start (grown g m) d
  holds_grown =
      record {
        nodes = nodes_grown start _ d.nodes g.nodes h.nodes;
        bases = held_grown base_at base_room m.bases g.bases _ d.bases base_kept (omega (arith, length-append m.bases g.bases)) h.bases;
        exts = held_grown ext_at ext_room m.exts g.exts _ d.exts ext_kept (omega (arith, length-append m.exts g.exts)) h.exts;
        roots =
            record {
              list = take-append-le _ m.roots g.roots h.roots.few ∙ h.roots.list;
              few = omega (arith, h.roots.few, length-append m.roots g.roots);
            };
      }

-- ---- calls in stages

along : (start : Start) (ss : List Stage) (m : Memory) (d : Draft) → Holds start m d → Sane d → GoesOn start m d ss
unfolding GoesOn
along start [] m d h f =
    let w = well_made start m d h f in
    record { stands = holds_stands start m d h; made = w; serves = λ base. serving _ (w.few base) (w.long base) (w.formed base) }
along start (s ∷ ss) m d h z =
    let m' = grown s.growth m in
    let f = ran start (room_of m') s.calls m' d refl (holds_grown start m d s.growth h) in
    (f.says, along start ss (after start m' s.calls) (drafted (room_of m') d s.calls) f.holds (drafted_sane (room_of m') s.calls d z))

pub tables_may_grow : TablesMayGrow
tables_may_grow start low m e cs = record { goes_on = λ ss. along start ss _ _ (history start start low m e cs).holds (drafted_sane (room_of m) cs fresh_draft fresh_sane) }
