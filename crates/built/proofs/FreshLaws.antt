-- A fresh builder stands for the program with the one constant 0.
-- Assumes nothing.
use mathlib.Core.Bool.{true, false}
use mathlib.Core.List.{List, [], ◌∷◌}
use mathlib.Core.Logic.{by_cases}
use mathlib.Core.Path.{◌≡◌, refl, ◌∙◌}
use Prim.Native.Nat.{ℕ, zero, suc, ◌+◌, ◌<◌, ◌≤◌, min}
use native.Mathlib.Omega.{arith}
use native.Mathlib.Decide.{ℕ_discrete, dec_lt}
use lib.Dec.{eqb, ltb, leb}
use lib.ListN.{length, get_or, get_or-eq_default}
use lib.Seq.{get_or-set_same, get_or-set_other}
use borrow.Author.Tests.{lt-ltb, lt-leb, ne_eqb, eqb-false}
use Rattle.laws.proofs.Cases.{by_test}
use Rattle.ir.specs.Program.{most}
use Rattle.ir.specs.Refusals.{gives}
use Rattle.ir.specs.Words as Op
use Rattle.node_table.specs.Hashing.{Start}
use Rattle.node_table.specs.Words.{view, lookup}
use Rattle.node_table.specs.Table.{Table, table, room}
use Rattle.node_table.specs.Model.{push_list}
use Rattle.builder.specs.Roots.{cleared_from}
use Rattle.node_table.proofs.Pushes.{sound_start}
use Rattle.builder.specs.Consts.{const_of, new_of}
use Rattle.const_table.specs.Positions.{with_base, position_of}
use Rattle.built.specs.Draft.{Told, fresh_draft, index_of}
use Rattle.built.specs.Memory.{Memory, fresh, base_at, base_room, room_of}
use Rattle.built.specs.History.{StartsInside}
use Rattle.built.proofs.NodeLaws.{Nodes}
use Rattle.built.proofs.ConstantLaws.{Held, Shares, const_shares}
use Rattle.builder.proofs.RootLaws.{cleared_length}
use Rattle.built.proofs.StepLaws.{base_writes, base_index, Step}

cleared_at : (l : List ℕ) (d j : ℕ) → d ≤ length l → j < d → get_or (cleared_from l 0 d) j 0 ≡ 0
unfolding cleared_from
cleared_at l zero j h k = absurd (omega arith)
cleared_at l (suc d) j h k =
    let z : 0 + d ≡ d = omega arith in
    rw z
    (by_cases (ℕ_discrete j d)
    (λ e. rw e (get_or-set_same (cleared_from l 0 d) d 0 0 (omega (arith, cleared_length l 0 d))))
    λ e. get_or-set_other (cleared_from l 0 d) d j 0 0 e ∙ cleared_at l d j (omega arith) (omega arith))

all_cleared : (l : List ℕ) (j : ℕ) → get_or (cleared_from l 0 (length l)) j 0 ≡ 0
all_cleared l j =
    by_cases (dec_lt j (length l)) (cleared_at l (length l) j (omega arith)) λ h. get_or-eq_default (cleared_from l 0 (length l)) 0 (omega (arith, cleared_length l 0 (length l)))

abbrev beginning : Told
beginning = record { said = gives (0 ∷ 0 ∷ []); draft = fresh_draft }

module _ (start : Start) (low : StartsInside start) (m : Memory) where
  abbrev places₀ : List ℕ
  places₀ = cleared_from m.places 0 (length m.places)

  abbrev t₀ : Table
  t₀ = table m.nodes places₀ 0

  none_nodes : 0 < length m.places → Nodes start t₀ []
  unfolding view
  none_nodes h =
      record {
        sound = sound_start (start (length places₀)) m.nodes places₀ (λ w. low (length places₀) w (rw (cleared_length m.places 0 (length m.places)) h)) (all_cleared m.places);
        list = refl;
        few = omega arith;
      }

  none_held : Held base_at base_room m.bases 0 []
  none_held = record { values = refl; few = omega arith }

  module _ (b : 0 < length m.bases) (r : 0 < (room_of m).nodes) where
    same_room : room t₀ ≡ (room_of m).nodes
    same_room = rw (cleared_length m.places 0 (length m.places))

    -- it is the constant 0 on no program
    zero_shares : Shares base_at base_room start t₀ m.bases (const_of start t₀ m.bases 0 0) (record { said = gives (0 ∷ 0 ∷ []); nodes = fresh_draft.nodes; consts = fresh_draft.bases })
    unfolding index_of push_list lookup
    zero_shares =
        let s = const_shares base_at base_room m.bases 0 [] none_held 0 (with_base m.bases 0 0) (base_writes m.bases 0 0) start t₀ [] (none_nodes (omega arith)) (length m.bases) refl
        (λ x. eqb x 0) Op.const_base 0 (position_of m.bases 0 0) (base_index m.bases 0 0 [] none_held) in
        let k : leb (min (length m.bases) most) 0 ≡ false = lt-leb (min (length m.bases) most) 0 (omega arith) in
        let l : ltb 0 (room t₀) ≡ true = lt-ltb 0 (room t₀) (rw same_room r) in
        rw (k, l) at s

    begun_with : Step start m (fresh start m) beginning
    unfolding fresh new_of
    begun_with =
        let s = zero_shares in
        rw (ne_eqb (length m.bases) 0 (λ e. omega arith), ne_eqb (room_of m).nodes 0 (λ e. omega arith))
        (record {
          said = s.said;
          holds = record { nodes = s.nodes; bases = s.consts; exts = record { values = refl; few = omega arith }; roots = record { list = refl; few = omega arith } };
          rooms = rw (s.rooms, same_room, s.spaces);
        })

-- `new` answers 0 only where there is room, whatever the rule
has_room : (start : Start) (m : Memory) → (fresh start m).said.number ≡ 0 → (0 < length m.bases) × (0 < (room_of m).nodes)
unfolding fresh new_of
has_room start m e =
    by_test (eqb (length m.bases) 0) _ (λ q. let z : 5 ≡ 0 = rw q at e in absurd (omega arith))
    λ q. by_test (eqb (room_of m).nodes 0) _ (λ u. let z : 4 ≡ 0 = rw (q, u) at e in absurd (omega arith))
    λ u. (omega (arith, eqb-false (length m.bases) 0 q), omega (arith, eqb-false (room_of m).nodes 0 u))

pub begun : (start other : Start) → StartsInside other → (m : Memory) → (fresh start m).said.number ≡ 0 → Step other m (fresh other m) beginning
begun start other low m e = let h = has_room start m e in begun_with other low m h.0 h.1
