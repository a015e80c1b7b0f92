-- Calls that make a node: over memory that stands for a program they are the calls on the program.
-- Assumes nothing.
use mathlib.Core.Bool.{Bool, true, false, cond}
use mathlib.Core.List.{List, [], ◌∷◌}
use mathlib.Core.Logic.{by_cases}
use mathlib.Core.Path.{◌≡◌, refl, sym, ap, ◌∙◌}
use Prim.Native.Nat.{ℕ, zero, suc, ◌*◌, ◌/◌, ◌+◌, ◌<◌, ◌≤◌}
use native.Mathlib.Omega.{arith}
use native.Mathlib.Decide.{ℕ_discrete, dec_lt}
use lib.Dec.{eqb, ltb}
use lib.ListN.{length, get_or, length-set, get_or-append}
use lib.Seq.{get_or_at}
use borrow.Author.Tests.{le-ltb, ltb-true, le-leb}
use Rattle.ir.specs.Words.{Node, node_at}
use Rattle.builder.specs.declared.ir_builder.Expr.{Expr}
use Rattle.node_table.specs.Words.{node, view}
use Rattle.node_table.specs.Hashing.{Start}
use Rattle.node_table.specs.Table.{Table, Pushed, Sound, room, push_at, push, appended}
use Rattle.node_table.specs.Model.{push_list}
use Rattle.builder.specs.Answers.{short_b, stranger_b, pushed}
use Rattle.node_table.proofs.Laws.{cond_case, put_length, view_length}
use Rattle.node_table.proofs.Pushes.{kept, Kept}
use Rattle.built.specs.Draft.{stranger}

-- ---- a push

-- the table's nodes are the list's, and lookups find them
pub record Nodes (start : Start) (t : Table) (xs : List Node) : Type 0 where
  pub sound : Sound (start (length t.places)) t
  pub list : view t.nodes t.count ≡ xs
  pub few : t.count ≤ room t

pub view_at : (l : List ℕ) (n i : ℕ) (d : Node) → i < n → get_or (view l n) i d ≡ node_at l i
unfolding view
view_at l zero i d h = absurd (omega arith)
view_at l (suc n) i d h =
    by_cases (ℕ_discrete i n)
    (λ e. rw e (get_or_at (view l n) (node_at l n) [] d n (view_length l n)))
    λ e. get_or-append (view l n) (node_at l n ∷ []) d i (omega (arith, view_length l n)) ∙ view_at l n i d (omega arith)

module _ (start : Start) (t : Table) (w : Node) where
  -- the number of places is the same after a push, and nodes still fit
  pub record Fit (u : Table) : Type 0 where
    pub places : length u.places ≡ length t.places
    pub rooms : room u ≡ room t
    pub few : u.count ≤ room t

  stays_fit : t.count ≤ room t → Fit t
  stays_fit h = record { places = refl; rooms = refl; few = h }

  appended_fit : (at : ℕ) → t.count < room t → Fit (appended t w at)
  appended_fit at h =
      let a = put_length t.nodes t.count w in
      let b = length-set t.places at (suc t.count) in
      record { places = b; rooms = rw (a, b); few = h }

  push_fit : (at : ℕ) → t.count ≤ room t → Fit (push_at t w at).after
  unfolding push_at
  push_fit at h =
      let P : Pushed → Type 0 = λ o. Fit o.after in
      let s = stays_fit h in
      cond_case P (ltb at (length t.places)) _ _
      (λ _. cond_case P (eqb (get_or t.places at 0) 0) _ _ (λ _. cond_case P (ltb t.count (room t)) _ _ (λ l. appended_fit at (ltb-true _ _ l)) λ _. s) λ _. s)
      λ _. s

  pub pushed_fit : t.count ≤ room t → Fit (pushed start t w).after
  unfolding push
  pushed_fit h = push_fit _ h

module _ (start : Start) (t : Table) (xs : List Node) (s : Nodes start t xs) where
  module _ (w : Node) where
    pushed_kept : Kept (start (length t.places)) t w
    pushed_kept = kept (start (length t.places)) t w s.sound

    pub pushed_id : (pushed start t w).id ≡ (push_list (room t) xs w).id
    pushed_id = pushed_kept.follows.ids ∙ ap (λ l. (push_list (room t) l w).id) s.list

    pub pushed_nodes : Nodes start (pushed start t w).after (push_list (room t) xs w).list
    pushed_nodes =
        let f = pushed_fit start t w s.few in
        record {
          sound = rw f.places pushed_kept.sound;
          list = pushed_kept.follows.lists ∙ ap (λ l. (push_list (room t) l w).list) s.list;
          few = rw f.rooms f.few;
        }

    -- where some row holds nothing is pushed
    pub maybe_nodes : (b : Bool) → Nodes start (cond b t (pushed start t w).after) (cond b xs (push_list (room t) xs w).list)
    maybe_nodes true = s
    maybe_nodes false = pushed_nodes

    pub maybe_room : (b : Bool) → room (cond b t (pushed start t w).after) ≡ room t
    maybe_room true = refl
    maybe_room false = (pushed_fit start t w s.few).rooms

  -- ---- tests

  pub nodes_many : t.count ≡ length xs
  nodes_many = sym (view_length t.nodes t.count) ∙ ap length s.list

  pub not_short : short_b (length t.nodes) (length t.places) t.count ≡ false
  unfolding short_b
  not_short = let h = s.few in rw (le-ltb (length t.nodes / 4) t.count (omega arith), le-ltb (length t.places) t.count (omega arith))

  pub node_of : (i : ℕ) → i < t.count → node_at t.nodes i ≡ get_or xs i (node 0 0 0 0)
  node_of i h = sym (view_at t.nodes t.count i (node 0 0 0 0) h) ∙ ap (λ l. get_or l i (node 0 0 0 0)) s.list

  pub strangers : (e : Expr) → stranger_b t.nodes t.count e ≡ stranger xs e
  unfolding stranger_b stranger
  strangers e =
      by_cases (dec_lt e.id t.count)
      (λ h.
      let d : get_or t.nodes (4 * e.id + 3) 0 ≡ (get_or xs e.id (node 0 0 0 0)).dim = ap (λ (x : Node). x.dim) (node_of e.id h) in
      rw (← nodes_many, d))
      λ h. rw (← nodes_many, le-leb t.count e.id (omega arith))
