-- A table of constants of any class, in words and as the list of their values.
-- Assumes nothing.
use mathlib.Core.Bool.{Bool, true, false, cond, ◌&&◌, ◌||◌}
use mathlib.Core.List.{List, [], ◌∷◌, ◌++◌}
use mathlib.Core.Path.{◌≡◌, refl, sym, ap, ◌∙◌}
use Prim.Native.Nat.{ℕ, zero, suc, ◌+◌, ◌<◌, ◌≤◌, min}
use native.Mathlib.Numerals.{add-one}
use native.Mathlib.Omega.{arith}
use lib.Dec.{leb, ltb}
use lib.ListN.{length}
use borrow.Author.Tests.{leb-false, le-ltb}
use Rattle.laws.specs.Lists.{tabulate}
use Rattle.laws.specs.Options.{missing}
use Rattle.laws.proofs.Cases.{by_test}
use Rattle.laws.proofs.Tests.{or_left}
use Rattle.ir.specs.Program.{most}
use Rattle.ir.specs.Words.{Node}
use Rattle.node_table.specs.Words.{node}
use Rattle.node_table.specs.Hashing.{Start}
use Rattle.node_table.specs.Table.{Table, room}
use Rattle.node_table.specs.Model.{push_list}
use Rattle.builder.specs.Consts.{Interned, intern_of}
use Rattle.const_table.specs.Positions.{scan, crowded_b}
use Rattle.built.specs.Draft.{index_of, Shared, sharing}
use Rattle.built.proofs.NodeLaws.{Nodes, pushed_id, maybe_nodes, maybe_room, not_short}

module _ {A : Type 0} where
  tabulate_same : (n : ℕ) (f g : ℕ → A) → ((j : ℕ) → j < n → f j ≡ g j) → tabulate n f ≡ tabulate n g
  tabulate_same zero f g h = refl
  tabulate_same (suc n) f g h = rw (h 0 (omega arith), tabulate_same n (λ i. f (suc i)) (λ i. g (suc i)) λ j l. h (suc j) (omega arith))

  tabulate_long : (n : ℕ) (f : ℕ → A) → length (tabulate n f) ≡ n
  tabulate_long zero f = refl
  tabulate_long (suc n) f = ap suc (tabulate_long n λ i. f (suc i))

  tabulate_more : (n : ℕ) (f : ℕ → A) → tabulate (suc n) f ≡ tabulate n f ++ (f n ∷ [])
  tabulate_more zero f = refl
  tabulate_more (suc n) f = ap (λ l. f 0 ∷ l) (tabulate_more n λ i. f (suc i))

  -- the scan of the words is the search of the list
  scan_index : (test : A → Bool) (f : ℕ → A) (left i : ℕ) → scan (λ j. test (f j)) left i ≡ i + index_of test (tabulate left (λ j. f (i + j)))
  unfolding scan index_of
  scan_index test f zero i = omega arith
  scan_index test f (suc left) i =
      let e : i + 0 ≡ i = omega arith in
      let n : (j : ℕ) → suc i + j ≡ i + suc j = λ j. omega arith in
      let t : tabulate left (λ j. f (suc i + j)) ≡ tabulate left (λ j. f (i + suc j)) = tabulate_same left _ _ (λ j _. ap f (n j)) in
      rw e (
      by_test (test (f i)) _ (λ q. rw q (omega arith))
      λ q. rw q (scan_index test f left (suc i) ∙ ap (λ l. suc i + index_of test l) t ∙ omega arith))

  pub whole_scan : (test : A → Bool) (f : ℕ → A) (m : ℕ) → scan (λ j. test (f j)) m 0 ≡ index_of test (tabulate m f)
  whole_scan test f m =
      let z : (j : ℕ) → 0 + j ≡ j = λ j. omega arith in
      scan_index test f m 0 ∙ ap (λ l. 0 + index_of test l) (tabulate_same m _ _ (λ j _. ap f (z j))) ∙ omega arith

-- ---- a constant's call

-- the words stand for the values, and fit
pub record Held {A : Type 0} (at : List ℕ → ℕ → A) (fits : List ℕ → ℕ) (words : List ℕ) (m : ℕ) (cs : List A) : Type 0 where
  pub values : tabulate m (at words) ≡ cs
  pub few : m ≤ fits words

-- the words with constant m written
pub record Writes {A : Type 0} (at : List ℕ → ℕ → A) (fits : List ℕ → ℕ) (words : List ℕ) (m : ℕ) (v : A) (written : List ℕ) : Type 0 where
  pub before : (j : ℕ) → j < m → at written j ≡ at words j
  pub here : m < fits words → at written m ≡ v
  pub space : fits written ≡ fits words

-- the call over words and the call on lists
pub record Shares {A : Type 0} (at : List ℕ → ℕ → A) (fits : List ℕ → ℕ) (start : Start) (t : Table) (words : List ℕ) (o : Interned) (q : Shared A) : Type 0 where
  pub said : o.said ≡ q.said
  pub nodes : Nodes start o.after q.nodes
  pub rooms : room o.after ≡ room t
  pub consts : Held at fits o.consts o.count q.consts
  pub spaces : fits o.consts ≡ fits words

module _ {A : Type 0} (at : List ℕ → ℕ → A) (fits : List ℕ → ℕ) (words : List ℕ) (m : ℕ) (cs : List A) (h : Held at fits words m cs) where
  pub consts_many : m ≡ length cs
  consts_many = sym (tabulate_long m (at words)) ∙ ap length h.values

  module _ (v : A) (written : List ℕ) (wr : Writes at fits words m v written) where
    written_held : m < fits words → Held at fits written (m + 1) (cs ++ (v ∷ []))
    written_held l =
        record {
          values = ap (λ n. tabulate n (at written)) (add-one m) ∙ tabulate_more m (at written) ∙ rw (tabulate_same m (at written) (at words) wr.before, wr.here l, h.values);
          few = rw wr.space (omega arith);
        }

    maybe_held : (refused new : Bool) → (refused ≡ false → new ≡ true → m < fits words)
        → Held at fits (cond refused words (cond new written words)) (cond refused m (cond new (m + 1) m)) (cond refused cs (cond new (cs ++ (v ∷ [])) cs))
    maybe_held true new l = h
    maybe_held false true l = written_held (l refl refl)
    maybe_held false false l = h

    maybe_space : (refused new : Bool) → fits (cond refused words (cond new written words)) ≡ fits words
    maybe_space true new = refl
    maybe_space false true = wr.space
    maybe_space false false = refl

    module _ (start : Start) (t : Table) (xs : List Node) (s : Nodes start t xs) (lent : ℕ) (e : fits words ≡ min lent most) (same : A → Bool) (tag dim : ℕ) where
      abbrev index : ℕ
      index = index_of same cs

      abbrev new : Bool
      new = leb (length cs) index

      abbrev crowd : Bool
      crowd = new && leb (min lent most) (length cs)

      room_left : (o : Bool) → ((crowd || false) || o) ≡ false → new ≡ true → m < fits words
      room_left o c n =
          let a = or_left crowd false (or_left (crowd || false) o c) in
          omega (arith, e, consts_many, leb-false (min lent most) (length cs) (rw n at a))

      pub const_shares : (i : ℕ) → i ≡ index → Shares at fits start t words (intern_of start t tag dim lent m i words written) (sharing (room t) (min lent most) tag dim same v xs cs)
      unfolding intern_of crowded_b
      const_shares i q =
          let few = h.few in
          let w = node tag index 0 dim in
          let z : ltb lent m ≡ false = le-ltb lent m (omega arith) in
          let y : leb (min m most) i ≡ new = let k : min m most ≡ length cs = omega (arith, consts_many) in rw (k, q) in
          let x : leb (min lent most) m ≡ leb (min lent most) (length cs) = ap (leb (min lent most)) consts_many in
          let o = missing (push_list (room t) xs w).id in
          rw (not_short start t xs s, z, y, q, x, pushed_id start t xs s w)
          (record {
            said = refl;
            nodes = maybe_nodes start t xs s w (crowd || false);
            rooms = maybe_room start t xs s w (crowd || false);
            consts = maybe_held ((crowd || false) || o) new (room_left o);
            spaces = maybe_space ((crowd || false) || o) new;
          })
