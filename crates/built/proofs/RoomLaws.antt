-- Where a call on the program answers 0, a wider room changes nothing.
-- Assumes nothing.
use mathlib.Core.Bool.{Bool, true, false, ◌&&◌, ◌||◌}
use mathlib.Core.List.{List, [], ◌∷◌, ◌++◌}
use mathlib.Core.Path.{◌≡◌, refl, ap}
use Prim.Native.Nat.{ℕ, ◌%◌, ◌≤◌}
use native.Mathlib.Omega.{arith}
use lib.Dec.{eqb, ltb, leb}
use lib.ListN.{length}
use borrow.Author.Tests.{ltb-true, lt-ltb, leb-false, lt-leb, eqb-true}
use Rattle.laws.specs.Options.{missing}
use Rattle.laws.proofs.Cases.{by_test}
use Rattle.laws.proofs.Tests.{clash, and_left, and_right, or_left, or_right}
use Rattle.field.specs.Base.{p}
use Rattle.ir.specs.Refusals.{Row, row, any_holds, found_at}
use Rattle.ir.specs.Words as Op
use Rattle.ir.specs.Words.{Node}
use Rattle.ir.proofs.RefusalLaws.{numbered, done_quiet}
use Rattle.builder.specs.declared.ir_builder.Expr.{Expr}
use Rattle.node_table.specs.Words.{node, lookup}
use Rattle.builder.specs.Calls.{index_row, cell_node}
use Rattle.node_table.specs.Model.{push_list}
use Rattle.built.specs.Draft.{Draft, Room, Call, main, aux, challenge, alpha_power, table_offset, const_base, const_ext, add, sub, mul, neg, embed, emit, stranger, stranger_row, making, index_of, Shared, sharing, limbs_of, same_limbs, emission, told}
use Rattle.built.specs.History.{replies, drafted, all_done, Wider, RoomDoesNotMatter}

push_wider : (fit big : ℕ) (xs : List Node) (w : Node) → fit ≤ big → missing (push_list fit xs w).id ≡ false → push_list big xs w ≡ push_list fit xs w
unfolding push_list
push_wider fit big xs w h e =
    by_test (ltb (lookup w xs) (length xs)) _ (λ q. rw q)
    λ q. by_test (ltb (length xs) fit) _ (λ u. rw (q, u, lt-ltb (length xs) big (omega (arith, ltb-true (length xs) fit u))))
    λ u. clash refl (rw (q, u) at e)

any_last : (rows : List Row) (x : Row) → any_holds (rows ++ (x ∷ [])) ≡ false → x.holds ≡ false
any_last [] x h = or_left x.holds false h
any_last (r ∷ rs) x h = any_last rs x (or_right r.holds _ h)

crowd_wider : (new : Bool) (fits big n : ℕ) → fits ≤ big → (new && leb fits n) ≡ false → (new && leb big n) ≡ false
crowd_wider true fits big n h e = lt-leb big n (omega (arith, leb-false fits n e))
crowd_wider false fits big n h e = refl

module _ {A : Type 0} (fit big fits wide tag dim : ℕ) (h : fit ≤ big) (k : fits ≤ wide) (same : A → Bool) (v : A) (xs : List Node) (cs : List A) where
  sharing_wider : (sharing fit fits tag dim same v xs cs).said.number ≡ 0 → sharing big wide tag dim same v xs cs ≡ sharing fit fits tag dim same v xs cs
  sharing_wider e =
      let i = index_of same cs in
      let new = leb (length cs) i in
      let w = node tag i 0 dim in
      let crowd = new && leb fits (length cs) in
      let full = missing (push_list fit xs w).id in
      let q = done_quiet (found_at (push_list fit xs w).id ∷ dim ∷ []) (row crowd 5 ∷ row full 4 ∷ []) refl e in
      let c = or_left crowd (full || false) q in
      let f = or_left full false (or_right crowd (full || false) q) in
      rw (crowd_wider new fits wide (length cs) k c, c, push_wider fit big xs w h f)

module _ (r big : Room) (g : Wider r big) (d : Draft) where
  making_wider : (rows : List Row) (w : Node) → numbered (rows ++ (row (missing (push_list r.nodes d.nodes w).id) 4 ∷ [])) ≡ true → (making r rows d w).said.number ≡ 0
      → making big rows d w ≡ making r rows d w
  making_wider rows w n e =
      let o = push_list r.nodes d.nodes w in
      let last = row (missing o.id) 4 in
      let f = any_last rows last (done_quiet (found_at o.id ∷ w.dim ∷ []) (rows ++ (last ∷ [])) n e) in
      rw (push_wider r.nodes big.nodes d.nodes w g.nodes f)

  emission_wider : (c : ℕ) (e : Expr) → (emission r d c e).said.number ≡ 0 → emission big d c e ≡ emission r d c e
  emission_wider c e z =
      let x = stranger d.nodes e in
      let y = leb r.roots c in
      let q = done_quiet [] (row x 3 ∷ row y 6 ∷ []) refl z in
      let u = or_left y false (or_right x (y || false) q) in
      let roots = g.roots in
      rw (u, lt-leb big.roots c (omega (arith, leb-false r.roots c u)))

  told_wider : (c : Call) → (told r d c).said.number ≡ 0 → told big d c ≡ told r d c
  unfolding told
  told_wider (main offset col l) e = making_wider (index_row col ∷ []) (cell_node true offset col) refl e
  told_wider (aux offset col l) e = making_wider (index_row col ∷ []) (cell_node false offset col) refl e
  told_wider (challenge i) e = making_wider (index_row i ∷ []) (node Op.rap_challenge i 0 1) refl e
  told_wider (alpha_power i) e = making_wider (index_row i ∷ []) (node Op.alpha_pow i 0 1) refl e
  told_wider table_offset e = making_wider [] (node Op.table_offset 0 0 1) refl e
  told_wider (const_base v) e =
      ap (λ (o : Shared ℕ). record { said = o.said; draft = record { nodes = o.nodes; bases = o.consts; exts = d.exts; roots = d.roots } })
      (sharing_wider r.nodes big.nodes r.bases big.bases Op.const_base 0 g.nodes g.bases (λ x. eqb x (v % p)) (v % p) d.nodes d.bases e)
  told_wider (const_ext v) e =
      ap (λ (o : Shared (List ℕ)). record { said = o.said; draft = record { nodes = o.nodes; bases = d.bases; exts = o.consts; roots = d.roots } })
      (sharing_wider r.nodes big.nodes r.exts big.exts Op.const_ext 1 g.nodes g.exts (λ x. same_limbs x (limbs_of v)) (limbs_of v) d.nodes d.exts e)
  told_wider (add a b) e = making_wider (row (stranger d.nodes a || stranger d.nodes b) 3 ∷ []) _ refl e
  told_wider (sub a b) e = making_wider (row (stranger d.nodes a || stranger d.nodes b) 3 ∷ []) _ refl e
  told_wider (mul a b) e = making_wider (row (stranger d.nodes a || stranger d.nodes b) 3 ∷ []) _ refl e
  told_wider (neg a) e = making_wider (stranger_row d a ∷ []) _ refl e
  told_wider (embed a) e = making_wider (stranger_row d a ∷ []) _ refl e
  told_wider (emit c x) e = emission_wider c x e

pub room_does_not_matter : RoomDoesNotMatter
unfolding replies drafted
room_does_not_matter r big g d [] h = (refl, refl)
room_does_not_matter r big g d (c ∷ cs) h =
    let q = told r d c in
    let zero = eqb-true q.said.number 0 (and_left (eqb q.said.number 0) (all_done (replies r q.draft cs)) h) in
    let t = told_wider r big g d c zero in
    let more = room_does_not_matter r big g q.draft cs (and_right (eqb q.said.number 0) (all_done (replies r q.draft cs)) h) in
    (rw t (ap (λ l. q.said ∷ l) more.0), rw t more.1)
