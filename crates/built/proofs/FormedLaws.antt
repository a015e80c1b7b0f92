-- Every call leaves a well-formed program.
-- Assumes nothing.
use mathlib.Core.Bool.{Bool, true, false, cond, ◌&&◌, ◌||◌}
use mathlib.Core.List.{List, [], ◌∷◌, ◌++◌}
use mathlib.Core.Logic.{by_cases}
use mathlib.Core.Path.{◌≡◌, refl, sym, ap, ◌∙◌, subst}
use Prim.Native.Nat.{ℕ, zero, suc, ◌+◌, ◌-◌, ◌*◌, ◌%◌, ◌<◌, ◌≤◌}
use native.Mathlib.Omega.{arith}
use native.Mathlib.Decide.{ℕ_discrete}
use lib.Dec.{eqb, ltb, leb}
use lib.ListN.{length, get_or, set, replicate, length-append, get_or-append}
use lib.Seq.{get_or_at}
use borrow.Author.Tests.{ltb-false, leb-false, eqb-true, lt-ltb, le-ltb, eq-eqb, not-false}
use Rattle.laws.specs.Options.{missing}
use Rattle.laws.proofs.Tests.{or_left, or_right}
use Rattle.field.specs.Base.{p}
use Rattle.ir.specs.declared.program.Counts.{Counts}
use Rattle.ir.specs.Program.{joined, var_ok, leaf_ok, operation_ok, node_ok}
use Rattle.ir.specs.Refusals.{Row, row, any_holds}
use Rattle.ir.specs.Words as Op
use Rattle.ir.specs.Words.{Node, node_at}
use Rattle.builder.specs.declared.ir_builder.Expr.{Expr}
use Rattle.node_table.specs.Words.{node, lookup}
use Rattle.builder.specs.Calls.{index_row, cell_node}
use Rattle.node_table.specs.Model.{Listed, push_list}
use Rattle.node_table.proofs.Laws.{cond_case}
use Rattle.built.specs.Draft.{Draft, Room, Call, main, aux, challenge, alpha_power, table_offset, const_base, const_ext, add, sub, mul, neg, embed, emit, fresh_draft, stranger, stranger_row, making, binary, index_of, sharing, limbs_of, same_limbs, rooted, emission, told}

abbrev blank : Node
blank = node 0 0 0 0

-- words whose first nodes are the list's
pub record Reads (l : List ℕ) (xs : List Node) : Type 0 where
  pub reads : (j : ℕ) → j < length xs → node_at l j ≡ get_or xs j blank

-- the check's test of node i, where its words are w
abbrev ok_as : Counts → List ℕ → ℕ → Node → Bool
ok_as c l i w = cond (ltb w.tag Op.add) (leaf_ok c w) (operation_ok l i w)

-- in any words of the list, with as many constants, every node is as it has to be
pub record Formed (bases exts : ℕ) (xs : List Node) : Type 0 where
  pub each : (l : List ℕ) → Reads l xs → (c : Counts) → bases ≤ c.bases → exts ≤ c.exts → (i : ℕ) → i < length xs → node_ok c l i ≡ true

-- w may come next
pub record Next (bases exts : ℕ) (xs : List Node) (w : Node) : Type 0 where
  pub fits : (l : List ℕ) → Reads l xs → (c : Counts) → bases ≤ c.bases → exts ≤ c.exts → ok_as c l (length xs) w ≡ true

formed_grows : (b b' e e' : ℕ) (xs : List Node) → b ≤ b' → e ≤ e' → Formed b e xs → Formed b' e' xs
formed_grows b b' e e' xs hb he f = record { each = λ l r c kb ke i h. f.each l r c (omega arith) (omega arith) i h }

formed_more : (b e : ℕ) (xs : List Node) (w : Node) → Next b e xs w → Formed b e xs → Formed b e (xs ++ (w ∷ []))
unfolding node_ok
formed_more b e xs w n f =
    let k = length-append xs (w ∷ []) in
    record {
      each = λ l r c kb ke i h.
          let before : Reads l xs = record { reads = λ j q. r.reads j (omega arith) ∙ get_or-append xs (w ∷ []) blank j q } in
          let here : node_at l (length xs) ≡ w = r.reads (length xs) (omega arith) ∙ get_or_at xs w [] blank (length xs) refl in
          by_cases (ℕ_discrete i (length xs))
          (λ q. rw q (subst (λ x. ok_as c l (length xs) x ≡ true) (sym here) (n.fits l before c kb ke)))
          λ q. f.each l before c kb ke i (omega arith);
    }

-- ---- a push

module _ (fit : ℕ) (xs : List Node) (w : Node) where
  push_formed : (b e : ℕ) → Next b e xs w → Formed b e xs → Formed b e (push_list fit xs w).list
  unfolding push_list
  push_formed b e n f =
      let P : Listed → Type 0 = λ o. Formed b e o.list in
      cond_case P (ltb (lookup w xs) (length xs)) _ _ (λ _. f) λ _. cond_case P (ltb (length xs) fit) _ _ (λ _. formed_more b e xs w n f) λ _. f

  push_longer : length xs ≤ length (push_list fit xs w).list
  unfolding push_list
  push_longer =
      let P : Listed → Type 0 = λ o. length xs ≤ length o.list in
      cond_case P (ltb (lookup w xs) (length xs)) _ _ (λ _. omega arith)
      λ _. cond_case P (ltb (length xs) fit) _ _ (λ _. omega (arith, length-append xs (w ∷ []))) λ _. omega arith

-- ---- roots

-- every entry, and what stands for one past the end, is below n
pub record Low (n : ℕ) (rs : List ℕ) : Type 0 where
  pub low : (j : ℕ) → get_or rs j 0 < n

module _ (n : ℕ) where
  low_append : (xs ys : List ℕ) → ((j : ℕ) → get_or xs j 0 < n) → ((j : ℕ) → get_or ys j 0 < n) → (j : ℕ) → get_or (xs ++ ys) j 0 < n
  low_append [] ys f g j = g j
  low_append (x ∷ xs) ys f g zero = f 0
  low_append (x ∷ xs) ys f g (suc j) = low_append xs ys (λ k. f (suc k)) g j

  low_set : (xs : List ℕ) (c v : ℕ) → ((j : ℕ) → get_or xs j 0 < n) → v < n → (j : ℕ) → get_or (set xs c v) j 0 < n
  low_set [] c v f h j = f j
  low_set (x ∷ xs) zero v f h zero = h
  low_set (x ∷ xs) zero v f h (suc j) = f (suc j)
  low_set (x ∷ xs) (suc c) v f h zero = f 0
  low_set (x ∷ xs) (suc c) v f h (suc j) = low_set xs c v (λ k. f (suc k)) h j

  low_fill : (k : ℕ) → 0 < n → (j : ℕ) → get_or (replicate k 0) j 0 < n
  low_fill zero h j = h
  low_fill (suc k) h zero = h
  low_fill (suc k) h (suc j) = low_fill k h j

  low_one : (v : ℕ) → 0 < n → v < n → (j : ℕ) → get_or (v ∷ []) j 0 < n
  low_one v z h zero = h
  low_one v z h (suc j) = z

  low_rooted : (rs : List ℕ) (c v : ℕ) → 0 < n → v < n → Low n rs → Low n (rooted rs c v)
  unfolding rooted
  low_rooted rs c v z h f =
      cond_case (Low n) (ltb c (length rs)) _ _ (λ _. record { low = low_set rs c v f.low h })
      λ _. record { low = low_append (rs ++ replicate (c - length rs) 0) (v ∷ []) (low_append rs (replicate (c - length rs) 0) f.low (low_fill (c - length rs) z)) (low_one v z h) }

-- ---- the program

pub record Sane (d : Draft) : Type 0 where
  pub nodes : Formed (length d.bases) (length d.exts) d.nodes
  pub some_node : 0 < length d.nodes
  pub roots : Low (length d.nodes) d.roots

-- ---- which nodes may come next

module _ (b e : ℕ) (xs : List Node) where
  next_base : (i : ℕ) → i < b → Next b e xs (node Op.const_base i 0 0)
  unfolding leaf_ok
  next_base i h = record { fits = λ l r c kb ke. rw (lt-ltb i c.bases (omega arith)) refl }

  next_ext : (i : ℕ) → i < e → Next b e xs (node Op.const_ext i 0 1)
  unfolding leaf_ok
  next_ext i h = record { fits = λ l r c kb ke. rw (lt-ltb i c.exts (omega arith)) refl }

  next_challenge : (i : ℕ) → i < 65536 → Next b e xs (node Op.rap_challenge i 0 1)
  unfolding leaf_ok
  next_challenge i h = record { fits = λ l r c kb ke. rw (lt-ltb i 65536 h) refl }

  next_alpha : (i : ℕ) → i < 65536 → Next b e xs (node Op.alpha_pow i 0 1)
  unfolding leaf_ok
  next_alpha i h = record { fits = λ l r c kb ke. rw (lt-ltb i 65536 h) refl }

  next_offset : Next b e xs (node Op.table_offset 0 0 1)
  unfolding leaf_ok
  next_offset = record { fits = λ l r c kb ke. refl }

  next_cell : (own : Bool) (offset col : ℕ) → offset < 256 → col < 65536 → Next b e xs (cell_node own offset col)
  unfolding leaf_ok var_ok
  next_cell true offset col h k =
      record {
        fits = λ l r c kb ke.
            rw (lt-ltb col 65536 k, lt-ltb (1 * 65536 + offset * 256 + 0) 131072 (omega arith), eq-eqb ((1 * 65536 + offset * 256 + 0) % 256) 0 (omega arith), le-ltb (1 * 65536 + offset * 256 + 0) 65536 (omega arith)) refl;
      }
  next_cell false offset col h k =
      record {
        fits = λ l r c kb ke.
            rw (lt-ltb col 65536 k, lt-ltb (0 * 65536 + offset * 256 + 0) 131072 (omega arith), eq-eqb ((0 * 65536 + offset * 256 + 0) % 256) 0 (omega arith), lt-ltb (0 * 65536 + offset * 256 + 0) 65536 (omega arith)) refl;
      }

  -- a handle of the builder's: its node stands before, with its dim
  module _ (a : Expr) (na : stranger xs a ≡ false) where
    known_id : a.id < length xs
    unfolding stranger
    known_id = leb-false (length xs) a.id (or_left (leb (length xs) a.id) _ na)

    known_dim : (l : List ℕ) → Reads l xs → get_or l (4 * a.id + 3) 0 ≡ a.dim
    unfolding stranger
    known_dim l r =
        ap (λ (w : Node). w.dim) (r.reads a.id known_id)
        ∙ eqb-true (get_or xs a.id blank).dim a.dim (not-false _ (or_right (leb (length xs) a.id) _ na))

    next_neg : Next b e xs (node Op.neg a.id 0 a.dim)
    unfolding operation_ok
    next_neg = record { fits = λ l r c kb ke. rw (lt-ltb a.id (length xs) known_id, known_dim l r, eq-eqb a.dim a.dim refl) refl }

    next_embed : Next b e xs (node Op.embed a.id 0 1)
    unfolding operation_ok
    next_embed = record { fits = λ l r c kb ke. rw (lt-ltb a.id (length xs) known_id) refl }

  next_binary : (tag : ℕ) → 6 ≤ tag → tag < 9 → (x y : Expr) → stranger xs x ≡ false → stranger xs y ≡ false → Next b e xs (node tag x.id y.id (joined x.dim y.dim))
  unfolding operation_ok
  next_binary tag h k x y nx ny =
      record {
        fits = λ l r c kb ke.
            rw (le-ltb tag 6 h, lt-ltb tag 9 k, lt-ltb x.id (length xs) (known_id x nx), lt-ltb y.id (length xs) (known_id y ny), known_dim x nx l r, known_dim y ny l r, eq-eqb (joined x.dim y.dim) (joined x.dim y.dim) refl) refl;
      }

-- ---- constants

module _ {A : Type 0} where
  index_le : (test : A → Bool) (xs : List A) → index_of test xs ≤ length xs
  unfolding index_of
  index_le test [] = omega arith
  index_le test (x ∷ xs) = cond_case (λ r. r ≤ suc (length xs)) (test x) 0 (suc (index_of test xs)) (λ _. omega arith) λ _. omega (arith, index_le test xs)

  -- what holds of a table of k constants and of nodes, grows with k, and admits the node of a constant below k
  module _ (F : ℕ → List Node → Type 0) (tag dim : ℕ) (grows : (j k : ℕ) (xs : List Node) → j ≤ k → F j xs → F k xs) (admits : (k i : ℕ) (xs : List Node) → i < k → F k xs → F k (xs ++ (node tag i 0 dim ∷ [])))
      (fit : ℕ) (v : A) (xs : List Node) (cs : List A) (f : F (length cs) xs) where
    abbrev kept : Bool → List A
    kept new = cond new (cs ++ (v ∷ [])) cs

    kept_more : (new : Bool) → length cs ≤ length (kept new)
    kept_more true = omega (arith, length-append cs (v ∷ []))
    kept_more false = omega arith

    kept_over : (new : Bool) (i : ℕ) → i ≤ length cs → (new ≡ false → i < length cs) → i < length (kept new)
    kept_over true i h k = omega (arith, length-append cs (v ∷ []))
    kept_over false i h k = k refl

    push_shared : (crowd new : Bool) (i : ℕ) → i ≤ length cs → (new ≡ false → i < length cs)
        → F (length (cond (crowd || missing (push_list fit xs (node tag i 0 dim)).id) cs (kept new))) (cond crowd xs (push_list fit xs (node tag i 0 dim)).list)
    unfolding push_list
    push_shared true new i h k = f
    push_shared false new i h k =
        let w = node tag i 0 dim in
        let P : Listed → Type 0 = λ o. F (length (cond (missing o.id) cs (kept new))) o.list in
        let g = grows (length cs) (length (kept new)) xs (kept_more new) f in
        cond_case P (ltb (lookup w xs) (length xs)) _ _ (λ _. g)
        λ _. cond_case P (ltb (length xs) fit) _ _ (λ _. admits (length (kept new)) i xs (kept_over new i h k) g) λ _. f

    sharing_keeps : (fits : ℕ) (same : A → Bool) → F (length (sharing fit fits tag dim same v xs cs).consts) (sharing fit fits tag dim same v xs cs).nodes
    sharing_keeps fits same =
        let i = index_of same cs in
        push_shared ((leb (length cs) i && leb fits (length cs)) || false) (leb (length cs) i) i (index_le same cs) (leb-false (length cs) i)

sharing_longer : {A : Type 0} (fit fits tag dim : ℕ) (same : A → Bool) (v : A) (xs : List Node) (cs : List A) → length xs ≤ length (sharing fit fits tag dim same v xs cs).nodes
sharing_longer fit fits tag dim same v xs cs =
    cond_case (λ l. length xs ≤ length l) ((leb (length cs) (index_of same cs) && leb fits (length cs)) || false) xs (push_list fit xs (node tag (index_of same cs) 0 dim)).list (λ _. omega arith) λ _. push_longer fit xs (node tag (index_of same cs) 0 dim)

-- ---- every call

low_more : (n k : ℕ) (rs : List ℕ) → n ≤ k → Low n rs → Low k rs
low_more n k rs h f = record { low = λ j. omega (arith, f.low j) }

module _ (r : Room) (d : Draft) (s : Sane d) where
  made_sane : (rows : List Row) (w : Node) → (any_holds rows ≡ false → Next (length d.bases) (length d.exts) d.nodes w) → Sane (making r rows d w).draft
  made_sane rows w n =
      cond_case Sane (any_holds rows) d _ (λ _. s)
      λ q.
      let l = push_longer r.nodes d.nodes w in
      let some = s.some_node in
      record { nodes = push_formed r.nodes d.nodes w _ _ (n q) s.nodes; some_node = omega arith; roots = low_more _ _ d.roots l s.roots }

  index_low : (i : ℕ) → any_holds (index_row i ∷ []) ≡ false → i < 65536
  index_low i q = omega (arith, ltb-false 65535 i (or_left (ltb 65535 i) false q))

  binary_sane : (tag : ℕ) → 6 ≤ tag → tag < 9 → (a b : Expr) → Sane (binary r tag d a b).draft
  binary_sane tag h k a b =
      let x = stranger d.nodes a in
      let y = stranger d.nodes b in
      made_sane (row (x || y) 3 ∷ []) _
      λ q. let n = or_left (x || y) false q in next_binary _ _ d.nodes tag h k a b (or_left x y n) (or_right x y n)

  emit_sane : (c : ℕ) (e : Expr) → Sane (emission r d c e).draft
  emit_sane c e =
      record {
        nodes = s.nodes;
        some_node = s.some_node;
        roots = cond_case (Low (length d.nodes)) (any_holds (stranger_row d e ∷ row (leb r.roots c) 6 ∷ [])) d.roots (rooted d.roots c e.id) (λ _. s.roots)
            λ q. low_rooted (length d.nodes) d.roots c e.id s.some_node (known_id 0 0 d.nodes e (or_left (stranger d.nodes e) _ q)) s.roots;
      }

  base_sane : (v : ℕ) → Sane (told r d (const_base v)).draft
  unfolding told
  base_sane v =
      let e = length d.exts in
      let l = sharing_longer r.nodes r.bases Op.const_base 0 (λ x. eqb x (v % p)) (v % p) d.nodes d.bases in
      let some = s.some_node in
      record {
        nodes = sharing_keeps (λ k xs. Formed k e xs) Op.const_base 0 (λ j k xs h. formed_grows j k e e xs h (omega arith)) (λ k i xs h. formed_more k e xs _ (next_base k e xs i h))
            r.nodes (v % p) d.nodes d.bases s.nodes r.bases (λ x. eqb x (v % p));
        some_node = omega arith;
        roots = low_more _ _ d.roots l s.roots;
      }

  ext_sane : (v : List ℕ) → Sane (told r d (const_ext v)).draft
  unfolding told
  ext_sane v =
      let b = length d.bases in
      let l = sharing_longer r.nodes r.exts Op.const_ext 1 (λ x. same_limbs x (limbs_of v)) (limbs_of v) d.nodes d.exts in
      let some = s.some_node in
      record {
        nodes = sharing_keeps (λ k xs. Formed b k xs) Op.const_ext 1 (λ j k xs h. formed_grows b b j k xs (omega arith) h) (λ k i xs h. formed_more b k xs _ (next_ext b k xs i h))
            r.nodes (limbs_of v) d.nodes d.exts s.nodes r.exts (λ x. same_limbs x (limbs_of v));
        some_node = omega arith;
        roots = low_more _ _ d.roots l s.roots;
      }

pub told_sane : (r : Room) (d : Draft) → Sane d → (c : Call) → Sane (told r d c).draft
unfolding told
told_sane r d s (main offset col l) = made_sane r d s (index_row col ∷ []) _ (λ q. next_cell _ _ d.nodes true offset col l (index_low r d s col q))
told_sane r d s (aux offset col l) = made_sane r d s (index_row col ∷ []) _ (λ q. next_cell _ _ d.nodes false offset col l (index_low r d s col q))
told_sane r d s (challenge i) = made_sane r d s (index_row i ∷ []) _ (λ q. next_challenge _ _ d.nodes i (index_low r d s i q))
told_sane r d s (alpha_power i) = made_sane r d s (index_row i ∷ []) _ (λ q. next_alpha _ _ d.nodes i (index_low r d s i q))
told_sane r d s table_offset = made_sane r d s [] _ (λ q. next_offset _ _ d.nodes)
told_sane r d s (const_base v) = base_sane r d s v
told_sane r d s (const_ext v) = ext_sane r d s v
told_sane r d s (add a b) = binary_sane r d s Op.add (omega arith) (omega arith) a b
told_sane r d s (sub a b) = binary_sane r d s Op.sub (omega arith) (omega arith) a b
told_sane r d s (mul a b) = binary_sane r d s Op.mul (omega arith) (omega arith) a b
told_sane r d s (neg a) = made_sane r d s (stranger_row d a ∷ []) _ (λ q. next_neg _ _ d.nodes a (or_left (stranger d.nodes a) false q))
told_sane r d s (embed a) = made_sane r d s (stranger_row d a ∷ []) _ (λ q. next_embed _ _ d.nodes a (or_left (stranger d.nodes a) false q))
told_sane r d s (emit c e) = emit_sane r d s c e

pub fresh_sane : Sane fresh_draft
unfolding node_ok
fresh_sane =
    let none : Formed 1 0 [] = record { each = λ l r c kb ke i h. absurd (omega arith) } in
    record {
      nodes = formed_more 1 0 [] (node Op.const_base 0 0 0) (next_base 1 0 [] 0 (omega arith)) none;
      some_node = omega arith;
      roots = record { low = λ j. omega arith };
    }
