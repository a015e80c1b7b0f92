-- The walk of what the scan writes follows the plain evaluator: each slot holds the value of the node that has it.
-- Assumes nothing.
use mathlib.Core.Bool.{Bool, true, false, cond, not, ◌||◌}
use mathlib.Core.List.{List, [], ◌∷◌}
use Rattle.std.specs.Prelude.{Option, None, Some}
use mathlib.Core.Path.{◌≡◌, refl, sym, ap, ◌∙◌}
use Prim.Native.Nat.{ℕ, zero, suc, ◌+◌, ◌*◌, ◌-◌, ◌<◌, ◌≤◌}
use native.Mathlib.Omega.{arith}
use lib.Dec.{eqb, ltb}
use lib.ListN.{length, get_or}
use borrow.Author.Tests.{ltb-true, ltb-false, lt-ltb, le-ltb, eqb-false, eq-eqb}
use Rattle.laws.specs.Options.{at}
use Rattle.laws.proofs.Cases.{by_test}
use Rattle.laws.proofs.Tests.{and_left, and_right}
use Rattle.extension.specs.Tower.{Tower}
use Rattle.ir.specs.declared.program.Counts.{Counts}
use Rattle.ir.specs.declared.frame.Shape.{Shape}
use Rattle.ir.specs.Words.{Node, node_at}
use Rattle.ir.specs.WellFormed.{WellFormed}
use Rattle.values.specs.Values.{Value, base, ext, class_of, to_ext, binop, unop, leaf_value, operation_value, node_value, values}
use Rattle.values.proofs.ClassLaws.{class_is_dim}
use Rattle.values.proofs.RunLaws.{value_at, value_stays, value_computed}
use Rattle.blob_rules.specs.declared.blob.BlobCounts.{BlobCounts}
use Rattle.blob_rules.specs.Blob.{Instr, Binary, plus, minus, times, binary, tags, kinds}
use Rattle.device.specs.StepRule.{Contents, Slots, operand, op₀, op₁, value_of, step, slots_after, root_held}
use Rattle.device.proofs.Theorem.{by_operation}
use Rattle.liveness.specs.Liveness.{has, operands, is_uniform, Liveness, Sound}
use Rattle.scan_parts.specs.Scan.{Scan, slot_word, uniform_kind, encode, written, claim, scan, flat}
use Rattle.lower_parts.specs.Lower.{root_word}
use Rattle.scan_parts.proofs.UpdLaws.{upd_case}
use Rattle.scan.proofs.SlotLaws.{kept, pick_unheld}
use Rattle.scan.proofs.ScanLaws.{cond_case, not_true, give_all_lem, given_keeps, freed, taken, freed_kept, scan_kept, taken_low, next_mono, next_le, operand_held, root_held_lem}
use Rattle.lowered.specs.Faithful.{leaves_of}
use Rattle.lowered.proofs.ValueLaws.{LeafFits, slot_at, by_slot, by_name, leaf_written, binary_written, negation_written, embedding_written}
use Rattle.lowered.proofs.PutLaws.{put_at, room_of, word_class, put_lands, put_same, put_other, root_word_lem, slots_snoc}

-- a frame and counts that have what the program's leaves name, and room for the slots that the scan takes
pub record Fits (c : Counts) (nodes : List ℕ) (v : Liveness) (b : BlobCounts) (s : Shape) : Type 0 where
  pub few : c.nodes ≤ 536870911
  pub leaf : (i : ℕ) → i < c.nodes → (node_at nodes i).tag < 6 → LeafFits b s (node_at nodes i).tag (node_at nodes i).x (node_at nodes i).y
  pub slots : (d : ℕ) → d < 2 → (scan nodes v c.nodes).next d ≤ room_of b d

-- ---- operands

has_first : (x : ℕ) (l : List ℕ) → has x (x ∷ l) ≡ true
has_first x l = rw (eq-eqb x x refl) refl

has_second : (x y : ℕ) → has y (x ∷ y ∷ []) ≡ true
has_second x y = rw (eq-eqb y y refl) (or_true (eqb y x))
  where
    or_true : (t : Bool) → (t || (true || false)) ≡ true
    or_true true = refl
    or_true false = refl

module _ {B X : Type 0} (K : Tower B X) (u : Contents B X) (c : Counts) (nodes roots : List ℕ) (s : Shape) (v : Liveness) (b : BlobCounts)
    (wf : WellFormed c nodes roots) (sound : Sound c nodes roots v) (fits : Fits c nodes v b s) where
  abbrev dim : ℕ → ℕ
  dim j = (node_at nodes j).dim

  -- the plain evaluator's value of a node
  abbrev pub val : ℕ → Value B X
  val = value_at K (leaves_of u) nodes

  class_dim : (j : ℕ) → j < c.nodes → class_of (val j) ≡ dim j
  class_dim j h = class_is_dim K (leaves_of u) (λ step col. refl) c nodes roots wf (suc j) h j (omega arith)

  pub dim_low : (j : ℕ) → j < c.nodes → dim j < 2
  dim_low j h = go (val j) (class_dim j h)
    where
      go : (w : Value B X) → class_of w ≡ dim j → dim j < 2
      go (base x) e = omega arith
      go (ext x) e = omega arith

  -- each node's slot holds its value
  abbrev pub Holds : Scan → Slots B X → Type 0
  Holds sc m = (j t : ℕ) → j < c.nodes → sc.slot j ≡ suc t → slot_at m (dim j) t ≡ Some (val j)

  -- a slot's number is small
  pub slot_low : (i j t : ℕ) → i ≤ c.nodes → (scan nodes v i).slot j ≡ suc t → t < 536870911
  slot_low i j t h e = omega (arith, (scan_kept nodes v i).good.low j t e, next_le nodes v i (dim j), fits.few)

  uniform_leaf : (w : Node) → is_uniform w ≡ true → (w.tag < 6) × (w.tag ≡ 2 → ⊥)
  uniform_leaf w h =
      (ltb-true w.tag 6 (and_left (ltb w.tag 6) (not (eqb w.tag 2)) h), eqb-false w.tag 2 (not_true (eqb w.tag 2) (and_right (ltb w.tag 6) (not (eqb w.tag 2)) h)))

  -- a leaf's value
  leaf_val : (j : ℕ) → (node_at nodes j).tag < 6 → val j ≡ leaf_value K (leaves_of u) (node_at nodes j).tag (node_at nodes j).x (node_at nodes j).y
  unfolding node_value
  leaf_val j h = value_computed K (leaves_of u) nodes j ∙ rw (lt-ltb (node_at nodes j).tag 6 h) refl

  -- an operation's
  operation_val : (j : ℕ) → 6 ≤ (node_at nodes j).tag → val j ≡ operation_value K (values K (leaves_of u) nodes j) (node_at nodes j).tag (node_at nodes j).x (node_at nodes j).y
  unfolding node_value
  operation_val j h = value_computed K (leaves_of u) nodes j ∙ rw (le-ltb (node_at nodes j).tag 6 h) refl

  module _ (i : ℕ) (h : i < c.nodes) (e : v.emitted i ≡ true) (m : Slots B X) (holds : Holds (scan nodes v i) m) where
    -- an operand as it is written comes to the operand's value
    encoded : (j : ℕ) → j < i → has j (operands (node_at nodes i)) ≡ true → operand kinds b s u m (encode nodes v (scan nodes v i).slot j) ≡ Some (val j)
    encoded j l o =
        cond_case (λ x. operand kinds b s u m x ≡ Some (val j)) (v.emitted j) (dim j * 536870912 + ((scan nodes v i).slot j - 1)) (uniform_kind (node_at nodes j).tag * 536870912 + (node_at nodes j).x)
        (λ q. let t = operand_held nodes v c roots sound i j h e l o q in
        ap (λ x. operand kinds b s u m (dim j * 536870912 + x)) (back t.1)
        ∙ by_slot K u b s m (dim j) t.0 (dim_low j (omega arith)) (omega (arith, slot_low i j t.0 (omega arith) t.1))
        ∙ holds j t.0 (omega arith) t.1)
        λ q. let z = uniform_leaf (node_at nodes j) (sound.operand_named i j h e o q) in
        by_name K u b s m (node_at nodes j).tag (node_at nodes j).x (node_at nodes j).y (fits.leaf j (omega arith) z.0) z.0 z.1
        ∙ ap Some (sym (leaf_val j z.0))
      where
        back : {x t : ℕ} → x ≡ suc t → x - 1 ≡ t
        back g = omega arith

    -- ---- the node's value

    abbrev tag : ℕ
    tag = (node_at nodes i).tag

    abbrev x : ℕ
    x = (node_at nodes i).x

    abbrev y : ℕ
    y = (node_at nodes i).y

    abbrev words : ℕ → ℕ → ℕ → ℕ → Option (Value B X)
    words op a b' res = value_of K tags kinds b s u m (record { op = op; a = a; b = b'; res = res })

    abbrev operand_word : ℕ → ℕ
    operand_word = encode nodes v (scan nodes v i).slot

    -- the values that an operation reads are those of its operands
    read_val : (j : ℕ) → j < i → values K (leaves_of u) nodes i j ≡ val j
    read_val j l = value_stays K (leaves_of u) nodes j i l

    binary_case : (o : Binary) (k t : ℕ) → tag ≡ k → 6 ≤ k → k ≤ 8 → t < 2147483648 → at tags k ≡ Some (binary o)
        → ((env : ℕ → Value B X) → operation_value K env k x y ≡ binop K (op₀ K o) (op₁ K o) (env x) (env y))
        → words k (operand_word x) (operand_word y) (slot_word (dim i) t) ≡ Some (val i)
    binary_case o k t q l g z a f =
        let n = (wf.node i h).binary (omega arith) (omega arith) in
        let os : operands (node_at nodes i) ≡ x ∷ y ∷ [] = rw (le-ltb tag 6 (omega arith), lt-ltb tag 9 (omega arith)) refl in
        let env = values K (leaves_of u) nodes i in
        let computed : val i ≡ operation_value K env k x y = operation_val i (omega arith) ∙ ap (λ z'. operation_value K env z' x y) q in
        let by_values : binop K (op₀ K o) (op₁ K o) (env x) (env y) ≡ binop K (op₀ K o) (op₁ K o) (val x) (val y) = rw (read_val x n.0, read_val y n.1) refl in
        binary_written K u b s m o k (operand_word x) (operand_word y) (slot_word (dim i) t) (val x) (val y) a
        (encoded x n.0 (rw os (has_first x (y ∷ [])))) (encoded y n.1 (rw os (has_second x y)))
        (word_class (dim i) t (dim_low i h) z ∙ rw (n.2, class_dim x (omega (arith, n.0)), class_dim y (omega (arith, n.1))) refl)
        ∙ ap Some (sym (computed ∙ f env ∙ by_values))

    -- the one operand of a negation or an embedding
    one_operand : 9 ≤ tag → has x (operands (node_at nodes i)) ≡ true
    one_operand l = rw (le-ltb tag 6 (omega arith), le-ltb tag 9 l) (has_first x [])

    negation_case : (t : ℕ) → tag ≡ 9 → t < 2147483648 → words 9 (operand_word x) 0 (slot_word (dim i) t) ≡ Some (val i)
    unfolding operation_value
    negation_case t q z =
        let n = (wf.node i h).negation q in
        let env = values K (leaves_of u) nodes i in
        let computed : val i ≡ unop K K.neg₀ K.neg₁ (env x) = operation_val i (omega arith) ∙ rw q refl in
        let by_values : unop K K.neg₀ K.neg₁ (env x) ≡ unop K K.neg₀ K.neg₁ (val x) = rw (read_val x n.0) refl in
        negation_written K u b s m (operand_word x) (slot_word (dim i) t) (val x) (encoded x n.0 (one_operand (omega arith)))
        (word_class (dim i) t (dim_low i h) z ∙ rw (n.2, class_dim x (omega (arith, n.0))) refl)
        ∙ ap Some (sym (computed ∙ by_values))

    embedding_case : (t : ℕ) → tag ≡ 10 → words 10 (operand_word x) 0 (slot_word (dim i) t) ≡ Some (val i)
    unfolding operation_value
    embedding_case t q =
        let n = (wf.node i h).embedding q in
        let env = values K (leaves_of u) nodes i in
        let computed : val i ≡ ext (to_ext K (env x)) = operation_val i (omega arith) ∙ rw q refl in
        let by_values : val i ≡ ext (to_ext K (val x)) = computed ∙ ap (λ (w : Value B X). ext (to_ext K w)) (read_val x n.0) in
        embedding_written K u b s m (operand_word x) (slot_word (dim i) t) (val x) (encoded x n.0 (one_operand (omega arith)))
        ∙ ap Some (sym by_values)

    -- as it is written the node comes to the plain evaluator's value
    node_written : (t : ℕ) → t < 2147483648 → value_of K tags kinds b s u m (written nodes v (scan nodes v i).slot i t) ≡ Some (val i)
    unfolding operation_value
    node_written t z =
        by_test (ltb tag 6) (value_of K tags kinds b s u m (written nodes v (scan nodes v i).slot i t) ≡ Some (val i))
        (λ a. let l = ltb-true tag 6 a in
        rw a (leaf_written K u b s m tag x y (slot_word (dim i) t) (fits.leaf i h l) l ∙ ap Some (sym (leaf_val i l))))
        λ a. by_operation (λ k. tag ≡ k → value_of K tags kinds b s u m (written nodes v (scan nodes v i).slot i t) ≡ Some (val i))
        (λ q. rw q (binary_case plus 6 t q (omega arith) (omega arith) z refl (λ env. refl)))
        (λ q. rw q (binary_case minus 7 t q (omega arith) (omega arith) z refl (λ env. refl)))
        (λ q. rw q (binary_case times 8 t q (omega arith) (omega arith) z refl (λ env. refl)))
        (λ q. rw q (negation_case t q z))
        (λ q. rw q (embedding_case t q))
        tag (ltb-false tag 6 a) (wf.node i h).known refl

    -- its result word
    written_res : (t : ℕ) → (written nodes v (scan nodes v i).slot i t).res ≡ slot_word (dim i) t
    written_res t =
        cond_case (λ (w : Instr). w.res ≡ slot_word (dim i) t) (ltb tag 6) (record { op = tag; a = x; b = y; res = slot_word (dim i) t })
        (cond (ltb tag 9) (record { op = tag; a = operand_word x; b = operand_word y; res = slot_word (dim i) t }) (record { op = tag; a = operand_word x; b = 0; res = slot_word (dim i) t }))
        (λ q. refl)
        λ q. cond_case (λ (w : Instr). w.res ≡ slot_word (dim i) t) (ltb tag 9) (record { op = tag; a = operand_word x; b = operand_word y; res = slot_word (dim i) t })
        (record { op = tag; a = operand_word x; b = 0; res = slot_word (dim i) t }) (λ z. refl) λ z. refl

    -- the step of a written node puts its value into the slot that it takes
    node_stepped : step K tags kinds b s u m (written nodes v (scan nodes v i).slot i (taken nodes v i)) ≡ Some (put_at m (taken nodes v i) (val i))
    unfolding step
    node_stepped =
        let t = taken nodes v i in
        let low = taken_low nodes v i e in
        let few = next_le nodes v (suc i) (dim i) in
        let room = next_mono nodes v c.nodes (suc i) (dim i) (omega arith) in
        rw (node_written t (omega (arith, fits.few)), written_res t)
        (put_lands b m (dim i) t (val i) (class_dim i h) (omega (arith, fits.few)) (omega (arith, fits.slots (dim i) (dim_low i h))))

    -- and each slot holds its node's value then
    node_holds : Holds (claim nodes v i (scan nodes v i).slot (freed nodes v i)) (put_at m (taken nodes v i) (val i))
    node_holds j t l =
        let sc = freed nodes v i in
        let k = taken nodes v i in
        let g = (freed_kept nodes v i (scan nodes v i) (scan_kept nodes v i)).good in
        let before : Holds sc m =
        give_all_lem nodes v (λ z. Holds z m) i (λ a t' z p q f w a' t'' l' y. w a' t'' l' (kept z.slot a a' t'' y)) (operands (node_at nodes i)) (scan nodes v i) holds
        in
        upd_case (λ z. z ≡ suc t → slot_at (put_at m k (val i)) (dim j) t ≡ Some (val j)) sc.slot i (suc k) j
        (λ q y. rw (q, same y) (put_same m (dim i) k (val i) (class_dim i h)))
        λ n y. put_other m (dim j) k t (val i) (dim_low j l)
        (λ d z. pick_unheld dim sc.slot sc.free sc.next g (dim i) j (d ∙ class_dim i h) (y ∙ ap suc z))
        ∙ before j t l y
      where
        same : {k t : ℕ} → suc k ≡ suc t → t ≡ k
        same z = omega arith

  -- ---- all nodes

  abbrev Reached : Scan → Type 0
  Reached sc = (m : Slots B X) × (slots_after K tags kinds b s u (flat sc.out) (length sc.out) ≡ Some m) × Holds sc m

  pub reached : (i : ℕ) → i ≤ c.nodes → Reached (scan nodes v i)
  unfolding scan slots_after
  reached zero h = (record { bases = λ k. None; exts = λ k. None }, refl, λ j t l x. absurd (omega arith))
  reached (suc i) h =
      let r = reached i (omega arith) in
      let sc = freed nodes v i in
      cond_case Reached (v.emitted i) (claim nodes v i (scan nodes v i).slot sc) (scan nodes v i)
      (λ q. (
        put_at r.0 (taken nodes v i) (val i),
        slots_snoc K tags kinds b s u sc.out (written nodes v (scan nodes v i).slot i (taken nodes v i)) r.0
            (rw (given_keeps nodes v i (operands (node_at nodes i)) (scan nodes v i)).0 r.1)
            ∙ node_stepped i h q r.0 r.2,
        node_holds i h q r.0 r.2,
      ))
      λ q. r

  -- the walk of all that is written stops nowhere, and each root's slot holds its value
  pub walked : (m : Slots B X) × (slots_after K tags kinds b s u (flat (scan nodes v c.nodes).out) (length (scan nodes v c.nodes).out) ≡ Some m)
      × ((r : ℕ) → r < c.roots → root_held m (root_word nodes (scan nodes v c.nodes).slot (get_or roots r 0)) ≡ Some (val (get_or roots r 0)))
  walked =
      let z = reached c.nodes (omega arith) in (
        z.0,
        z.1,
        λ r h.
            let j = get_or roots r 0 in
            let l = wf.root r h in
            let t = root_held_lem nodes v c roots sound r h l in
            ap (λ y. root_held z.0 (slot_word (dim j) y)) (back t.1)
            ∙ root_word_lem z.0 (dim j) t.0 (dim_low j l) (omega (arith, slot_low c.nodes j t.0 (omega arith) t.1))
            ∙ z.2 j t.0 l t.1,
      )
    where
      back : {x t : ℕ} → x ≡ suc t → x - 1 ≡ t
      back g = omega arith
