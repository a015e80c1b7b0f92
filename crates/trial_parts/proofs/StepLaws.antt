-- A trial's steps: what is stored, what the tests say, and the room after the first i nodes.
-- Assumes nothing.
use mathlib.Core.Bool.{true, ◌&&◌}
use mathlib.Core.List.{List, [], ◌∷◌}
use mathlib.Core.Path.{◌≡◌, refl, sym, ap, subst, ◌∙◌}
use Prim.Native.Nat.{ℕ, suc, ◌+◌, ◌*◌, ◌<◌, ◌≤◌}
use native.Mathlib.Omega.{arith}
use lib.Dec.{eqb, ltb}
use lib.ListN.{length, get_or, set, take, drop}
use lib.Seq.{sets, set-get_or, get_or-set_other, get_or-take, get_or-drop}
use borrow.Author.Tests.{eqb-true, ltb-true, lt-ltb, eq-eqb, ne_eqb}
use Rattle.laws.specs.Lists.{tabulate}
use Rattle.laws.proofs.Blocks.{BlocksReplaced, blocks_more}
use Rattle.laws.proofs.Cases.{by_test}
use Rattle.laws.proofs.Tests.{and_left, and_right}
use Rattle.field.specs.Base.{p}
use Rattle.extension.specs.Ext.{limb, scaled, embedded, product, Near, Limbs}
use Rattle.extension.specs.Tower.{goldilocks}
use Rattle.field.proofs.Laws.{refl≈, equal}
use Rattle.extension.proofs.ExtLaws.{near_of, near_refl, near_sym, near_trans, limbs_stand, product_near, embedded_times, extension}
use Rattle.ir.specs.declared.program.Counts.{Counts}
use Rattle.ir.specs.Words.{node_at}
use Rattle.ir.specs.Program.{joined, operation_ok}
use Rattle.values.specs.declared.frame.Limits.{Limits}
use Rattle.values.specs.declared.frame.Strides.{Strides}
use Rattle.values.specs.Values.{ext, leaf_value, values}
use Rattle.values.specs.Frame.{Lent, Fits, leaves}
use Rattle.values.specs.Room.{Kept, ValueIs}
use Rattle.trial_parts.specs.Trial.{Tryable, leaf_limit, NodeFits, Tried}
use Rattle.trial_parts.specs.Step.{Clear, LowRoom, LowLimbs, Standing, entry_of, EntryIn, operands_ok, Stepped}
use Rattle.values.proofs.OperationLaws.{class_word}
use Rattle.values.proofs.RunLaws.{value_at, value_computed, kept_value, Passed, operand, passed_all}
use Rattle.trial_parts.proofs.TrialLaws.{passed_ready}

-- ---- a base value among words that are 0

keep_zero : (l : List ℕ) (k : ℕ) → get_or l k 0 ≡ 0 → set l k 0 ≡ l
keep_zero l k e = subst (λ (a : ℕ). set l k a ≡ l) e (set-get_or l k 0)

pub base_put : (l : List ℕ) (i v : ℕ) → Clear l i → set l (4 * i + 1) v ≡ sets l (4 * i) (0 ∷ v ∷ 0 ∷ 0 ∷ [])
base_put l i v h =
    let at = 4 * i in
    let one : at + 1 ≡ suc at = omega arith in
    let two : at + 2 ≡ suc (suc at) = omega arith in
    let three : at + 3 ≡ suc (suc (suc at)) = omega arith in
    let none : at + 0 ≡ at = omega arith in
    let l' = set l (suc at) v in
    let e₀ : set l at 0 ≡ l = keep_zero l at (rw none at (h.zero_word 0 (omega arith))) in
    let e₂ : set l' (suc (suc at)) 0 ≡ l' = keep_zero l' _ (get_or-set_other l (suc at) (suc (suc at)) v 0 (λ q. omega arith) ∙ (rw two at (h.zero_word 2 (omega arith)))) in
    let e₃ : set l' (suc (suc (suc at))) 0 ≡ l' = keep_zero l' _ (get_or-set_other l (suc at) (suc (suc (suc at))) v 0 (λ q. omega arith) ∙ (rw three at (h.zero_word 3 (omega arith)))) in
    rw (one, e₀, e₂, e₃)

-- an extension value's class
pub ext_class : {x : List ℕ} {class : ℕ} {limbs : List ℕ} → ValueIs (ext x) class limbs → ValueIs (ext x) 1 limbs
ext_class h = record { class_is = refl; limbs_are = h.limbs_are }

-- ---- an entry of a table

pub entry_in : (c : Counts) (m : Limits) (tag k : ℕ) {exts challenges alphas : ℕ} → 3 * c.exts ≤ exts → 3 * m.challenges ≤ challenges → 3 * m.alphas ≤ alphas → k < leaf_limit c m tag → EntryIn tag k exts challenges alphas
unfolding leaf_limit
entry_in c m tag k a b d h =
    record {
      in_exts = λ e. let g : k < c.exts = rw e at h in omega arith;
      in_challenges = λ e. let g : k < m.challenges = rw e at h in omega arith;
      in_alphas = λ e. let g : k < m.alphas = rw e at h in omega arith;
    }

pub leaf_entry : (s : Strides) (l : Lent) (tag x y : ℕ) → (tag ≡ 0 → ⊥) → (tag ≡ 2 → ⊥) → leaf_value goldilocks (leaves s l) tag x y ≡ ext (entry_of tag x l.exts l.challenges l.alphas l.offset)
unfolding leaf_value entry_of
leaf_entry s l tag x y n₀ n₂ =
    by_test (eqb tag 1) (leaf_value goldilocks (leaves s l) tag x y ≡ ext (entry_of tag x l.exts l.challenges l.alphas l.offset))
    (λ t. rw (ne_eqb tag 0 n₀, t))
    λ t₁. by_test (eqb tag 3) (leaf_value goldilocks (leaves s l) tag x y ≡ ext (entry_of tag x l.exts l.challenges l.alphas l.offset))
    (λ t. rw (ne_eqb tag 0 n₀, t₁, ne_eqb tag 2 n₂, t))
    λ t₃. by_test (eqb tag 4) (leaf_value goldilocks (leaves s l) tag x y ≡ ext (entry_of tag x l.exts l.challenges l.alphas l.offset))
    (λ t. rw (ne_eqb tag 0 n₀, t₁, ne_eqb tag 2 n₂, t₃, t))
    λ t₄. rw (ne_eqb tag 0 n₀, t₁, ne_eqb tag 2 n₂, t₃, t₄)

-- ---- an operation's tests

pub zero_words : (a b c : ℕ) → (eqb a 0 && (eqb b 0 && eqb c 0)) ≡ true → (a ≡ 0) × (b ≡ 0) × (c ≡ 0)
zero_words a b c h =
    let t = and_right (eqb a 0) _ h in
    (eqb-true a 0 (and_left (eqb a 0) _ h), eqb-true b 0 (and_left (eqb b 0) _ t), eqb-true c 0 (and_right (eqb b 0) _ t))

module _ (room : List ℕ) (i tag x y dim : ℕ) where
  pub base_ok : tag < 9 → y < i → dim ≡ 0 → get_or room (4 * x) 0 ≡ 0 → get_or room (4 * y) 0 ≡ 0 → operands_ok room i tag x y dim ≡ true
  unfolding operands_ok
  base_ok h g d e f = rw (lt-ltb tag 9 h, lt-ltb y i g, d, e, f)

  pub ext_ok : tag < 9 → y < i → dim ≡ 1 → (get_or room (4 * x) 0 ≡ 0 → get_or room (4 * y) 0 ≡ 0 → ⊥) → operands_ok room i tag x y dim ≡ true
  unfolding operands_ok
  ext_ok h g d n = rw (lt-ltb tag 9 h, lt-ltb y i g, d, joins (get_or room (4 * x) 0) (get_or room (4 * y) 0) n)
    where
      joins : (a b : ℕ) → (a ≡ 0 → b ≡ 0 → ⊥) → joined a b ≡ 1
      joins a b n =
          by_test (eqb a 0) (joined a b ≡ 1)
          (λ t. rw (t, ne_eqb b 0 (n (eqb-true a 0 t))))
          λ t. rw t

  pub neg_ok : tag ≡ 9 → y ≡ 0 → get_or room (4 * x) 0 ≡ dim → operands_ok room i tag x y dim ≡ true
  unfolding operands_ok
  neg_ok t e d = rw (t, e, d, eq-eqb dim dim refl)

  pub embed_ok : tag ≡ 10 → y ≡ 0 → dim ≡ 1 → operands_ok room i tag x y dim ≡ true
  unfolding operands_ok
  embed_ok t e d = rw (t, e, d)

  -- where dims are classes, they are the check's
  pub operation_fits : (nodes : List ℕ) → ((j : ℕ) → j < i → get_or room (4 * j) 0 ≡ (node_at nodes j).dim) → x < i → operands_ok room i tag x y dim ≡ true → operation_ok nodes i (record { tag = tag; x = x; y = y; dim = dim }) ≡ true
  unfolding operands_ok operation_ok
  operation_fits nodes k h o =
      by_test (ltb tag 9) (operation_ok nodes i (record { tag = tag; x = x; y = y; dim = dim }) ≡ true)
      (λ t. let q : (ltb y i && eqb dim (joined (get_or room (4 * x) 0) (get_or room (4 * y) 0))) ≡ true = rw t at o in let g = ltb-true y i (and_left (ltb y i) _ q) in rw (lt-ltb x i h, t, ← k x h, ← k y g) q)
      λ t. rw (lt-ltb x i h, t, ← k x h) (rw t at o)

-- ---- the room after the first i nodes: values, and their classes are dims

module _ (s : Strides) (l : Lent) (nodes old : List ℕ) where
  abbrev Held : ℕ → List ℕ → Type 0
  Held j ws = Kept (value_at goldilocks (leaves s l) nodes j) ws × (get_or ws 0 0 ≡ (node_at nodes j).dim)

  abbrev pub StepsPassed : List ℕ → ℕ → Type 0
  StepsPassed room i = BlocksReplaced 4 Held old room i

  values_passed : (room : List ℕ) (i : ℕ) → StepsPassed room i → Passed s l nodes old room i
  values_passed room i w = record { long = w.long; done = λ j h. (w.done j h).0; kept = w.kept }

  pub standing : (m : Limits) (c : Counts) → Tryable s m c l (length nodes) (length old) → ((k : ℕ) → get_or old k 0 ≡ 0) → (room : List ℕ) (i : ℕ) → i < c.nodes → StepsPassed room i → Standing s m c l nodes room i
  standing m c t z room i h w =
      record {
        tryable = rw w.long t;
        below = h;
        clear =
            record {
              long = omega (arith, t.room_long, w.long);
              zero_word = λ k g. sym (get_or-drop (4 * i) room k 0) ∙ ap (λ (x : List ℕ). get_or x k 0) w.kept ∙ get_or-drop (4 * i) old k 0 ∙ z (4 * i + k);
            };
        low = record { low_word = λ j k g b. subst (λ (n : ℕ). n < p) (get_or-take 4 (drop (4 * j) room) k 0 b ∙ get_or-drop (4 * j) room k 0) ((w.done j g).0.low.word_low k) };
        classes = λ j g. sym (class_word room j) ∙ (w.done j g).1;
      }

  pub steps_more : (m : Limits) (c : Counts) → Fits s m c l → (mid new : List ℕ) (i : ℕ) → 4 * i + 4 ≤ length mid → StepsPassed mid i → Stepped s m c l nodes i mid new → StepsPassed new (i + 1)
  steps_more m c f mid new i h w k =
      let v = values_passed mid i w in
      let r = passed_ready s m c l f nodes i k.fits in
      blocks_more 4 Held old mid new ((node_at nodes i).dim ∷ tabulate 3 (limb k.limbs)) i refl h w
      (kept_value {limbs = k.limbs} (rw (value_computed goldilocks (leaves s l) nodes i) (k.computes.follows (values goldilocks (leaves s l) nodes i) (λ q. operand s l nodes old mid i _ v (r.first_operand q)) λ q t. operand s l nodes old mid i _ v (r.second_operand q t))), refl)
      k.stored

  pub steps_all : (m : Limits) (c : Counts) (room : List ℕ) → StepsPassed room c.nodes → ((j : ℕ) → j < c.nodes → NodeFits c m nodes j (node_at nodes j)) → Tried s m c l nodes old room
  steps_all m c room w f = record { node_fits = f; holds = passed_all s l nodes old room c.nodes (values_passed room c.nodes w) }

-- ---- the limbs of a node before i

pub low_limbs : (room : List ℕ) (i x : ℕ) {a : List ℕ} → LowRoom room i → x < i → a ≡ take 3 (drop (4 * x + 1) room) → LowLimbs a
low_limbs room i x h g e =
    rw e
    (record {
      low_limb = λ k b.
          let q : 4 * x + 1 + k ≡ 4 * x + (k + 1) = omega arith in
          subst (λ (n : ℕ). n < p) (sym (get_or-take 3 (drop (4 * x + 1) room) k 0 b ∙ get_or-drop (4 * x + 1) room k 0 ∙ ap (λ (n : ℕ). get_or room n 0) q)) (h.low_word x (k + 1) g (omega arith));
    })

-- ---- a product, where an operand's other limbs are 0

of_base : (a : List ℕ) → limb a 1 ≡ 0 → limb a 2 ≡ 0 → Near 3 a (embedded 3 (limb a 0))
unfolding embedded
of_base a e f = near_of a (embedded 3 (limb a 0)) refl≈ (equal e) (equal f)

pub scaled_product : (a b : List ℕ) {r : List ℕ} → limb a 1 ≡ 0 → limb a 2 ≡ 0 → Limbs 3 (scaled 3 (limb a 0) b) r → Limbs 3 (product a b) r
scaled_product a b e f h = limbs_stand h (near_sym (near_trans (product_near (of_base a e f) (near_refl b)) (embedded_times (limb a 0) b)))

pub product_scaled : (a b : List ℕ) {r : List ℕ} → limb b 1 ≡ 0 → limb b 2 ≡ 0 → Limbs 3 (scaled 3 (limb b 0) a) r → Limbs 3 (product a b) r
product_scaled a b e f h = limbs_stand (scaled_product b a e f h) (extension.mul_comm b a)
