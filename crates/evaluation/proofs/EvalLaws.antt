-- The writing of the roots, one after the other.
-- Assumes nothing.
use mathlib.Core.Bool.{cond}
use mathlib.Core.List.{List}
use mathlib.Core.Path.{◌≡◌, refl, sym, ap, ◌∙◌}
use Prim.Native.Nat.{ℕ, ◌+◌, ◌*◌, ◌%◌, ◌<◌, ◌≤◌}
use native.Mathlib.Numerals.{add-one}
use native.Mathlib.Omega.{arith}
use lib.Dec.{ltb, lit<}
use lib.ListN.{length, get_or, set, take, drop, length-set}
use lib.Seq.{sets, length-sets}
use borrow.Author.Tests.{lt-ltb, le-ltb}
use Rattle.laws.specs.Lists.{tabulate}
use Rattle.laws.proofs.Tabulate.{tabulate_self}
use Rattle.field.specs.Base.{p, Least, ◌≈◌}
use Rattle.extension.specs.Ext.{limb, LeastLimbs}
use Rattle.extension.specs.Tower.{remainders}
use Rattle.field.proofs.Laws.{least_exact}
use Rattle.extension.proofs.ExtLaws.{least_limbs_exact}
use Rattle.values.specs.Values.{Value}
use Rattle.evaluation.specs.Evals.{base_word, ext_words, base_evals_of, ext_evals_of}
use Rattle.values.specs.Room.{RoomHolds}
use Rattle.evaluation.specs.Writes.{WritesRoot, WritesRoots, Completes}
use Rattle.values.specs.Operations.{StandsIn}
use Rattle.values.proofs.OperationLaws.{first_word, limb_words}
use native.Mathlib.Nat.{mod-eq_of_lt}

pub word_is : (room : List ℕ) (root r : ℕ) (v : Value ℕ (List ℕ)) → Least (get_or room (4 * root + 1) 0) r → StandsIn room v root → r ≡ base_word v
unfolding remainders
word_is room root r v h s =
    least_exact h
    ∙ ap (λ (n : ℕ). n % p) (sym (first_word room root))
    ∙ (s.limbs_near.limb_near 0 (lit< tt)).same

words_are : (room a r : List ℕ) (root : ℕ) (v : Value ℕ (List ℕ)) → a ≡ take 3 (drop (4 * root + 1) room) → LeastLimbs 3 a r → StandsIn room v root → tabulate 3 (limb r) ≡ ext_words v
words_are room a r root v e h s =
    rw h.long at (tabulate_self r) ∙ least_limbs_exact h (rw (e, ← limb_words room root) s.limbs_near)

module _ (c leading root : ℕ) (room bases exts : List ℕ) where
  pub base_written : (r : ℕ) → c < leading → Least (get_or room (4 * root + 1) 0) r → WritesRoot c leading root room bases (set bases c r) exts exts
  base_written r h i =
      record {
        follows = λ v s. (rw (lt-ltb c leading h) (ap (set bases c) (word_is room root r v i s)), rw (lt-ltb c leading h));
        bases_long = length-set bases c r;
        exts_long = refl;
      }

  pub ext_written : (a r exts' : List ℕ) → leading ≤ c → a ≡ take 3 (drop (4 * root + 1) room) → LeastLimbs 3 a r → exts' ≡ sets exts (3 * c) (tabulate 3 (limb r)) → WritesRoot c leading root room bases bases exts exts'
  ext_written a r exts' h e i q =
      record {
        follows = λ v s. (rw (le-ltb c leading h), rw (le-ltb c leading h, q) (ap (sets exts (3 * c)) (words_are room a r root v e i s)));
        bases_long = refl;
        exts_long = ap length q ∙ length-sets exts (3 * c) (tabulate 3 (limb r));
      }

module _ (leading : ℕ) (roots room bases exts : List ℕ) where
  pub writes_none : WritesRoots 0 leading roots room bases bases exts exts
  unfolding base_evals_of ext_evals_of
  writes_none = record { follows = λ env s. (refl, refl); bases_long = refl; exts_long = refl }

  pub writes_more : (c : ℕ) (b b' e e' : List ℕ) → WritesRoots c leading roots room bases b exts e → WritesRoot c leading (get_or roots c 0) room b b' e e' → WritesRoots (c + 1) leading roots room bases b' exts e'
  unfolding base_evals_of ext_evals_of
  writes_more c b b' e e' w r =
      rw add-one
      (record {
        follows = λ env s.
            let q = w.follows env (λ j l. s j (omega arith)) in
            let t = r.follows (env (get_or roots c 0)) (s c (omega arith)) in (
              t.0 ∙ ap (λ (l : List ℕ). cond (ltb c leading) (set l c (base_word (env (get_or roots c 0)))) l) q.0,
              t.1 ∙ ap (λ (l : List ℕ). cond (ltb c leading) l (sets l (3 * c) (ext_words (env (get_or roots c 0))))) q.1,
            );
        bases_long = r.bases_long ∙ w.bases_long;
        exts_long = r.exts_long ∙ w.exts_long;
      })

-- the pass and the writing together
pub completes : {env : ℕ → Value ℕ (List ℕ)} {n leading count : ℕ} {roots base base' ext ext' room room' : List ℕ} → RoomHolds env n room room' → WritesRoots count leading roots room' base base' ext ext' → ((r : ℕ) → r < count → get_or roots r 0 < n) → Completes env n leading count roots base base' ext ext' room room'
completes {env} {n} {leading} {count} {roots} h w b =
    let q = w.follows env (λ r l. (h.node (get_or roots r 0) (b r l)).stands) in
    record { base_written = q.0; ext_written = q.1; room_holds = h }

-- words below p that stand for one element are one word
pub one_word : {x y v : ℕ} → x ≈ v → y ≈ v → x < p → y < p → x ≡ y
one_word h k a b = sym (mod-eq_of_lt a) ∙ h.same ∙ sym k.same ∙ mod-eq_of_lt b
