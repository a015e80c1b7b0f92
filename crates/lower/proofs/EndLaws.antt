-- Lowering past its tests: the lists before and after, and whether the blob has room.
-- Assumes nothing.
use Rattle.std.specs.Prelude.{Result, Ok}
use Rattle.ir.specs.declared.refusal.Refusal.{Refusal}
use mathlib.Core.Bool.{Bool, true, false, ◌||◌}
use mathlib.Core.List.{List, [], ◌∷◌, ◌++◌}
use mathlib.Core.Path.{◌≡◌, refl, sym, ap, ◌∙◌}
use Prim.Native.Nat.{ℕ, zero, suc, ◌*◌, ◌≤◌}
use native.Mathlib.Omega.{arith}
use lib.Dec.{ltb}
use lib.ListN.{length, get_or, drop, replicate, length-replicate}
use borrow.Author.Tests.{ltb-false}
use Rattle.laws.proofs.Tests.{or_left, or_right}
use Rattle.laws.proofs.Tabulate.{length_tabulate}
use Rattle.ir.specs.declared.program.Counts.{Counts}
use Rattle.ir.specs.Refusals.{refuses}
use Rattle.ir.specs.Program.{Program}
use Rattle.blob_rules.specs.declared.blob.BlobCounts.{BlobCounts}
use Rattle.blob_rules.specs.Check.{cleared}
use Rattle.liveness.specs.Liveness.{live}
use Rattle.scan_parts.specs.Scan.{scan}
use Rattle.lower_parts.specs.Answer.{Lists, Output, lowering, short_output, said_of_lowering, emptied}
use Rattle.liveness.specs.LiveLists.{busy, LiveOk, Alive}
use Rattle.lower_parts.specs.Inner.{WriteOk, BlobWritten, ListsLong, LowerOk, WordsAnswer}
use Rattle.scan.proofs.WordLaws.{flat_length}
use Rattle.lower_parts.proofs.AgreeLaws.{out_count, nodes_below, roots_below}

-- ---- lists of 0

busy_zeros : (n : ℕ) → busy (replicate n 0) ≡ 0
unfolding busy
busy_zeros zero = refl
busy_zeros (suc n) = busy_zeros n

drop_all : (n : ℕ) (l : List ℕ) → length l ≡ n → drop n l ≡ []
drop_all zero [] e = refl
drop_all zero (x ∷ l) e = absurd (omega arith)
drop_all (suc n) [] e = refl
drop_all (suc n) (x ∷ l) e = drop_all n l (omega arith)

append_none : (l : List ℕ) → l ++ [] ≡ l
append_none [] = refl
append_none (x ∷ l) = ap (◌∷◌ x) (append_none l)

-- a list that is cleared whole
pub zeros : (n : ℕ) (l : List ℕ) → length l ≡ n → cleared n l ≡ replicate n 0
zeros n l e = rw (drop_all n l e) (append_none (replicate n 0))

-- lists of exactly the words of n nodes
pub record Exact (n : ℕ) (b : Lists) : Type 0 where
  pub used_long : length b.used ≡ n
  pub last_long : length b.last ≡ n
  pub root_long : length b.root ≡ n
  pub slot_long : length b.slot ≡ n
  pub free_long : length b.free ≡ 2 * n

abbrev zeroed : ℕ → Lists
zeroed n =
    record { used = replicate n 0; last = replicate n 0; root = replicate n 0; slot = replicate n 0; free = replicate (2 * n) 0 }

emptied_exact : (n : ℕ) (b : Lists) → Exact n b → emptied n b ≡ zeroed n
emptied_exact n b x =
    rw (zeros n b.used x.used_long, zeros n b.last x.last_long, zeros n b.root x.root_long, zeros n b.slot x.slot_long, zeros (2 * n) b.free x.free_long) refl

pub lists_long : (n : ℕ) (b : Lists) → n ≤ 536870911 → Exact n b → ListsLong n b
lists_long n b h x =
    record {
      few = h;
      used_long = omega (arith, x.used_long);
      last_long = omega (arith, x.last_long);
      root_long = omega (arith, x.root_long);
      slot_long = omega (arith, x.slot_long);
      free_long = omega (arith, x.free_long);
    }

-- an answer, told of lists that are the same one by one
pub told : {q : Program} {b : Lists} {o o' : Output} {w : Result BlobCounts Refusal} (b' : Lists) (used last root slot free : List ℕ) → used ≡ b'.used → last ≡ b'.last → root ≡ b'.root → slot ≡ b'.slot → free ≡ b'.free
    → WordsAnswer q b o w b' o' → WordsAnswer q b o w (record { used = used; last = last; root = root; slot = slot; free = free }) o'
told b' used last root slot free u l r s f a = rw (u, l, r, s, f) a

-- what is asked of lists, told of lists that are the same one by one
pub write_told : {c : Counts} {nodes bases exts roots : List ℕ} {count : ℕ} {on ob ox or : List ℕ} {used last root slot free used' last' root' slot' free' : List ℕ} → used ≡ used' → last ≡ last' → root ≡ root' → slot ≡ slot' → free ≡ free'
    → WriteOk c nodes bases exts roots used' last' root' slot' free' count on ob ox or → WriteOk c nodes bases exts roots used last root slot free count on ob ox or
write_told u l r s f a = rw (u, l, r, s, f) a

pub exact_told : {n : ℕ} {used last root slot free used' last' root' slot' free' : List ℕ} → used ≡ used' → last ≡ last' → root ≡ root' → slot ≡ slot' → free ≡ free'
    → Exact n (record { used = used'; last = last'; root = root'; slot = slot'; free = free' }) → Exact n (record { used = used; last = last; root = root; slot = slot; free = free })
exact_told u l r s f a = rw (u, l, r, s, f) a

-- ---- past the tests

quiet : (p q r t : Bool) → (p || q || r || t) ≡ false → (p ≡ false) × (q ≡ false) × (r ≡ false) × (t ≡ false)
quiet p q r t h =
    let a = or_left (p || q || r) t h in
    let b = or_left (p || q) r a in
    (or_left p q b, or_right p q b, or_right (p || q) r a, or_right (p || q || r) t h)

module _ (q : Program) (b : Lists) (o : Output) (g : LowerOk q b) where
  abbrev c : Counts
  c = q.counts

  abbrev n : ℕ
  n = q.counts.nodes

  pub exact : Exact n b
  exact =
      record { used_long = g.used_long; last_long = g.last_long; root_long = g.root_long; slot_long = g.slot_long; free_long = g.free_long }

  module _ (b₁ : Lists) (e : b₁ ≡ emptied n b) where
    zero_lists : b₁ ≡ zeroed n
    zero_lists = e ∙ emptied_exact n b exact

    of : (f : Lists → List ℕ) → f b₁ ≡ f (zeroed n)
    of f = ap f zero_lists

    long : (l : List ℕ) → l ≡ replicate n 0 → length l ≡ n
    long l q = ap length q ∙ length-replicate {A = ℕ} n 0

    idle : (l : List ℕ) → l ≡ replicate n 0 → busy l ≡ 0
    idle l q = ap busy q ∙ busy_zeros n

    pub live_ok : LiveOk c q.nodes q.roots b₁.used b₁.last b₁.root
    live_ok =
        let u = of (λ x. x.used) in
        let l = of (λ x. x.last) in
        let r = of (λ x. x.root) in
        record {
          few = omega (arith, g.few.0);
          nodes_ok = nodes_below c q.nodes q.roots g.formed g.long.0;
          roots_ok = roots_below c q.nodes q.roots g.formed g.long.0 g.long.3;
          long = (long b₁.used u, long b₁.last l, long b₁.root r);
          clear = (idle b₁.used u, idle b₁.last l, idle b₁.root r);
        }

    module _ (used last root : List ℕ) (count : ℕ) (a : Alive c q.nodes q.roots used last root count) where
      pub counted : length (lowering q).nodes ≡ 4 * count
      counted =
          let v = live c q.nodes q.roots in
          let s = scan q.nodes v n in
          omega (arith, flat_length s.out, out_count q.nodes v n, a.counted)

      pub made_few : (lowering q).count ≤ n
      made_few =
          let v = live c q.nodes q.roots in
          omega (arith, out_count q.nodes v n, a.counted, a.few)

      pub exact_live : Exact n (record { used = used; last = last; root = root; slot = b₁.slot; free = b₁.free })
      exact_live =
          record {
            used_long = a.long.0;
            last_long = a.long.1;
            root_long = a.long.2;
            slot_long = long b₁.slot (of (λ x. x.slot));
            free_long = ap length (of (λ x. x.free)) ∙ length-replicate {A = ℕ} (2 * n) 0;
          }

      -- the test of the code is that of the definition
      pub short_is : (ltb (length o.nodes) (4 * count) || ltb (length o.bases) c.bases || ltb (length o.exts) (3 * c.exts) || ltb (length o.roots) c.roots) ≡ short_output (lowering q) o
      unfolding short_output
      short_is = rw (counted, length_tabulate c.bases _, length_tabulate (3 * c.exts) _, length_tabulate c.roots _) refl

      pub write_ok : (ltb (length o.nodes) (4 * count) || ltb (length o.bases) c.bases || ltb (length o.exts) (3 * c.exts) || ltb (length o.roots) c.roots) ≡ false
          → WriteOk c q.nodes q.bases q.exts q.roots used last root b₁.slot b₁.free count o.nodes o.bases o.exts o.roots
      write_ok h =
          let z = quiet (ltb (length o.nodes) (4 * count)) (ltb (length o.bases) c.bases) (ltb (length o.exts) (3 * c.exts)) (ltb (length o.roots) c.roots) h in
          record {
            formed = g.formed;
            few = g.few;
            long = g.long;
            alive = a;
            lists_long = (exact_live.slot_long, exact_live.free_long);
            clear = idle b₁.slot (of (λ x. x.slot));
            room = (ltb-false _ _ z.0, ltb-false _ _ z.1, ltb-false _ _ z.2, ltb-false _ _ z.3);
          }

      -- 10
      pub refused : (b₂ b₃ : Lists) → short_output (lowering q) o ≡ true → b₃ ≡ emptied n b₂ → Exact n b₂ → (w : Result BlobCounts Refusal) → said_of_lowering w ≡ refuses 10 0 → WordsAnswer q b o w b₃ o
      refused b₂ b₃ h e₃ x w s =
          record { said = rw h s; wrote = rw h refl; lists = e₃ ∙ emptied_exact n b₂ x ∙ sym (emptied_exact n b exact) }

      -- the blob
      pub done : (b₂ b₃ : Lists) (o' : Output) (count' : ℕ) (next : List ℕ) (k : BlobCounts) → short_output (lowering q) o ≡ false → BlobWritten c (lowering q) o o' count' next → b₃ ≡ emptied n b₂ → Exact n b₂
          → k ≡ record { nodes = count'; bases = c.bases; exts = c.exts; roots = c.roots; num_base = c.num_base; base_slots = get_or next 0 0; ext_slots = get_or next 1 0 }
          → WordsAnswer q b o (Ok k) b₃ o'
      done b₂ b₃ o' count' next k h w e₃ x r =
          record {
            said = rw (h, r, w.counted, w.slots.0, w.slots.1) refl;
            wrote = rw h w.words;
            lists = e₃ ∙ emptied_exact n b₂ x ∙ sym (emptied_exact n b exact);
          }
