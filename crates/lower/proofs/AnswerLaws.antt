-- What `lower` answers, test by test.
-- Assumes nothing.
use Rattle.blob_rules.specs.declared.blob.BlobCounts.{BlobCounts}
use mathlib.Core.Bool.{Bool, false, cond, ◌||◌}
use mathlib.Core.List.{List, ◌++◌}
use Rattle.std.specs.Prelude.{None, Result, Err}
use mathlib.Core.Path.{◌≡◌, refl, sym, ap, ◌∙◌}
use Prim.Native.Nat.{ℕ, ◌*◌, ◌≤◌}
use lib.Dec.{eqb, ltb}
use lib.ListN.{length, take, drop}
use lib.Seq.{length-take-le}
use borrow.Author.Tests.{ltb-false}
use Rattle.laws.proofs.Cases.{by_test}
use Rattle.laws.proofs.Tests.{or_left, or_right}
use Rattle.ir.specs.declared.program.Counts.{Counts}
use Rattle.ir.specs.declared.refusal.Refusal.{Refusal}
use Rattle.ir.specs.Refusals.{gives, refuses, said_of}
use Rattle.ir.specs.Program.{Program, too_many_nodes, too_many_roots, short_tables, ill_formed}
use Rattle.ir.proofs.ProgramLaws.{few, few_roots, long}
use Rattle.ir.proofs.WellFormedLaws.{well_formed}
use Rattle.blob_rules.specs.Check.{cleared}
use Rattle.lower_parts.specs.Lower.{blob_of}
use Rattle.lower_parts.specs.Answer.{Lists, Output, lowering, short_lists, short_output, counts_of, lower_said, emptied, LowerAnswer}
use Rattle.lower_parts.specs.Inner.{ListsLong, front, LowerOk, WordsAnswer}
use Rattle.lower.proofs.EndLaws.{Exact, zeros}

-- the parts put back
abbrev pub joined : ℕ → Lists → Lists → Lists
joined n part b =
    record {
      used = part.used ++ drop n b.used;
      last = part.last ++ drop n b.last;
      root = part.root ++ drop n b.root;
      slot = part.slot ++ drop n b.slot;
      free = part.free ++ drop (2 * n) b.free;
    }

five : (p q r t u : Bool) → (p || q || r || t || u) ≡ false → (p ≡ false) × (q ≡ false) × (r ≡ false) × (t ≡ false) × (u ≡ false)
five p q r t u h =
    let a = or_left (p || q || r || t) u h in
    let b = or_left (p || q || r) t a in
    let d = or_left (p || q) r b in
    (or_left p q d, or_right p q d, or_right (p || q) r b, or_right (p || q || r) t a, or_right (p || q || r || t) u h)

module _ (q : Program) (b : Lists) (o : Output) where
  abbrev c : Counts
  c = q.counts

  abbrev n : ℕ
  n = q.counts.nodes

  -- a refusal but 10
  pub refused : (r : Refusal) → eqb (said_of r).number 0 ≡ false → eqb (said_of r).number 10 ≡ false → lower_said q b o ≡ said_of r → LowerAnswer q b o (Err r) b o
  refused r z t e = record { said = sym e; wrote = rw (e, z) refl; lists = rw (e, z, t) refl }

  pub lists_are : n ≤ 536870911 → short_lists n b ≡ false → ListsLong n b
  unfolding short_lists
  lists_are few h =
      let z = five (ltb (length b.used) n) (ltb (length b.last) n) (ltb (length b.root) n) (ltb (length b.slot) n) (ltb (length b.free) (2 * n)) h in
      record {
        few = few;
        used_long = ltb-false _ _ z.0;
        last_long = ltb-false _ _ z.1;
        root_long = ltb-false _ _ z.2;
        slot_long = ltb-false _ _ z.3;
        free_long = ltb-false _ _ z.4;
      }

  module _ (l : ListsLong n b) where
    exact : Exact n (front n b)
    exact =
        record {
          used_long = length-take-le n b.used l.used_long;
          last_long = length-take-le n b.last l.last_long;
          root_long = length-take-le n b.root l.root_long;
          slot_long = length-take-le n b.slot l.slot_long;
          free_long = length-take-le (2 * n) b.free l.free_long;
        }

    pub lower_ok : too_many_nodes c ≡ false → too_many_roots c ≡ false → short_tables c (length q.nodes) (length q.bases) (length q.exts) (length q.roots) ≡ false → ill_formed c q.nodes q.roots ≡ None → LowerOk q (front n b)
    lower_ok h₈ h₉ h₁ h₇ =
        let f = few c h₈ in
        let r = few_roots c h₉ in
        let t = long c (length q.nodes) (length q.bases) (length q.exts) (length q.roots) h₁ in
        record {
          formed = well_formed c q.nodes q.roots h₇;
          few = (f.nodes, f.bases, f.exts);
          leading = (r.roots, r.leading);
          long = (t.nodes_long, t.bases_long, t.exts_long, t.roots_long);
          used_long = exact.used_long;
          last_long = exact.last_long;
          root_long = exact.root_long;
          slot_long = exact.slot_long;
          free_long = exact.free_long;
        }

    back : (m : ℕ) (x : List ℕ) → m ≤ length x → cleared m (take m x) ++ drop m x ≡ cleared m x
    back m x h = ap (λ t. t ++ drop m x) (zeros m (take m x) (length-take-le m x h))

    emptied_back : joined n (emptied n (front n b)) b ≡ emptied n b
    emptied_back =
        rw (back n b.used l.used_long, back n b.last l.last_long, back n b.root l.root_long, back n b.slot l.slot_long, back (2 * n) b.free l.free_long) refl

    -- 10 or the blob, told of the whole lists
    pub put_back : {w : Result BlobCounts Refusal} (b₁ : Lists) {o' : Output} → WordsAnswer q (front n b) o w b₁ o' → WordsAnswer q b o w (joined n b₁ b) o'
    put_back b₁ a = record { said = a.said; wrote = a.wrote; lists = ap (λ x. joined n x b) a.lists ∙ emptied_back }

  pub answered : {w : Result BlobCounts Refusal} (b' : Lists) {o' : Output} → lower_said q b o ≡ cond (short_output (lowering q) o) (refuses 10 0) (gives (counts_of (blob_of c (lowering q)).counts))
      → WordsAnswer q b o w b' o' → LowerAnswer q b o w b' o'
  answered b' e a =
      by_test (short_output (lowering q) o) (LowerAnswer q b o _ b' _)
      (λ t. record { said = a.said ∙ sym e; wrote = rw (e, t) (rw t at a.wrote); lists = rw (e, t) a.lists })
      λ t. record { said = a.said ∙ sym e; wrote = rw (e, t) (rw t at a.wrote); lists = rw (e, t) a.lists }
