-- What holds before and after a node of the scan.
-- Assumes nothing.
use mathlib.Core.Bool.{true, false, not}
use mathlib.Core.List.{List, [], ◌∷◌, ◌++◌}
use mathlib.Core.Logic.{by_cases}
use mathlib.Core.Path.{◌≡◌, refl, sym, ap, ◌∙◌}
use Prim.Native.Nat.{ℕ, zero, suc, ◌+◌, ◌*◌, ◌<◌, ◌≤◌}
use native.Mathlib.Omega.{arith}
use native.Mathlib.Decide.{ℕ_discrete}
use native.Mathlib.Numerals.{add-one}
use lib.Dec.{eqb, ltb}
use lib.ListN.{length, get_or, drop, length-set, length-append, length-drop}
use lib.Seq.{sets, sets-eq, take_at, drop_at, drop-drop}
use borrow.Author.Tests.{eq-eqb, ne_eqb, ltb-true, ltb-false}
use Rattle.laws.proofs.Cases.{by_test}
use Rattle.laws.proofs.Tests.{and_left}
use Rattle.ir.specs.Words.{node_at}
use Rattle.blob_rules.specs.Blob.{Instr}
use Rattle.liveness.specs.Liveness.{has, operands, Liveness}
use Rattle.scan_parts.specs.Scan.{Scan, pick, left, more, slot_word, encode, written, claim, scan, flat}
use Rattle.scan_parts.specs.Pools.{stack, slots_in, Stands, ClassOk, EncOk, GiveOk, WordsOk, Spelt}
use Rattle.scan.specs.Arrays.{ReleaseOk, Released, ClaimOk, Claimed, Wrote, Ready, Advanced, Begins, Scanned}
use Rattle.liveness.specs.LiveLists.{listed, busy}
use Rattle.scan_parts.proofs.UpdLaws.{upd_case}
use Rattle.scan.proofs.ScanLaws.{freed, taken, given_keeps, next_le, scan_kept, taken_low}
use Rattle.scan.proofs.WordLaws.{flat_length}
use Rattle.scan_parts.proofs.PoolLaws.{busy_set, tab_set, tops_le}
use Rattle.liveness.proofs.MarkLaws.{idle}
use Rattle.scan_parts.proofs.SpellLaws.{has_first, has_second}

-- ---- what a node's words depend on

module _ (nodes emitted last pinned : List ℕ) (f g : ℕ → ℕ) where
  encode_agree : (j : ℕ) → f j ≡ g j → encode nodes (listed emitted last pinned) f j ≡ encode nodes (listed emitted [] []) g j
  encode_agree j e = rw e refl

  written_agree : (i k : ℕ) → ((j : ℕ) → has j (operands (node_at nodes i)) ≡ true → f j ≡ g j)
      → written nodes (listed emitted last pinned) f i k ≡ written nodes (listed emitted [] []) g i k
  written_agree i k h =
      let w = node_at nodes i in
      by_test (ltb w.tag 6) (written nodes (listed emitted last pinned) f i k ≡ written nodes (listed emitted [] []) g i k)
      (λ t. rw t refl)
      λ t. by_test (ltb w.tag 9) (written nodes (listed emitted last pinned) f i k ≡ written nodes (listed emitted [] []) g i k)
      (λ u. rw (t, u, encode_agree w.x (h w.x (has_first nodes i (ltb-false w.tag 6 t))), encode_agree w.y (h w.y (has_second nodes i (ltb-false w.tag 6 t) (ltb-true w.tag 9 u)))) refl)
      λ u. rw (t, u, encode_agree w.x (h w.x (has_first nodes i (ltb-false w.tag 6 t)))) refl

-- ---- words over what was there

over : (l old ws : List ℕ) (o : ℕ) → length l ≡ o → o + length ws ≤ length (l ++ drop o old) → sets (l ++ drop o old) o ws ≡ (l ++ ws) ++ drop (o + length ws) old
over l old ws o e h =
    sets-eq ws (l ++ drop o old) o h
    ∙ rw (take_at l (drop o old) o e, ← (drop-drop (length ws) o (l ++ drop o old)), drop_at l (drop o old) o e, drop-drop (length ws) o old) refl

flat_snoc : (xs : List Instr) (w : Instr) → flat (xs ++ (w ∷ [])) ≡ flat xs ++ (w.op ∷ w.a ∷ w.b ∷ w.res ∷ [])
flat_snoc [] w = refl
flat_snoc (x ∷ xs) w = ap (λ l. x.op ∷ x.a ∷ x.b ∷ x.res ∷ l) (flat_snoc xs w)

-- one node more
wrote_more : (old out out' : List ℕ) (count : ℕ) (xs : List Instr) (w : Instr) → count ≡ length xs → out ≡ flat xs ++ drop (4 * count) old → 4 * count + 4 ≤ length out
    → out' ≡ sets out (4 * count) (w.op ∷ w.a ∷ w.b ∷ w.res ∷ []) → out' ≡ flat (xs ++ (w ∷ [])) ++ drop (4 * (count + 1)) old
wrote_more old out out' count xs w c e h s =
    let o : 4 * (count + 1) ≡ 4 * count + 4 = omega arith in
    rw (s, e, o, flat_snoc xs w) (over (flat xs) old (w.op ∷ w.a ∷ w.b ∷ w.res ∷ []) (4 * count) (omega (arith, flat_length xs)) (omega (arith, h, ap length e)))

-- ---- one node

-- a listed truth
listed_true : (x : ℕ) → (x ≡ 0 → ⊥) → not (eqb x 0) ≡ true
listed_true x n = rw (ne_eqb x 0 n) refl

listed_false : (x : ℕ) → x ≡ 0 → not (eqb x 0) ≡ false
listed_false x e = rw (eq-eqb x 0 e) refl

-- a node that is emitted, and one that is not
module _ (nodes : List ℕ) (v : Liveness) (i : ℕ) where
  pub scan_skips : v.emitted i ≡ false → scan nodes v (suc i) ≡ scan nodes v i
  unfolding scan
  scan_skips e = rw e refl

  pub scan_writes : v.emitted i ≡ true → scan nodes v (suc i) ≡ claim nodes v i (scan nodes v i).slot (freed nodes v i)
  unfolding scan
  scan_writes e = rw e refl

  pub freed_out : (freed nodes v i).out ≡ (scan nodes v i).out
  freed_out = (given_keeps nodes v i (operands (node_at nodes i)) (scan nodes v i)).0

  pub one_more : v.emitted i ≡ true → length (scan nodes v (suc i)).out ≡ suc (length (scan nodes v i).out)
  one_more e =
      rw (scan_writes e, freed_out)
      (length-append (scan nodes v i).out (written nodes v (scan nodes v i).slot i (pick ((freed nodes v i).free (node_at nodes i).dim) ((freed nodes v i).next (node_at nodes i).dim)) ∷ []) ∙ omega arith)

module _ (i : ℕ) (nodes emitted last pinned slot free tops next out : List ℕ) (count : ℕ)
    (r : Ready i nodes emitted last pinned slot free tops next out count) where
  abbrev v : Liveness
  v = listed emitted last pinned

  abbrev s : Scan
  s = scan nodes v i

  abbrev n : ℕ
  n = length slot

  module _ (e : get_or emitted i 0 ≡ 0 → ⊥) where
    is_emitted : v.emitted i ≡ true
    is_emitted = listed_true (get_or emitted i 0) e

    module _ (j : ℕ) (o : has j (operands (node_at nodes i)) ≡ true) where
      below : j < i
      below = r.scannable.before i j r.place o

      class_ok : ClassOk nodes j
      class_ok =
          record { long = omega (arith, below, r.place, r.scannable.long); dim = r.scannable.dims j (omega (arith, below, r.place)) }

      held : (get_or emitted j 0 ≡ 0 → ⊥) → (0 < get_or slot j 0) × (get_or slot j 0 ≤ 536870912)
      held q =
          let t = (scan_kept nodes v i).lives j below (listed_true (get_or emitted j 0) q) (λ z. r.scannable.last_read i j r.place is_emitted o z) in
          let low = (scan_kept nodes v i).good.low j t.0 t.1 in
          let here = r.stands.slots j (omega (arith, below, r.place)) in
          (omega (arith, here, t.1), omega (arith, here, t.1, low, next_le nodes v i (node_at nodes j).dim, r.place, r.scannable.few))

      named : get_or emitted j 0 ≡ 0 → ((node_at nodes j).tag < 6) × ((node_at nodes j).x < 536870912)
      named q =
          let u = r.scannable.named i j r.place is_emitted o (listed_false (get_or emitted j 0) q) in
          (ltb-true (node_at nodes j).tag 6 (and_left (ltb (node_at nodes j).tag 6) _ u), r.scannable.low j (omega (arith, below, r.place)) u)

      enc_ok : EncOk j nodes emitted slot
      enc_ok =
          record { place = omega (arith, below, r.place); emitted_long = r.emitted_long; class = class_ok; held = held; named = named }

      give_ok : GiveOk j nodes last pinned slot free tops next
      give_ok =
          record {
            place = omega (arith, below, r.place);
            last_long = r.last_long;
            pinned_long = r.pinned_long;
            free_long = r.stands.free_long;
            class = class_ok;
            pairs = r.stands.pairs;
            few = omega (arith, r.few, r.place);
          }

    own_long : 4 * i + 4 ≤ length nodes
    own_long = omega (arith, r.place, r.scannable.long)

    pub words_ok : WordsOk i nodes emitted slot
    words_ok = record { long = own_long; operand = enc_ok }

    pub release_ok : ReleaseOk i nodes last pinned slot free tops next
    release_ok = record { pair = r.stands.pairs.0; long = own_long; operand = give_ok }

    abbrev class : ℕ
    class = (node_at nodes i).dim

    class_low : class < 2
    class_low = r.scannable.dims i r.place

    module _ (slot₁ free₁ tops₁ : List ℕ) (g : Released i nodes last pinned slot free tops next slot₁ free₁ tops₁) where
      stands₁ : Stands n slot₁ free₁ tops₁ next (freed nodes v i)
      stands₁ = g.follows emitted s r.stands

      picked : pick (stack free₁ class (get_or tops₁ class 0)) (get_or next class 0) ≡ taken nodes v i
      picked = rw (stands₁.frees class class_low, stands₁.nexts class class_low) refl

      pub claim_ok : ClaimOk i class slot₁ free₁ tops₁ next out count
      claim_ok =
          record {
            place = omega (arith, r.place, g.long.0);
            take =
                record {
                  known = class_low;
                  pairs = (g.long.2, r.stands.pairs.1);
                  room = omega (arith, tops_le tops₁ class class_low, g.few, r.few, r.place, g.long.1, r.stands.free_long);
                  few = omega (arith, r.stands.nexts class class_low, next_le nodes v i class, r.place, r.scannable.few);
                };
            slot_low = rw picked (omega (arith, taken_low nodes v i is_emitted, next_le nodes v (suc i) class, r.place, r.scannable.few));
            room = omega (arith, r.room, r.counted, one_more nodes v i is_emitted);
          }

      -- where what is left of the counts is what was there
      pub claim_ok_left : (next₁ : List ℕ) → next₁ ≡ next → ClaimOk i class slot₁ free₁ tops₁ next₁ out count
      claim_ok_left next₁ e = rw e claim_ok

      module _ (op a b : ℕ) (spelt : Spelt i nodes emitted slot op a b) (slot₂ tops₂ next₂ out₂ : List ℕ)
          (m : Claimed i class op a b slot₁ free₁ tops₁ next out count slot₂ tops₂ next₂ out₂ (pick (stack free₁ class (get_or tops₁ class 0)) (get_or next class 0))) where
        abbrev k : ℕ
        k = pick (stack free₁ class (get_or tops₁ class 0)) (get_or next class 0)

        fewer : (c : ℕ) → get_or tops₂ c 0 ≤ get_or tops₁ c 0
        fewer c = by_cases (ℕ_discrete c class) (λ q. rw q m.taken.fewer) λ q. omega (arith, m.taken.other_tops c q)

        claimed_few : slots_in slot₂ tops₂ ≤ suc i
        claimed_few = omega (arith, ap busy m.slots, busy_set slot₁ i (k + 1), fewer 0, fewer 1, g.few, r.few)

        claimed_stands : Stands n slot₂ free₁ tops₂ next₂ (claim nodes v i s.slot (freed nodes v i))
        claimed_stands =
            let t = freed nodes v i in
            record {
              slot_long = ap length m.slots ∙ length-set slot₁ i (k + 1) ∙ g.long.0;
              free_long = stands₁.free_long;
              pairs = m.taken.pairs;
              slots = rw (m.slots, add-one k, ← picked) (tab_set slot₁ n t.slot i (suc k) (omega (arith, r.place, g.long.0)) stands₁.slots);
              frees = λ c h. upd_case (λ l. stack free₁ c (get_or tops₂ c 0) ≡ l) t.free class (left (t.free class)) c
                  (λ q. rw q (m.taken.rest ∙ ap left (stands₁.frees class class_low)))
                  λ q. rw (m.taken.other_tops c q) (stands₁.frees c h);
              nexts = λ c h. upd_case (λ l. get_or next₂ c 0 ≡ l) t.next class (more (t.free class) (t.next class)) c
                  (λ q. rw (q, ← (stands₁.frees class class_low), ← (stands₁.nexts class class_low)) m.taken.count)
                  λ q. m.taken.other_next c q ∙ stands₁.nexts c h;
            }

        claimed_words : written nodes v s.slot i (taken nodes v i) ≡ record { op = op; a = a; b = b; res = slot_word class k }
        claimed_words =
            written_agree nodes emitted last pinned s.slot (λ j. get_or slot j 0) i (taken nodes v i)
            (λ j o. sym (r.stands.slots j (omega (arith, below j o, r.place))))
            ∙ rw (← picked) (spelt.words k)

        claimed_wrote : (old : List ℕ) → Wrote old out count s → Wrote old out₂ (count + 1) (claim nodes v i s.slot (freed nodes v i))
        claimed_wrote old x =
            record {
              counted = omega (arith, x.counted, length-append (freed nodes v i).out (written nodes v s.slot i (taken nodes v i) ∷ []), ap length (freed_out nodes v i));
              words = rw (freed_out nodes v i, claimed_words)
                  (wrote_more old out out₂ count s.out (record { op = op; a = a; b = b; res = slot_word class k }) x.counted x.words claim_ok.room m.words);
            }

        pub advances : (count' : ℕ) → count' ≡ count + 1 → Advanced i nodes emitted last pinned slot out count slot₂ free₁ tops₂ next₂ out₂ count'
        advances count' q =
            rw q
            (record {
              few = claimed_few;
              stands = rw (scan_writes nodes v i is_emitted) claimed_stands;
              writes = λ old x. rw (scan_writes nodes v i is_emitted) (claimed_wrote old x);
            })

      pub advances_left : (op a b : ℕ) → Spelt i nodes emitted slot op a b → (slot₂ tops₂ next₂ out₂ next₁ : List ℕ) → next₁ ≡ next
          → Claimed i class op a b slot₁ free₁ tops₁ next₁ out count slot₂ tops₂ next₂ out₂ (pick (stack free₁ class (get_or tops₁ class 0)) (get_or next₁ class 0))
          → (count' : ℕ) → count' ≡ count + 1 → Advanced i nodes emitted last pinned slot out count slot₂ free₁ tops₂ next₂ out₂ count'
      advances_left op a b spelt slot₂ tops₂ next₂ out₂ next₁ e m = advances op a b spelt slot₂ tops₂ next₂ out₂ (rw e at m)

  pub skips : get_or emitted i 0 ≡ 0 → Advanced i nodes emitted last pinned slot out count slot free tops next out count
  skips e =
      let f = scan_skips nodes v i (listed_false (get_or emitted i 0) e) in
      record { few = omega (arith, r.few); stands = rw f r.stands; writes = λ old x. rw f x }

-- ---- all nodes

module _ (nodes emitted last pinned slot₀ free₀ out₀ : List ℕ) (g : Begins nodes emitted last pinned slot₀ free₀ out₀) where
  abbrev live : Liveness
  live = listed emitted last pinned

  out_step : (i : ℕ) → length (scan nodes live i).out ≤ length (scan nodes live (suc i)).out
  out_step i =
      by_test (live.emitted i) (length (scan nodes live i).out ≤ length (scan nodes live (suc i)).out)
      (λ t. omega (arith, one_more nodes live i t))
      λ t. rw (scan_skips nodes live i t) (omega arith)

  out_mono : (m i : ℕ) → i ≤ m → length (scan nodes live i).out ≤ length (scan nodes live m).out
  out_mono zero i h = let e : i ≡ 0 = omega arith in omega (arith, ap (λ x. length (scan nodes live x).out) e)
  out_mono (suc m) i h =
      let ih = out_mono m i in
      by_cases (ℕ_discrete i (suc m)) (λ q. omega (arith, ap (λ x. length (scan nodes live x).out) q)) λ q. omega (arith, ih (omega arith), out_step m)

  pub begins : Scanned 0 nodes emitted last pinned out₀ slot₀ free₀ (0 ∷ 0 ∷ []) (0 ∷ 0 ∷ []) out₀ 0
  unfolding scan stack
  begins =
      record {
        few = omega (arith, g.none);
        stands =
            record {
              slot_long = refl;
              free_long = g.free_long;
              pairs = (refl, refl);
              slots = λ j h. idle slot₀ g.none j;
              frees = λ c h. rw (zeros c) refl;
              nexts = λ c h. zeros c;
            };
        wrote = record { counted = refl; words = refl };
      }
    where
      zeros : (c : ℕ) → ◌≡◌ {A = ℕ} (get_or (0 ∷ 0 ∷ []) c 0) 0
      zeros zero = refl
      zeros (suc zero) = refl
      zeros (suc (suc c)) = refl

  module _ (i : ℕ) (slot free tops next out : List ℕ) (count : ℕ) (x : Scanned i nodes emitted last pinned out₀ slot free tops next out count)
      (same : length slot ≡ length slot₀) where
    pub out_long : i ≤ length slot₀ → length out ≡ length out₀
    out_long h =
        let o = out_mono (length slot₀) i h in
        let e = x.wrote.counted in
        ap length x.wrote.words ∙ length-append (flat (scan nodes live i).out) (drop (4 * count) out₀)
        ∙ omega (arith, flat_length (scan nodes live i).out, length-drop (4 * count) out₀, g.room, o, e)

    pub ready : i < length slot₀ → Ready i nodes emitted last pinned slot free tops next out count
    ready h =
        record {
          place = omega (arith, same);
          scannable = rw same g.scannable;
          emitted_long = g.emitted_long ∙ sym same;
          last_long = g.last_long ∙ sym same;
          pinned_long = g.pinned_long ∙ sym same;
          few = x.few;
          stands = x.stands;
          counted = x.wrote.counted;
          room = omega (arith, out_long (omega arith), out_mono (length slot₀) (suc i) (omega arith), g.room);
        }

    pub scanned_more : (slot' free' tops' next' out' : List ℕ) (count' : ℕ) → Advanced i nodes emitted last pinned slot out count slot' free' tops' next' out' count'
        → Scanned (i + 1) nodes emitted last pinned out₀ slot' free' tops' next' out' count'
    scanned_more slot' free' tops' next' out' count' m =
        rw (add-one i) (record { few = m.few; stands = rw m.stands.slot_long m.stands; wrote = m.writes out₀ x.wrote })
