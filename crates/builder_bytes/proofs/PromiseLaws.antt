-- What each call over bytes comes to: refused for a short room, or done.
-- Assumes nothing.
use Rattle.ir.specs.declared.refusal.Refusal.{Refusal}
use Rattle.std.specs.Prelude.{Result}
use mathlib.Core.Bool.{Bool, false, cond, true≢false}
use Rattle.std.specs.Borrow.{MutBor}
use mathlib.Core.List.{List, ◌++◌}
use mathlib.Core.Path.{◌≡◌, sym, ap, ◌∙◌}
use Prim.Native.Nat.{ℕ, ◌≤◌}
use lib.Dec.{eqb}
use lib.ListN.{length, take, drop}
use lib.Seq.{sets}
use Rattle.laws.proofs.Tests.{or_left, or_right}
use Rattle.ir.specs.Refusals.{Said}
use Rattle.stored_parts.specs.Form.{spread}
use Rattle.byte_words.specs.Words.{whole}
use Rattle.builder.specs.declared.ir_builder.Made.{Made}
use Rattle.builder.specs.declared.ir_builder.IrBuilder.{IrBuilder}
use Rattle.builder.specs.Answers.{said_of_answer, Built, Gives}
use Rattle.std.specs.Result.{is_ok}
use Rattle.gaps.specs.Gaps.{GapsAnswer}
use Rattle.gaps.proofs.GapLaws.{is_ok_listed}
use Rattle.builder.specs.Roots.{said_of_emitted, Rooting, EmitGives}
use Rattle.node_table.specs.Table.{Table, table}
use Rattle.byte_words.specs.Rooms.{Lent, lent, tight, held, packed_on}
use Rattle.builder_bytes.specs.Promises.{Call3, OnWords, held_table, short_tables, short_three, short_report, report_said, GivesBytes, EmitBytes, GapsBytes}
use Rattle.byte_words.proofs.RoomLaws.{roomy, lent_words, packed_after}

-- what the call says of 0, by the outcome
done_by : {s o : Said} {done : Bool} → done ≡ eqb s.number 0 → s ≡ o → done ≡ eqb o.number 0
done_by d e = d ∙ ap (λ (x : Said). eqb x.number 0) e

-- ---- two tables of four bytes a word

module _ (a b : Lent) {z : Bool} (e : z ≡ short_tables a b) (h : z ≡ false) where
  pub first_fits : whole 4 a.bytes ≤ length a.room
  first_fits = roomy 4 a (or_left (tight 4 a) (tight 4 b) (sym e ∙ h))

  pub second_fits : whole 4 b.bytes ≤ length b.room
  second_fits = roomy 4 b (or_right (tight 4 a) (tight 4 b) (sym e ∙ h))

-- ---- nodes and places

module _ (f : Table → Built) (b : IrBuilder) (nodes places : Lent) {z : Bool} (e : z ≡ short_tables nodes places) (h : z ≡ false) where
  module _ {nmid pmid : List ℕ} (en : nmid ≡ sets nodes.room 0 (held 4 nodes)) (ep : pmid ≡ sets places.room 0 (held 4 places)) where
    pub gives_done : {r : Result Made Refusal} {ns ps nout pout : List ℕ} {done : Bool}
        → Gives (f (table (take (whole 4 nodes.bytes) nmid) (take (whole 4 places.bytes) pmid) b.nodes)) b r ns ps
        → length ns ≡ length (take (whole 4 nodes.bytes) nmid) → length ps ≡ length (take (whole 4 places.bytes) pmid)
        → done ≡ eqb (said_of_answer r).number 0
        → nout ≡ cond done (sets nodes.bytes 0 (spread 4 (take (whole 4 nodes.bytes) (ns ++ drop (whole 4 nodes.bytes) nmid)))) nodes.bytes
        → pout ≡ cond done (sets places.bytes 0 (spread 4 (take (whole 4 places.bytes) (ps ++ drop (whole 4 places.bytes) pmid)))) places.bytes
        → GivesBytes (f (held_table nodes places b.nodes)) b nodes places r (lent nout (ns ++ drop (whole 4 nodes.bytes) nmid)) (lent pout (ps ++ drop (whole 4 places.bytes) pmid))
    gives_done {r} {ns} {ps} {nout} {pout} {done} g ln lp d qn qp =
        let q = sym e ∙ h in
        let nodes_fit = first_fits nodes places e h in
        let places_fit = second_fits nodes places e h in
        let g' : Gives (f (held_table nodes places b.nodes)) b r ns ps = rw (lent_words 4 nodes nodes_fit en, lent_words 4 places places_fit ep) at g in
        let o = f (held_table nodes places b.nodes) in
        let d' = done_by d g'.said in
        record {
          said = rw q g'.said;
          builder = rw q g'.builder;
          nodes_end = rw q (packed_after 4 nodes nodes_fit en ns ln o.said d' qn ∙ ap (λ (l : List ℕ). packed_on 4 o.said l nodes) g'.nodes);
          places_end = rw q (packed_after 4 places places_fit ep ps lp o.said d' qp ∙ ap (λ (l : List ℕ). packed_on 4 o.said l places) g'.places);
        }

-- ---- nodes, places and constants

pub wide_fits : (l : Lent) {w : Bool} → w ≡ tight 8 l → w ≡ false → whole 8 l.bytes ≤ length l.room
wide_fits l e h = roomy 8 l (sym e ∙ h)

-- the call on words ran, and its words went back
module _ (post : Call3) (nodes places consts : Lent) {z w : Bool} (e : z ≡ short_tables nodes places) (h : z ≡ false) (j : w ≡ tight 8 consts) (k : w ≡ false)
    {nmid pmid cmid : List ℕ} (en : nmid ≡ sets nodes.room 0 (held 4 nodes)) (ep : pmid ≡ sets places.room 0 (held 4 places)) (ec : cmid ≡ sets consts.room 0 (held 8 consts)) where
  pub ran_on_words : {n p c n' p' c' : MutBor (List ℕ)} {r : Result Made Refusal} → post n p c r n' p' c'
      → n.now ≡ take (whole 4 nodes.bytes) nmid → p.now ≡ take (whole 4 places.bytes) pmid → c.now ≡ take (whole 8 consts.bytes) cmid
      → {ns ps cs : List ℕ} → n'.now ≡ ns → p'.now ≡ ps → c'.now ≡ cs
      → length ns ≡ length (take (whole 4 nodes.bytes) nmid) → length ps ≡ length (take (whole 4 places.bytes) pmid) → length cs ≡ length (take (whole 8 consts.bytes) cmid)
      → {nout pout cout : List ℕ} {done : Bool} → done ≡ eqb (said_of_answer r).number 0
      → nout ≡ cond done (sets nodes.bytes 0 (spread 4 (take (whole 4 nodes.bytes) (ns ++ drop (whole 4 nodes.bytes) nmid)))) nodes.bytes
      → pout ≡ cond done (sets places.bytes 0 (spread 4 (take (whole 4 places.bytes) (ps ++ drop (whole 4 places.bytes) pmid)))) places.bytes
      → cout ≡ cond done (sets consts.bytes 0 (spread 8 (take (whole 8 consts.bytes) (cs ++ drop (whole 8 consts.bytes) cmid)))) consts.bytes
      → OnWords post nodes places consts r (lent nout (ns ++ drop (whole 4 nodes.bytes) nmid)) (lent pout (ps ++ drop (whole 4 places.bytes) pmid)) (lent cout (cs ++ drop (whole 8 consts.bytes) cmid))
  ran_on_words {n} {p} {c} {n'} {p'} {c'} {r} g hn hp hc {ns} {ps} {cs} an ap' ac ln lp lc d qn qp qc =
      let q : short_three nodes places consts ≡ false = rw (sym e ∙ h, sym j ∙ k) in
      let nodes_fit = first_fits nodes places e h in
      let places_fit = second_fits nodes places e h in
      let consts_fit = wide_fits consts j k in
      record {
        refused = λ t. absurd (true≢false (sym t ∙ q));
        ran = λ f. record {
          ns = n;
          ps = p;
          cs = c;
          ns' = n';
          ps' = p';
          cs' = c';
          nodes_held = hn ∙ lent_words 4 nodes nodes_fit en;
          places_held = hp ∙ lent_words 4 places places_fit ep;
          consts_held = hc ∙ lent_words 8 consts consts_fit ec;
          called = g;
          nodes_end = packed_after 4 nodes nodes_fit en ns ln (said_of_answer r) d qn ∙ ap (λ (l : List ℕ). packed_on 4 (said_of_answer r) l nodes) (sym an);
          places_end = packed_after 4 places places_fit ep ps lp (said_of_answer r) d qp ∙ ap (λ (l : List ℕ). packed_on 4 (said_of_answer r) l places) (sym ap');
          consts_end = packed_after 8 consts consts_fit ec cs lc (said_of_answer r) d qc ∙ ap (λ (l : List ℕ). packed_on 8 (said_of_answer r) l consts) (sym ac);
        };
      }

-- ---- roots

module _ (f : List ℕ → List ℕ → Rooting) (b : IrBuilder) (nodes roots : Lent) {z : Bool} (e : z ≡ short_tables nodes roots) (h : z ≡ false)
    {nmid tmid : List ℕ} (en : nmid ≡ sets nodes.room 0 (held 4 nodes)) (et : tmid ≡ sets roots.room 0 (held 4 roots)) where
  pub emit_done : {r : Result IrBuilder Refusal} {ts out : List ℕ} {done : Bool}
      → EmitGives (f (take (whole 4 nodes.bytes) nmid) (take (whole 4 roots.bytes) tmid)) b r ts
      → length ts ≡ length (take (whole 4 roots.bytes) tmid) → done ≡ eqb (said_of_emitted r).number 0
      → out ≡ cond done (sets roots.bytes 0 (spread 4 (take (whole 4 roots.bytes) (ts ++ drop (whole 4 roots.bytes) tmid)))) roots.bytes
      → EmitBytes (f (held 4 nodes) (held 4 roots)) b nodes roots r (lent nodes.bytes nmid) (lent out (ts ++ drop (whole 4 roots.bytes) tmid))
  emit_done {r} {ts} {out} {done} g lt d qt =
      let q = sym e ∙ h in
      let nodes_fit = first_fits nodes roots e h in
      let roots_fit = second_fits nodes roots e h in
      let o = f (held 4 nodes) (held 4 roots) in
      let g' : EmitGives o b r ts = rw (lent_words 4 nodes nodes_fit en, lent_words 4 roots roots_fit et) at g in
      record {
        said = rw q g'.said;
        builder = rw q g'.builder;
        nodes_end = rw (q, en);
        roots_end = rw q (packed_after 4 roots roots_fit et ts lt o.said (done_by d g'.said) qt ∙ ap (λ (l : List ℕ). packed_on 4 o.said l roots) g'.roots);
      }

-- ---- the gap report

module _ (roots out : Lent) {z : Bool} (e : z ≡ short_report roots out) (h : z ≡ false) where
  pub report_first_fits : whole 4 roots.bytes ≤ length roots.room
  report_first_fits = roomy 4 roots (or_left (tight 4 roots) (tight 8 out) (sym e ∙ h))

  pub report_second_fits : whole 8 out.bytes ≤ length out.room
  report_second_fits = roomy 8 out (or_right (tight 4 roots) (tight 8 out) (sym e ∙ h))

module _ (k : ℕ) (roots out : Lent) {z : Bool} (e : z ≡ short_report roots out) (h : z ≡ false)
    {tmid omid : List ℕ} (et : tmid ≡ sets roots.room 0 (held 4 roots)) (eo : omid ≡ sets out.room 0 (held 8 out)) where
  pub gaps_done : {r : Result ℕ Refusal} {os bytes : List ℕ} {done : Bool}
      → GapsAnswer (take (whole 4 roots.bytes) tmid) k (take (whole 8 out.bytes) omid) os r
      → length os ≡ length (take (whole 8 out.bytes) omid) → done ≡ is_ok r
      → bytes ≡ cond done (sets out.bytes 0 (spread 8 (take (whole 8 out.bytes) (os ++ drop (whole 8 out.bytes) omid)))) out.bytes
      → GapsBytes k roots out r (lent roots.bytes tmid) (lent bytes (os ++ drop (whole 8 out.bytes) omid))
  gaps_done {r} {os} {bytes} {done} g lo d qo =
      let q = sym e ∙ h in
      let roots_fit = report_first_fits roots out e h in
      let out_fit = report_second_fits roots out e h in
      let s = report_said k roots out in
      let g' : GapsAnswer (held 4 roots) k (held 8 out) os r = rw (lent_words 4 roots roots_fit et, lent_words 8 out out_fit eo) at g in
      record {
        said = rw q g'.said;
        roots_end = rw (q, et);
        out_end = rw q (packed_after 8 out out_fit eo os lo s (done_by (d ∙ is_ok_listed r) g'.said) qo ∙ ap (λ (l : List ℕ). packed_on 8 s l out) g'.written);
      }
