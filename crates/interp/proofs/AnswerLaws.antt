-- From the refusals' answer and the evaluation to an evaluator's promise.
-- Assumes nothing.
use Rattle.std.specs.Prelude.{Result, Ok, Err}
use Rattle.evaluation.proofs.RefuseLaws.{any_append, MemoryOk, memory_ok, FormOk, form_ok_lem}
use mathlib.Core.Bool.{true, false, ◌&&◌}
use mathlib.Core.List.{List, [], ◌∷◌, ◌++◌}
use mathlib.Core.Path.{◌≡◌, refl, sym, ap, ◌∙◌}
use Prim.Native.Nat.{ℕ, ◌+◌, ◌*◌, ◌<◌, ◌≤◌, min}
use native.Mathlib.Omega.{arith}
use lib.Dec.{leb, ltb}
use lib.ListN.{length, get_or}
use borrow.Author.Tests.{leb-false, ltb-false, lt-ltb}
use Rattle.laws.proofs.Tests.{clash, or_left, or_right}
use Rattle.ir.specs.declared.program.Counts.{Counts}
use Rattle.ir.specs.declared.frame.Shape.{Shape}
use Rattle.ir.specs.declared.refusal.Refusal.{Refusal}
use Rattle.ir.specs.Program.{num_base_of}
use Rattle.ir.specs.Refusals.{Row, row_at, gives, said_of, said_of_outcome, first, any_holds}
use Rattle.ir.proofs.RefusalLaws.{numbered, done_rows, loud_rows, first_any, first_none}
use Rattle.values.specs.declared.frame.Limits.{Limits}
use Rattle.evaluation.specs.declared.frame.Lengths.{Lengths}
use Rattle.values.specs.declared.frame.Strides.{Strides}
use Rattle.values.specs.Values.{Value}
use Rattle.values.specs.Frame.{Lent, prover_strides, verifier_strides, row_strides, frame_limits, row_limits}
use Rattle.values.specs.Operations.{Ready}
use Rattle.field.specs.Base.{Least}
use Rattle.evaluation.specs.Evals.{base_word}
use Rattle.values.specs.Room.{RoomHolds}
use Rattle.evaluation.specs.Writes.{RootsIn, Completes}
use Rattle.evaluation.specs.Evaluation.{memory_rows, form_rows, short_evals, ext_root, prover_rest, prover_rows, verifier_rest, verifier_rows, row_shape, asked_row, row_rest, row_rows, lengths, Evaluates, VerifierEvaluates, RowEvaluates}
use Rattle.evaluation.proofs.EvalLaws.{word_is}
use Rattle.values.proofs.ReadyLaws.{ready, prover_fits, verifier_fits, row_fits}

-- ---- the promise, refused and done

-- no row holds
pub answer_quiet : (rows : List Row) {env : ℕ → Value ℕ (List ℕ)} {n leading count : ℕ} {roots base base' ext ext' room room' : List ℕ} → any_holds rows ≡ false → Completes env n leading count roots base base' ext ext' room room' → Evaluates rows env n leading count roots (Ok tt) base base' ext ext' room room'
answer_quiet rows q w =
    record { said = sym (first_none rows (gives []) q); base_evals = rw q w.base_written; ext_evals = rw q w.ext_written; room_kept = λ t. clash t q; room_holds = λ t. w.room_holds }

module _ (rows : List Row) {env : ℕ → Value ℕ (List ℕ)} {n leading count : ℕ} {roots : List ℕ} {o : Result (Unit {0}) Refusal} (h : said_of_outcome o ≡ first rows (gives [])) where
  pub answer_refused : {why : Refusal} {base ext room : List ℕ} → o ≡ Err why → Evaluates rows env n leading count roots (Err why) base base ext ext room room
  answer_refused e =
      let l = loud_rows rows e h in
      record { said = rw e at h; base_evals = rw l; ext_evals = rw l; room_kept = λ q. refl; room_holds = λ q. clash l q }

  pub answer_done : {base base' ext ext' room room' : List ℕ} → numbered rows ≡ true → o ≡ Ok tt → Completes env n leading count roots base base' ext ext' room room' → Evaluates rows env n leading count roots (Ok tt) base base' ext ext' room room'
  answer_done m e w = answer_quiet rows (done_rows rows m e h) w

-- ---- rows in two parts

pub first_part : (a b : List Row) → any_holds (a ++ b) ≡ false → any_holds a ≡ false
first_part a b h = or_left (any_holds a) (any_holds b) (sym (any_append a b) ∙ h)

pub second_part : (a b : List Row) → any_holds (a ++ b) ≡ false → any_holds b ≡ false
second_part a b h = or_right (any_holds a) (any_holds b) (sym (any_append a b) ∙ h)

-- ---- the plain evaluator

pub record ProverOk (c : Counts) (s : Shape) (l : Lengths) (base ext : ℕ) (m : Limits) (nodes roots : List ℕ) : Type 0 where
  pub memory : MemoryOk c s 1 l
  pub evals : short_evals c base ext ≡ false
  pub form : FormOk c m nodes roots

pub prover_ok : (c : Counts) (s : Shape) (l : Lengths) (base ext : ℕ) (m : Limits) (nodes roots : List ℕ) → any_holds (prover_rows c s l base ext m nodes roots) ≡ false → ProverOk c s l base ext m nodes roots
prover_ok c s l base ext m nodes roots h =
    let rest = prover_rest c base ext m nodes roots in
    let last = row_at (ext_root c nodes roots) 12 ∷ [] in
    let r = second_part (memory_rows c s 1 l) rest h in
    let e = short_evals c base ext in
    let f = any_holds (form_rows c m nodes roots ++ last) in
    record {
      memory = memory_ok c s 1 l (first_part (memory_rows c s 1 l) rest h);
      evals = or_left e f r;
      form = form_ok_lem c m nodes roots (first_part (form_rows c m nodes roots) last (or_right e f r));
    }

-- what the roots ask of the room and of the eval buffers
roots_in : (c : Counts) (room base ext : ℕ) (roots : List ℕ) → c.roots ≤ length roots → ((r : ℕ) → r < c.roots → get_or roots r 0 < c.nodes) → 4 * c.nodes ≤ room → short_evals c base ext ≡ false → RootsIn c.roots (num_base_of c) roots room base ext
unfolding short_evals
roots_in c room base ext roots a b d h =
    let need = min (num_base_of c) c.roots in
    let left = ltb base need in
    let right = ltb (num_base_of c) c.roots && ltb ext (3 * c.roots) in
    let low : need ≤ base = ltb-false base need (or_left left right h) in
    record {
      roots_long = a;
      root = λ r q.
          let t = b r q in
          record {
            held = omega arith;
            base_place = λ u. both_below (num_base_of c) c.roots base r u q low;
            ext_place = λ u.
                let g : ltb ext (3 * c.roots) ≡ false = rw (lt-ltb (num_base_of c) c.roots (omega arith)) at (or_right left right h) in
                let z = ltb-false ext (3 * c.roots) g in omega arith;
          };
    }
  where
    both_below : (x y z r : ℕ) → r < x → r < y → min x y ≤ z → r < z
    both_below x y z r u q l = omega arith

-- what an evaluation asks
abbrev pub Asked : Strides → Counts → ℕ → (nodes roots : List ℕ) → Lent → (base ext room : ℕ) → Type 0
Asked t c leading nodes roots l base ext room =
    Ready t nodes c.nodes l room × RootsIn c.roots leading roots room base ext × ((r : ℕ) → r < c.roots → get_or roots r 0 < c.nodes)

pub prover_asked : (c : Counts) (s : Shape) (nodes roots : List ℕ) (l : Lent) (base ext room : List ℕ) → ProverOk c s (lengths nodes roots l room) (length base) (length ext) (frame_limits s) nodes roots → Asked (prover_strides s) c (num_base_of c) nodes roots l (length base) (length ext) (length room)
prover_asked c s nodes roots l base ext room k =
    let m = k.memory in
    let t = m.tables_long in
    let f = m.frame_long in
    let w = k.form.formed in (
      ready (prover_strides s) (frame_limits s) c l (prover_fits s c l t.bases_long t.exts_long f.aux_long f.challenges_long f.alphas_long f.main_long) nodes roots (length room) w k.form.inside t.nodes_long m.room_long,
      roots_in c (length room) (length base) (length ext) roots t.roots_long w.root m.room_long k.evals,
      w.root,
    )

-- ---- the verifier's

module _ (rows : List Row) {env : ℕ → Value ℕ (List ℕ)} {n count : ℕ} {roots : List ℕ} {o : Result (Unit {0}) Refusal} (h : said_of_outcome o ≡ first rows (gives [])) where
  pub verifier_refused : {why : Refusal} {ext room : List ℕ} → o ≡ Err why → VerifierEvaluates rows env n count roots (Err why) ext ext room room
  verifier_refused e =
      let l = loud_rows rows e h in
      record { said = rw e at h; ext_evals = rw l; room_kept = λ q. refl; room_holds = λ q. clash l q }

  pub verifier_done : {base base' ext ext' room room' : List ℕ} → numbered rows ≡ true → o ≡ Ok tt → Completes env n 0 count roots base base' ext ext' room room' → VerifierEvaluates rows env n count roots (Ok tt) ext ext' room room'
  verifier_done m e w =
      let q = done_rows rows m e h in
      record { said = rw e at h; ext_evals = rw q w.ext_written; room_kept = λ t. clash t q; room_holds = λ t. w.room_holds }

pub verifier_asked : (c : Counts) (s : Shape) (nodes roots : List ℕ) (l : Lent) (base : ℕ) (ext room : List ℕ) → any_holds (verifier_rows c s (lengths nodes roots l room) (length ext) (frame_limits s) nodes roots) ≡ false → Asked (verifier_strides s) c 0 nodes roots l base (length ext) (length room)
verifier_asked c s nodes roots l base ext room h =
    let k = lengths nodes roots l room in
    let rest = verifier_rest c (length ext) (frame_limits s) nodes roots in
    let r = second_part (memory_rows c s 3 k) rest h in
    let e = ltb (length ext) (3 * c.roots) in
    let f = any_holds (form_rows c (frame_limits s) nodes roots) in
    let m = memory_ok c s 3 k (first_part (memory_rows c s 3 k) rest h) in
    let o = form_ok_lem c (frame_limits s) nodes roots (or_right e f r) in
    let z = ltb-false (length ext) (3 * c.roots) (or_left e f r) in
    let t = m.tables_long in
    let g = m.frame_long in
    let d = m.room_long in (
      ready (verifier_strides s) (frame_limits s) c l (verifier_fits s c l t.bases_long t.exts_long g.aux_long g.challenges_long g.alphas_long g.main_long) nodes roots (length room) o.formed o.inside t.nodes_long d,
      record { roots_long = t.roots_long; root = λ i q. let b = o.formed.root i q in record { held = omega arith; base_place = λ u. absurd (omega arith); ext_place = λ u. omega arith } },
      o.formed.root,
    )

-- ---- one row

module _ (rows : List Row) {env : ℕ → Value ℕ (List ℕ)} {n asked : ℕ} {roots : List ℕ} {o : Result (Unit {0}) Refusal} (h : said_of_outcome o ≡ first rows (gives [])) where
  pub row_refused : {why : Refusal} {room : List ℕ} → o ≡ Err why → RowEvaluates rows env n asked roots (Err why) room room
  row_refused {why} e =
      let l = loud_rows rows e h in
      let q : said_of why ≡ first rows (gives []) = rw e at h in
      record { said = q ∙ first_any rows (gives []) (gives (base_word (env (get_or roots asked 0)) ∷ [])) l; room_kept = λ t. refl; room_holds = λ t. clash l t }

  pub row_done : {v : ℕ} {room room' : List ℕ} → numbered rows ≡ true → o ≡ Ok tt → RoomHolds env n room room' → get_or roots asked 0 < n → Least (get_or room' (4 * get_or roots asked 0 + 1) 0) v → RowEvaluates rows env n asked roots (Ok v) room room'
  row_done {v} {room} {room'} m e w b i =
      let q = done_rows rows m e h in
      let r = get_or roots asked 0 in
      record {
        said = ap (λ (x : ℕ). gives (x ∷ [])) (word_is room' r v (env r) i (w.node r b).stands) ∙ sym (first_none rows (gives (base_word (env r) ∷ [])) q);
        room_kept = λ t. clash t q;
        room_holds = λ t. w;
      }

-- what the pass over one row asks, and where its root stands
pub record RowOk (c : Counts) (asked : ℕ) (nodes roots : List ℕ) (l : Lent) (room : ℕ) : Type 0 where
  pub pass : Ready row_strides nodes c.nodes l room
  pub asked_below : asked < c.roots
  pub roots_long : c.roots ≤ length roots
  pub root_below : get_or roots asked 0 < c.nodes
  pub room_long : 4 * c.nodes ≤ room

pub row_ok : (c : Counts) (width asked : ℕ) (nodes roots : List ℕ) (l : Lent) (room : List ℕ) → any_holds (row_rows c width asked (lengths nodes roots l room) (row_limits width) nodes roots) ≡ false → RowOk c asked nodes roots l (length room)
row_ok c width asked nodes roots l room h =
    let k = lengths nodes roots l room in
    let rest = row_rest c asked (row_limits width) nodes roots in
    let last = asked_row nodes roots asked ∷ [] in
    let r = second_part (memory_rows c (row_shape width) 1 k) rest h in
    let e = leb c.roots asked in
    let f = any_holds (form_rows c (row_limits width) nodes roots ++ last) in
    let m = memory_ok c (row_shape width) 1 k (first_part (memory_rows c (row_shape width) 1 k) rest h) in
    let o = form_ok_lem c (row_limits width) nodes roots (first_part (form_rows c (row_limits width) nodes roots) last (or_right e f r)) in
    let t = m.tables_long in
    let g = m.frame_long.main_long in
    let b = leb-false c.roots asked (or_left e f r) in
    record {
      pass = ready row_strides (row_limits width) c l (row_fits width c l t.bases_long t.exts_long (omega arith)) nodes roots (length room) o.formed o.inside t.nodes_long m.room_long;
      asked_below = b;
      roots_long = t.roots_long;
      root_below = o.formed.root asked b;
      room_long = m.room_long;
    }

-- the same where the refusals' answer is that none holds
pub row_ready : (c : Counts) (width asked : ℕ) (nodes roots : List ℕ) (l : Lent) (room : List ℕ) {o : Result (Unit {0}) Refusal} → said_of_outcome o ≡ first (row_rows c width asked (lengths nodes roots l room) (row_limits width) nodes roots) (gives []) → o ≡ Ok tt → RowOk c asked nodes roots l (length room)
row_ready c width asked nodes roots l room h e = row_ok c width asked nodes roots l room (done_rows (row_rows c width asked (lengths nodes roots l room) (row_limits width) nodes roots) refl e h)
