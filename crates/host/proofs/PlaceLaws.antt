-- The answer of a call on programs, taken apart: the number is its remainder by 256, and the place is what is left. By 8
-- and 9 every place that a call names has 48 bits.
-- Assumes nothing.
use mathlib.Core.Bool.{Bool, true, false, cond}
use mathlib.Core.List.{List, [], ◌∷◌, ◌++◌}
use Rattle.std.specs.Prelude.{Option, None, Some}
use mathlib.Core.Path.{◌≡◌, ap, ◌∙◌}
use Prim.Native.Nat.{ℕ, zero, suc, ◌/◌, ◌%◌, ◌<◌, ◌≤◌}
use native.Mathlib.Nat.{mod-eq_of_lt}
use native.Mathlib.Omega.{arith}
use lib.Dec.{lit<}
use lib.ListN.{length, get_or}
use borrow.Author.Tests.{leb-false}
use Rattle.laws.specs.Folds.{lowest, or_else}
use Rattle.laws.proofs.Cases.{by_test}
use Rattle.ir.specs.declared.program.Counts.{Counts}
use Rattle.ir.specs.declared.frame.Shape.{Shape}
use Rattle.ir.specs.Program.{Program, too_many_nodes, too_many_roots, ill_formed, check_rows, checked}
use Rattle.reads.specs.Reads.{ReadsAnswer, columns_of, reads_rows, reads_said}
use Rattle.ir.specs.Refusals.{Said, Row, row_at, found_at, first, gives}
use Rattle.ir.proofs.ProgramLaws.{few, few_roots}
use Rattle.evaluation.specs.declared.frame.Lengths.{Lengths}
use Rattle.values.specs.declared.frame.Limits.{Limits}
use Rattle.extension.specs.Tower.{goldilocks}
use Rattle.values.specs.Values.{values}
use Rattle.evaluation.specs.Evals.{base_word}
use Rattle.values.specs.Frame.{Lent, leaves, row_strides, node_outside, frame_limits, row_limits}
use Rattle.evaluation.specs.Evaluation.{memory_rows, form_rows, ext_root, prover_rest, prover_rows, verifier_rest, verifier_rows, row_shape, asked_row, row_rest, row_rows, lengths, ProverAnswer, VerifierAnswer, RowAnswer}
use Rattle.lower_parts.specs.Lower.{blob_of}
use Rattle.lower_parts.specs.Answer.{Lists, Output, lowering, lower_rows, lower_said, counts_of}
use Rattle.host_answer.specs.Answer.{answer_of}
use Rattle.host.specs.ProgramCalls.{CalledBase, CalledReads}
use Rattle.host_answer.specs.Called.{Called}

-- the places that 48 bits hold
abbrev places : ℕ
places = 281474976710656

-- a number of one byte, and a place of 48 bits
pub record Fits (s : Said) : Type 0 where
  pub number_low : s.number < 256
  pub place_low : s.place < places

-- both can be read back from an answer
pub record Parts (answer : ℕ) (s : Said) : Type 0 where
  pub number_is : answer % 256 ≡ s.number
  pub place_is : answer / 256 ≡ s.place

pub parts : (s : Said) → Fits s → Parts (answer_of s) s
parts s f =
    record {
      number_is = rw (mod-eq_of_lt f.place_low) (omega (arith, f.number_low));
      place_is = rw (mod-eq_of_lt f.place_low) (omega (arith, f.number_low));
    }

pub parts_of : {a : ℕ} (s : Said) → Fits s → a ≡ answer_of s → Parts a s
parts_of s f e = rw e (parts s f)

-- ---- rows, each where those before it do not hold

abbrev RowsFit : List Row → Type 0
RowsFit [] = Unit {0}
RowsFit (r ∷ rs) = (r.number < 256) × (r.place < places) × (r.holds ≡ false → RowsFit rs)

first_fits : (rows : List Row) (vs : List ℕ) → RowsFit rows → Fits (first rows (gives vs))
first_fits [] vs f = record { number_low = lit< tt; place_low = lit< tt }
first_fits (r ∷ rs) vs f =
    by_test r.holds (Fits (first (r ∷ rs) (gives vs)))
    (λ t. rw t (record { number_low = f.0; place_low = f.1 }))
    λ t. rw t (first_fits rs vs (f.2 t))

-- ---- the places that are named

found_or : (a b : Option ℕ) → found_at a < places → found_at b < places → found_at (or_else a b) < places
found_or None b p q = q
found_or (Some i) b p q = p

-- a place that is found is below the count
found_low : (t : ℕ → Bool) (n : ℕ) → n ≤ 4294967295 → found_at (lowest t n) < places
unfolding lowest
found_low t zero l = lit< tt
found_low t (suc n) l = found_or (lowest t n) (cond (t n) (Some n) None) (found_low t n (omega arith)) (here (t n))
  where
    here : (b : Bool) → found_at (cond b (Some n) None) < places
    here true = omega arith
    here false = lit< tt

module _ (c : Counts) (h : too_many_nodes c ≡ false) (k : too_many_roots c ≡ false) (nodes roots : List ℕ) where
  ill_formed_low : found_at (ill_formed c nodes roots) < places
  unfolding ill_formed
  ill_formed_low =
      found_or (lowest _ c.nodes) (lowest _ c.roots) (found_low _ c.nodes (omega (arith, (few c h).nodes))) (found_low _ c.roots (few_roots c k).roots)

  outside_low : (m : Limits) → found_at (lowest (node_outside m nodes) c.nodes) < places
  outside_low m = found_low (node_outside m nodes) c.nodes (omega (arith, (few c h).nodes))

  ext_root_low : found_at (ext_root c nodes roots) < places
  unfolding ext_root
  ext_root_low = found_low _ c.roots (few_roots c k).roots

  form_fit : (m : Limits) (rest : List Row) → RowsFit rest → RowsFit (form_rows c m nodes roots ++ rest)
  form_fit m rest f = (lit< tt, ill_formed_low, λ _. (lit< tt, outside_low m, λ _. f))

memory_fit : (c : Counts) (s : Shape) (limbs : ℕ) (l : Lengths) (rest : List Row) → (too_many_nodes c ≡ false → too_many_roots c ≡ false → RowsFit rest) → RowsFit (memory_rows c s limbs l ++ rest)
memory_fit c s limbs l rest f =
    (lit< tt, lit< tt, λ h. (lit< tt, lit< tt, λ k. (lit< tt, lit< tt, λ _. (lit< tt, lit< tt, λ _. f h k))))

-- ---- what each call says

pub check_fits : (p : Program) → Fits (checked p)
unfolding checked
check_fits p =
    first_fits (check_rows p) []
    (lit< tt, lit< tt, λ h. (lit< tt, lit< tt, λ k. (lit< tt, lit< tt, λ _. (lit< tt, ill_formed_low p.counts h k p.nodes p.roots, λ _. tt))))

pub reads_fit : (p : Program) (width room : ℕ) → Fits (reads_said p width room)
unfolding reads_said
reads_fit p width room =
    first_fits (reads_rows p width room) (length (columns_of p width) ∷ [])
    (lit< tt, lit< tt, λ h. (lit< tt, lit< tt, λ k. (lit< tt, lit< tt, λ _. (lit< tt, lit< tt, λ _. (lit< tt, ill_formed_low p.counts h k p.nodes p.roots, λ _. (lit< tt, lit< tt, λ _. tt))))))

pub lower_fits : (p : Program) (b : Lists) (o : Output) → Fits (lower_said p b o)
unfolding lower_said
lower_fits p b o =
    first_fits (lower_rows p b o) (counts_of (blob_of p.counts (lowering p)).counts)
    (lit< tt, lit< tt, λ h. (lit< tt, lit< tt, λ k. (lit< tt, lit< tt, λ _. (lit< tt, ill_formed_low p.counts h k p.nodes p.roots, λ _. (lit< tt, lit< tt, λ _. tt)))))

module _ (c : Counts) (l : Lengths) (m : Limits) (nodes roots : List ℕ) where
  pub prover_fits : (s : Shape) (base ext : ℕ) → Fits (first (prover_rows c s l base ext m nodes roots) (gives []))
  prover_fits s base ext =
      first_fits (prover_rows c s l base ext m nodes roots) []
      (memory_fit c s 1 l (prover_rest c base ext m nodes roots) λ h k. (lit< tt, lit< tt, λ _. form_fit c h k nodes roots m (row_at (ext_root c nodes roots) 12 ∷ []) (lit< tt, ext_root_low c h k nodes roots, λ _. tt)))

  pub verifier_fits : (s : Shape) (ext : ℕ) → Fits (first (verifier_rows c s l ext m nodes roots) (gives []))
  verifier_fits s ext =
      first_fits (verifier_rows c s l ext m nodes roots) []
      (memory_fit c s 3 l (verifier_rest c ext m nodes roots) λ h k. (lit< tt, lit< tt, λ _. form_fit c h k nodes roots m [] tt))

  -- the asked constraint's number is its own place: by 6 it is below the root count
  pub row_fits : (width asked : ℕ) (vs : List ℕ) → Fits (first (row_rows c width asked l m nodes roots) (gives vs))
  row_fits width asked vs =
      first_fits (row_rows c width asked l m nodes roots) vs
      (memory_fit c (row_shape width) 1 l (row_rest c asked m nodes roots) λ h k. (lit< tt, lit< tt, λ q. form_fit c h k nodes roots m (asked_row nodes roots asked ∷ []) (lit< tt, omega (arith, leb-false c.roots asked q, (few_roots c k).roots), λ _. tt)))

-- ---- each call's answer

pub cir_check_program_parts : (p : Program) {a : ℕ} → a ≡ answer_of (checked p) → Parts a (checked p)
cir_check_program_parts p e = parts_of (checked p) (check_fits p) e

pub cir_next_row_trace_reads_parts : (p : Program) (width : ℕ) {out out' : List ℕ} {a count count' : ℕ} → CalledReads (λ o. ReadsAnswer p width out out' o) a count count' → Parts a (reads_said p width (length out))
cir_next_row_trace_reads_parts p width {out} f =
    parts_of (reads_said p width (length out)) (reads_fit p width (length out)) (f.answered ∙ ap answer_of f.promised.said)

module _ (c : Counts) (nodes roots : List ℕ) (l : Lent) {a : ℕ} {ext ext' room room' : List ℕ} where
  pub cir_eval_program_parts : (s : Shape) {base base' : List ℕ} → Called (λ o. ProverAnswer c s nodes roots l o base base' ext ext' room room') a → Parts a (first (prover_rows c s (lengths nodes roots l room) (length base) (length ext) (frame_limits s) nodes roots) (gives []))
  cir_eval_program_parts s {base} f =
      parts_of _ (prover_fits c (lengths nodes roots l room) (frame_limits s) nodes roots s (length base) (length ext)) (f.answered ∙ ap answer_of f.promised.said)

  pub cir_eval_program_verifier_parts : (s : Shape) → Called (λ o. VerifierAnswer c s nodes roots l o ext ext' room room') a → Parts a (first (verifier_rows c s (lengths nodes roots l room) (length ext) (frame_limits s) nodes roots) (gives []))
  cir_eval_program_verifier_parts s f =
      parts_of _ (verifier_fits c (lengths nodes roots l room) (frame_limits s) nodes roots s (length ext)) (f.answered ∙ ap answer_of f.promised.said)

pub cir_eval_program_base_parts : (c : Counts) (width asked : ℕ) (nodes roots : List ℕ) (l : Lent) {room room' : List ℕ} {a value value' : ℕ} → CalledBase (λ o. RowAnswer c width asked nodes roots l o room room') a value value' → Parts a (first (row_rows c width asked (lengths nodes roots l room) (row_limits width) nodes roots) (gives (base_word (values goldilocks (leaves row_strides l) nodes c.nodes (get_or roots asked 0)) ∷ [])))
cir_eval_program_base_parts c width asked nodes roots l {room} f =
    parts_of _ (row_fits c (lengths nodes roots l room) (row_limits width) nodes roots width asked _) (f.answered ∙ ap answer_of f.promised.said)
