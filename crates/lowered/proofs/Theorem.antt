-- Demand 3, second half: what the plain evaluator answers lowers to a blob that passes the check, and whose walk leaves the same
-- evals. The two statements are `LoweringIsFaithful` and `AnyLivenessIsFaithful` of specs/Faithful.antt.
-- Assumes nothing.
use Rattle.ir.specs.declared.refusal.Refusal.{Refusal}
use mathlib.Core.Bool.{false}
use mathlib.Core.List.{List, []}
use Rattle.std.specs.Prelude.{None, Some, Result, Ok}
use mathlib.Core.Path.{◌≡◌, refl, sym, ap, ◌∙◌}
use Prim.Native.Nat.{ℕ, zero, suc, ◌*◌, ◌<◌, ◌≤◌}
use native.Mathlib.Omega.{arith}
use lib.ListN.{length, get_or, drop, length-append}
use borrow.Author.Tests.{le-ltb}
use Rattle.laws.specs.Folds.{lowest}
use Rattle.laws.proofs.Tabulate.{length_tabulate}
use Rattle.extension.specs.Tower.{goldilocks}
use Rattle.ir.specs.declared.program.Counts.{Counts}
use Rattle.ir.specs.declared.frame.Shape.{Shape}
use Rattle.ir.specs.Program.{Program, num_base_of, too_many_nodes}
use Rattle.ir.specs.Refusals.{Said, first, gives, any_holds}
use Rattle.ir.specs.WellFormed.{WellFormed}
use Rattle.ir.proofs.ProgramLaws.{few}
use Rattle.ir.proofs.RefusalLaws.{done_quiet, first_none}
use Rattle.ir.proofs.Single.{outcome_single}
use Rattle.ir.proofs.WellFormedLaws.{well_formed}
use Rattle.values.specs.Frame.{Lent, leaves, prover_strides, node_outside, frame_limits}
use Rattle.evaluation.specs.Evals.{base_evals_of, ext_evals_of}
use Rattle.evaluation.specs.Evaluation.{lengths, ProverAnswer}
use Rattle.evaluation.specs.Evaluation as Evaluation
use Rattle.values.proofs.RunLaws.{value_stays}
use Rattle.blob_rules.specs.declared.blob.BlobCounts.{BlobCounts}
use Rattle.blob_rules.specs.Blob.{Blob}
use Rattle.device.specs.StepRule.{Contents, root_held}
use Rattle.blob_rules.specs.Check.{short_check, legal_rows, slot_count, CheckAnswer}
use Rattle.slots.specs.Slots.{slot_words}
use Rattle.slots.specs.Trace.{contents}
use Rattle.walk.specs.Walk.{short_frame, short_walk, short_evals, frame_lengths, walk_rows, value_or, slots_or, root_values, WalkAnswer}
use Rattle.liveness.specs.Liveness.{Liveness, live}
use Rattle.scan_parts.specs.Scan.{scan}
use Rattle.lower_parts.specs.Lower.{lowered, blob_of}
use Rattle.lower_parts.specs.Lower as Lower
use Rattle.lower_parts.specs.Answer.{Lists, Output, lowering, short_lists, short_output, lower_rows, lower_said, said_of_lowering, counts_of, over, written, LowerAnswer}
use Rattle.scan.proofs.LiveLaws.{live_sound}
use Rattle.lower.proofs.Single.{lowering_single}
use Rattle.scan.proofs.WordLaws.{flat_length}
use Rattle.lowered.specs.Faithful.{with_constants, evaluated, leaves_of, Faithful, LoweringIsFaithful, AnyLivenessIsFaithful}
use Rattle.lowered.proofs.LeafLaws.{leaf_fits, leaf_same}
use Rattle.lowered.proofs.PassLaws.{Begin, end_slots, end_root, check_passes}
use Rattle.lowered.proofs.PutLaws.{room_of}
use Rattle.lowered.proofs.QuietLaws.{Answered, answered, quiet, tables, frame_long, leading_base}
use Rattle.lowered.proofs.SameLaws.{over_at, instr_over, values_same, base_evals_same, ext_evals_same}
use Rattle.lowered.proofs.SimLaws.{Fits}

over_long : (ws old : List ℕ) (n : ℕ) → n ≤ length ws → n ≤ length (over ws old)
over_long ws old n h = omega (arith, length-append ws (drop (length ws) old))

-- a frame that has what the leaves name has room for what any liveness makes of the program
lowered_fits : (c : Counts) (nodes roots bases exts : List ℕ) (s : Shape) (v : Liveness) → too_many_nodes c ≡ false → WellFormed c nodes roots → lowest (node_outside (frame_limits s) nodes) c.nodes ≡ None
    → Fits c nodes v (blob_of c (lowered c nodes roots bases exts v)).counts s
lowered_fits c nodes roots bases exts s v h₈ formed inside =
    let f = few c h₈ in
    record {
      few = f.nodes;
      leaf = λ i h t. leaf_fits c nodes roots s formed inside i h (blob_of c (lowered c nodes roots bases exts v)).counts refl refl f.bases f.exts t;
      slots = room_is;
    }
  where
    room_is : (d : ℕ) → d < 2 → (scan nodes v c.nodes).next d ≤ room_of (blob_of c (lowered c nodes roots bases exts v)).counts d
    room_is zero h = omega arith
    room_is (suc zero) h = omega arith
    room_is (suc (suc d)) h = absurd (omega arith)

module _ (q : Program) (s : Shape) (l : Lent) {base base₁ ext ext₁ room room₁ : List ℕ}
    (prover : ProverAnswer q.counts s q.nodes q.roots (with_constants q.bases q.exts l) (Ok tt) base base₁ ext ext₁ room room₁) where
  abbrev c : Counts
  c = q.counts

  abbrev made : Lower.Lowered
  made = lowering q

  abbrev counts : BlobCounts
  counts = (blob_of c made).counts

  abbrev v : Liveness
  v = live c q.nodes q.roots

  known : Answered c s (lengths q.nodes q.roots (with_constants q.bases q.exts l) room) (length base) (length ext) q.nodes q.roots
  known = answered c s q.nodes q.roots (with_constants q.bases q.exts l) prover

  formed : WellFormed c q.nodes q.roots
  formed = well_formed c q.nodes q.roots known.formed

  fits : Fits c q.nodes v counts s
  fits = lowered_fits c q.nodes q.roots q.bases q.exts s v known.few formed known.inside

  -- the tables that `lower` leaves
  module _ (o : Output) where
    abbrev left : Blob
    left = record { counts = counts; nodes = over made.nodes o.nodes; roots = over made.roots o.roots }

    begin : Begin c made (over made.nodes o.nodes) (over made.roots o.roots)
    begin =
        record {
          node = λ i h. instr_over made.nodes o.nodes i (omega (arith, flat_length (scan q.nodes v c.nodes).out));
          root = λ r h. over_at made.roots o.roots r (rw (length_tabulate c.roots _) h);
        }

    nodes_long : 4 * counts.nodes ≤ length left.nodes
    nodes_long = over_long made.nodes o.nodes (4 * counts.nodes) (omega (arith, flat_length (scan q.nodes v c.nodes).out))

    roots_long : counts.roots ≤ length left.roots
    roots_long = over_long made.roots o.roots c.roots (rw (length_tabulate c.roots _) (omega arith))

    -- ---- the check

    legal : first (legal_rows left s) (gives []) ≡ gives []
    legal =
        check_passes goldilocks (contents s.steps 0 s l) c q.nodes q.roots q.bases q.exts s v formed (live_sound c q.nodes q.roots)
        left.nodes left.roots begin fits (leading_base c q.nodes q.roots known.leading)

    long_check : (marks : ℕ) → slot_count counts ≤ marks → short_check counts (length left.nodes) (length left.roots) marks ≡ false
    unfolding short_check
    long_check marks h = rw (le-ltb _ _ nodes_long, le-ltb _ _ roots_long, le-ltb _ _ h) refl

    passed : (r : Result (Unit {0}) Refusal) (marks marks' : List ℕ) → slot_count counts ≤ length marks → CheckAnswer left s r marks marks' → r ≡ Ok tt
    passed r marks marks' h a = outcome_single r (Ok tt) (a.said ∙ rw (known.shape, long_check (length marks) h) legal)

    -- ---- the walk

    abbrev frame : Lent
    frame = with_constants (over made.bases o.bases) (over made.exts o.exts) l

    abbrev read : Contents ℕ (List ℕ)
    read = contents s.steps 0 s frame

    long_frame : short_frame counts s (frame_lengths frame) ≡ false
    unfolding short_frame
    long_frame =
        let f = frame_long known in
        rw (
          le-ltb _ _ (over_long made.bases o.bases c.bases (rw (length_tabulate c.bases _) (omega arith))),
          le-ltb _ _ (over_long made.exts o.exts (3 * c.exts) (rw (length_tabulate (3 * c.exts) _) (omega arith))),
          le-ltb _ _ f.0,
          le-ltb _ _ f.1,
          le-ltb _ _ f.2,
          le-ltb _ _ f.3,
        )
        refl

    long_walk : (marks slots : ℕ) → slot_count counts ≤ marks → slot_words counts ≤ slots → short_walk counts s (frame_lengths frame) (length left.nodes) (length left.roots) marks slots ≡ false
    unfolding short_walk
    long_walk marks slots h k = rw (long_check marks h, long_frame, le-ltb _ _ k) refl

    legal_quiet : any_holds (legal_rows left s) ≡ false
    legal_quiet = done_quiet [] (legal_rows left s) refl (ap (λ (t : Said). t.number) legal)

    long_evals : (base₀ ext₀ : ℕ) → Evaluation.short_evals c base₀ ext₀ ≡ false → short_evals counts base₀ ext₀ ≡ false
    unfolding short_evals Evaluation.short_evals
    long_evals base₀ ext₀ e = e

    walk_quiet : (marks slots base₀ ext₀ : ℕ) → slot_count counts ≤ marks → slot_words counts ≤ slots → Evaluation.short_evals c base₀ ext₀ ≡ false → any_holds (walk_rows left s frame marks slots base₀ ext₀) ≡ false
    walk_quiet marks slots base₀ ext₀ h k e = rw (known.shape, long_walk marks slots h k, long_evals base₀ ext₀ e) legal_quiet

    -- ---- the values

    same_values : (r : ℕ) → r < c.roots → root_values left s frame (get_or left.roots r 0) ≡ evaluated q s l (get_or q.roots r 0)
    same_values r h =
        let sound = live_sound c q.nodes q.roots in
        let at = end_slots goldilocks read c q.nodes q.roots q.bases q.exts s v formed sound left.nodes left.roots begin fits (leading_base c q.nodes q.roots known.leading) in
        let named = end_root goldilocks read c q.nodes q.roots q.bases q.exts s v formed sound left.nodes left.roots begin fits (leading_base c q.nodes q.roots known.leading) r h in
        let j = get_or q.roots r 0 in
        ap (λ z. value_or (root_held (slots_or z) (get_or left.roots r 0))) at
        ∙ ap value_or named
        ∙ sym (value_stays goldilocks (leaves_of read) q.nodes j c.nodes (formed.root r h))
        ∙ ap (λ f. f j) (values_same goldilocks (leaves_of read) (leaves (prover_strides s) (with_constants q.bases q.exts l)) q.nodes c.nodes
        (λ i b t. leaf_same c q.nodes q.roots s formed known.inside i b l q.bases q.exts o.bases o.exts t))

    walked : (r : Result (Unit {0}) Refusal) (base₀ base₂ ext₀ ext₂ marks marks' slots slots' : List ℕ) → slot_count counts ≤ length marks → slot_words counts ≤ length slots
        → Evaluation.short_evals c (length base₀) (length ext₀) ≡ false
        → WalkAnswer left s frame r base₀ base₂ ext₀ ext₂ marks marks' slots slots'
        → (r ≡ Ok tt) × (base₂ ≡ base_evals_of (evaluated q s l) q.roots (num_base_of c) c.roots base₀) × (ext₂ ≡ ext_evals_of (evaluated q s l) q.roots (num_base_of c) c.roots ext₀)
    walked r base₀ base₂ ext₀ ext₂ marks marks' slots slots' h k e a =
        let z = walk_quiet (length marks) (length slots) (length base₀) (length ext₀) h k e in (
          outcome_single r (Ok tt) (a.said ∙ first_none (walk_rows left s frame (length marks) (length slots) (length base₀) (length ext₀)) (gives []) z),
          (rw z at a.base_evals) ∙ base_evals_same (root_values left s frame) (evaluated q s l) left.roots q.roots (num_base_of c) c.roots base₀ same_values,
          (rw z at a.ext_evals) ∙ ext_evals_same (root_values left s frame) (evaluated q s l) left.roots q.roots (num_base_of c) c.roots ext₀ same_values,
        )

    agreed : (r : Result (Unit {0}) Refusal) (base₂ ext₂ marks marks' slots slots' : List ℕ) → slot_count counts ≤ length marks → slot_words counts ≤ length slots
        → WalkAnswer left s frame r base base₂ ext ext₂ marks marks' slots slots' → (r ≡ Ok tt) × (base₂ ≡ base₁) × (ext₂ ≡ ext₁)
    agreed r base₂ ext₂ marks marks' slots slots' h k a =
        let w = walked r base base₂ ext ext₂ marks marks' slots slots' h k known.evals a in
        let y = quiet c s q.nodes q.roots (with_constants q.bases q.exts l) prover in
        (w.0, w.1 ∙ sym (rw y at prover.base_evals), w.2 ∙ sym (rw y at prover.ext_evals))

  -- ---- lowering

  module _ (b : Lists) (o : Output) where
    lower_quiet : short_lists c.nodes b ≡ false → short_output made o ≡ false → lower_said q b o ≡ gives (counts_of counts)
    unfolding lower_said
    lower_quiet h k = rw (known.few, known.few_roots, tables known, h, known.formed, k) refl

    -- an answer of 0 has the definition's counts
    done_counts : (k : BlobCounts) → gives (counts_of k) ≡ lower_said q b o → k ≡ counts
    unfolding lower_said
    done_counts k e =
        let rows = lower_rows q b o in
        let z = done_quiet (counts_of counts) rows refl (ap (λ (t : Said). t.number) (sym e)) in
        ap (λ (t : Said). back t.values) (e ∙ first_none rows (gives (counts_of counts)) z)
      where
        back : List ℕ → BlobCounts
        back w =
            record {
              nodes = get_or w 0 0;
              bases = get_or w 1 0;
              exts = get_or w 2 0;
              roots = get_or w 3 0;
              num_base = get_or w 4 0;
              base_slots = get_or w 5 0;
              ext_slots = get_or w 6 0;
            }

    module _ {a : Result BlobCounts Refusal} {b' : Lists} {o' : Output} (answer : LowerAnswer q b o a b' o') where
      made_counts : (k : BlobCounts) → a ≡ Ok k → k ≡ counts
      made_counts k e = done_counts k (ap said_of_lowering (sym e) ∙ answer.said)

      made_words : (k : BlobCounts) → a ≡ Ok k → o' ≡ written made o
      made_words k e =
          let z : lower_said q b o ≡ gives (counts_of k) = sym answer.said ∙ ap said_of_lowering e in rw z at answer.wrote

      faithful : Faithful q s l base base₁ ext ext₁ b o a o'
      faithful =
          record {
            lowers = λ h k. lowering_single a (Ok counts) (answer.said ∙ lower_quiet h k);
            passes = λ k e r marks marks'. rw (made_counts k e, made_words k e) (passed o r marks marks');
            walks = λ k e r base₀ base₂ ext₀ ext₂ marks marks' slots slots'. rw (made_counts k e, made_words k e) (walked o r base₀ base₂ ext₀ ext₂ marks marks' slots slots');
            agrees = λ k e r base₂ ext₂ marks marks' slots slots'. rw (made_counts k e, made_words k e) (agreed o r base₂ ext₂ marks marks' slots slots');
          }

-- ---- the two statements

pub lowering_is_faithful : LoweringIsFaithful
lowering_is_faithful q s l base base₁ ext ext₁ room room₁ prover b b' o o' a answer = faithful q s l prover b o answer

pub any_liveness_is_faithful : AnyLivenessIsFaithful
any_liveness_is_faithful B X K u c nodes roots bases exts s v h₈ h₇ h₁₃ h₁₂ sound =
    let formed = well_formed c nodes roots h₇ in
    let made = lowered c nodes roots bases exts v in
    let begin : Begin c made made.nodes made.roots = record { node = λ i h. refl; root = λ r h. refl } in
    let fits = lowered_fits c nodes roots bases exts s v h₈ formed h₁₃ in
    let base_roots = leading_base c nodes roots h₁₂ in (
      check_passes K u c nodes roots bases exts s v formed sound made.nodes made.roots begin fits base_roots,
      λ r h. rw (end_slots K u c nodes roots bases exts s v formed sound made.nodes made.roots begin fits base_roots)
          (end_root K u c nodes roots bases exts s v formed sound made.nodes made.roots begin fits base_roots r h
          ∙ ap Some (sym (value_stays K (leaves_of u) nodes (get_or roots r 0) c.nodes (formed.root r h)))),
    )
