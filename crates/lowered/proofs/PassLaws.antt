-- A lowered program gets through the step rule, and so passes the check; each root has the plain evaluator's value.
-- Assumes nothing.
use mathlib.Core.Bool.{false, ◌&&◌}
use mathlib.Core.List.{List, []}
use mathlib.Core.Logic.{by_cases}
use Rattle.std.specs.Prelude.{Option, None, Some}
use mathlib.Core.Path.{◌≡◌, refl, sym, ap, ◌∙◌}
use Prim.Native.Nat.{ℕ, zero, suc, ◌-◌, ◌<◌, ◌≤◌}
use native.Mathlib.Decide.{ℕ_discrete}
use native.Mathlib.Omega.{arith}
use lib.Dec.{ltb}
use lib.ListN.{get_or}
use borrow.Author.Tests.{ltb-true}
use Rattle.laws.specs.Options.{after, missing}
use Rattle.laws.proofs.Cases.{by_test}
use Rattle.laws.proofs.Folds.{none_lowest}
use Rattle.laws.proofs.Options.{after_some}
use Rattle.laws.proofs.Tabulate.{tabulate_at}
use Rattle.extension.specs.Tower.{Tower}
use Rattle.ir.specs.declared.program.Counts.{Counts}
use Rattle.ir.specs.declared.frame.Shape.{Shape}
use Rattle.ir.specs.Words.{node_at}
use Rattle.ir.specs.Program.{num_base_of}
use Rattle.ir.specs.Refusals.{first, gives}
use Rattle.ir.specs.WellFormed.{WellFormed}
use Rattle.values.proofs.RunLaws.{value_at}
use Rattle.blob_rules.specs.Blob.{Blob, instr_at, is_ext, tags, kinds}
use Rattle.device.specs.StepRule.{Contents, Slots, step, slots_after, root_held, root_value, stops_at}
use Rattle.blob_rules.specs.Check.{legal_rows}
use Rattle.device.proofs.Theorem.{passes}
use Rattle.liveness.specs.Liveness.{Liveness, Sound}
use Rattle.scan_parts.specs.Scan.{scan}
use Rattle.lower_parts.specs.Lower.{Lowered, root_word, lowered, blob_of}
use Rattle.scan.proofs.ScanLaws.{root_held_lem}
use Rattle.lowered.specs.Faithful.{leaves_of}
use Rattle.lowered.proofs.PutLaws.{word_class}
use Rattle.lowered.proofs.SameLaws.{slots_same}
use Rattle.lowered.proofs.SimLaws.{Fits, walked, dim_low, slot_low}

-- where the slots after n nodes are there, so are those after fewer
module _ {B X : Type 0} (f : ℕ → Option (Slots B X)) (g : ℕ → Slots B X → Option (Slots B X)) (more : (i : ℕ) → f (suc i) ≡ after (f i) (g i)) where
  earlier : (n i : ℕ) (m : Slots B X) → f n ≡ Some m → i ≤ n → missing (f i) ≡ false
  earlier zero i m e h = let z : i ≡ 0 = omega arith in rw (z, e) refl
  earlier (suc n) i m e h =
      by_cases (ℕ_discrete i (suc n)) (λ q. rw (q, e) refl)
      λ q. let z = after_some (f n) (g n) (sym (more n) ∙ e) in earlier n i z.0 z.1 (omega arith)

-- tables that begin with the words of what was lowered
pub record Begin (c : Counts) (made : Lowered) (table ends : List ℕ) : Type 0 where
  pub node : (i : ℕ) → i < made.count → instr_at table i ≡ instr_at made.nodes i
  pub root : (r : ℕ) → r < c.roots → get_or ends r 0 ≡ get_or made.roots r 0

module _ {B X : Type 0} (K : Tower B X) (u : Contents B X) (c : Counts) (nodes roots bases exts : List ℕ) (s : Shape) (v : Liveness)
    (wf : WellFormed c nodes roots) (sound : Sound c nodes roots v) (table ends : List ℕ) where
  abbrev pub made : Lowered
  made = lowered c nodes roots bases exts v

  abbrev pub blob : Blob
  blob = record { counts = (blob_of c made).counts; nodes = table; roots = ends }

  module _ (begin : Begin c made table ends) (fits : Fits c nodes v blob.counts s) (leading_base : (r : ℕ) → r < c.roots → r < num_base_of c → (node_at nodes (get_or roots r 0)).dim ≡ 0) where
    -- the slots when all nodes are walked
    abbrev pub final : Slots B X
    final = (walked K u c nodes roots s v blob.counts wf sound fits).0

    root_at : (r : ℕ) → r < c.roots → get_or blob.roots r 0 ≡ root_word nodes (scan nodes v c.nodes).slot (get_or roots r 0)
    root_at r h = begin.root r h ∙ tabulate_at c.roots (λ k. root_word nodes (scan nodes v c.nodes).slot (get_or roots k 0)) r h

    -- the slots at the end, and what each root names there
    pub end_slots : slots_after K tags kinds blob.counts s u blob.nodes blob.counts.nodes ≡ Some final
    end_slots =
        slots_same K tags kinds blob.counts s u table made.nodes blob.counts.nodes begin.node
        ∙ (walked K u c nodes roots s v blob.counts wf sound fits).1

    pub end_root : (r : ℕ) → r < c.roots → root_held final (get_or blob.roots r 0) ≡ Some (value_at K (leaves_of u) nodes (get_or roots r 0))
    end_root r h = ap (root_held final) (root_at r h) ∙ (walked K u c nodes roots s v blob.counts wf sound fits).2 r h

    -- a root below num_base is base
    root_class : (r : ℕ) → r < c.roots → (ltb r (num_base_of c) && is_ext (get_or blob.roots r 0)) ≡ false
    root_class r h =
        by_test (ltb r (num_base_of c)) ((ltb r (num_base_of c) && is_ext (get_or blob.roots r 0)) ≡ false)
        (λ t. let j = get_or roots r 0 in
        let l = wf.root r h in
        let k = root_held_lem nodes v c roots sound r h l in
        let low = slot_low K u c nodes roots s v blob.counts wf sound fits c.nodes j k.0 (omega arith) k.1 in
        let z = leading_base r h (ltb-true r (num_base_of c) t) in
        let w : is_ext (root_word nodes (scan nodes v c.nodes).slot j) ≡ false =
        word_class (node_at nodes j).dim ((scan nodes v c.nodes).slot j - 1) (dim_low K u c nodes roots s v blob.counts wf sound fits j l) (omega (arith, k.1)) ∙ rw z refl
        in
        rw (t, root_at r h) w)
        λ t. rw t refl

    pub gets_through : stops_at K tags kinds blob.counts s u (num_base_of c) blob.nodes blob.roots ≡ None
    unfolding stops_at slots_after root_value
    gets_through =
        let through = slots_after K tags kinds blob.counts s u blob.nodes in
        rw (none_lowest (λ i. missing (through (suc i))) blob.counts.nodes
        (λ i h. earlier through (λ k m. step K tags kinds blob.counts s u m (instr_at blob.nodes k)) (λ k. refl) blob.counts.nodes (suc i) final end_slots h))
        (none_lowest (λ r. missing (after (through blob.counts.nodes) λ m. root_value (num_base_of c) m r (get_or blob.roots r 0))) c.roots
        (λ r h. rw (end_slots, root_class r h, end_root r h) refl))

    -- the check passes it
    pub check_passes : first (legal_rows blob s) (gives []) ≡ gives []
    check_passes = passes K u blob s gets_through
