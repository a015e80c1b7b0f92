-- Demand 3, second half, as two statements. Their proofs are `lowering_is_faithful` and `any_liveness_is_faithful` of
-- proofs/Theorem.antt.
-- Assumes nothing.
use Rattle.ir.specs.declared.refusal.Refusal.{Refusal}
use Rattle.std.specs.Prelude.{false, List, [], ◌≡◌, ℕ, ◌<◌, ◌≤◌, length, get_or, None, Some, Result, Ok}
use Rattle.laws.specs.Folds.{lowest}
use Rattle.laws.specs.Options.{after}
use Rattle.extension.specs.Tower.{Tower, goldilocks}
use Rattle.ir.specs.declared.program.Counts.{Counts}
use Rattle.ir.specs.declared.frame.Shape.{Shape}
use Rattle.ir.specs.Program.{Program, num_base_of, too_many_nodes, ill_formed}
use Rattle.ir.specs.Refusals.{first, gives}
use Rattle.values.specs.Values.{Value, base, Leaves, values}
use Rattle.values.specs.Frame.{Lent, lent, leaves, prover_strides, node_outside, frame_limits}
use Rattle.evaluation.specs.Evals.{base_evals_of, ext_evals_of}
use Rattle.evaluation.specs.Evaluation.{short_evals, ext_root, ProverAnswer}
use Rattle.blob_rules.specs.declared.blob.BlobCounts.{BlobCounts}
use Rattle.blob_rules.specs.Blob.{Blob, tags, kinds}
use Rattle.device.specs.StepRule.{Contents, slots_after, root_held}
use Rattle.blob_rules.specs.Check.{slot_count, legal_rows, CheckAnswer}
use Rattle.slots.specs.Slots.{slot_words}
use Rattle.walk.specs.Walk.{WalkAnswer}
use Rattle.liveness.specs.Liveness.{Liveness, Sound}
use Rattle.lower_parts.specs.Lower.{lowered, blob_of}
use Rattle.lower_parts.specs.Answer.{Lists, Output, lowering, short_lists, short_output, LowerAnswer}

-- ---- of the functions that are called

-- the blob that `lower` left in the lent words
abbrev pub blob_in : BlobCounts → Output → Blob
blob_in k o = record { counts = k; nodes = o.nodes; roots = o.roots }

-- a frame with constants: the program's own, or those that `lower` left
abbrev pub with_constants : (bases exts : List ℕ) → Lent → Lent
with_constants bases exts l = lent bases exts l.main l.aux l.challenges l.alphas l.offset

-- the plain evaluator's value of each node
abbrev pub evaluated : Program → Shape → Lent → ℕ → Value ℕ (List ℕ)
evaluated q s l = values goldilocks (leaves (prover_strides s) (with_constants q.bases q.exts l)) q.nodes q.counts.nodes

-- what holds of what `lower` answered on a program q, where the lent words were b and o and became b' and o'; and of evals `base`
-- and `ext` that `eval_program` turned into `base₁` and `ext₁`
pub record Faithful (q : Program) (s : Shape) (l : Lent) (base base₁ ext ext₁ : List ℕ) (b : Lists) (o : Output) (a : Result BlobCounts Refusal) (o' : Output) : Type 0 where
  -- with room it is lowered, and the counts are those of the definition
  pub lowers : short_lists q.counts.nodes b ≡ false → short_output (lowering q) o ≡ false → a ≡ Ok (blob_of q.counts (lowering q)).counts
  -- the check passes it for that shape
  pub passes : (k : BlobCounts) → a ≡ Ok k → (r : Result (Unit {0}) Refusal) (marks marks' : List ℕ) → slot_count k ≤ length marks → CheckAnswer (blob_in k o') s r marks marks' → r ≡ Ok tt
  -- the walk, over any evals with room, gives each constraint the plain evaluator's value
  pub walks :
      (k : BlobCounts) → a ≡ Ok k → (r : Result (Unit {0}) Refusal) (base₀ base₂ ext₀ ext₂ marks marks' slots slots' : List ℕ) → slot_count k ≤ length marks → slot_words k ≤ length slots
      → short_evals q.counts (length base₀) (length ext₀) ≡ false
      → WalkAnswer (blob_in k o') s (with_constants o'.bases o'.exts l) r base₀ base₂ ext₀ ext₂ marks marks' slots slots'
      → (r ≡ Ok tt)
      × (base₂ ≡ base_evals_of (evaluated q s l) q.roots (num_base_of q.counts) q.counts.roots base₀)
      × (ext₂ ≡ ext_evals_of (evaluated q s l) q.roots (num_base_of q.counts) q.counts.roots ext₀)
  -- so over the evals that `eval_program` had it leaves what that left, word for word
  pub agrees :
      (k : BlobCounts) → a ≡ Ok k → (r : Result (Unit {0}) Refusal) (base₂ ext₂ marks marks' slots slots' : List ℕ) → slot_count k ≤ length marks → slot_words k ≤ length slots
      → WalkAnswer (blob_in k o') s (with_constants o'.bases o'.exts l) r base base₂ ext ext₂ marks marks' slots slots'
      → (r ≡ Ok tt) × (base₂ ≡ base₁) × (ext₂ ≡ ext₁)

-- where `eval_program` answers 0 on a program and a frame, and `lower` answers on that program, all of this holds
abbrev pub LoweringIsFaithful : Type 0
LoweringIsFaithful =
    (q : Program) (s : Shape) (l : Lent) (base base₁ ext ext₁ room room₁ : List ℕ)
    → ProverAnswer q.counts s q.nodes q.roots (with_constants q.bases q.exts l) (Ok tt) base base₁ ext ext₁ room room₁
    → (b b' : Lists) (o o' : Output) (a : Result BlobCounts Refusal) → LowerAnswer q b o a b' o' → Faithful q s l base base₁ ext ext₁ b o a o'

-- ---- of any liveness and any tower

-- the plain evaluator's leaves, of what a walk reads
abbrev pub leaves_of : {B X : Type 0} → Contents B X → Leaves B X
leaves_of u =
    record {
      base_const = u.base_const;
      ext_const = u.ext_const;
      main = λ step col. base (u.main step col);
      aux = u.aux;
      challenge = u.challenge;
      alpha = u.alpha;
      offset = u.table_offset;
    }

-- a program that the plain evaluator's tests let through, lowered by any liveness that meets the three conditions: the check
-- passes it, and in the slots at the end each root names the plain evaluator's value, over any tower and any contents
abbrev pub AnyLivenessIsFaithful : Type 1
AnyLivenessIsFaithful =
    (B X : Type 0) (K : Tower B X) (u : Contents B X) (c : Counts) (nodes roots bases exts : List ℕ) (s : Shape) (v : Liveness)
    → too_many_nodes c ≡ false → ill_formed c nodes roots ≡ None → lowest (node_outside (frame_limits s) nodes) c.nodes ≡ None → ext_root c nodes roots ≡ None → Sound c nodes roots v
    → (first (legal_rows (blob_of c (lowered c nodes roots bases exts v)) s) (gives []) ≡ gives [])
    × ((r : ℕ) → r < c.roots
    → after (slots_after K tags kinds (blob_of c (lowered c nodes roots bases exts v)).counts s u (lowered c nodes roots bases exts v).nodes (lowered c nodes roots bases exts v).count)
    (λ m. root_held m (get_or (lowered c nodes roots bases exts v).roots r 0))
    ≡ Some (values K (leaves_of u) nodes c.nodes (get_or roots r 0)))
