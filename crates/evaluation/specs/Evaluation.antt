-- The three evaluators: their refusals in document 01's order, and what they leave.
-- Assumes nothing.
use Rattle.ir.specs.declared.refusal.Refusal.{Refusal}
use Rattle.std.specs.Prelude.{Bool, true, false, cond, not, ◌&&◌, ◌||◌, List, [], ◌∷◌, ◌++◌, ◌≡◌, ℕ, ◌*◌, ◌<◌, ◌≤◌, min, eqb, leb, ltb, length, get_or, Option, Result, Ok, Err}
use Rattle.laws.specs.Folds.{lowest}
use Rattle.extension.specs.Tower.{goldilocks}
use Rattle.ir.specs.declared.program.Counts.{Counts}
use Rattle.ir.specs.declared.frame.Shape.{Shape}
use Rattle.ir.specs.Words.{node_at}
use Rattle.ir.specs.Program.{num_base_of, too_many_nodes, too_many_roots, short_tables, ill_formed}
use Rattle.ir.specs.Shape.{over_shape}
use Rattle.ir.specs.Refusals.{Said, Row, row, row_at, first, any_holds, gives, said_of, said_of_outcome}
use Rattle.values.specs.declared.frame.Limits.{Limits}
use Rattle.evaluation.specs.declared.frame.Lengths.{Lengths}
use Rattle.values.specs.Values.{Value, values}
use Rattle.values.specs.Frame.{Lent, leaves, node_outside, prover_strides, verifier_strides, row_strides, frame_limits, row_limits}
use Rattle.evaluation.specs.Evals.{base_word, base_evals_of, ext_evals_of}
use Rattle.values.specs.Room.{RoomHolds}

-- ---- rows that the evaluators share

-- 1: the traces, whose main cells have one word or three, or a uniform table is too short
unfoldable pub short_frame : Shape → ℕ → Lengths → Bool
short_frame s limbs l =
    ltb l.main (limbs * (s.steps * s.main))
    || ltb l.aux (3 * (s.steps * s.aux))
    || ltb l.challenges (3 * s.challenges)
    || ltb l.alphas (3 * s.alphas)

-- 1: the program's tables, the frame, or the room of four words a node
unfoldable pub short_memory : Counts → Shape → ℕ → Lengths → Bool
short_memory c s limbs l =
    short_tables c l.nodes l.bases l.exts l.roots || short_frame s limbs l || ltb l.room (4 * c.nodes)

-- the rows that stand before a call's own
abbrev pub memory_rows : Counts → Shape → ℕ → Lengths → List Row
memory_rows c s limbs l =
    row (too_many_nodes c) 8 ∷ row (too_many_roots c) 9 ∷ row (over_shape s) 2 ∷ row (short_memory c s limbs l) 1 ∷ []

-- the program itself: 7, then 13
abbrev pub form_rows : Counts → Limits → List ℕ → List ℕ → List Row
form_rows c m nodes roots =
    row_at (ill_formed c nodes roots) 7 ∷ row_at (lowest (node_outside m nodes) c.nodes) 13 ∷ []

-- the dim of constraint c's root
abbrev pub root_dim : List ℕ → List ℕ → ℕ → ℕ
root_dim nodes roots c = (node_at nodes (get_or roots c 0)).dim

-- ---- the plain evaluator

-- 14: base_evals has fewer words than the smaller of num_base and the root count; or a root is at or past num_base, and ext_evals
-- has fewer than three words a root
unfoldable pub short_evals : Counts → ℕ → ℕ → Bool
short_evals c base ext = ltb base (min (num_base_of c) c.roots) || (ltb (num_base_of c) c.roots && ltb ext (3 * c.roots))

-- 12: the lowest root below num_base that is extension
unfoldable pub ext_root : Counts → List ℕ → List ℕ → Option ℕ
ext_root c nodes roots = lowest (λ r. ltb r (num_base_of c) && not (eqb (root_dim nodes roots r) 0)) c.roots

-- what follows the memory: 14, 7, 13, 12
abbrev pub prover_rest : Counts → ℕ → ℕ → Limits → List ℕ → List ℕ → List Row
prover_rest c base ext m nodes roots =
    row (short_evals c base ext) 14 ∷ (form_rows c m nodes roots ++ (row_at (ext_root c nodes roots) 12 ∷ []))

-- the plain evaluator's refusals in order
abbrev pub prover_rows : Counts → Shape → Lengths → ℕ → ℕ → Limits → List ℕ → List ℕ → List Row
prover_rows c s l base ext m nodes roots = memory_rows c s 1 l ++ prover_rest c base ext m nodes roots

-- ---- the verifier's

-- what follows the memory: 14, 7, 13
abbrev pub verifier_rest : Counts → ℕ → Limits → List ℕ → List ℕ → List Row
verifier_rest c ext m nodes roots = row (ltb ext (3 * c.roots)) 14 ∷ form_rows c m nodes roots

-- the verifier's refusals in order
abbrev pub verifier_rows : Counts → Shape → Lengths → ℕ → Limits → List ℕ → List ℕ → List Row
verifier_rows c s l ext m nodes roots = memory_rows c s 3 l ++ verifier_rest c ext m nodes roots

-- ---- one row, one constraint

-- one row as a frame: one step of main cells alone
abbrev pub row_shape : ℕ → Shape
row_shape width = record { steps = 1; main = width; aux = 0; challenges = 0; alphas = 0 }

-- 12: the asked constraint's root is extension, and the place is its number
abbrev pub asked_row : List ℕ → List ℕ → ℕ → Row
asked_row nodes roots asked = record { holds = not (eqb (root_dim nodes roots asked) 0); number = 12; place = asked }

-- what follows the memory: 6, where there is no such constraint, then 7, 13, 12
abbrev pub row_rest : Counts → ℕ → Limits → List ℕ → List ℕ → List Row
row_rest c asked m nodes roots =
    row (leb c.roots asked) 6
    ∷ (form_rows c m nodes roots ++ (asked_row nodes roots asked ∷ []))

-- the refusals of one row in order
abbrev pub row_rows : Counts → ℕ → ℕ → Lengths → Limits → List ℕ → List ℕ → List Row
row_rows c width asked l m nodes roots = memory_rows c (row_shape width) 1 l ++ row_rest c asked m nodes roots

-- ---- what an inner function asks: no public promise cites it

-- counts that 9 lets through, and nodes and roots as long as the counts say
pub record TablesOk (c : Counts) (nodes roots : ℕ) : Type 0 where
  pub few_roots : too_many_roots c ≡ false
  pub nodes_long : 4 * c.nodes ≤ nodes
  pub roots_long : c.roots ≤ roots

-- every root names a node
pub record RootsBelow (c : Counts) (nodes roots : List ℕ) : Type 0 where
  pub nodes_long : 4 * c.nodes ≤ length nodes
  pub roots_long : c.roots ≤ length roots
  pub root_below : (r : ℕ) → r < c.roots → get_or roots r 0 < c.nodes

-- ---- the words that were lent

-- how many of each
abbrev pub lengths : (nodes roots : List ℕ) → Lent → List ℕ → Lengths
lengths nodes roots l room =
    record {
      nodes = length nodes;
      bases = length l.bases;
      exts = length l.exts;
      roots = length roots;
      main = length l.main;
      aux = length l.aux;
      challenges = length l.challenges;
      alphas = length l.alphas;
      room = length room;
    }

-- ---- what a call leaves: on a refusal every word as it was

-- by the rows of a call: on 0 each root's value and the room, which holds every node's
pub record Evaluates (rows : List Row) (env : ℕ → Value ℕ (List ℕ)) (n leading count : ℕ) (roots : List ℕ) (r : Result (Unit {0}) Refusal) (base base' ext ext' room room' : List ℕ) : Type 0 where
  pub said : said_of_outcome r ≡ first rows (gives [])
  pub base_evals : base' ≡ cond (any_holds rows) base (base_evals_of env roots leading count base)
  pub ext_evals : ext' ≡ cond (any_holds rows) ext (ext_evals_of env roots leading count ext)
  pub room_kept : any_holds rows ≡ true → room' ≡ room
  pub room_holds : any_holds rows ≡ false → RoomHolds env n room room'

-- the plain evaluator's promise
abbrev pub ProverAnswer : Counts → Shape → (nodes roots : List ℕ) → Lent → Result (Unit {0}) Refusal → (base base' ext ext' room room' : List ℕ) → Type 0
ProverAnswer c s nodes roots l r base base' ext ext' room room' =
    Evaluates (prover_rows c s (lengths nodes roots l room) (length base) (length ext) (frame_limits s) nodes roots)
    (values goldilocks (leaves (prover_strides s) l) nodes c.nodes) c.nodes (num_base_of c) c.roots roots r base base' ext ext' room room'

-- the verifier's: every root goes to ext_evals
pub record VerifierEvaluates (rows : List Row) (env : ℕ → Value ℕ (List ℕ)) (n count : ℕ) (roots : List ℕ) (r : Result (Unit {0}) Refusal) (ext ext' room room' : List ℕ) : Type 0 where
  pub said : said_of_outcome r ≡ first rows (gives [])
  pub ext_evals : ext' ≡ cond (any_holds rows) ext (ext_evals_of env roots 0 count ext)
  pub room_kept : any_holds rows ≡ true → room' ≡ room
  pub room_holds : any_holds rows ≡ false → RoomHolds env n room room'

-- the verifier's promise
abbrev pub VerifierAnswer : Counts → Shape → (nodes roots : List ℕ) → Lent → Result (Unit {0}) Refusal → (ext ext' room room' : List ℕ) → Type 0
VerifierAnswer c s nodes roots l r ext ext' room room' =
    VerifierEvaluates (verifier_rows c s (lengths nodes roots l room) (length ext) (frame_limits s) nodes roots)
    (values goldilocks (leaves (verifier_strides s) l) nodes c.nodes) c.nodes c.roots roots r ext ext' room room'

-- one row: on 0 the asked constraint's base value
abbrev pub said_of_evaluated : Result ℕ Refusal → Said
said_of_evaluated (Ok v) = gives (v ∷ [])
said_of_evaluated (Err r) = said_of r

-- by the rows of a call: on 0 the value, and the room
pub record RowEvaluates (rows : List Row) (env : ℕ → Value ℕ (List ℕ)) (n asked : ℕ) (roots : List ℕ) (r : Result ℕ Refusal) (room room' : List ℕ) : Type 0 where
  pub said : said_of_evaluated r ≡ first rows (gives (base_word (env (get_or roots asked 0)) ∷ []))
  pub room_kept : any_holds rows ≡ true → room' ≡ room
  pub room_holds : any_holds rows ≡ false → RoomHolds env n room room'

-- the promise of one row
abbrev pub RowAnswer : Counts → ℕ → ℕ → (nodes roots : List ℕ) → Lent → Result ℕ Refusal → (room room' : List ℕ) → Type 0
RowAnswer c width asked nodes roots l r room room' =
    RowEvaluates (row_rows c width asked (lengths nodes roots l room) (row_limits width) nodes roots)
    (values goldilocks (leaves row_strides l) nodes c.nodes) c.nodes asked roots r room room'
