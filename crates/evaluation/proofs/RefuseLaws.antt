-- What the shared refusals let through.
-- Assumes nothing.
use mathlib.Core.Bool.{Bool, true, false, ◌||◌}
use mathlib.Core.Path.{◌≡◌, refl, sym, ap, ◌∙◌}
use Prim.Native.Nat.{ℕ, ◌*◌, ◌≤◌}
use native.Mathlib.Nat.{mul-le-mul}
use lib.Dec.{ltb}
use borrow.Author.Tests.{ltb-false}
use Rattle.laws.proofs.Tests.{or_left, or_right}
use mathlib.Core.List.{List, [], ◌∷◌, ◌++◌}
use Rattle.std.specs.Prelude.{None}
use Rattle.laws.specs.Folds.{lowest}
use Rattle.ir.specs.declared.frame.Shape.{Shape}
use Rattle.ir.specs.declared.program.Counts.{Counts}
use Rattle.ir.specs.Program.{too_many_nodes, too_many_roots, short_tables, ill_formed}
use Rattle.ir.specs.Shape.{over_shape}
use Rattle.ir.specs.Refusals.{any_holds, found, Row}
use Rattle.ir.specs.WellFormed.{WellFormed}
use Rattle.ir.proofs.ProgramLaws.{Long, long}
use Rattle.ir.proofs.RefusalLaws.{not_found}
use Rattle.ir.proofs.WellFormedLaws.{well_formed}
use Rattle.values.specs.declared.frame.Limits.{Limits}
use Rattle.values.specs.Frame.{node_outside}
use Rattle.evaluation.specs.declared.frame.Lengths.{Lengths}
use Rattle.evaluation.specs.Evaluation.{short_frame, short_memory, memory_rows, form_rows}

-- as many cells as a frame within its limits can have
pub cells_small : {steps width : ℕ} → steps ≤ 256 → width ≤ 65536 → steps * width ≤ 16777216
cells_small a b = mul-le-mul a b

pub words_small : {limbs cells : ℕ} → limbs ≤ 3 → cells ≤ 16777216 → limbs * cells ≤ 50331648
words_small a b = mul-le-mul a b

-- a frame that 1 lets through
pub record LongFrame (s : Shape) (limbs : ℕ) (l : Lengths) : Type 0 where
  pub main_long : limbs * (s.steps * s.main) ≤ l.main
  pub aux_long : 3 * (s.steps * s.aux) ≤ l.aux
  pub challenges_long : 3 * s.challenges ≤ l.challenges
  pub alphas_long : 3 * s.alphas ≤ l.alphas

pub long_frame : (s : Shape) (limbs : ℕ) (l : Lengths) → short_frame s limbs l ≡ false → LongFrame s limbs l
unfolding short_frame
long_frame s limbs l h =
    let a = ltb l.main (limbs * (s.steps * s.main)) in
    let b = ltb l.aux (3 * (s.steps * s.aux)) in
    let c = ltb l.challenges (3 * s.challenges) in
    let d = ltb l.alphas (3 * s.alphas) in
    let h₃ = or_left (a || b || c) d h in
    let h₂ = or_left (a || b) c h₃ in
    record {
      main_long = ltb-false _ _ (or_left a b h₂);
      aux_long = ltb-false _ _ (or_right a b h₂);
      challenges_long = ltb-false _ _ (or_right (a || b) c h₃);
      alphas_long = ltb-false _ _ (or_right (a || b || c) d h);
    }

-- ---- rows that do not hold

-- the counts, the shape and the memory that the first rows let through
pub record MemoryOk (c : Counts) (s : Shape) (limbs : ℕ) (l : Lengths) : Type 0 where
  pub counts_few : too_many_nodes c ≡ false
  pub roots_few : too_many_roots c ≡ false
  pub shape_within : over_shape s ≡ false
  pub tables_long : Long c l.nodes l.bases l.exts l.roots
  pub frame_long : LongFrame s limbs l
  pub room_long : 4 * c.nodes ≤ l.room

pub memory_ok : (c : Counts) (s : Shape) (limbs : ℕ) (l : Lengths) → any_holds (memory_rows c s limbs l) ≡ false → MemoryOk c s limbs l
unfolding short_memory
memory_ok c s limbs l h =
    let h₁ = or_right (too_many_nodes c) (too_many_roots c || (over_shape s || (short_memory c s limbs l || false))) h in
    let h₂ = or_right (too_many_roots c) (over_shape s || (short_memory c s limbs l || false)) h₁ in
    let h₃ = or_right (over_shape s) (short_memory c s limbs l || false) h₂ in
    let m = or_left (short_memory c s limbs l) false h₃ in
    let t = short_tables c l.nodes l.bases l.exts l.roots in
    let f = short_frame s limbs l in
    let r = ltb l.room (4 * c.nodes) in
    let m₁ = or_left (t || f) r m in
    record {
      counts_few = or_left (too_many_nodes c) (too_many_roots c || (over_shape s || (short_memory c s limbs l || false))) h;
      roots_few = or_left (too_many_roots c) (over_shape s || (short_memory c s limbs l || false)) h₁;
      shape_within = or_left (over_shape s) (short_memory c s limbs l || false) h₂;
      tables_long = long c l.nodes l.bases l.exts l.roots (or_left t f m₁);
      frame_long = long_frame s limbs l (or_right t f m₁);
      room_long = ltb-false l.room (4 * c.nodes) (or_right (t || f) r m);
    }

-- the program and the frame that 7 and 13 let through
pub record FormOk (c : Counts) (m : Limits) (nodes roots : List ℕ) : Type 0 where
  pub formed : WellFormed c nodes roots
  pub inside : lowest (node_outside m nodes) c.nodes ≡ None

pub form_ok_lem : (c : Counts) (m : Limits) (nodes roots : List ℕ) → any_holds (form_rows c m nodes roots) ≡ false → FormOk c m nodes roots
form_ok_lem c m nodes roots h =
    let i = ill_formed c nodes roots in
    let o = lowest (node_outside m nodes) c.nodes in
    record {
      formed = well_formed c nodes roots (not_found i (or_left (found i) (found o || false) h));
      inside = not_found o (or_left (found o) false (or_right (found i) (found o || false) h));
    }

-- a row of one of two parts holds
pub any_append : (a b : List Row) → any_holds (a ++ b) ≡ (any_holds a || any_holds b)
any_append [] b = refl
any_append (r ∷ rs) b = ap (λ (t : Bool). r.holds || t) (any_append rs b) ∙ sym (or_assoc r.holds (any_holds rs) (any_holds b))
  where
    or_assoc : (x y z : Bool) → (x || y || z) ≡ (x || (y || z))
    or_assoc true y z = refl
    or_assoc false y z = refl
