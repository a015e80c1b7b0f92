-- The frame: what each evaluator reads for a leaf, and when a leaf is outside.
-- Assumes nothing.
use Rattle.std.specs.Prelude.{Bool, true, false, cond, ◌||◌, List, [], ◌∷◌, ◌≡◌, ℕ, ◌+◌, ◌*◌, ◌%◌, ◌<◌, ◌≤◌, eqb, leb, length, get_or}
use Rattle.laws.specs.Lists.{block}
use Rattle.field.specs.Base.{p}
use Rattle.extension.specs.Tower.{remainders}
use Rattle.ir.specs.Words.{node_at, const_base, const_ext, var, rap_challenge, alpha_pow, table_offset, main_of, offset_of}
use Rattle.ir.specs.declared.program.Counts.{Counts}
use Rattle.ir.specs.declared.frame.Shape.{Shape}
use Rattle.values.specs.declared.frame.Inputs.{Inputs}
use Rattle.values.specs.declared.frame.Limits.{Limits}
use Rattle.values.specs.declared.frame.Strides.{Strides}
use Rattle.values.specs.Values.{Value, base, ext, Leaves}

-- base value k of a lent table
abbrev pub word : List ℕ → ℕ → ℕ
word l k = get_or l k 0 % p

-- extension value k of a lent table
abbrev pub triple : List ℕ → ℕ → List ℕ
triple l k = remainders 3 (block 3 l k)

-- the words that were lent: constants, cells, uniforms, and the limbs of the table offset
pub record Lent : Type 0 where
  pub bases : List ℕ
  pub exts : List ℕ
  pub main : List ℕ
  pub aux : List ℕ
  pub challenges : List ℕ
  pub alphas : List ℕ
  pub offset : List ℕ

-- the same by its parts
abbrev pub lent : (bases exts main aux challenges alphas offset : List ℕ) → Lent
lent bases exts main aux challenges alphas offset =
    record { bases = bases; exts = exts; main = main; aux = aux; challenges = challenges; alphas = alphas; offset = offset }

-- the same by the program's slices of them
abbrev pub lent_in : Inputs → Lent
lent_in i = lent i.bases.now i.exts.now i.main.now i.aux.now i.challenges.now i.alphas.now i.offset.limbs

-- one row: no other cells and no uniforms
abbrev pub row_lent : (bases exts row : List ℕ) → Lent
row_lent bases exts row = lent bases exts row [] [] [] (0 ∷ 0 ∷ 0 ∷ [])

-- cells go by step, then column: `stride` cells a step. Main cells are extension values where they are wide
abbrev pub main_cell : Bool → ℕ → List ℕ → ℕ → ℕ → Value ℕ (List ℕ)
main_cell wide stride main step col = cond wide (ext (triple main (step * stride + col))) (base (word main (step * stride + col)))

-- what each leaf names
abbrev pub leaves : Strides → Lent → Leaves ℕ (List ℕ)
leaves s l =
    record {
      base_const = word l.bases;
      ext_const = triple l.exts;
      main = main_cell s.wide s.main l.main;
      aux = λ step col. triple l.aux (step * s.aux + col);
      challenge = triple l.challenges;
      alpha = triple l.alphas;
      offset = remainders 3 l.offset;
    }

-- the plain evaluator's frame
abbrev pub prover_strides : Shape → Strides
prover_strides s = record { wide = false; main = s.main; aux = s.aux }

-- the verifier's, whose main cells are extension values
abbrev pub verifier_strides : Shape → Strides
verifier_strides s = record { wide = true; main = s.main; aux = s.aux }

-- one row, where the offset of a main cell is ignored: every step is the same row
abbrev pub row_strides : Strides
row_strides = record { wide = false; main = 0; aux = 0 }

-- ---- what a leaf asks of the lent memory: for inner functions, no public promise cites it

-- cell `at` of the main trace
pub record MainIn (wide : Bool) (at size : ℕ) : Type 0 where
  pub ext_cell : wide ≡ true → 3 * at + 3 ≤ size
  pub base_cell : wide ≡ false → at < size

-- a cell, main or aux
pub record CellIn (s : Strides) (x y main aux : ℕ) : Type 0 where
  pub main_cell : main_of y ≡ true → MainIn s.wide (offset_of y * s.main + x) main
  pub aux_cell : main_of y ≡ false → 3 * (offset_of y * s.aux + x) + 3 ≤ aux

-- a leaf, by its tag
pub record LeafIn (s : Strides) (tag x y : ℕ) (l : Lent) : Type 0 where
  pub base_const : tag ≡ const_base → x < length l.bases
  pub ext_const : tag ≡ const_ext → 3 * x + 3 ≤ length l.exts
  pub cell : tag ≡ var → CellIn s x y (length l.main) (length l.aux)
  pub challenge : tag ≡ rap_challenge → 3 * x + 3 ≤ length l.challenges
  pub alpha : tag ≡ alpha_pow → 3 * x + 3 ≤ length l.alphas

-- the lent memory has what the limits allow a leaf to name
pub record Fits (s : Strides) (m : Limits) (c : Counts) (l : Lent) : Type 0 where
  pub bases : c.bases ≤ length l.bases
  pub exts : 3 * c.exts ≤ length l.exts
  pub main : (step col : ℕ) → step < m.steps → col < m.main → MainIn s.wide (step * s.main + col) (length l.main)
  pub aux : (step col : ℕ) → step < m.steps → col < m.aux → 3 * (step * s.aux + col) + 3 ≤ length l.aux
  pub challenges : 3 * m.challenges ≤ length l.challenges
  pub alphas : 3 * m.alphas ≤ length l.alphas

-- ---- 13

-- a cell outside, by its step and its column
unfoldable pub cell_outside : Limits → ℕ → ℕ → Bool
cell_outside m x y = leb m.steps (offset_of y) || cond (main_of y) (leb m.main x) (leb m.aux x)

-- a leaf outside: a cell, a uniform by its index, the table offset where there is none
unfoldable pub outside : Limits → ℕ → ℕ → ℕ → Bool
outside m tag x y =
    cond (eqb tag var) (cell_outside m x y)
    (cond (eqb tag rap_challenge) (leb m.challenges x)
    (cond (eqb tag alpha_pow) (leb m.alphas x)
    (cond (eqb tag table_offset) (eqb m.offsets 0)
    false)))

-- node i outside
abbrev pub node_outside : Limits → List ℕ → ℕ → Bool
node_outside m nodes i = let w = node_at nodes i in outside m w.tag w.x w.y

-- a frame has its table offset
abbrev pub frame_limits : Shape → Limits
frame_limits s = record { steps = s.steps; main = s.main; aux = s.aux; challenges = s.challenges; alphas = s.alphas; offsets = 1 }

-- one row has main cells at any offset and nothing else
abbrev pub row_limits : ℕ → Limits
row_limits width = record { steps = 256; main = width; aux = 0; challenges = 0; alphas = 0; offsets = 0 }
