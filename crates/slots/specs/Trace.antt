-- What lent words hold, for one row of a trace.
-- Assumes nothing.
use Rattle.std.specs.Prelude.{List, ℕ, ◌+◌, ◌*◌, ◌%◌}
use Rattle.extension.specs.Tower.{remainders}
use Rattle.ir.specs.declared.frame.Shape.{Shape}
use Rattle.values.specs.Frame.{Lent, word, triple}
use Rattle.device.specs.StepRule.{Contents}

-- step s of row r is row (r + s) mod rows; a frame is row 0 of as many rows as it has steps
abbrev pub row_at : (rows row step : ℕ) → ℕ
row_at rows row step = (row + step) % rows

-- cells go by row, then column; an aux cell is three words
abbrev pub contents : (rows row : ℕ) → Shape → Lent → Contents ℕ (List ℕ)
contents rows row s l =
    record {
      base_const = word l.bases;
      ext_const = triple l.exts;
      main = λ step col. word l.main (row_at rows row step * s.main + col);
      aux = λ step col. triple l.aux (row_at rows row step * s.aux + col);
      challenge = triple l.challenges;
      alpha = triple l.alphas;
      table_offset = remainders 3 l.offset;
    }
