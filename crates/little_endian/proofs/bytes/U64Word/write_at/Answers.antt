-- A word of 8 bytes is written where its contract says.
-- Assumes nothing.
use Rattle.std.proofs.Common.{◌+◌, ◌∙◌, refl}
use Rattle.little_endian.proofs.BytesLaws.{copied}
use Rattle.little_endian.proofs.bytes.U64Word.write_at.Goals as goal

pub returns : goal.returns
returns c = let a = c.args in copied a.s.now a.at 8 (a.at + 8) a.self refl c.requires (c.copy_from_slice.ensures.after ∙ c.to_le_bytes.ensures)
