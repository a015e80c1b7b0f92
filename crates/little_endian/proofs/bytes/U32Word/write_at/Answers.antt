-- A word of 4 bytes is written where its contract says.
-- Assumes nothing.
use Rattle.std.proofs.Common.{◌+◌, ◌∙◌, refl}
use Rattle.little_endian.proofs.BytesLaws.{copied}
use Rattle.little_endian.proofs.bytes.U32Word.write_at.Goals as goal

pub returns : goal.returns
returns c = let a = c.args in copied a.s.now a.at 4 (a.at + 4) a.self refl c.requires (c.copy_from_slice.ensures.after ∙ c.to_le_bytes.ensures)
