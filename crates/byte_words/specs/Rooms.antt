-- A table lent as bytes, with a room for its words.
-- Assumes nothing.
use Rattle.std.specs.Prelude.{Bool, List, ℕ, ◌/◌, ltb, length}
use Rattle.std.proofs.lemmas.List.Edits.{sets}
use Rattle.ir.specs.Refusals.{on_done, Said}
use Rattle.stored_parts.specs.Form.{spread}
use Rattle.byte_words.specs.Words.{words_in}

-- bytes, and the room of words that is lent beside them
pub record Lent : Type 0 where
  pub bytes : List ℕ
  pub room : List ℕ

-- the two together
abbrev pub lent : List ℕ → List ℕ → Lent
lent bytes room = record { bytes = bytes; room = room }

-- 1: a room has fewer words than its bytes hold whole words of n bytes; lengths in bytes, then in words
abbrev pub short_room : ℕ → ℕ → ℕ → Bool
short_room n bytes room = ltb room (bytes / n)

-- the room has fewer words than the bytes, of n bytes each
abbrev pub tight : ℕ → Lent → Bool
tight n l = short_room n (length l.bytes) (length l.room)

-- the words that the bytes hold
abbrev pub held : ℕ → Lent → List ℕ
held n l = words_in n l.bytes

-- after a call that only read those words: they stand at the front of the room
abbrev pub unpacked_in : ℕ → Lent → Lent
unpacked_in n l = lent l.bytes (sets l.room 0 (held n l))

-- after a call that said s and left the words ws: they stand at the front of the room, and on 0 in the bytes
abbrev pub packed_on : ℕ → Said → List ℕ → Lent → Lent
packed_on n s ws l = lent (on_done s (sets l.bytes 0 (spread n ws)) l.bytes) (sets l.room 0 ws)
