-- What `blob-list` prints of a file: the listing of the blob that it holds, or one line with the number of a refusal.
-- Text is bytes.
-- Assumes nothing.
use Rattle.std.specs.Prelude.{cond, List, [], ◌∷◌, ◌++◌, ◌≡◌, ℕ, zero, suc, ◌+◌, ◌/◌, ◌%◌, ◌≤◌, ltb, length, take, drop, ◌*◌}
use Rattle.std.proofs.lemmas.List.Edits.{sets}
use Rattle.blob_rules.specs.declared.blob.BlobCounts.{BlobCounts}
use Rattle.stored_parts.specs.Form.{Tables, words, below_p, size, counts_in, bad_framing, tables_in}
use Rattle.stored.specs.Answer.{counts_of}
use Rattle.listing.specs.declared.listing.Sections.{Sections}
use Rattle.listing.specs.declared.listing.Text.{Text}

-- the decimal digits of a number that has at most k
abbrev pub digits : ℕ → ℕ → List ℕ
digits zero n = []
digits (suc k) n = cond (ltb n 10) [] (digits k (n / 10)) ++ ((48 + n % 10) ∷ [])

-- of a word of 64 bits
unfoldable pub decimal : ℕ → List ℕ
decimal n = digits 20 n

-- what stands after a number that k more follow: a newline after the last, else a space
abbrev pub ending : ℕ → ℕ
ending zero = 10
ending (suc k) = 32

-- numbers that k more follow
abbrev pub numbers : ℕ → List ℕ → List ℕ
numbers k [] = []
numbers k (w ∷ ws) = decimal w ++ (ending (length ws + k) ∷ []) ++ numbers k ws

-- a line: a name with a space, and numbers
abbrev pub line : List ℕ → List ℕ → List ℕ
line name ws = name ++ numbers 0 ws

-- k lines of n numbers each
abbrev pub lines : List ℕ → ℕ → ℕ → List ℕ → List ℕ
lines name n zero ws = []
lines name n (suc k) ws = line name (take n ws) ++ lines name n k (drop n ws)

-- ---- the names

-- "blob "
abbrev pub blob_name : List ℕ
blob_name = 98 ∷ 108 ∷ 111 ∷ 98 ∷ 32 ∷ []

-- "node "
abbrev pub node_name : List ℕ
node_name = 110 ∷ 111 ∷ 100 ∷ 101 ∷ 32 ∷ []

-- "const "
abbrev pub const_name : List ℕ
const_name = 99 ∷ 111 ∷ 110 ∷ 115 ∷ 116 ∷ 32 ∷ []

-- "ext "
abbrev pub ext_name : List ℕ
ext_name = 101 ∷ 120 ∷ 116 ∷ 32 ∷ []

-- "root "
abbrev pub root_name : List ℕ
root_name = 114 ∷ 111 ∷ 111 ∷ 116 ∷ 32 ∷ []

-- "end" and a newline
abbrev pub end_line : List ℕ
end_line = 101 ∷ 110 ∷ 100 ∷ 10 ∷ []

-- "refused "
abbrev pub refused_name : List ℕ
refused_name = 114 ∷ 101 ∷ 102 ∷ 117 ∷ 115 ∷ 101 ∷ 100 ∷ 32 ∷ []

-- ---- the listing

-- a blob: its counts, nodes, constants and roots
unfoldable pub listing : BlobCounts → Tables → List ℕ
listing c t =
    line blob_name (counts_of c)
    ++ lines node_name 4 c.nodes t.nodes
    ++ lines const_name 1 c.bases t.bases
    ++ lines ext_name 3 c.exts t.exts
    ++ lines root_name 1 c.roots t.roots
    ++ end_line

-- a file: 1 where it is longer than 65,536 bytes, 15 where its framing is wrong, else its blob
unfoldable pub blob_list : List ℕ → List ℕ
blob_list file =
    cond (ltb 65536 (length file)) (line refused_name (1 ∷ []))
    (cond (bad_framing file) (line refused_name (15 ∷ [])) (listing (counts_in file) (tables_in (counts_in file) file)))

-- ---- text put into a room

-- text at a place, and the place after it, at most so many bytes on
pub record Puts (out : List ℕ) (at most : ℕ) (text out' : List ℕ) (r : ℕ) : Type 0 where
  pub stands : out' ≡ sets out at text
  pub next : r ≡ at + length text
  pub small : r ≤ at + most

-- text put where a text ends, in the same room
pub record Adds (most : ℕ) (text : List ℕ) (old new : Text) : Type 0 where
  pub room : new.room.ghost_name ≡ old.room.ghost_name
  pub puts : Puts old.room.now old.len most text new.room.now new.len

-- a file that holds a blob with these counts, and a room for its listing: eight bytes for each of the largest file's
pub record Listable (file : List ℕ) (c : BlobCounts) (room : ℕ) : Type 0 where
  pub counts_are : c ≡ counts_in file
  pub whole : length file ≡ size c
  pub few : length file ≤ 65536
  pub room_long : 524288 ≤ room

-- a file of at most 65,536 bytes that holds a blob with these counts
pub record Holds (file : List ℕ) (c : BlobCounts) : Type 0 where
  pub counts_are : c ≡ counts_in file
  pub whole : length file ≡ size c
  pub few : length file ≤ 65536

-- where its tables and its counts stand
pub record SectionsOf (file : List ℕ) (c : BlobCounts) (s : Sections) : Type 0 where
  pub nodes_long : length s.nodes.now ≡ 16 * c.nodes
  pub bases_long : length s.bases.now ≡ 8 * c.bases
  pub exts_long : length s.exts.now ≡ 24 * c.exts
  pub roots_long : length s.roots.now ≡ 4 * c.roots
  pub counts_long : length s.counts.now ≡ 28
  pub nodes_are : words 4 (4 * c.nodes) s.nodes.now ≡ (tables_in c file).nodes
  pub bases_are : below_p (words 8 c.bases s.bases.now) ≡ (tables_in c file).bases
  pub exts_are : below_p (words 8 (3 * c.exts) s.exts.now) ≡ (tables_in c file).exts
  pub roots_are : words 4 c.roots s.roots.now ≡ (tables_in c file).roots
  pub counts_are : words 4 7 s.counts.now ≡ counts_of c
