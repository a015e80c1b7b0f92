-- Stored form A: the bytes of a blob, and the blob that bytes hold.
-- Assumes nothing.
use Rattle.std.specs.Prelude.{Bool, not, ◌||◌, List, [], ◌∷◌, ◌++◌, map, ℕ, zero, suc, ◌+◌, ◌-◌, ◌*◌, ◌%◌, eqb, ltb, length, take, drop}
use Rattle.field.specs.Base.{p}
use Rattle.little_endian.specs.Bytes.{le_value, le_bytes}
use Rattle.blob_rules.specs.declared.blob.BlobCounts.{BlobCounts}

-- a blob's tables: four words a node, one a base constant, three an extension constant, one a root
pub record Tables : Type 0 where
  pub nodes : List ℕ
  pub bases : List ℕ
  pub exts : List ℕ
  pub roots : List ℕ

-- words of n bytes each, one after another
abbrev pub spread : ℕ → List ℕ → List ℕ
spread n [] = []
spread n (w ∷ ws) = le_bytes n w ++ spread n ws

-- the first k words of n bytes each
abbrev pub words : ℕ → ℕ → List ℕ → List ℕ
words n zero bs = []
words n (suc k) bs = le_value (take n bs) ∷ words n k (drop n bs)

-- constants are put below p
abbrev pub below_p : List ℕ → List ℕ
below_p ws = map (λ w. w % p) ws

-- ---- writing

-- from the trailer back to the first byte, in words of 4 bytes
abbrev pub distance : BlobCounts → ℕ
distance c = 4 * c.nodes + 2 * c.bases + 6 * c.exts + c.roots

-- the length of the file
abbrev pub size : BlobCounts → ℕ
size c = 4 * distance c + 32

-- the words that the counts name, constants below p
abbrev pub named : BlobCounts → Tables → Tables
named c t =
    record {
      nodes = take (4 * c.nodes) t.nodes;
      bases = take c.bases (below_p t.bases);
      exts = take (3 * c.exts) (below_p t.exts);
      roots = take c.roots t.roots;
    }

-- nodes, base constants, extension constants, roots
abbrev pub body : Tables → List ℕ
body t = spread 4 t.nodes ++ spread 8 t.bases ++ spread 8 t.exts ++ spread 4 t.roots

-- eight words: the counts and the distance
abbrev pub trailer_words : BlobCounts → List ℕ
trailer_words c =
    c.nodes ∷ c.bases ∷ c.exts ∷ c.roots ∷ c.num_base ∷ c.base_slots ∷ c.ext_slots ∷ distance c ∷ []

-- the file
abbrev pub stored : BlobCounts → Tables → List ℕ
stored c t = body (named c t) ++ spread 4 (trailer_words c)

-- ---- reading

-- word k of a file's trailer
abbrev pub trailer_word : List ℕ → ℕ → ℕ
trailer_word file k = le_value (take 4 (drop (length file - 32 + 4 * k) file))

-- the counts that it says
abbrev pub counts_in : List ℕ → BlobCounts
counts_in file =
    record {
      nodes = trailer_word file 0;
      bases = trailer_word file 1;
      exts = trailer_word file 2;
      roots = trailer_word file 3;
      num_base = trailer_word file 4;
      base_slots = trailer_word file 5;
      ext_slots = trailer_word file 6;
    }

-- the distance that is told, or a file's length, is not that of a body of so many words
abbrev pub misframed : ℕ → ℕ → ℕ → Bool
misframed body told len = not (eqb told body) || not (eqb len (4 * body + 32))

-- 15: no room for a trailer, or distance or length not as its counts say
abbrev pub bad_framing : List ℕ → Bool
bad_framing file = ltb (length file) 32 || misframed (distance (counts_in file)) (trailer_word file 7) (length file)

-- the tables of a file with these counts, constants below p
abbrev pub tables_in : BlobCounts → List ℕ → Tables
tables_in c file =
    record {
      nodes = words 4 (4 * c.nodes) file;
      bases = below_p (words 8 c.bases (drop (16 * c.nodes) file));
      exts = below_p (words 8 (3 * c.exts) (drop (16 * c.nodes + 8 * c.bases) file));
      roots = words 4 c.roots (drop (16 * c.nodes + 8 * c.bases + 24 * c.exts) file);
    }
