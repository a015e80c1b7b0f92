-- Document 01's program E, lowered, in stored form A, by computation.
-- Assumes nothing.
use Rattle.std.specs.Prelude.{false, List, [], ◌∷◌, ◌≡◌, refl, ℕ, length, drop}
use Rattle.blob_rules.specs.declared.blob.BlobCounts.{BlobCounts}
use Rattle.listing.specs.Listing.{decimal, listing, blob_list}
use Rattle.stored_parts.specs.Form.{Tables, words, stored, counts_in, bad_framing, tables_in}

-- E's counts
pub counts : BlobCounts
counts =
    record { nodes = 7; bases = 2; exts = 0; roots = 2; num_base = 1; base_slots = 2; ext_slots = 1 }

-- E's tables, as document 01 lists them
pub tables : Tables
tables =
    record {
      nodes =
          2 ∷ 0 ∷ 65536 ∷ 0
          ∷ 2 ∷ 0 ∷ 65792 ∷ 1
          ∷ 7 ∷ 1 ∷ 0 ∷ 0
          ∷ 7 ∷ 0 ∷ 1073741825 ∷ 0
          ∷ 2 ∷ 2 ∷ 0 ∷ 2147483648
          ∷ 8 ∷ 536870912 ∷ 2147483648 ∷ 2147483648
          ∷ 6 ∷ 536870912 ∷ 0 ∷ 2147483648
          ∷ [];
      bases = 0 ∷ 1 ∷ [];
      exts = [];
      roots = 0 ∷ 2147483648 ∷ [];
    }

-- the file: seven nodes, two constants, two roots, the trailer
pub file : List ℕ
file =
    2 ∷ 0 ∷ 0 ∷ 0 ∷ 0 ∷ 0 ∷ 0 ∷ 0 ∷ 0 ∷ 0 ∷ 1 ∷ 0 ∷ 0 ∷ 0 ∷ 0 ∷ 0
    ∷ 2 ∷ 0 ∷ 0 ∷ 0 ∷ 0 ∷ 0 ∷ 0 ∷ 0 ∷ 0 ∷ 1 ∷ 1 ∷ 0 ∷ 1 ∷ 0 ∷ 0 ∷ 0
    ∷ 7 ∷ 0 ∷ 0 ∷ 0 ∷ 1 ∷ 0 ∷ 0 ∷ 0 ∷ 0 ∷ 0 ∷ 0 ∷ 0 ∷ 0 ∷ 0 ∷ 0 ∷ 0
    ∷ 7 ∷ 0 ∷ 0 ∷ 0 ∷ 0 ∷ 0 ∷ 0 ∷ 0 ∷ 1 ∷ 0 ∷ 0 ∷ 64 ∷ 0 ∷ 0 ∷ 0 ∷ 0
    ∷ 2 ∷ 0 ∷ 0 ∷ 0 ∷ 2 ∷ 0 ∷ 0 ∷ 0 ∷ 0 ∷ 0 ∷ 0 ∷ 0 ∷ 0 ∷ 0 ∷ 0 ∷ 128
    ∷ 8 ∷ 0 ∷ 0 ∷ 0 ∷ 0 ∷ 0 ∷ 0 ∷ 32 ∷ 0 ∷ 0 ∷ 0 ∷ 128 ∷ 0 ∷ 0 ∷ 0 ∷ 128
    ∷ 6 ∷ 0 ∷ 0 ∷ 0 ∷ 0 ∷ 0 ∷ 0 ∷ 32 ∷ 0 ∷ 0 ∷ 0 ∷ 0 ∷ 0 ∷ 0 ∷ 0 ∷ 128
    ∷ 0 ∷ 0 ∷ 0 ∷ 0 ∷ 0 ∷ 0 ∷ 0 ∷ 0
    ∷ 1 ∷ 0 ∷ 0 ∷ 0 ∷ 0 ∷ 0 ∷ 0 ∷ 0
    ∷ 0 ∷ 0 ∷ 0 ∷ 0
    ∷ 0 ∷ 0 ∷ 0 ∷ 128
    ∷ 7 ∷ 0 ∷ 0 ∷ 0 ∷ 2 ∷ 0 ∷ 0 ∷ 0 ∷ 0 ∷ 0 ∷ 0 ∷ 0 ∷ 2 ∷ 0 ∷ 0 ∷ 0
    ∷ 1 ∷ 0 ∷ 0 ∷ 0 ∷ 2 ∷ 0 ∷ 0 ∷ 0 ∷ 1 ∷ 0 ∷ 0 ∷ 0 ∷ 34 ∷ 0 ∷ 0 ∷ 0
    ∷ []

-- E is stored as that file
pub stores : stored counts tables ≡ file
unfolding counts tables file
stores = refl

-- it has 168 bytes
pub file_long : length file ≡ 168
unfolding file
file_long = refl

-- its trailer: the counts, and distance 34
pub file_trailer : words 4 8 (drop 136 file) ≡ 7 ∷ 2 ∷ 0 ∷ 2 ∷ 1 ∷ 2 ∷ 1 ∷ 34 ∷ []
unfolding file
file_trailer = refl

-- its framing is right
pub file_framed : bad_framing file ≡ false
unfolding file
file_framed = refl

-- the file holds the counts
pub file_counts : counts_in file ≡ counts
unfolding counts file
file_counts = refl

-- and the tables
pub file_tables : tables_in counts file ≡ tables
unfolding counts tables file
file_tables = refl

-- ---- the listing of document 01, as bytes, a line to a row

-- document 01's listing
pub text : List ℕ
text =
    98 ∷ 108 ∷ 111 ∷ 98 ∷ 32 ∷ 55 ∷ 32 ∷ 50 ∷ 32 ∷ 48 ∷ 32 ∷ 50 ∷ 32 ∷ 49 ∷ 32 ∷ 50 ∷ 32 ∷ 49 ∷ 10
    ∷ 110 ∷ 111 ∷ 100 ∷ 101 ∷ 32 ∷ 50 ∷ 32 ∷ 48 ∷ 32 ∷ 54 ∷ 53 ∷ 53 ∷ 51 ∷ 54 ∷ 32 ∷ 48 ∷ 10
    ∷ 110 ∷ 111 ∷ 100 ∷ 101 ∷ 32 ∷ 50 ∷ 32 ∷ 48 ∷ 32 ∷ 54 ∷ 53 ∷ 55 ∷ 57 ∷ 50 ∷ 32 ∷ 49 ∷ 10
    ∷ 110 ∷ 111 ∷ 100 ∷ 101 ∷ 32 ∷ 55 ∷ 32 ∷ 49 ∷ 32 ∷ 48 ∷ 32 ∷ 48 ∷ 10
    ∷ 110 ∷ 111 ∷ 100 ∷ 101 ∷ 32 ∷ 55 ∷ 32 ∷ 48 ∷ 32 ∷ 49 ∷ 48 ∷ 55 ∷ 51 ∷ 55 ∷ 52 ∷ 49 ∷ 56 ∷ 50 ∷ 53 ∷ 32 ∷ 48 ∷ 10
    ∷ 110 ∷ 111 ∷ 100 ∷ 101 ∷ 32 ∷ 50 ∷ 32 ∷ 50 ∷ 32 ∷ 48 ∷ 32 ∷ 50 ∷ 49 ∷ 52 ∷ 55 ∷ 52 ∷ 56 ∷ 51 ∷ 54 ∷ 52 ∷ 56 ∷ 10
    ∷ 110 ∷ 111 ∷ 100 ∷ 101 ∷ 32 ∷ 56 ∷ 32 ∷ 53 ∷ 51 ∷ 54 ∷ 56 ∷ 55 ∷ 48 ∷ 57 ∷ 49 ∷ 50 ∷ 32 ∷ 50 ∷ 49 ∷ 52 ∷ 55 ∷ 52 ∷ 56 ∷ 51 ∷ 54 ∷ 52 ∷ 56 ∷ 32 ∷ 50 ∷ 49 ∷ 52 ∷ 55 ∷ 52 ∷ 56 ∷ 51 ∷ 54 ∷ 52 ∷ 56 ∷ 10
    ∷ 110 ∷ 111 ∷ 100 ∷ 101 ∷ 32 ∷ 54 ∷ 32 ∷ 53 ∷ 51 ∷ 54 ∷ 56 ∷ 55 ∷ 48 ∷ 57 ∷ 49 ∷ 50 ∷ 32 ∷ 48 ∷ 32 ∷ 50 ∷ 49 ∷ 52 ∷ 55 ∷ 52 ∷ 56 ∷ 51 ∷ 54 ∷ 52 ∷ 56 ∷ 10
    ∷ 99 ∷ 111 ∷ 110 ∷ 115 ∷ 116 ∷ 32 ∷ 48 ∷ 10
    ∷ 99 ∷ 111 ∷ 110 ∷ 115 ∷ 116 ∷ 32 ∷ 49 ∷ 10
    ∷ 114 ∷ 111 ∷ 111 ∷ 116 ∷ 32 ∷ 48 ∷ 10
    ∷ 114 ∷ 111 ∷ 111 ∷ 116 ∷ 32 ∷ 50 ∷ 49 ∷ 52 ∷ 55 ∷ 52 ∷ 56 ∷ 51 ∷ 54 ∷ 52 ∷ 56 ∷ 10
    ∷ 101 ∷ 110 ∷ 100 ∷ 10
    ∷ []

-- the file lists so
pub lists : blob_list file ≡ text
unfolding file text blob_list listing decimal
lists = refl
