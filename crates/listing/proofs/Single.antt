-- The promise of `list_stored` leaves one answer and one memory.
-- Assumes nothing.
use mathlib.Core.List.{List}
use mathlib.Core.Path.{◌≡◌, sym, ◌∙◌}
use Prim.Native.Nat.{ℕ}
use Rattle.listing.specs.Listing.{blob_list, Puts}

pub list_stored_single : (file : List ℕ) {out out' out'' : List ℕ} {r r' : ℕ} → Puts out 0 524288 (blob_list file) out' r → Puts out 0 524288 (blob_list file) out'' r' → (r ≡ r') × (out' ≡ out'')
list_stored_single file f g = (f.next ∙ sym g.next, f.stands ∙ sym g.stands)
