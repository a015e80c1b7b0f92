use Rattle.std.proofs.Common.{◌≤◌, ◌≡◌, ℕ, length, subst, sym, le_refl}
use Rattle.std.proofs.Math.ListN.{replicate}
use Rattle.std.proofs.lemmas.List.{length-replicate}
use Rattle.blob_list.proofs.list.Goals as goal

-- so many zeros are as many
long : (n z : ℕ) → n ≡ length (replicate n z)
long n z = sym (length-replicate n z)

-- and no fewer
enough : (n z : ℕ) → n ≤ length (replicate n z)
enough n z = subst (λ m. n ≤ m) (long n z) (le_refl n)

pub slice_bounds-list_over-end-2 : goal.slice_bounds-list_over-end-2
slice_bounds-list_over-end-2 g c = long 524288 0

pub list_over-requires-clause-text_room : goal.list_over-requires-clause-text_room
list_over-requires-clause-text_room g c = enough 524288 0
