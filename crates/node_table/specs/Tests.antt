-- What is wrong with a handle or an index.
-- Assumes nothing.
use Rattle.std.specs.Prelude.{ℕ, ◌+◌, ◌*◌, Bool, not, ◌||◌, List, ◌==◌, nat_le, nat_lt, slice_index}

-- 3: an id not below the node count, or a dim that is not that node's
abbrev pub no_node : List ℕ → ℕ → ℕ → ℕ → Bool
no_node nodes n id dim = nat_le n id || not (slice_index nodes (4 * id + 3) == dim)

-- 2: a column, a challenge or an alpha power past the last that there is
abbrev pub past_index : ℕ → Bool
past_index index = nat_lt 65535 index
