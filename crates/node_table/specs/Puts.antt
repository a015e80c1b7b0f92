-- What the push of the code says, in the words of the definitions.
-- Assumes nothing.
use Rattle.std.specs.Prelude.{◌≡◌, ℕ, List, Option, Some, None}
use Rattle.node_table.specs.Table.{Pushed}
use Rattle.node_table.specs.declared.table.Placed.{Placed}

-- the id of the code's answer
abbrev pub id_of : Option Placed → Option ℕ
id_of (Some p) = Some p.id
id_of None = None

-- how many nodes there are after it, of n before
abbrev pub count_of : ℕ → Option Placed → ℕ
count_of n (Some p) = p.count
count_of n None = n

-- the promise: the answer, the count and each lent word are the outcome's
pub record Pushes (o : Pushed) (n : ℕ) (r : Option Placed) (ns ps : List ℕ) : Type 0 where
  pub id : id_of r ≡ o.id
  pub count : count_of n r ≡ o.after.count
  pub nodes : ns ≡ o.after.nodes
  pub places : ps ≡ o.after.places
