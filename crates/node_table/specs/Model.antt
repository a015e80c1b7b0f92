-- The builder as the Rust has it: a list of nodes.
-- Assumes nothing.
use Rattle.std.specs.Prelude.{◌≡◌, ℕ, cond, List, [], ◌∷◌, ◌++◌, length, nat_lt, Option, None, Some}
use Rattle.ir.specs.Words.{Node}
use Rattle.node_table.specs.Words.{view, lookup}
use Rattle.node_table.specs.Table.{Pushed}

-- the id that a push answers, and the nodes after it
pub record Listed : Type 0 where
  pub id : Option ℕ
  pub list : List Node

-- an equal node's id, else the next id, while there is room
unfoldable pub push_list : ℕ → List Node → Node → Listed
push_list room xs w =
    cond (nat_lt (lookup w xs) (length xs)) (record { id = Some (lookup w xs); list = xs })
    (cond (nat_lt (length xs) room) (record { id = Some (length xs); list = xs ++ (w ∷ []) }) (record { id = None; list = xs }))

-- a push over memory answers and leaves what the push over a list does
pub record Follows (o : Pushed) (m : Listed) : Type 0 where
  pub ids : o.id ≡ m.id
  pub lists : view o.after.nodes o.after.count ≡ m.list
