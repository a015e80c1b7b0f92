-- A push's promise leaves one answer and one memory.
-- Assumes nothing.
use Rattle.std.proofs.Common.{◌≡◌, ℕ, List, sym, refl, ◌∙◌}
use Rattle.std.specs.Prelude.{Option, Some, None}
use Rattle.node_table.specs.Puts.{id_of, count_of, Pushes}
use Rattle.node_table.specs.Table.{Pushed}
use Rattle.node_table.specs.declared.table.Placed.{Placed}

-- the answer of that id and that count
abbrev put_said : Option ℕ → ℕ → Option Placed
put_said (Some id) count = Some (record { id = id; count = count })
put_said None count = None

put_back : (n : ℕ) (r : Option Placed) → put_said (id_of r) (count_of n r) ≡ r
put_back n (Some p) = refl
put_back n None = refl

pub push_single : (o : Pushed) (n : ℕ) (r r' : Option Placed) (ns ps ns' ps' : List ℕ) → Pushes o n r ns ps → Pushes o n r' ns' ps' → (r ≡ r') × (ns ≡ ns') × (ps ≡ ps')
push_single o n r r' ns ps ns' ps' f g =
    let e = f.id ∙ sym g.id in
    let q = f.count ∙ sym g.count in
    (sym (put_back n r) ∙ (λ i. put_said (e i) (q i)) ∙ put_back n r', f.nodes ∙ sym g.nodes, f.places ∙ sym g.places)
