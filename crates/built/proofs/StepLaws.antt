-- Every call over memory that stands for a program is the call on the program.
-- Assumes nothing.
use mathlib.Core.Bool.{Bool, true, false, cond, ◌||◌}
use mathlib.Core.List.{List, [], ◌∷◌}
use mathlib.Core.Path.{◌≡◌, refl, ap, ◌∙◌}
use Prim.Native.Nat.{ℕ, ◌+◌, ◌*◌, ◌/◌, ◌%◌, ◌<◌, min}
use native.Mathlib.Nat.{mod-mod}
use native.Mathlib.Omega.{arith}
use lib.Dec.{eqb, leb}
use lib.ListN.{length, get_or, set, length-set}
use lib.Seq.{get_or-set_same, get_or-set_other}
use borrow.Author.Tests.{le-ltb, leb-false}
use Rattle.laws.proofs.Tests.{or_left, or_right}
use Rattle.field.specs.Base.{p}
use Rattle.ir.specs.Program.{most, joined}
use Rattle.ir.specs.Refusals.{Said, Row, row, any_holds, gives}
use Rattle.ir.specs.Words as Op
use Rattle.ir.specs.Words.{Node}
use Rattle.builder.specs.declared.ir_builder.Expr.{Expr}
use Rattle.node_table.specs.Words.{node}
use Rattle.node_table.specs.Hashing.{Start}
use Rattle.node_table.specs.Table.{Table}
use Rattle.node_table.specs.Model.{push_list}
use Rattle.builder.specs.Answers.{made, pushed}
use Rattle.builder.specs.Calls.{short_row, index_row, cell_node, uniform_of, table_offset_of, cell_of, binary_of, unary_of}
use Rattle.builder.specs.Roots.{emit_of}
use Rattle.const_table.specs.Positions.{position_of, ext_position_of, with_base, with_ext}
use Rattle.built.specs.Draft.{Draft, Room, Told, Call, main, aux, challenge, alpha_power, table_offset, const_base, const_ext, add, sub, mul, neg, embed, emit, with_list, stranger, stranger_row, making, binary, limbs_of, same_limbs, index_of, told}
use Rattle.built.specs.Memory.{Memory, table_of, Answered, with_table, answered, base_at, ext_at, base_room, ext_room, draft_of, room_of, Stands}
use Rattle.built.proofs.NodeLaws.{Nodes, pushed_id, maybe_nodes, maybe_room, not_short, strangers}
use Rattle.built.proofs.ConstantLaws.{whole_scan, Held, Writes, const_shares}
use Rattle.built.proofs.RootLaws.{Roots, maybe_roots, maybe_long}

-- memory stands for a program, and its lookups find every node
pub record Holds (start : Start) (m : Memory) (d : Draft) : Type 0 where
  pub nodes : Nodes start (table_of m) d.nodes
  pub bases : Held base_at base_room m.bases m.builder.bases d.bases
  pub exts : Held ext_at ext_room m.exts m.builder.exts d.exts
  pub roots : Roots m.roots m.builder.roots d.roots

pub holds_program : (start : Start) (m : Memory) (d : Draft) → Holds start m d → draft_of m ≡ d
holds_program start m d h = λ i. record { nodes = h.nodes.list i; bases = h.bases.values i; exts = h.exts.values i; roots = h.roots.list i }

pub holds_stands : (start : Start) (m : Memory) (d : Draft) → Holds start m d → Stands m d
holds_stands start m d h =
    record { program = holds_program start m d h; nodes_fit = h.nodes.few; bases_fit = h.bases.few; exts_fit = h.exts.few; roots_fit = h.roots.few }

-- a call over memory m, and a call on a program
pub record Step (start : Start) (m : Memory) (a : Answered) (q : Told) : Type 0 where
  pub said : a.said ≡ q.said
  pub holds : Holds start a.memory q.draft
  pub rooms : room_of a.memory ≡ room_of m

-- ---- constants in words

module _ (bs : List ℕ) (m v : ℕ) where
  pub base_writes : Writes base_at base_room bs m (v % p) (with_base bs m v)
  base_writes =
      record {
        before = λ j l. ap (λ x. x % p) (get_or-set_other bs m j (v % p) 0 (omega arith));
        here = λ l. ap (λ x. x % p) (get_or-set_same bs m (v % p) 0 (omega arith)) ∙ mod-mod v p;
        space = ap (λ n. min n most) (length-set bs m (v % p));
      }

  pub base_index : (cs : List ℕ) → Held base_at base_room bs m cs → position_of bs (min m most) v ≡ index_of (λ x. eqb x (v % p)) cs
  unfolding position_of
  base_index cs h =
      let f = h.few in
      let e : min m most ≡ m = omega arith in
      rw e (whole_scan (λ x. eqb x (v % p)) (base_at bs) m ∙ ap (index_of (λ x. eqb x (v % p))) h.values)

module _ (xs : List ℕ) (m : ℕ) (v : List ℕ) where
  abbrev a : ℕ
  a = get_or v 0 0 % p

  abbrev b : ℕ
  b = get_or v 1 0 % p

  abbrev c : ℕ
  c = get_or v 2 0 % p

  abbrev xs₁ : List ℕ
  xs₁ = set xs (3 * m) a

  abbrev xs₂ : List ℕ
  xs₂ = set xs₁ (3 * m + 1) b

  ext_low : (j : ℕ) → j < 3 * m → get_or (with_ext xs m v) j 0 ≡ get_or xs j 0
  ext_low j l =
      get_or-set_other xs₂ (3 * m + 2) j c 0 (omega arith) ∙ get_or-set_other xs₁ (3 * m + 1) j b 0 (omega arith) ∙ get_or-set_other xs (3 * m) j a 0 (omega arith)

  ext_long : length (with_ext xs m v) ≡ length xs
  ext_long = length-set xs₂ (3 * m + 2) c ∙ length-set xs₁ (3 * m + 1) b ∙ length-set xs (3 * m) a

  ext_here : m < ext_room xs → ext_at (with_ext xs m v) m ≡ limbs_of v
  ext_here l =
      let n₁ = length-set xs (3 * m) a in
      let n₂ = length-set xs₁ (3 * m + 1) b in
      let l₀ = get_or-set_other xs₂ (3 * m + 2) (3 * m) c 0 (omega arith) ∙ get_or-set_other xs₁ (3 * m + 1) (3 * m) b 0 (omega arith) ∙ get_or-set_same xs (3 * m) a 0 (omega arith) in
      let l₁ = get_or-set_other xs₂ (3 * m + 2) (3 * m + 1) c 0 (omega arith) ∙ get_or-set_same xs₁ (3 * m + 1) b 0 (omega arith) in
      let l₂ = get_or-set_same xs₂ (3 * m + 2) c 0 (omega arith) in
      rw (l₀, l₁, l₂, mod-mod (get_or v 0 0) p, mod-mod (get_or v 1 0) p, mod-mod (get_or v 2 0) p)

  ext_writes : Writes ext_at ext_room xs m (limbs_of v) (with_ext xs m v)
  ext_writes =
      record {
        before = λ j l. rw (ext_low (3 * j) (omega arith), ext_low (3 * j + 1) (omega arith), ext_low (3 * j + 2) (omega arith));
        here = ext_here;
        space = ap (λ n. min (n / 3) most) ext_long;
      }

  ext_index : (cs : List (List ℕ)) → Held ext_at ext_room xs m cs → ext_position_of xs (min m most) v ≡ index_of (λ x. same_limbs x (limbs_of v)) cs
  unfolding ext_position_of
  ext_index cs h =
      let f = h.few in
      let e : min m most ≡ m = omega arith in
      rw e (whole_scan (λ x. same_limbs x (limbs_of v)) (ext_at xs) m ∙ ap (index_of (λ x. same_limbs x (limbs_of v))) h.values)

-- ---- the calls

module _ (start : Start) (m : Memory) (d : Draft) (h : Holds start m d) where
  abbrev t : Table
  t = table_of m

  abbrev r : Room
  r = room_of m

  module _ (w : Node) where
    made_holds : (b : Bool) (s : Said) → Holds start (with_table m (record { said = s; after = cond b t (pushed start t w).after })).memory (cond b d (with_list d (push_list r.nodes d.nodes w).list))
    made_holds true s = h
    made_holds false s = record { nodes = maybe_nodes start t d.nodes h.nodes w false; bases = h.bases; exts = h.exts; roots = h.roots }

    made_step : (rows : List Row) → Step start m (with_table m (made start (short_row t ∷ rows) t w)) (making r rows d w)
    made_step rows =
        rw (not_short start t d.nodes h.nodes, pushed_id start t d.nodes h.nodes w)
        (record {
          said = refl;
          holds = made_holds (any_holds rows) (gives []);
          rooms = ap (λ n. record { nodes = n; bases = r.bases; exts = r.exts; roots = r.roots }) (maybe_room start t d.nodes h.nodes w (any_holds rows));
        })

  uniform_step : (tag i : ℕ) → Step start m (with_table m (uniform_of start tag t i)) (making r (index_row i ∷ []) d (node tag i 0 1))
  unfolding uniform_of
  uniform_step tag i = made_step (node tag i 0 1) (index_row i ∷ [])

  cell_step : (own : Bool) (offset col : ℕ) → Step start m (with_table m (cell_of start own t offset col)) (making r (index_row col ∷ []) d (cell_node own offset col))
  unfolding cell_of
  cell_step own offset col = made_step (cell_node own offset col) (index_row col ∷ [])

  offset_step : Step start m (with_table m (table_offset_of start t)) (making r [] d (node Op.table_offset 0 0 1))
  unfolding table_offset_of
  offset_step = made_step (node Op.table_offset 0 0 1) []

  binary_step : (tag : ℕ) (a b : Expr) → Step start m (with_table m (binary_of start tag t a b)) (binary r tag d a b)
  unfolding binary_of
  binary_step tag a b = rw (strangers start t d.nodes h.nodes a, strangers start t d.nodes h.nodes b) (made_step (node tag a.id b.id (joined a.dim b.dim)) (row (stranger d.nodes a || stranger d.nodes b) 3 ∷ []))

  unary_step : (tag dim : ℕ) (a : Expr) → Step start m (with_table m (unary_of start tag dim t a)) (making r (stranger_row d a ∷ []) d (node tag a.id 0 dim))
  unfolding unary_of
  unary_step tag dim a = rw (strangers start t d.nodes h.nodes a) (made_step (node tag a.id 0 dim) (stranger_row d a ∷ []))

  base_step : (v : ℕ) → Step start m (answered start m (const_base v)) (told r d (const_base v))
  unfolding answered told
  base_step v =
      let k = m.builder.bases in
      let s = const_shares base_at base_room m.bases k d.bases h.bases (v % p) (with_base m.bases k v) (base_writes m.bases k v)
      start t d.nodes h.nodes (length m.bases) refl (λ x. eqb x (v % p)) Op.const_base 0 _ (base_index m.bases k v d.bases h.bases) in
      record {
        said = s.said;
        holds = record { nodes = s.nodes; bases = s.consts; exts = h.exts; roots = h.roots };
        rooms = rw (s.rooms, s.spaces);
      }

  ext_step : (v : List ℕ) → Step start m (answered start m (const_ext v)) (told r d (const_ext v))
  unfolding answered told
  ext_step v =
      let k = m.builder.exts in
      let s = const_shares ext_at ext_room m.exts k d.exts h.exts (limbs_of v) (with_ext m.exts k v) (ext_writes m.exts k v)
      start t d.nodes h.nodes (length m.exts / 3) refl (λ x. same_limbs x (limbs_of v)) Op.const_ext 1 _ (ext_index m.exts k v d.exts h.exts) in
      record {
        said = s.said;
        holds = record { nodes = s.nodes; bases = h.bases; exts = s.consts; roots = h.roots };
        rooms = rw (s.rooms, s.spaces);
      }

  emit_step : (c : ℕ) (e : Expr) → Step start m (answered start m (emit c e)) (told r d (emit c e))
  unfolding answered told emit_of
  emit_step c e =
      let few = h.nodes.few in
      let some = h.roots.few in
      let rows = stranger_row d e ∷ row (leb (length m.roots) c) 6 ∷ [] in
      let inside : any_holds rows ≡ false → c < length m.roots = λ q.
      leb-false (length m.roots) c (or_left (leb (length m.roots) c) false (or_right (stranger d.nodes e) (leb (length m.roots) c || false) q)) in
      rw (le-ltb (length m.nodes / 4) m.builder.nodes (omega arith), le-ltb (length m.roots) m.builder.roots some, strangers start t d.nodes h.nodes e)
      (record {
        said = refl;
        holds = record { nodes = h.nodes; bases = h.bases; exts = h.exts; roots = maybe_roots m.roots m.builder.roots d.roots h.roots c e.id (any_holds rows) inside };
        rooms = ap (λ n. record { nodes = r.nodes; bases = r.bases; exts = r.exts; roots = n }) (maybe_long m.roots m.builder.roots d.roots h.roots c e.id (any_holds rows));
      })

pub step : (start : Start) (m : Memory) (d : Draft) → Holds start m d → (c : Call) → Step start m (answered start m c) (told (room_of m) d c)
unfolding answered told
step start m d h (main offset col l) = cell_step start m d h true offset col
step start m d h (aux offset col l) = cell_step start m d h false offset col
step start m d h (challenge i) = uniform_step start m d h Op.rap_challenge i
step start m d h (alpha_power i) = uniform_step start m d h Op.alpha_pow i
step start m d h table_offset = offset_step start m d h
step start m d h (const_base v) = base_step start m d h v
step start m d h (const_ext v) = ext_step start m d h v
step start m d h (add a b) = binary_step start m d h Op.add a b
step start m d h (sub a b) = binary_step start m d h Op.sub a b
step start m d h (mul a b) = binary_step start m d h Op.mul a b
step start m d h (neg a) = unary_step start m d h Op.neg a.dim a
step start m d h (embed a) = unary_step start m d h Op.embed 1 a
step start m d h (emit c e) = emit_step start m d h c e
