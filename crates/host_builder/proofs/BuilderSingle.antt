-- Each of the builder's calls leaves one answer and one memory, whatever its definition.
-- Assumes nothing.
use mathlib.Core.List.{List}
use mathlib.Core.Path.{◌≡◌, sym, ◌∙◌}
use Prim.Native.Nat.{ℕ}
use Rattle.ir.specs.Refusals.{Said}
use Rattle.node_table.specs.Table.{Table}
use Rattle.builder.specs.Answers.{Built}
use Rattle.builder.specs.Consts.{Interned}
use Rattle.builder.specs.Roots.{Rooting}
use Rattle.host_builder.specs.BuilderCalls.{HandsNode, HandsConst, HandsRoot, HandsGaps}
use Rattle.host_handle.specs.Handles.{Handed}

module _ {id id₁ id₂ dim dim₁ dim₂ a a' : ℕ} where
  handed_single : {s : Said} → Handed s a id id₁ dim dim₁ → Handed s a' id id₂ dim dim₂ → (a ≡ a') × (id₁ ≡ id₂) × (dim₁ ≡ dim₂)
  handed_single f g =
      (f.answered ∙ sym g.answered, f.id_written ∙ sym g.id_written, f.dim_written ∙ sym g.dim_written)

  -- of every call that makes a node from nodes and places alone
  pub cir_builder_node_single : {o : Built} {t t' : Table} → HandsNode o t a id id₁ dim dim₁ → HandsNode o t' a' id id₂ dim dim₂ → (a ≡ a') × (id₁ ≡ id₂) × (dim₁ ≡ dim₂) × (t ≡ t')
  cir_builder_node_single f g =
      let q = handed_single f.handed g.handed in (q.0, q.1, q.2, f.table ∙ sym g.table)

  -- of every call that makes a constant, and of the fresh builder
  pub cir_builder_const_single : {o : Interned} {t t' : Table} {cs cs' : List ℕ} {m m' : ℕ} → HandsConst o t cs m a id id₁ dim dim₁ → HandsConst o t' cs' m' a' id id₂ dim dim₂ → (a ≡ a') × (id₁ ≡ id₂) × (dim₁ ≡ dim₂) × (t ≡ t') × (cs ≡ cs') × (m ≡ m')
  cir_builder_const_single f g =
      let q = handed_single f.handed g.handed in
      (q.0, q.1, q.2, f.table ∙ sym g.table, f.constants ∙ sym g.constants, f.counted ∙ sym g.counted)

pub cir_builder_emit_single : {o : Rooting} {rs rs' : List ℕ} {k k' a a' : ℕ} → HandsRoot o rs k a → HandsRoot o rs' k' a' → (a ≡ a') × (rs ≡ rs') × (k ≡ k')
cir_builder_emit_single f g =
    (f.answered ∙ sym g.answered, f.rooted ∙ sym g.rooted, f.counted ∙ sym g.counted)

pub cir_builder_gaps_single : {roots : List ℕ} {k : ℕ} {old new new' : List ℕ} {a a' count count₁ count₂ : ℕ} → HandsGaps roots k old new a count count₁ → HandsGaps roots k old new' a' count count₂ → (a ≡ a') × (new ≡ new') × (count₁ ≡ count₂)
cir_builder_gaps_single f g =
    (f.answered ∙ sym g.answered, f.written ∙ sym g.written, f.counted ∙ sym g.counted)
