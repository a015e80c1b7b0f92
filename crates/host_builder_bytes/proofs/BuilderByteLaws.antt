-- The builder's calls on bytes: one answer and one memory of each.
-- Assumes nothing.
use Rattle.std.specs.Prelude.{Result}
use mathlib.Core.Path.{◌≡◌, sym, ap, ◌∙◌}
use Prim.Native.Nat.{ℕ}
use Rattle.ir.specs.declared.refusal.Refusal.{Refusal}
use Rattle.builder.specs.declared.ir_builder.Made.{Made}
use Rattle.builder.specs.declared.ir_builder.IrBuilder.{IrBuilder}
use Rattle.builder.specs.Answers.{said_of_answer, builder_after, Built}
use Rattle.builder.specs.Consts.{Interned}
use Rattle.gaps.specs.Gaps.{said_of_gaps}
use Rattle.builder.specs.Roots.{said_of_emitted, builder_emitted, Rooting}
use Rattle.byte_words.specs.Rooms.{Lent}
use Rattle.builder_bytes.specs.Promises.{GivesBytes, InternsBytes, EmitBytes, GapsBytes}
use Rattle.builder_bytes.proofs.Single.{gives_bytes_single, interns_bytes_single, emit_bytes_single, gaps_bytes_single}
use Rattle.host_answer.specs.Answer.{answer_of, value_on_done}
use Rattle.host_handle.specs.Handles.{Handed}
use Rattle.host_builder_bytes.specs.BuilderByteCalls.{HandsNodeBytes, HandsConstBytes, HandsRootBytes, HandsGapsBytes}

handed_as : {a a' id id₁ id₂ dim dim₁ dim₂ : ℕ} {r r' : Result Made Refusal} → r ≡ r' → Handed (said_of_answer r) a id id₁ dim dim₁ → Handed (said_of_answer r') a' id id₂ dim dim₂ → (a ≡ a') × (id₁ ≡ id₂) × (dim₁ ≡ dim₂)
handed_as {id = id} {dim = dim} e f g = (
  f.answered ∙ ap (λ (o : Result Made Refusal). answer_of (said_of_answer o)) e ∙ sym g.answered,
  f.id_written ∙ ap (λ (o : Result Made Refusal). value_on_done (said_of_answer o) 0 id) e ∙ sym g.id_written,
  f.dim_written ∙ ap (λ (o : Result Made Refusal). value_on_done (said_of_answer o) 1 dim) e ∙ sym g.dim_written,
)

module _ {a a' id id₁ id₂ dim dim₁ dim₂ n₁ n₂ : ℕ} {b c : IrBuilder} {nodes places nodes₁ nodes₂ places₁ places₂ : Lent} where
  pub cir_builder_node_bytes_single : {o : Built} → HandsNodeBytes (λ r. GivesBytes o b nodes places r nodes₁ places₁) c a id id₁ dim dim₁ n₁ → HandsNodeBytes (λ r. GivesBytes o b nodes places r nodes₂ places₂) c a' id id₂ dim dim₂ n₂
      → (a ≡ a') × (id₁ ≡ id₂) × (dim₁ ≡ dim₂) × (n₁ ≡ n₂) × (nodes₁ ≡ nodes₂) × (places₁ ≡ places₂)
  cir_builder_node_bytes_single f g =
      let q = gives_bytes_single f.promised g.promised in
      let h = handed_as q.0 f.handed g.handed in
      (h.0, h.1, h.2, f.counted ∙ ap (λ (r : Result Made Refusal). (builder_after c r).nodes) q.0 ∙ sym g.counted, q.1, q.2)

  pub cir_builder_const_bytes_single : {counts : IrBuilder → ℕ → ℕ → IrBuilder} {of : IrBuilder → ℕ} {o : Interned} {consts consts₁ consts₂ : Lent} {m₁ m₂ : ℕ} → HandsConstBytes (λ r. InternsBytes counts o b nodes places consts r nodes₁ places₁ consts₁) c of a id id₁ dim dim₁ n₁ m₁ → HandsConstBytes (λ r. InternsBytes counts o b nodes places consts r nodes₂ places₂ consts₂) c of a' id id₂ dim dim₂ n₂ m₂
      → (a ≡ a') × (id₁ ≡ id₂) × (dim₁ ≡ dim₂) × (n₁ ≡ n₂) × (m₁ ≡ m₂) × (nodes₁ ≡ nodes₂) × (places₁ ≡ places₂) × (consts₁ ≡ consts₂)
  cir_builder_const_bytes_single {of = of} f g =
      let q = interns_bytes_single f.promised g.promised in
      let h = handed_as q.0 f.handed g.handed in (
        h.0,
        h.1,
        h.2,
        f.counted ∙ ap (λ (r : Result Made Refusal). (builder_after c r).nodes) q.0 ∙ sym g.counted,
        f.held ∙ ap (λ (r : Result Made Refusal). of (builder_after c r)) q.0 ∙ sym g.held,
        q.1,
        q.2,
        q.3,
      )

pub cir_builder_emit_bytes_single : {o : Rooting} {b c : IrBuilder} {nodes roots nodes₁ nodes₂ roots₁ roots₂ : Lent} {a a' k₁ k₂ : ℕ} → HandsRootBytes (λ r. EmitBytes o b nodes roots r nodes₁ roots₁) c a k₁ → HandsRootBytes (λ r. EmitBytes o b nodes roots r nodes₂ roots₂) c a' k₂
    → (a ≡ a') × (k₁ ≡ k₂) × (nodes₁ ≡ nodes₂) × (roots₁ ≡ roots₂)
cir_builder_emit_bytes_single {c = c} f g =
    let q = emit_bytes_single f.promised g.promised in (
      f.answered ∙ ap (λ (r : Result IrBuilder Refusal). answer_of (said_of_emitted r)) q.0 ∙ sym g.answered,
      f.counted ∙ ap (λ (r : Result IrBuilder Refusal). (builder_emitted c r).roots) q.0 ∙ sym g.counted,
      q.1,
      q.2,
    )

pub cir_builder_gaps_bytes_single : {k : ℕ} {roots out roots₁ roots₂ out₁ out₂ : Lent} {a a' count count₁ count₂ : ℕ} → HandsGapsBytes (λ r. GapsBytes k roots out r roots₁ out₁) a count count₁ → HandsGapsBytes (λ r. GapsBytes k roots out r roots₂ out₂) a' count count₂
    → (a ≡ a') × (count₁ ≡ count₂) × (roots₁ ≡ roots₂) × (out₁ ≡ out₂)
cir_builder_gaps_bytes_single {count = count} f g =
    let q = gaps_bytes_single f.promised g.promised in (
      f.answered ∙ ap (λ (r : Result ℕ Refusal). answer_of (said_of_gaps r)) q.0 ∙ sym g.answered,
      f.written ∙ ap (λ (r : Result ℕ Refusal). value_on_done (said_of_gaps r) 0 count) q.0 ∙ sym g.written,
      q.1,
      q.2,
    )
