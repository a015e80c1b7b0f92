-- A run of the code is the history of its calls.
-- Assumes nothing.
use mathlib.Core.List.{List, [], ◌∷◌}
use mathlib.Core.Path.{◌≡◌, sym, ap, ap₂, ◌∙◌, subst}
use Rattle.ir.specs.Refusals.{Said}
use Rattle.node_table.specs.Hashing.{start_of}
use Rattle.built.specs.Draft.{Call, main, aux, challenge, alpha_power, table_offset, const_base, const_ext, add, sub, mul, neg, embed, emit, fresh_draft}
use Rattle.built.specs.Memory.{Memory, Answered, with_table, answered, fresh, room_of, Stands}
use Rattle.built.specs.History.{answers, after, drafted}
use Rattle.built.specs.Runs.{NodeRun, CallRun, NewRun, Runs, CodeFollowsRust}
use Rattle.builder.specs.Answers.{Built}
use Rattle.built.proofs.Theorems.{builder_follows_rust, code_starts_inside}

-- what a call said and left is what the definition answers
pub record Is (a : Answered) (s : Said) (n : Memory) : Type 0 where
  pub said : s ≡ a.said
  pub memory : n ≡ a.memory

module _ (m : Memory) (s : Said) (n : Memory) where
  node_is : (o : Built) → NodeRun o m s n → Is (with_table m o) s n
  node_is o r =
      let b = r.builder ∙ r.promise.builder in
      record {
        said = r.says ∙ r.promise.said;
        memory = λ i. record { builder = b i; nodes = r.promise.nodes i; places = r.promise.places i; bases = r.bases i; exts = r.exts i; roots = r.roots i };
      }

  call_is : (c : Call) → CallRun m c s n → Is (answered start_of m c) s n
  unfolding CallRun answered
  call_is (main offset col h) r = node_is _ r
  call_is (aux offset col h) r = node_is _ r
  call_is (challenge i) r = node_is _ r
  call_is (alpha_power i) r = node_is _ r
  call_is table_offset r = node_is _ r
  call_is (const_base v) r =
      let b = r.builder ∙ r.promise.builder in
      record {
        said = r.says ∙ r.promise.said;
        memory = λ i. record { builder = b i; nodes = r.promise.nodes i; places = r.promise.places i; bases = r.promise.consts i; exts = r.exts i; roots = r.roots i };
      }
  call_is (const_ext v) r =
      let b = r.builder ∙ r.promise.builder in
      record {
        said = r.says ∙ r.promise.said;
        memory = λ i. record { builder = b i; nodes = r.promise.nodes i; places = r.promise.places i; bases = r.bases i; exts = r.promise.consts i; roots = r.roots i };
      }
  call_is (add a b) r = node_is _ r
  call_is (sub a b) r = node_is _ r
  call_is (mul a b) r = node_is _ r
  call_is (neg a) r = node_is _ r
  call_is (embed a) r = node_is _ r
  call_is (emit c e) r =
      let b = r.builder ∙ r.promise.builder in
      record {
        said = r.says ∙ r.promise.said;
        memory = λ i. record { builder = b i; nodes = r.nodes i; places = r.places i; bases = r.bases i; exts = r.exts i; roots = r.promise.roots i };
      }

  new_is : NewRun m s n → Is (fresh start_of m) s n
  unfolding fresh
  new_is r =
      let b = r.builder ∙ r.promise.builder in
      record {
        said = r.says ∙ r.promise.said;
        memory = λ i. record { builder = b i; nodes = r.promise.nodes i; places = r.promise.places i; bases = r.promise.consts i; exts = r.exts i; roots = r.roots i };
      }

runs_are : (cs : List Call) (m : Memory) (ss : List Said) (n : Memory) → Runs m cs ss n → (ss ≡ answers start_of m cs) × (n ≡ after start_of m cs)
unfolding Runs answers after
runs_are [] m ss n r = r
runs_are (c ∷ cs) m ss n (s, k, rest, one, more, e) =
    let i = call_is m s k c one in
    let t = runs_are cs k rest n more in (
      e ∙ ap₂ ◌∷◌ i.said (t.0 ∙ ap (λ x. answers start_of x cs) i.memory),
      t.1 ∙ ap (λ x. after start_of x cs) i.memory,
    )

pub code_follows_rust : CodeFollowsRust
code_follows_rust m s k new zero cs ss n run =
    let i = new_is m s k new in
    let f = builder_follows_rust start_of code_starts_inside m (ap (λ (x : Said). x.number) (sym i.said) ∙ zero) cs in
    let r = runs_are cs k ss n run in
    let e = r.1 ∙ ap (λ x. after start_of x cs) i.memory in (
      i.said ∙ f.begins,
      r.0 ∙ ap (λ x. answers start_of x cs) i.memory ∙ f.says,
      subst (λ x. Stands x (drafted (room_of m) fresh_draft cs)) (sym e) f.stands,
    )
