-- The promise of `lower` leaves one answer and one memory, and its rows stand in document 01's order.
-- Assumes nothing.
use Rattle.std.specs.Prelude.{Result, Ok, Err}
use Rattle.ir.specs.declared.refusal.Refusal.{Refusal}
use Rattle.blob_rules.specs.declared.blob.BlobCounts.{BlobCounts}
use mathlib.Core.Bool.{true, cond}
use mathlib.Core.Path.{◌≡◌, refl, sym, ap, ◌∙◌}
use lib.Dec.{eqb}
use lib.ListN.{get_or}
use Rattle.ir.specs.Program.{Program}
use Rattle.ir.specs.Refusals.{Said, in_order, program_order}
use Rattle.ir.proofs.Single.{refusal_of, known}
use Rattle.lower_parts.specs.Answer.{Lists, Output, lower_rows, said_of_lowering, LowerAnswer}

abbrev lowering_said : Said → Result BlobCounts Refusal
lowering_said s =
    let v = s.values in
    cond (eqb s.number 0)
    (Ok
    (record {
      nodes = get_or v 0 0;
      bases = get_or v 1 0;
      exts = get_or v 2 0;
      roots = get_or v 3 0;
      num_base = get_or v 4 0;
      base_slots = get_or v 5 0;
      ext_slots = get_or v 6 0;
    }))
    (Err (refusal_of s.number s.place))

lowering_back : (a : Result BlobCounts Refusal) → lowering_said (said_of_lowering a) ≡ a
lowering_back (Ok c) = refl
lowering_back (Err r) = rw ((known r).0, (known r).1)

-- an answer is known by what it says
pub lowering_single : (a a' : Result BlobCounts Refusal) → said_of_lowering a ≡ said_of_lowering a' → a ≡ a'
lowering_single a a' e = sym (lowering_back a) ∙ ap lowering_said e ∙ lowering_back a'

pub lower_single : {p : Program} {b b' b'' : Lists} {o o' o'' : Output} {a a' : Result BlobCounts Refusal} → LowerAnswer p b o a b' o' → LowerAnswer p b o a' b'' o'' → (a ≡ a') × (b' ≡ b'') × (o' ≡ o'')
lower_single {p} {b} {b'} {b''} {o} {o'} {o''} {a} {a'} f g =
    (lowering_single a a' (f.said ∙ sym g.said), f.lists ∙ sym g.lists, f.wrote ∙ sym g.wrote)

pub lower_in_order : (p : Program) (b : Lists) (o : Output) → in_order (lower_rows p b o) program_order ≡ true
lower_in_order p b o = refl
