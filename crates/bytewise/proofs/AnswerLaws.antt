-- What the calls on bytes answer, case by case.
-- Assumes nothing.
use Rattle.std.specs.Prelude.{Result}
use mathlib.Core.Bool.{Bool, false, ◌||◌}
use mathlib.Core.List.{List}
use mathlib.Core.Path.{◌≡◌, refl, sym, ap, subst, ◌∙◌}
use Prim.Native.Nat.{ℕ, ◌/◌}
use lib.Dec.{ltb}
use lib.ListN.{length, take}
use borrow.Author.Tests.{ltb-false}
use Rattle.laws.proofs.Tests.{or_left, or_right, clash}
use Rattle.ir.specs.declared.program.Counts.{Counts}
use Rattle.ir.specs.declared.refusal.Refusal.{Refusal}
use Rattle.ir.specs.Program.{too_many_nodes, too_many_roots}
use Rattle.lower_parts.specs.Answer.{Lists, Output}
use Rattle.stored_parts.specs.Form.{Tables}
use Rattle.stored.specs.Answer.{put}
use Rattle.byte_words.specs.Words.{whole}
use Rattle.bytewise.specs.Lowering.{words_of, short_for, refused_early, Roomy, program, LowerFile, LowerStored}
use Rattle.byte_words.proofs.WordLaws.{unpacked}
use Rattle.byte_words.proofs.ReadingLaws.{as_long}

-- ---- a program's tables in rooms

pub roomy : (t rooms : Tables) → short_for t rooms ≡ false → Roomy t rooms
roomy t rooms h =
    let n = ltb (length rooms.nodes) (length t.nodes / 4) in
    let b = ltb (length rooms.bases) (length t.bases / 8) in
    let x = ltb (length rooms.exts) (length t.exts / 8) in
    let r = ltb (length rooms.roots) (length t.roots / 4) in
    let nbx = or_left (n || b || x) r h in
    let nb = or_left (n || b) x nbx in
    record {
      nodes_fit = ltb-false _ _ (or_left n b nb);
      bases_fit = ltb-false _ _ (or_right n b nb);
      exts_fit = ltb-false _ _ (or_right (n || b) x nbx);
      roots_fit = ltb-false _ _ (or_right (n || b || x) r h);
    }

-- the first words of each room, as many as are whole in the table's bytes
abbrev pub fronts : Tables → Tables → Tables
fronts t rooms =
    record {
      nodes = take (whole 4 t.nodes) rooms.nodes;
      bases = take (whole 8 t.bases) rooms.bases;
      exts = take (whole 8 t.exts) rooms.exts;
      roots = take (whole 4 t.roots) rooms.roots;
    }

-- and 8 and 9 let the counts through
pub roomy_early : (c : Counts) (t rooms : Tables) → refused_early c t rooms ≡ false → Roomy t rooms
roomy_early c t rooms h = roomy t rooms (or_right (too_many_roots c) _ (or_right (too_many_nodes c) _ h))

pub still_roomy : (t rooms : Tables) {rooms' : Tables} → Roomy t rooms → rooms' ≡ put (words_of t) rooms → Roomy t rooms'
still_roomy t rooms f e =
    let k = as_long (words_of t) rooms e in
    record {
      nodes_fit = rw k.nodes_as f.nodes_fit;
      bases_fit = rw k.bases_as f.bases_fit;
      exts_fit = rw k.exts_as f.exts_fit;
      roots_fit = rw k.roots_as f.roots_fit;
    }

-- and as unpacking left them
pub unpacked_fit : (c : Counts) (t rooms : Tables) {rooms' : Tables} {s : Bool} → s ≡ refused_early c t rooms → s ≡ false → rooms' ≡ put (words_of t) rooms → Roomy t rooms'
unpacked_fit c t rooms e h u = still_roomy t rooms (roomy_early c t rooms (sym e ∙ h)) u

-- they are the table's words
pub fronts_are : (t rooms : Tables) {rooms' : Tables} → Roomy t rooms → rooms' ≡ put (words_of t) rooms → fronts t rooms' ≡ words_of t
fronts_are t rooms f e =
    ap (fronts t) e
    ∙ rw (unpacked 4 t.nodes rooms.nodes f.nodes_fit refl, unpacked 8 t.bases rooms.bases f.bases_fit refl, unpacked 8 t.exts rooms.exts f.exts_fit refl, unpacked 4 t.roots rooms.roots f.roots_fit refl)

module _ (c : Counts) (t rooms : Tables) {lists : Lists} {out : Output} {file : List ℕ} {s : Bool} (e : s ≡ refused_early c t rooms) where
  pub lower_done : s ≡ false → {rooms' : Tables} {answer : Result ℕ Refusal} {lists' : Lists} {out' : Output} {file' : List ℕ} → rooms' ≡ put (words_of t) rooms → LowerFile (program c (fronts t rooms')) lists out file answer lists' out' file' → LowerStored c t rooms lists out file answer rooms' lists' out' file'
  lower_done h {answer = answer} {lists' = lists'} {out' = out'} {file' = file'} u f =
      record {
        early = λ q. clash q (sym e ∙ h);
        unpacked = λ q. u;
        lowering = λ q. subst (λ (x : Tables). LowerFile (program c x) lists out file answer lists' out' file') (fronts_are t rooms (roomy_early c t rooms (sym e ∙ h)) u) f;
      }

-- an answer, told of rooms that are the same one by one
pub told : {c : Counts} {t rooms : Tables} {lists lists' : Lists} {out out' : Output} {file file' : List ℕ} {answer : Result ℕ Refusal} (r : Tables) (n b x k : List ℕ) → n ≡ r.nodes → b ≡ r.bases → x ≡ r.exts → k ≡ r.roots
    → LowerStored c t rooms lists out file answer r lists' out' file' → LowerStored c t rooms lists out file answer (record { nodes = n; bases = b; exts = x; roots = k }) lists' out' file'
told r n b x k e f g h a = rw (e, f, g, h) a
