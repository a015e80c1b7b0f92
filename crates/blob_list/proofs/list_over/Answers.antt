use Rattle.std.proofs.Common.{◌≡◌, ℕ, ◌<◌, ◌≤◌, List, [], ◌∷◌, ◌++◌, None, Some, arith, length, take, inl, inr, sym, ap, ◌∙◌, append-nil, length-append, length-take-le}
use Rattle.std.proofs.lemmas.Bool.{cases_lt}
use Rattle.std.proofs.lemmas.Result.{on_ok_weaker}
use Rattle.std.specs.Io.KnownBytes.{Appends, Consumes, IsAtEnd}
use Rattle.std.specs.Prelude.{IfSome}
use Rattle.std.specs.declared.option.Option.{Option}
use Rattle.stored.proofs.RoundLaws.{front}
use Rattle.listing.specs.Listing.{line, refused_name, blob_list, Puts}
use borrow.Author.Tests.{lt-ltb}
use Rattle.blob_list.proofs.list_over.Goals as goal

-- a file that is too long is refused whatever stands in it
too_long : (file : List ℕ) → 65536 < length file → blob_list file ≡ line refused_name (1 ∷ [])
unfolding blob_list
too_long file h = rw (lt-ltb _ _ h)

-- so the start of a file is listed as the file: it is the file, or it is too long already
listed : (start rest : List ℕ) → (length start ≤ 65536 → rest ≡ []) → blob_list start ≡ blob_list (start ++ rest)
listed start rest h =
    elim (cases_lt 65536 (length start)) [
      | inl many ↦ too_long start many ∙ sym (too_long (start ++ rest) (omega (arith, length-append start rest)))
      | inr few ↦ ap blob_list (sym (ap (λ l. start ++ l) (h few) ∙ append-nil start))
    ]

-- what is written at the end: the listing of what the input had
written : (had left held now : Option (List ℕ)) (start text : List ℕ) → Consumes had left start → (length start ≤ 65536 → IsAtEnd left) → text ≡ blob_list start → Appends held now text → IfSome had (λ given. Appends held now (blob_list given))
written None left held now start text p e q w = tt
written (Some given) None held now start text p e q w = absurd p
written (Some given) (Some rest) held now start text p e q w = rw (p, ← listed start rest e, ← q) w

-- text put at the front of a room that is long enough stands up to the place after it
put_first : (room new text : List ℕ) (r : ℕ) → 524288 ≤ length room → Puts room 0 524288 text new r → take r new ≡ text
put_first room new text r long puts = let ends : length text ≡ r = omega (arith, puts.next) in rw puts.stands (front room text r ends (omega (arith, puts.next, puts.small)))

pub returns : goal.returns
returns g c =
    let n = c.in_ok-length.length in
    let start = take n c.fill.new.buffer in
    let filled : length start ≡ n = length-take-le n c.fill.new.buffer c.in_ok-length.ensures.within in
    let text : take c.list_stored-end.result c.list_stored-end.new.out ≡ blob_list start = put_first _ _ _ _ c.requires.text_room c.list_stored-end.ensures in
    on_ok_weaker c.write_all.result
    (written (g.R.Read.remaining c.args.input.now) (g.R.Read.remaining c.fill.new.input) _ _ start _ c.in_ok-length.ensures.bytes (λ few. c.in_ok-length.ensures.end (omega arith)) text)
    c.write_all.ensures.bytes
