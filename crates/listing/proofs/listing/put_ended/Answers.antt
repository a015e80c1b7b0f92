use mathlib.Core.List.{[], ◌∷◌}
use mathlib.Core.Path.{ap, ◌∙◌}
use Prim.Native.Nat.{ℕ}
use Rattle.listing.proofs.ListLaws.{newline, spaced, ended, byte_put}
use Rattle.listing.proofs.listing.put_ended.Goals as goal
use Rattle.listing.proofs.listing.put_ended.Goals.{then-left-eq0, else-left-eq0}

pub returns : goal.returns
returns c =
    let number = c.put_number-end in
    let mark = byte_put number.new.out number.result c.if-left-eq0.out in
    elim c.if-left-eq0.branch [
      | then-left-eq0 w ↦ ended c.args.n c.args.left (ap (λ (b : ℕ). b ∷ []) w.out-is ∙ newline c.args.left w.if-left-eq0.true) number.ensures mark
      | else-left-eq0 w ↦ ended c.args.n c.args.left (ap (λ (b : ℕ). b ∷ []) w.out-is ∙ spaced c.args.left w.if-left-eq0.false) number.ensures mark
    ]
