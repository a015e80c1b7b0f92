use mathlib.Core.Path.{◌≡◌, refl, sym}
use lib.ListN.{length}
use native.Mathlib.Omega.{arith}
use Rattle.listing.proofs.ListLaws.{text_copied}
use Rattle.listing.proofs.listing.Text.put.Goals as goal

pub returns : goal.returns
returns g c =
    let long : length c.args.text.now ≡ g.row.N = omega arith in
    record { room = refl; puts = rw (sym long) (text_copied _ _ _ _ c.requires (omega arith) c.copy_from_slice.ensures.after) }
