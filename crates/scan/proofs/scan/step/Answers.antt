use Rattle.scan.proofs.ReadyLaws.{words_ok, release_ok, claim_ok_left, advances_left, skips}
use native.Mathlib.Omega.{arith}
use Rattle.scan.proofs.scan.step.Goals as goal

pub returns-then-marks-i-eq0-clause-advanced : goal.returns-then-marks-i-eq0-clause-advanced
returns-then-marks-i-eq0-clause-advanced c = skips _ _ _ _ _ _ _ _ _ _ _ c.requires c.if-marks-i-eq0.true

pub spell-w-requires : goal.spell-w-requires
spell-w-requires c = rw c.slots.ensures (words_ok _ _ _ _ _ _ _ _ _ _ _ c.requires c.if-marks-i-eq0.false)

pub release-requires : goal.release-requires
release-requires c = (omega (arith, c.requires.place, c.requires.scannable.few), release_ok _ _ _ _ _ _ _ _ _ _ _ c.requires c.if-marks-i-eq0.false)

pub claim-requires : goal.claim-requires
claim-requires c =
    let e = c.release.ensures in
    rw (e.words_unchanged.0, e.words_unchanged.1) (claim_ok_left _ _ _ _ _ _ _ _ _ _ _ c.requires c.if-marks-i-eq0.false _ _ _ e.released _ e.nexts_value)

pub returns-clause-advanced : goal.returns-clause-advanced
returns-clause-advanced c =
    let e = c.release.ensures in
    let m = c.claim.ensures in
    let k = rw (e.words_unchanged.0, e.words_unchanged.1) at m.claimed in
    rw m.free_unchanged (advances_left _ _ _ _ _ _ _ _ _ _ _ c.requires c.if-marks-i-eq0.false _ _ _ e.released _ _ _ (rw c.slots.ensures at c.spell-w.ensures) _ _ _ _ _ e.nexts_value k _ (rw e.words_unchanged.1 at m.count_value))
