use Rattle.device.proofs.check.root_refusal.Goals as goal

pub returns-in-Some : goal.returns-in-Some
returns-in-Some c = rw (← c.lowest_bad_root.ensures, c.in-Some.is)

pub returns-in-Some-lowest_ext_root : goal.returns-in-Some-lowest_ext_root
returns-in-Some-lowest_ext_root c = rw (← c.lowest_bad_root.ensures, c.in-None.is, ← c.lowest_ext_root.ensures, c.in-Some-lowest_ext_root.is)

pub returns-in-None-lowest_ext_root : goal.returns-in-None-lowest_ext_root
returns-in-None-lowest_ext_root c = rw (← c.lowest_bad_root.ensures, c.in-None.is, ← c.lowest_ext_root.ensures, c.in-None-lowest_ext_root.is)
