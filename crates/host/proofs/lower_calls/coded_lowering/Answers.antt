use mathlib.Core.Path.{refl}
use Rattle.host_answer.proofs.ValueLaws.{value_kept}
use Rattle.host.proofs.lower_calls.coded_lowering.Goals as goal

pub returns-in-Ok : goal.returns-in-Ok
returns-in-Ok c = rw c.in-Ok.is (record { value = refl; count_after = refl; bs_after = refl; xs_after = refl })

pub returns-in-Err : goal.returns-in-Err
returns-in-Err c = rw c.in-Err.is (record {
  value = c.coded_refusal.ensures;
  count_after = value_kept c.in-Err.why 0 c.args.count.now;
  bs_after = value_kept c.in-Err.why 5 c.args.bs.now;
  xs_after = value_kept c.in-Err.why 6 c.args.xs.now;
})
