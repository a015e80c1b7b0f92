-- `ext_product` meets its contract.
-- Assumes nothing.
use Rattle.trial_parts.proofs.StepLaws.{scaled_product, product_scaled}
use Rattle.trial_parts.proofs.parts.ext_product.Goals as goal

pub returns-then-a-eq0-2 : goal.returns-then-a-eq0-2
returns-then-a-eq0-2 c = let a = c.args in scaled_product a.a.limbs a.b.limbs c.if-a-eq0.true c.if-a-eq0-2.true c.ext_scaled.ensures

pub returns-then-b-eq0-2 : goal.returns-then-b-eq0-2
returns-then-b-eq0-2 c = let a = c.args in product_scaled a.a.limbs a.b.limbs c.if-b-eq0.true c.if-b-eq0-2.true c.ext_scaled-then-b-eq0-2.ensures
