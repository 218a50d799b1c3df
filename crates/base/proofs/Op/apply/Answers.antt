use Rattle.base.proofs.Remainders.{product_parts}
use Rattle.base.proofs.Op.apply.Goals as goal

pub returns-in-Mul-clause-value : goal.returns-in-Mul-clause-value
returns-in-Mul-clause-value c = simp c.in-Mul.is (product_parts _ _ 65536)
