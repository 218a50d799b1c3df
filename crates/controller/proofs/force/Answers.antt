use Rattle.std.proofs.Common.{refl, arith, rules}
use Rattle.controller.proofs.States.{follows}
use Rattle.controller.proofs.Forces.{force_state}
use Rattle.controller.proofs.force.Goals as goal

pub returns : goal.returns
returns c =
    let fits = c.in_ok-i.ensures.1.1 in
    rw c.in_ok-i.ensures.1.0
    (search rules, (refl, record { written = refl; follows = λ p. follows p _ _ _ (force_state p c.args.memory.now c.args.point fits.low (omega (arith, fits.memory_long)) fits.on c.args.number) }))
