use Rattle.std.proofs.Common.{length, ap, arith}
use Rattle.base.specs.Stores.{cells}
use Rattle.retain.proofs.Cells.{next_to_come, to_come_none}
use Rattle.retain.proofs.writing.WritesIterator.next.Goals as goal

pub returns-then-self-clause-steps : goal.returns-then-self-clause-steps
returns-then-self-clause-steps c =
    let none = to_come_none c.args.self.now.kept c.args.self.now.target (cells c.args.self.now.values.now) c.args.self.now.next (omega (arith, c.if-self.true)) in (none, none)

pub returns-clause-steps : goal.returns-clause-steps
returns-clause-steps c =
    next_to_come c.args.self.now.kept c.args.self.now.target (cells c.args.self.now.values.now) c.args.self.now.next c.at-write.result (omega arith) c.at-write.ensures

pub returns-clause-goes : goal.returns-clause-goes
returns-clause-goes c =
    let e = next_to_come c.args.self.now.kept c.args.self.now.target (cells c.args.self.now.values.now) c.args.self.now.next c.at-write.result (omega arith) c.at-write.ensures in
    record { on = λ _. (tt, tt, omega (arith, ap length e)); keeps = tt; rests = λ _. tt }
