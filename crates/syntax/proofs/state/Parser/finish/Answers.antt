use Rattle.std.proofs.Common.{arith}
use Rattle.syntax.proofs.ExpressionTokens.{none_waits, never_finished, ended_by_none, closes_bracket, assigns, branches, delays}
use Rattle.syntax.proofs.state.Parser.finish.Goals as goal

pub returns-in_err-below-clause-finishes : goal.returns-in_err-below-clause-finishes
returns-in_err-below-clause-finishes c = rw c.from_residual.ensures (none_waits c.args.mark c.args.self.now (omega (arith, c.in_err-below.ensures)))

pub returns-in-Bracket-Close-clause-finishes : goal.returns-in-Bracket-Close-clause-finishes
returns-in-Bracket-Close-clause-finishes c = rw c.in-Bracket-Close.is-1 (closes_bracket c.args.self.now c.in_ok-below.below (omega (arith, c.in_ok-below.ensures)) _ c.in-Bracket-Close.is-0 c.invert.ensures.inverts)

pub returns-in-AssignTo-Semicolon-clause-finishes : goal.returns-in-AssignTo-Semicolon-clause-finishes
returns-in-AssignTo-Semicolon-clause-finishes c =
    let r = c.in-AssignTo-Semicolon in
    rw r.is-1 (assigns c.args.self.now c.in_ok-below.below (omega (arith, c.in_ok-below.ensures)) r.name c.add.new.self r.is-0 c.add.ensures (omega (arith, c.in_ok-below.ensures)))

pub returns-in-ConditionIn-Then-clause-finishes : goal.returns-in-ConditionIn-Then-clause-finishes
returns-in-ConditionIn-Then-clause-finishes c = rw c.in-ConditionIn-Then.is-1 (branches c.args.self.now c.in_ok-below.below (omega (arith, c.in_ok-below.ensures)) c.in-ConditionIn-Then.is-0 (omega (arith, c.in_ok-below.ensures)))

pub returns-in-DelayIn-Comma-clause-finishes : goal.returns-in-DelayIn-Comma-clause-finishes
returns-in-DelayIn-Comma-clause-finishes c =
    let r = c.in-DelayIn-Comma in
    rw r.is-1 (delays c.args.self.now c.in_ok-below.below (omega (arith, c.in_ok-below.ensures)) r.out r.counter r.is-0)

pub returns-in_default : goal.returns-in_default
returns-in_default c = record { within = tt; finishes = never_finished c.args.self.now c.in_ok-below.below (omega (arith, c.in_ok-below.ensures)) c.args.mark (rw c.in_default.is-0 c.in_default.not-Close-1) }

pub returns-in_default-2 : goal.returns-in_default-2
returns-in_default-2 c = record { within = tt; finishes = never_finished c.args.self.now c.in_ok-below.below (omega (arith, c.in_ok-below.ensures)) c.args.mark (rw c.in_default.is-0 c.in_default.not-Semicolon-1) }

pub returns-in_default-3 : goal.returns-in_default-3
returns-in_default-3 c = record { within = tt; finishes = never_finished c.args.self.now c.in_ok-below.below (omega (arith, c.in_ok-below.ensures)) c.args.mark (rw c.in_default.is-0 c.in_default.not-Then-1) }

pub returns-in_default-4 : goal.returns-in_default-4
returns-in_default-4 c = record { within = tt; finishes = never_finished c.args.self.now c.in_ok-below.below (omega (arith, c.in_ok-below.ensures)) c.args.mark (rw c.in_default.is-0 c.in_default.not-Comma-1) }

pub returns-in_default-5 : goal.returns-in_default-5
returns-in_default-5 c =
    let r = c.in_default in
    record { within = tt; finishes = never_finished c.args.self.now c.in_ok-below.below (omega (arith, c.in_ok-below.ensures)) c.args.mark (ended_by_none _ c.args.mark r.not-Bracket-0 r.not-AssignTo-0 r.not-ConditionIn-0 r.not-DelayIn-0) }
