use Rattle.std.proofs.Common.{rules, ◌≡◌}
use Rattle.lexer.specs.declared.Mark.TheVariants.{Assign, Semicolon, Comma, Times}
use Rattle.lexer.specs.declared.Token.TheVariants.{Mark as mark}
use Rattle.syntax.proofs.StatementTokens.{name_begins, mark_begins, assigned, rounds, times, out, a_comma, counter, condition, a_length, finished, refused}
use Rattle.syntax.proofs.state.Parser.read.Goals as goal

pub returns-in-Statement-Name-clause-reads : goal.returns-in-Statement-Name-clause-reads
returns-in-Statement-Name-clause-reads c = rw (c.in-Statement-Name.is-0, c.in-Statement-Name.is-1) (name_begins c.args.self.now c.in-Statement-Name.name)

pub returns-in-Statement-Mark-clause-reads : goal.returns-in-Statement-Mark-clause-reads
returns-in-Statement-Mark-clause-reads c = rw (c.in-Statement-Mark.is-0, c.in-Statement-Mark.is-1) (mark_begins c.args.self.now c.in-Statement-Mark.mark _ _ c.begin.ensures.reads)

pub returns-in-NameRead-Mark-Assign-clause-reads : goal.returns-in-NameRead-Mark-Assign-clause-reads
returns-in-NameRead-Mark-Assign-clause-reads c =
    let r = c.in-NameRead-Mark-Assign in
    let t : c.args.token ≡ mark Assign = search rules in
    rw (r.is-0, t, c.push.ensures.is) (assigned c.args.self.now r.name c.push.ensures.there)

pub returns-in-RepeatRead-Number-clause-reads : goal.returns-in-RepeatRead-Number-clause-reads
returns-in-RepeatRead-Number-clause-reads c =
    let r = c.in-RepeatRead-Number in
    rw (r.is-0, r.is-1) (rounds c.args.self.now r.rounds)

pub returns-in-RoundsRead-Mark-Times-clause-reads : goal.returns-in-RoundsRead-Mark-Times-clause-reads
returns-in-RoundsRead-Mark-Times-clause-reads c =
    let r = c.in-RoundsRead-Mark-Times in
    let t : c.args.token ≡ mark Times = search rules in
    let k = c.push-in-RoundsRead-Mark-Times.ensures in
    rw (r.is-0, t, k.is) (times c.args.self.now r.rounds k.there)

pub returns-in-DelayRead-Name-clause-reads : goal.returns-in-DelayRead-Name-clause-reads
returns-in-DelayRead-Name-clause-reads c =
    let r = c.in-DelayRead-Name in
    rw (r.is-0, r.is-1) (out c.args.self.now r.out)

pub returns-in-OutRead-Mark-Comma-clause-reads : goal.returns-in-OutRead-Mark-Comma-clause-reads
returns-in-OutRead-Mark-Comma-clause-reads c =
    let r = c.in-OutRead-Mark-Comma in
    let t : c.args.token ≡ mark Comma = search rules in
    rw (r.is-0, t) (a_comma c.args.self.now r.out)

pub returns-in-OutComma-Name-clause-reads : goal.returns-in-OutComma-Name-clause-reads
returns-in-OutComma-Name-clause-reads c =
    let r = c.in-OutComma-Name in
    rw (r.is-0, r.is-1) (counter c.args.self.now r.out r.counter)

pub returns-in-CounterRead-Mark-Comma-clause-reads : goal.returns-in-CounterRead-Mark-Comma-clause-reads
returns-in-CounterRead-Mark-Comma-clause-reads c =
    let r = c.in-CounterRead-Mark-Comma in
    let t : c.args.token ≡ mark Comma = search rules in
    let k = c.push-in-CounterRead-Mark-Comma.ensures in
    rw (r.is-0, t, k.is) (condition c.args.self.now r.out r.counter k.there)

pub returns-in-LengthNext-Number-clause-reads : goal.returns-in-LengthNext-Number-clause-reads
returns-in-LengthNext-Number-clause-reads c =
    let r = c.in-LengthNext-Number in
    rw (r.is-0, r.is-1) (a_length c.args.self.now r.out r.counter r.length c.add.new.self c.add-in-LengthNext-Number.new.self c.add.ensures c.add-in-LengthNext-Number.ensures)

pub returns-in-Ended-Mark-Semicolon-clause-reads : goal.returns-in-Ended-Mark-Semicolon-clause-reads
returns-in-Ended-Mark-Semicolon-clause-reads c =
    let r = c.in-Ended-Mark-Semicolon in
    let t : c.args.token ≡ mark Semicolon = search rules in
    let k = c.push-in-Ended-Mark-Semicolon.ensures in
    rw (r.is-0, t, k.is) (finished c.args.self.now k.there)

pub returns-in_default-clause-reads : goal.returns-in_default-clause-reads
returns-in_default-clause-reads c = refused c.args.self.now c.args.state c.args.token (rw c.in_default.is-0 (c.in_default.not-Name-1, c.in_default.not-Mark-1))

pub returns-in_default-2 : goal.returns-in_default-2
returns-in_default-2 c = record { within = tt; reads = refused c.args.self.now c.args.state c.args.token (rw c.in_default.is-0 (search rules)) }

pub returns-in_default-3 : goal.returns-in_default-3
returns-in_default-3 c = record { within = tt; reads = refused c.args.self.now c.args.state c.args.token (rw c.in_default.is-0 (λ e. c.in_default.not-Mark-1 _ e)) }

pub returns-in_default-4 : goal.returns-in_default-4
returns-in_default-4 c = record { within = tt; reads = refused c.args.self.now c.args.state c.args.token (rw c.in_default.is-0 c.in_default.not-Number-1) }

pub returns-in_default-5 : goal.returns-in_default-5
returns-in_default-5 c = record { within = tt; reads = refused c.args.self.now c.args.state c.args.token (rw c.in_default.is-0 (search rules)) }

pub returns-in_default-6 : goal.returns-in_default-6
returns-in_default-6 c = record { within = tt; reads = refused c.args.self.now c.args.state c.args.token (rw c.in_default.is-0 (λ e. c.in_default.not-Mark-1 _ e)) }

pub returns-in_default-7 : goal.returns-in_default-7
returns-in_default-7 c = record { within = tt; reads = refused c.args.self.now c.args.state c.args.token (rw c.in_default.is-0 c.in_default.not-Name-1) }

pub returns-in_default-8 : goal.returns-in_default-8
returns-in_default-8 c = record { within = tt; reads = refused c.args.self.now c.args.state c.args.token (rw c.in_default.is-0 (search rules)) }

pub returns-in_default-9 : goal.returns-in_default-9
returns-in_default-9 c = record { within = tt; reads = refused c.args.self.now c.args.state c.args.token (rw c.in_default.is-0 (λ e. c.in_default.not-Mark-1 _ e)) }

pub returns-in_default-10 : goal.returns-in_default-10
returns-in_default-10 c = record { within = tt; reads = refused c.args.self.now c.args.state c.args.token (rw c.in_default.is-0 c.in_default.not-Name-1) }

pub returns-in_default-11 : goal.returns-in_default-11
returns-in_default-11 c = record { within = tt; reads = refused c.args.self.now c.args.state c.args.token (rw c.in_default.is-0 (search rules)) }

pub returns-in_default-12 : goal.returns-in_default-12
returns-in_default-12 c = record { within = tt; reads = refused c.args.self.now c.args.state c.args.token (rw c.in_default.is-0 (λ e. c.in_default.not-Mark-1 _ e)) }

pub returns-in_default-13 : goal.returns-in_default-13
returns-in_default-13 c = record { within = tt; reads = refused c.args.self.now c.args.state c.args.token (rw c.in_default.is-0 c.in_default.not-Number-1) }

pub returns-in_default-14 : goal.returns-in_default-14
returns-in_default-14 c = record { within = tt; reads = refused c.args.self.now c.args.state c.args.token (rw c.in_default.is-0 (search rules)) }

pub returns-in_default-15 : goal.returns-in_default-15
returns-in_default-15 c = record { within = tt; reads = refused c.args.self.now c.args.state c.args.token (rw c.in_default.is-0 (λ e. c.in_default.not-Mark-1 _ e)) }
