use Rattle.syntax.proofs.Wholes.{ended_all}
use Rattle.syntax.proofs.state.Parser.read_program.Goals as goal

pub returns : goal.returns
returns c =
    let r = c.read_all-state in
    rw c.ok_or.ensures.value (ended_all c.args.tokens.now r.new.self c.end.new.self r.result.0 r.result.1 c.end.result r.ensures c.if-count-tokens.false c.end.ensures)
