use Rattle.std.proofs.Common.{arith}
use Rattle.lexer.proofs.Walks.{at_solid}
use Rattle.lexer.proofs.walk.Tokens.solid.Goals as goal

pub overflow_add-result : goal.overflow_add-result
overflow_add-result c = omega (arith, at_solid c.args.self.now.text.now _ _ c.args.self.now.within c.blanks.ensures)

pub returns : goal.returns
returns c =
    let at = at_solid c.args.self.now.text.now _ _ c.args.self.now.within c.blanks.ensures in
    record { within = at.1; is = at.0 }
