use Rattle.std.proofs.lemmas.Result.{err_from_is_err_and}
use Rattle.syntax.proofs.Place.{right_place}
use Rattle.syntax.proofs.Wholes.{few, program_of, held}
use Rattle.syntax.proofs.parser.parse.Goals as goal

pub read_program-requires-clause-few : goal.read_program-requires-clause-few
read_program-requires-clause-few c = few c.args.tokens.now c.in_default.ensures

pub returns-in_err-root : goal.returns-in_err-root
returns-in_err-root c =
    let p = err_from_is_err_and c.from_residual.result c.from_residual.ensures.1 in
    let k = c.in_err-root.ensures in
    rw (p.1, p.2, k.1) (c.in_default.ensures, right_place _ _ k.2)

pub invariant_of-result : goal.invariant_of-result
invariant_of-result c =
    let w = c.in_default.ensures in
    let xs = c.args.tokens.now in
    record { holds = ∣ held xs c.read_program.new.self.nodes c.in_ok-root.root w (program_of xs c.read_program.new.self.nodes c.in_ok-root.root w c.in_ok-root.ensures) ∣₁ }

pub returns : goal.returns
returns c =
    let w = c.in_default.ensures in
    (w, program_of c.args.tokens.now c.read_program.new.self.nodes c.in_ok-root.root w c.in_ok-root.ensures)
