use Rattle.std.proofs.Common.{codes, refl}
use Rattle.messages.proofs.Pointing.{at_place, said_of, says_of}
use Rattle.messages.proofs.message.message.Goals as goal

pub returns-in-Program : goal.returns-in-Program
returns-in-Program c =
    let told = said_of _ c.args.file.now c.args.project.now c.args.script.now _ _ c.in-Program.is c.program_line.ensures in
    record { says = says_of _ _ _ _ _ told; points = told }
