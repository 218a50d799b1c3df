use Rattle.compiler.proofs.Short.{short_code}
use Rattle.compiler.proofs.code_is_short.Goals as goal

pub returns : goal.returns
returns c = short_code
