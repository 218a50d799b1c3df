use Rattle.formats.proofs.ScriptBack.{script_reads_back}
use Rattle.formats.proofs.scripts_are_read_back.Goals as goal

pub returns : goal.returns
returns c = script_reads_back
