use Rattle.formats.proofs.HeaderBack.{project_reads_back}
use Rattle.formats.proofs.projects_are_read_back.Goals as goal

pub returns : goal.returns
returns c = project_reads_back
