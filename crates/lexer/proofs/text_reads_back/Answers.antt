use Rattle.lexer.proofs.Spelling.{text_is_spelling}
use Rattle.lexer.proofs.text_reads_back.Goals as goal

pub returns : goal.returns
returns c = text_is_spelling
