-- What a program could go on with, in words. Assumes nothing: these are definitions.
use Rattle.std.specs.Prelude.{ℕ, List, codes}
use Rattle.syntax.specs.declared.expected.Expected.{Expected}
use Rattle.syntax.specs.declared.expected.Expected.TheVariants.{Statement, Expression, Operator, Assign, Number, Times, Name, Comma, Semicolon}

-- the words of a message
abbrev pub expected_text : Expected → List ℕ
expected_text Statement = codes "a statement"
expected_text Expression = codes "an expression"
expected_text Operator = codes "an operator or the end of the expression"
expected_text Assign = codes "':='"
expected_text Number = codes "a number"
expected_text Times = codes "'times'"
expected_text Name = codes "a name"
expected_text Comma = codes "a comma"
expected_text Semicolon = codes "a semicolon"
