-- How a token is written where it has several spellings. Assumes nothing: these are definitions.
use Rattle.std.specs.Prelude.{ℕ, List, ◌++◌, codes, decimal}
use Rattle.base.specs.Texts.{operator_text}
use Rattle.lexer.specs.declared.Token.{Token}
use Rattle.lexer.specs.declared.Token.TheVariants.{Number as number, Name as name, Operator as operator, Mark as mark}
use Rattle.lexer.specs.Token.{marking}

-- a token as it is written: a number and a name in as few digits as there can be
abbrev pub token_text : Token → List ℕ
token_text (number n) = decimal n
token_text (name i) = codes "v" ++ decimal i
token_text (operator o) = operator_text o
token_text (mark m) = marking m
