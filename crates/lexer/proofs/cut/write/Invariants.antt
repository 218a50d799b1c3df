use Rattle.std.proofs.Common.{◌≡◌, ◌*◌, List, ◌++◌, length, drop}
use Rattle.std.specs.Iterator.Adapters.{enumerate_source, enumerate_count}
use Rattle.lexer.specs.declared.Token.{Token}
use Rattle.lexer.specs.Pairs.{pairs}
use Rattle.lexer.proofs.Walks.{Walked}
use Rattle.lexer.proofs.cut.write.Given as goal

abbrev pub invariant-loop-i : goal.invariant-loop-i
invariant-loop-i l = record { tokens : List Token; walked : Walked l.text (enumerate_source l.i-iterator) tokens; count : enumerate_count l.i-iterator ≡ length tokens; holds : l.room ≡ pairs tokens ++ drop (2 * length tokens) l.initial.room }
