use Rattle.std.proofs.Common.{◌≡◌, List, length}
use Rattle.lexer.specs.declared.Token.{Token}
use Rattle.lexer.proofs.Walks.{Walked}
use Rattle.lexer.proofs.cut.count.Given as goal

abbrev pub invariant-loop-place : goal.invariant-loop-place
invariant-loop-place l = record { tokens : List Token; walked : Walked l.text l.place-iterator tokens; count : l.count ≡ length tokens }
