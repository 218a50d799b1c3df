-- What a program could go on with. Assumes nothing: these are definitions.
use Rattle.std.specs.Prelude.{◌≡◌, ℕ, List, [], ◌∷◌, take}
use Rattle.std.proofs.Math.Option.{none, some}
use Rattle.lexer.specs.declared.Token.{Token}
use Rattle.lexer.specs.Pairs.{tokens_in}
use Rattle.syntax.specs.Parser.{State, statement, name_read, repeat_read, rounds_read, delay_read, out_read, out_comma, counter_read, length_next, ended, operand, operated, step, start}
use Rattle.syntax.specs.Reading.{Laid}
use Rattle.syntax.specs.declared.expected.Expected.{Expected}
use Rattle.syntax.specs.declared.expected.Expected.TheVariants.{Statement, Expression, Operator, Assign, Number, Times, Name, Comma, Semicolon}
use Rattle.syntax.specs.declared.state.Parser.{Parser}
use Rattle.syntax.specs.declared.state.State as laid

-- what a state of the parser could go on with
abbrev pub expects : State → Expected
expects (statement b) = Statement
expects (name_read i b) = Assign
expects (repeat_read b) = Number
expects (rounds_read n b) = Times
expects (delay_read b) = Name
expects (out_read i b) = Comma
expects (out_comma i b) = Name
expects (counter_read i j b) = Comma
expects (length_next i j e b) = Number
expects (ended s b) = Semicolon
expects (operand k p) = Expression
expects (operated p e) = Operator

-- the parser's state at the first token that it can't take, or after all of them
unfoldable pub last_state : State → List Token → State
last_state q [] = q
last_state q (t ∷ ts) = elim (step q t) [ some q' ↦ last_state q' ts | none ↦ q ]

-- a state that is laid out could go on with this
abbrev pub ExpectsIn : laid.State → Expected → Type 0
ExpectsIn state r = (p : Parser) (q : State) → Laid p state q → r ≡ expects q

-- tokens could go on with this, where no program goes on with the next one, or where they end; of 4,096 at most
abbrev pub ExpectsAfter : List ℕ → Expected → Type 0
ExpectsAfter xs r = r ≡ expects (last_state start (take 4096 (tokens_in xs)))
