-- What one token does to the nodes and frames, beside the parser's step. Assumes nothing: these are definitions.
use Rattle.std.specs.Prelude.{◌≡◌, ℕ, ◌+◌, ◌≤◌, Some, None, Option, IfSome}
use Rattle.std.proofs.Math.Option as option
use Rattle.lexer.specs.declared.Mark.{Mark}
use Rattle.lexer.specs.declared.Token.{Token}
use Rattle.syntax.specs.Ast.{Expr, Stmt}
use Rattle.syntax.specs.Parser.{Above, Block, Pending, operand, operated, statement, name_read, repeat_read, rounds_read, delay_read, out_read, out_comma, counter_read, length_next, ended, step, begin, prefix, finish, on_else, on_end}
use Rattle.syntax.specs.Parser as parser
use Rattle.syntax.specs.Frames.{ExprAt, StmtAt, Awaits, Operands, Here}
use Rattle.syntax.specs.declared.state.Parser.{Parser}
use Rattle.syntax.specs.declared.state.State.{State}
use Rattle.syntax.specs.declared.state.State.TheVariants.{Statement, NameRead, RepeatRead, RoundsRead, DelayRead, OutRead, OutComma, CounterRead, LengthNext, Ended, Operand, Operated}

-- a state of the parser, laid out
abbrev pub Laid : Parser → State → parser.State → Type 0
Laid p Statement q = (b : Block) × (q ≡ statement b) × Here p b
Laid p (NameRead i) q = (b : Block) × (q ≡ name_read i b) × Here p b
Laid p RepeatRead q = (b : Block) × (q ≡ repeat_read b) × Here p b
Laid p (RoundsRead n) q = (b : Block) × (q ≡ rounds_read n b) × Here p b
Laid p DelayRead q = (b : Block) × (q ≡ delay_read b) × Here p b
Laid p (OutRead i) q = (b : Block) × (q ≡ out_read i b) × Here p b
Laid p (OutComma i) q = (b : Block) × (q ≡ out_comma i b) × Here p b
Laid p (CounterRead i j) q = (b : Block) × (q ≡ counter_read i j b) × Here p b
Laid p (LengthNext i j) q = (b : Block) × (e : Expr) × (q ≡ length_next i j e b) × Here p b × ExprAt p.nodes p.used p.last e
Laid p Ended q = (b : Block) × (x : Stmt) × (q ≡ ended x b) × Here p b × StmtAt p.nodes p.used p.last x
Laid p Operand q = (k : ℕ) × (w : Pending) × (q ≡ operand k w) × Awaits k w p
Laid p Operated q = (w : Pending) × (e : Expr) × (q ≡ operated w e) × Operands w e p

-- the parser's next state, laid out; or it has none, and the token is refused
abbrev pub Next : option.Option parser.State → Parser → Option State → Type 0
Next (option.some q) p (Some r) = Laid p r q
Next (option.some q) p None = ⊥
Next option.none p r = r ≡ None

-- how many nodes and frames are in use, or will be with the next token
abbrev pub total : Parser → State → ℕ
total p Statement = p.used + p.depth
total p (NameRead i) = p.used + p.depth
total p RepeatRead = p.used + p.depth
total p (RoundsRead n) = p.used + p.depth
total p DelayRead = p.used + p.depth
total p (OutRead i) = p.used + p.depth
total p (OutComma i) = p.used + p.depth
total p (CounterRead i j) = p.used + p.depth
total p (LengthNext i j) = p.used + p.depth + 1
total p Ended = p.used + p.depth
total p Operand = p.used + p.depth
total p Operated = p.used + p.depth

-- there is room for one node or frame more
abbrev pub HasRoom : Parser → Type 0
HasRoom p = p.used + p.depth ≤ 4096

-- a token takes one at most
abbrev pub TakesOne : Parser → Parser → Option State → Type 0
TakesOne p p' r = IfSome r (λ s. total p' s ≤ p.used + p.depth + 1)

-- a token in any state
abbrev pub Read : (t : Token) → Parser → State → Parser → Option State → Type 0
Read t p state p' r = (q : parser.State) → Laid p state q → Next (step q t) p' r

-- a mark before an operand, and one after an operand up to which all is joined
abbrev pub Prefixes : (x : Mark) → Parser → Parser → Option State → Type 0
Prefixes x p p' r = (k : ℕ) (w : Pending) → Awaits k w p → Next (prefix x k w) p' r

abbrev pub Finishes : (x : Mark) → Parser → Parser → Option State → Type 0
Finishes x p p' r = (w : Pending) (e : Expr) → Above w 5 → Operands w e p → Next (finish w e x) p' r

-- a mark where a statement could begin, and those that close a block
abbrev pub Begins : (x : Mark) → Parser → Parser → Option State → Type 0
Begins x p p' r = (b : Block) → Here p b → Next (begin x b) p' r

abbrev pub ReadsElse : Parser → Parser → Option State → Type 0
ReadsElse p p' r = (b : Block) → Here p b → Next (on_else b.0 b.1) p' r

abbrev pub ReadsEnd : Parser → Parser → Option State → Type 0
ReadsEnd p p' r = (b : Block) → Here p b → Next (on_end b.0 b.1) p' r
