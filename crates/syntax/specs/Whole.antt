-- What is read of a whole program. Assumes nothing: these are definitions.
use Rattle.std.specs.Prelude.{◌≡◌, ℕ, ◌/◌, ◌<◌, ◌≤◌, List, [], length, Some, None, Option, Ok, Err, Result}
use Rattle.std.proofs.Math.Option as option
use Rattle.base.specs.declared.Refusal.{Refusal}
use Rattle.base.specs.declared.Refusal.TheVariants.{Program}
use Rattle.syntax.specs.Ast.{Stmt}
use Rattle.syntax.specs.Parser.{accepted, refused, parse, run, start, whole_program}
use Rattle.syntax.specs.Parser as parser
use Rattle.lexer.specs.Pairs.{tokens_in}
use Rattle.syntax.specs.Expects.{last_state}
use Rattle.syntax.specs.Tree.{HoldsStmt}
use Rattle.syntax.specs.Reading.{Laid, total}
use Rattle.syntax.specs.declared.state.Parser.{Parser}
use Rattle.syntax.specs.declared.state.State.{State}

-- a tree in the lowest n + 1 nodes, or none
abbrev pub EndsAs : option.Option Stmt → (n : ℕ) (m : List ℕ) → Option ℕ → Type 0
EndsAs (option.some t) n m r = (x : ℕ) × (r ≡ Some x) × (x ≤ n) × HoldsStmt m x t
EndsAs option.none n m r = r ≡ None

-- where the reading of a program ends
abbrev pub Ends : Parser → State → Parser → Option ℕ → Type 0
Ends p state p' r = (q : parser.State) → Laid p state q → EndsAs (whole_program q) (total p state) p'.nodes r

-- i tokens of the pairs xs were read up to a state: no program goes on with the next one, or there is none
pub record Halts (xs : List ℕ) (p : Parser) (state : State) (i : ℕ) : Type 0 where
  pub here : parser.State
  pub before : Parser
  pub laid : Laid before state here
  pub last : last_state start (tokens_in xs) ≡ here
  pub refused : i < length xs / 2 → parse (tokens_in xs) ≡ refused i
  pub all : length xs / 2 ≤ i → (i ≡ length xs / 2) × (total p state ≤ i) × Laid p state here × (parse (tokens_in xs) ≡ run i here [])

-- what comes of all tokens
abbrev pub ReadsAll : (xs m' : List ℕ) → Result ℕ Refusal → Type 0
ReadsAll xs m' (Ok x) = (t : Stmt) × (parse (tokens_in xs) ≡ accepted t) × (x ≤ length xs / 2) × HoldsStmt m' x t
ReadsAll xs m' (Err e) = (i : ℕ) × (e ≡ Program i) × (parse (tokens_in xs) ≡ refused i)
