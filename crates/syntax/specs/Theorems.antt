-- What is shown of the parser. Assumes nothing: these are definitions.
use Rattle.std.specs.Prelude.{◌≡◌, ℕ, suc, ◌<◌, ◌≤◌, List, ◌++◌, length, take}
use Rattle.syntax.specs.Ast.{Stmt}
use Rattle.lexer.specs.declared.Token.{Token}
use Rattle.syntax.specs.Grammar.{Reads}
use Rattle.syntax.specs.Parser.{accepted, refused, parse}

-- some program begins so
abbrev pub Viable : List Token → Type 0
Viable ts = (us : List Token) × (s : Stmt) × Reads (ts ++ us) s

abbrev pub Sound : Type 0
Sound = (ts : List Token) (s : Stmt) → parse ts ≡ accepted s → Reads ts s

abbrev pub Complete : Type 0
Complete = (ts : List Token) (s : Stmt) → Reads ts s → parse ts ≡ accepted s

abbrev pub OneTree : Type 0
OneTree = (ts : List Token) (s t : Stmt) → Reads ts s → Reads ts t → s ≡ t

-- what stands before the place of a refusal goes on to a program, and with the token there it does not
pub record Placed (ts : List Token) (i : ℕ) : Type 0 where
  pub within : i ≤ length ts
  pub before : Viable (take i ts)
  pub after : i < length ts → Viable (take (suc i) ts) → ⊥
  pub none : (s : Stmt) → Reads ts s → ⊥

abbrev pub RightPlace : Type 0
RightPlace = (ts : List Token) (i : ℕ) → parse ts ≡ refused i → Placed ts i

-- a text is refused at one place
abbrev pub OnePlace : Type 0
OnePlace = (ts : List Token) (i j : ℕ) → Placed ts i → Placed ts j → i ≡ j
