-- What `parse` answers. Assumes nothing: these are definitions.
use Rattle.std.specs.Prelude.{ℕ, List, Ok, Err, Result}
use Rattle.base.specs.declared.Refusal.{Refusal}
use Rattle.base.specs.declared.Refusal.TheVariants.{Token, Program, Limit, Room, Length, Off, Time, Stamp, Point}
use Rattle.lexer.specs.Pairs.{tokens_in}
use Rattle.syntax.specs.Program.{ProgramOf}
use Rattle.syntax.specs.Theorems.{Placed}
use Rattle.syntax.specs.Shape.{WellShaped, Misshapen}
use Rattle.syntax.specs.declared.tree.Tree.{Tree}

-- a tree that holds the program; or the first pair that is no token; or the first token at which no program goes on so
abbrev pub Parses : List ℕ → Result Tree Refusal → Type 0
Parses xs (Ok t) = WellShaped xs × ProgramOf xs t.nodes t.root
Parses xs (Err (Token i)) = Misshapen xs i
Parses xs (Err (Program i)) = WellShaped xs × Placed (tokens_in xs) i
Parses xs (Err (Limit i)) = ⊥
Parses xs (Err (Room i)) = ⊥
Parses xs (Err (Length i)) = ⊥
Parses xs (Err Off) = ⊥
Parses xs (Err Time) = ⊥
Parses xs (Err Stamp) = ⊥
Parses xs (Err (Point i)) = ⊥
