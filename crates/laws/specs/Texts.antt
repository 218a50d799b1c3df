-- Laws of the texts that are taken: what a project and a script say is words, it is said in one way, and what is the same is played the same. Assumes nothing: these are statements.
use Rattle.std.specs.Prelude.{◌≡◌, ℕ, ◌<◌, ◌≤◌, List, [], ◌∷◌, ◌++◌, Ok, string_bytes, String}
use Rattle.std.specs.declared.alloc.Global.{Global}
use Rattle.lexer.specs.Token.{Cuts}
use Rattle.syntax.specs.Ast.{Stmt}
use Rattle.syntax.specs.Printer.{print}
use Rattle.controller.specs.World.{Project, Event}
use Rattle.controller.specs.Promises.{Each, BringsWords, AllWords}
use Rattle.headers.specs.Header.{Plan, read_project}
use Rattle.scripts.specs.Script.{Request, read_script}
use Rattle.reports.specs.declared.report.Setting.{Setting}
use Rattle.reports.specs.Reports.{Said, started, scanned, refused}
use Rattle.project.specs.Play.{tells, played}
use Rattle.loading.specs.Loading.{Taken}
use Rattle.project.specs.Loading.{Played, project_of}

-- P holds of everything in a list
abbrev pub Every : {A : Type 0} → (A → Type 0) → List A → Type 0
Every P [] = Unit {0}
Every P (x ∷ xs) = P x × Every P xs

-- after every history that brings words, the values, the outputs and the kept values of a project that is taken are words
abbrev pub TakenWords : Type 0
TakenWords = (text : List ℕ) (h : Plan) (s : Stmt) (es : List Event) → Taken text h s → Each BringsWords es → AllWords (project_of h s) es

-- every value that a line tells is a word
abbrev pub SaysWords : Said → Type 0
SaysWords (started l) = Every (λ (x : Setting). x.value < 65536) l
SaysWords (scanned l lamp) = Every (λ (x : Setting). x.value < 65536) l
SaysWords (refused number place) = Unit {0}

-- every value that is told of a script is a word, whatever the script says
abbrev pub ToldWords : Type 0
ToldWords =
    (text script : List ℕ) (h : Plan) (s : Stmt) (rs : List Request) → Taken text h s → read_script script ≡ Ok rs → Every SaysWords (tells (project_of h s) rs)

-- a text says one thing: it has at most one plan and one tree
abbrev pub OneReading : Type 0
OneReading = (text : List ℕ) (h g : Plan) (s t : Stmt) → Taken text h s → Taken text g t → (h ≡ g) × (s ≡ t)

-- what is played is settled by the two texts
abbrev pub OneAnswer : Type 0
OneAnswer = (project script : List ℕ) (a b : String Global) → Played project script a → Played project script b → string_bytes a ≡ string_bytes b

-- two headers say the same, wherever in their texts the programs begin
pub record SameHeader (h g : Plan) : Type 0 where
  pub kept : h.kept ≡ g.kept
  pub inputs : h.inputs ≡ g.inputs
  pub firsts : h.firsts ≡ g.firsts

-- two texts with headers that say the same and trees that print the same are played the same, in every row of events
abbrev pub SamePrint : Type 0
SamePrint =
    (text text' : List ℕ) (h g : Plan) (s t : Stmt) → Taken text h s → Taken text' g t → SameHeader h g → print s ≡ print t →
    (rs : List Request) → played (project_of h s) rs ≡ played (project_of g t) rs

-- and so, for one script, whatever `play` answers
abbrev pub SamePlay : Type 0
SamePlay =
    (text text' script : List ℕ) (a b : String Global) (x : Played text script a) (y : Played text' script b) → SameHeader x.plan y.plan → print x.program ≡ print y.program →
    string_bytes a ≡ string_bytes b

-- a text whose program is what is printed of a tree that was taken, in any spelling, is taken as that tree
abbrev pub PrintIsTaken : Type 0
PrintIsTaken =
    (text text' : List ℕ) (h g : Plan) (s : Stmt) → Taken text h s → read_project text' ≡ Ok g → g.kept ≤ 64 → Cuts g.program (print s) [] → Taken text' g s

-- what is printed of a script's first lines stays what it is, whatever lines come after them
abbrev pub ToldInOrder : Type 0
ToldInOrder = (p : Project) (rs qs : List Request) → (more : List ℕ) × (played p (rs ++ qs) ≡ played p rs ++ more)
