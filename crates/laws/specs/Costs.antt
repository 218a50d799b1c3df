-- What a scan costs, and how high its stacks grow: the numbers that a maker prints. Assumes nothing: these are statements.
use Rattle.std.specs.Prelude.{◌≡◌, ℕ, ◌*◌, ◌≤◌, List, ◌++◌, take, Ok, vec_items, string_bytes, String, slice_index_or}
use Rattle.std.specs.declared.alloc.Global.{Global}
use Rattle.lexer.specs.Pairs.{pairs}
use Rattle.syntax.specs.Ast.{Stmt}
use Rattle.semantics.specs.Eval.{Values, Program, meaning}
use Rattle.semantics.specs.Needs.{Need, stmt_need}
use Rattle.compiler.specs.Code.{code_in}
use Rattle.compiler.specs.Instr.{stop}
use Rattle.compiler.specs.Machine.{steps, boot}
use Rattle.compiler.specs.Made.{Makes}
use Rattle.compiler.specs.Right.{Finished, Within}
use Rattle.headers.specs.Header.{Plan}
use Rattle.listings.specs.ListingText.{needs_text}
use Rattle.loading.specs.declared.load.Loaded.{Loaded}
use Rattle.loading.specs.Loading.{Taken, ReadyWithinNeeds}
use Rattle.listings.specs.Listing.{Listed, ListedWithinNeeds}

-- code comes to its end within so many steps, from any values and after any time, with what the program means
abbrev pub EndsWithin : ℕ → Program → (code : List ℕ) → Type 0
EndsWithin cost means code =
    (elapsed : ℕ) (r : Values) → (k : ℕ) × (k ≤ cost) × Finished (code_in code) (means elapsed r) (steps k elapsed (code_in code) (boot r))

-- the code that is made for a project that is taken comes to its end within the cost of its program
abbrev pub WithinCost : Type 0
WithinCost =
    (text : List ℕ) (h : Plan) (s : Stmt) (t : Taken text h s) (room room' : List ℕ) (n : ℕ) →
    Makes (pairs t.parsed.tokens) room (Ok n) room' → EndsWithin (stmt_need s).cost (meaning s) (take (4 * n) room')

-- at no step has it more on its stacks, or touches a variable further on, than a need says
abbrev pub NeverAbove : Need → (code : List ℕ) → Type 0
NeverAbove a code =
    (elapsed : ℕ) (r : Values) (k : ℕ) → Within a (slice_index_or (code_in code) (steps k elapsed (code_in code) (boot r)).pc stop) (steps k elapsed (code_in code) (boot r))

-- nor does that code go above the heights of its program
abbrev pub WithinHeights : Type 0
WithinHeights =
    (text : List ℕ) (h : Plan) (s : Stmt) (t : Taken text h s) (room room' : List ℕ) (n : ℕ) →
    Makes (pairs t.parsed.tokens) room (Ok n) room' → NeverAbove (stmt_need s) (take (4 * n) room')

-- so it is with the code that a listing prints, and with the code that is loaded to be played
abbrev pub ListedWithin : Type 0
ListedWithin =
    (text : List ℕ) (out : String Global) (l : ListedWithinNeeds text out) →
    EndsWithin (stmt_need l.listed.program).cost (meaning l.listed.program) l.listed.code × NeverAbove (stmt_need l.listed.program) l.listed.code

abbrev pub LoadedWithin : Type 0
LoadedWithin =
    (text : List ℕ) (l : Loaded) (r : ReadyWithinNeeds text l) →
    EndsWithin (stmt_need r.ready.program).cost (meaning r.ready.program) (vec_items l.code) × NeverAbove (stmt_need r.ready.program) (vec_items l.code)

-- these needs are the numbers which the last line of its listing says
abbrev pub NeedsArePrinted : Type 0
NeedsArePrinted =
    (text : List ℕ) (h : Plan) (s : Stmt) (out : String Global) → Taken text h s → Listed text out →
    (front : List ℕ) × (string_bytes out ≡ front ++ needs_text (stmt_need s).cost (stmt_need s).height (stmt_need s).depth)
