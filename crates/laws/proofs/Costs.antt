-- The code of a project stays within the needs that its listing says.
use Rattle.std.proofs.Common.{◌≡◌, ℕ, ◌*◌, List, ◌++◌, take, Ok, ap, ◌∙◌, subst}
use Rattle.lexer.specs.declared.Token.{Token}
use Rattle.lexer.specs.Pairs.{pairs}
use Rattle.lexer.proofs.PairLaws.{pairs_back}
use Rattle.syntax.specs.Ast.{Stmt}
use Rattle.syntax.specs.Grammar.{Reads}
use Rattle.syntax.proofs.Complete.{one_tree}
use Rattle.semantics.specs.Eval.{meaning}
use Rattle.semantics.specs.Needs.{stmt_need}
use Rattle.compiler.specs.Code.{code_in}
use Rattle.compiler.specs.Made.{Makes}
use Rattle.compiler.specs.Right.{Right}
use Rattle.compiler.proofs.Within.{coded_within}
use Rattle.headers.specs.Header.{Plan}
use Rattle.listings.specs.ListingText.{code_text, needs_text}
use Rattle.loading.specs.Loading.{Taken}
use Rattle.laws.specs.Costs.{WithinCost, WithinHeights, ListedWithin, LoadedWithin, NeedsArePrinted}
use Rattle.laws.proofs.Taken.{one_reading_lem}

-- what is made for a text that is taken is right for its program, within its needs
made_within : (text : List ℕ) (h : Plan) (s : Stmt) (t : Taken text h s) (room room' : List ℕ) (n : ℕ) → Makes (pairs t.parsed.tokens) room (Ok n) room' →
    Right (meaning s) (stmt_need s) (code_in (take (4 * n) room'))
made_within text h s t room room' n m =
    let ts = t.parsed.tokens in
    let mine : Reads ts m.program = subst (λ (us : List Token). Reads us m.program) (pairs_back ts) m.reads in
    let same : m.program ≡ s = one_tree ts m.program s mine t.parsed.reads in
    subst (λ (x : Stmt). Right (meaning x) (stmt_need x) (code_in (take (4 * n) room'))) same (coded_within m.program room room' n m.coded)

pub within_cost : WithinCost
within_cost text h s t room room' n m = (made_within text h s t room room' n m).runs

pub within_heights : WithinHeights
within_heights text h s t room room' n m = (made_within text h s t room room' n m).low

pub needs_are_printed : NeedsArePrinted
needs_are_printed text h s out t l =
    let same : l.program ≡ s = (one_reading_lem text l.plan h l.program s l.taken t).1 in
    let front = code_text 0 (code_in l.code) in
    (front, l.answer ∙ ap (λ (x : Stmt). front ++ needs_text (stmt_need x).cost (stmt_need x).height (stmt_need x).depth) same)

pub listed_within : ListedWithin
listed_within text out l = (l.within.runs, l.within.low)

pub loaded_within : LoadedWithin
loaded_within text l r = (r.within.runs, r.within.low)
