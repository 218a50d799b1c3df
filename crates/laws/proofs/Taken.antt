-- What is known of every text that is taken: its numbers are words, and it says one thing.
use Rattle.std.proofs.Common.{◌≡◌, ℕ, ◌≤◌, List, [], length, Ok, string_bytes, Result, String, sym, ap, ◌∙◌, subst, arith}
use Rattle.std.specs.declared.alloc.Global.{Global}
use Rattle.lexer.specs.declared.Token.{Token}
use Rattle.lexer.specs.declared.Token.TheVariants.{Number as number, Name as name, Operator as operator, Mark as mark}
use Rattle.lexer.specs.Token.{Spells, Cuts, none, skip, piece}
use Rattle.lexer.proofs.Cutting.{one_way}
use Rattle.syntax.specs.Ast.{Stmt}
use Rattle.syntax.specs.Grammar.{Reads}
use Rattle.syntax.specs.Names.{TokenFits, TokensFit, Words}
use Rattle.syntax.specs.Printer.{print}
use Rattle.syntax.proofs.Complete.{one_tree}
use Rattle.syntax.proofs.Naming.{program_fits}
use Rattle.printer.proofs.ReadsBack.{prints_back}
use Rattle.syntax.proofs.Shortest.{shortest_texts}
use Rattle.semantics.specs.Eval.{meaning}
use Rattle.controller.specs.Memory.{project}
use Rattle.controller.proofs.WordLaws.{words_stay}
use Rattle.headers.specs.Header.{Plan}
use Rattle.scripts.specs.Script.{Request, read_script}
use Rattle.project.specs.Play.{played}
use Rattle.loading.specs.Loading.{Taken}
use Rattle.project.specs.Loading.{Played, project_of}
use Rattle.laws.specs.Texts.{TakenWords, OneReading, OneAnswer, SamePrint, SamePlay, PrintIsTaken}
use Rattle.laws.proofs.Words.{words_of_words_lem}
use Rattle.laws.proofs.Readers.{firsts_words}

spelled_fits : (w : List ℕ) (t : Token) → Spells w t → TokenFits 64 t
spelled_fits w (number n) s = s.2
spelled_fits w (name i) s = s.1
spelled_fits w (operator o) s = tt
spelled_fits w (mark m) s = tt

cut_fits : {f rest : List ℕ} {ts : List Token} → Cuts f ts rest → TokensFit 64 ts
unfolding TokensFit
cut_fits none = tt
cut_fits (skip h c) = cut_fits c
cut_fits (piece w t s p c) = (spelled_fits w t s, cut_fits c)

-- the literals of a program that is taken are words
pub literals : {text : List ℕ} {h : Plan} {s : Stmt} → Taken text h s → Words s
literals {s = s} t = (program_fits 64 t.parsed.tokens s t.parsed.reads (cut_fits t.parsed.read_up.cut_up.cuts)).1

pub taken_words : TakenWords
taken_words text h s es t b = words_stay (project_of h s) es (firsts_words text h t.parsed.read_up.header) (words_of_words_lem s (literals t)) b

same_ok : {A : Type 0} (x y : A) → ◌≡◌ {A = Result A ℕ} (Ok x) (Ok y) → x ≡ y
same_ok x y e = cc

pub one_reading_lem : OneReading
one_reading_lem text h g s t a b =
    let plans : h ≡ g = same_ok h g (sym a.parsed.read_up.header ∙ b.parsed.read_up.header) in
    let mine : Cuts g.program a.parsed.tokens [] = subst (λ (k : Plan). Cuts k.program a.parsed.tokens []) plans a.parsed.read_up.cut_up.cuts in
    let tokens = one_way g.program a.parsed.tokens b.parsed.tokens mine b.parsed.read_up.cut_up.cuts in
    (plans, one_tree b.parsed.tokens s t (subst (λ (ts : List Token). Reads ts s) tokens a.parsed.reads) b.parsed.reads)

-- what is played of a text that is taken and a script that is read
pub settled : (project script : List ℕ) (h : Plan) (s : Stmt) (rs : List Request) → Taken project h s → read_script script ≡ Ok rs →
    (text : String Global) → Played project script text → string_bytes text ≡ played (project_of h s) rs
settled project script h s rs t read text x =
    let same = one_reading_lem project x.plan h x.program s x.taken t in
    let lines = same_ok x.requests rs (sym x.script_read ∙ read) in
    x.answer ∙ (λ i. played (project_of (same.0 i) (same.1 i)) (lines i))

pub one_answer : OneAnswer
one_answer project script a b x y = settled project script y.plan y.program y.requests y.taken y.script_read a x ∙ sym y.answer

-- what is printed the same is the same tree
same_tree : {text text' : List ℕ} {h g : Plan} {s t : Stmt} → Taken text h s → Taken text' g t → print s ≡ print t → s ≡ t
same_tree {s = s} {t = t} a b e =
    let printed = λ (ts : List Token) (x : Stmt) (r : Reads ts x). prints_back.reads x (prints_back.programs ts x r) in
    one_tree (print t) s t (subst (λ (ts : List Token). Reads ts s) e (printed a.parsed.tokens s a.parsed.reads)) (printed b.parsed.tokens t b.parsed.reads)

pub same_print : SamePrint
same_print text text' h g s t a b same e rs =
    let trees : s ≡ t = same_tree a b e in
    λ i. played (project (same.kept i) (same.inputs i) (same.firsts i) (meaning (trees i))) rs

pub same_play : SamePlay
same_play text text' script a b x y same e =
    let lines = same_ok x.requests y.requests (sym x.script_read ∙ y.script_read) in
    x.answer ∙ ap (played (project_of x.plan x.program)) lines
    ∙ same_print text text' x.plan y.plan x.program y.program x.taken y.taken same e y.requests ∙ sym y.answer

pub print_is_taken : PrintIsTaken
print_is_taken text text' h g s t header low cuts =
    let ts = t.parsed.tokens in
    let few : length (print s) ≤ 4096 = omega (arith, shortest_texts.programs ts s t.parsed.reads, t.parsed.read_up.cut_up.few) in
    record {
      parsed = record {
        tokens = print s;
        read_up = record { header = header; cut_up = record { cuts = cuts; few = few } };
        reads = prints_back.reads s (prints_back.programs ts s t.parsed.reads);
      };
      fits = t.fits;
      low = low;
    }
