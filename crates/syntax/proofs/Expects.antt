-- The next state of the parser, laid out; and states in which one mark is expected.
use Rattle.std.proofs.Common.{◌≡◌, Bool, cond, None, Some, Option, sym, refl, ap, ◌∙◌, subst}
use mathlib.Core.Option as option
use Rattle.std.proofs.lemmas.Bool.{eq-eqb, ne_eqb}
use Rattle.lexer.specs.Pairs.{code, mark_of}
use Rattle.lexer.specs.declared.Mark.{Mark}
use Rattle.lexer.specs.declared.Token.{Token}
use Rattle.lexer.proofs.PairLaws.{mark_of_code}
use Rattle.syntax.specs.Parser.{only, step}
use Rattle.syntax.specs.Parser as parser
use Rattle.syntax.specs.Reading.{Laid, Next}
use Rattle.syntax.specs.declared.state.Parser.{Parser}
use Rattle.syntax.specs.declared.state.State.{State}

pub reach : (p : Parser) (r : State) (o : option.Option parser.State) (q : parser.State) → o ≡ option.some q → Laid p r q → Next o p (Some r)
reach p r o q e l = subst (λ (x : option.Option parser.State). Next x p (Some r)) (sym e) l

pub refuse : (p : Parser) (o : option.Option parser.State) → o ≡ option.none → Next o p None
refuse p o e = subst (λ (x : option.Option parser.State). Next x p None) (sym e) refl

-- a token, from the state that is laid out
pub from : (t : Token) (p : Parser) (r : Option State) {q f : parser.State} → q ≡ f → Next (step f t) p r → Next (step q t) p r
from t p r e n = subst (λ (x : parser.State). Next (step x t) p r) (sym e) n

pub only_same : (x : Mark) (q : parser.State) → only x x q ≡ option.some q
unfolding only
only_same x q = ap {B = option.Option parser.State} (λ (b : Bool). cond b (option.some q) option.none) (eq-eqb (code x) (code x) refl)

pub only_other : (x y : Mark) (q : parser.State) → (y ≡ x → ⊥) → only x y q ≡ option.none
unfolding only
only_other x y q h =
    ap {B = option.Option parser.State} (λ (b : Bool). cond b (option.some q) option.none) (ne_eqb (code x) (code y) (λ e. h (sym (mark_of_code y) ∙ sym (ap mark_of e) ∙ mark_of_code x)))
