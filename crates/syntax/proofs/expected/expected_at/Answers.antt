use Rattle.std.proofs.Common.{ℕ, take, sym, ap, ◌∙◌}
use Rattle.std.proofs.lemmas.List.{take_min}
use Rattle.lexer.specs.Pairs.{tokens_in}
use Rattle.syntax.specs.Parser.{start}
use Rattle.syntax.specs.Expects.{expects, last_state}
use Rattle.syntax.proofs.Expectations.{tokens_in-take}
use Rattle.syntax.proofs.expected.expected_at.Goals as goal

pub returns : goal.returns
returns c =
    let xs = c.args.tokens.now in
    let h = c.read_all-state.ensures in
    c.from.ensures h.before h.here h.laid
    ∙ ap expects (sym h.last ∙ ap (last_state start) (ap (λ (n : ℕ). tokens_in (take n xs)) c.min-end.ensures ∙ ap tokens_in (take_min 8192 xs) ∙ tokens_in-take 4096 xs))
