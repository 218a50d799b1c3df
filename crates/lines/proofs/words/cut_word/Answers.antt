use Rattle.std.proofs.Common.{◌≡◌, get_or, refl, arith, rules}
use Rattle.std.proofs.lemmas.List.{take-append-drop, append-nil}
use Rattle.std.proofs.lemmas.Str.Pattern.{starts_char}
use Rattle.std.proofs.lemmas.Bool.{both_ways}
use Rattle.lines.proofs.Cuts.{stop, cut_colon, cut_some, cut_all}
use Rattle.lines.proofs.words.cut_word.Goals as goal

pub returns-then-starts_with : goal.returns-then-starts_with
returns-then-starts_with c =
    let colon = (starts_char 58 c.args.text.now _ c.starts_with.ensures.cases (omega arith) (omega arith)).0 c.if-starts_with.true in
    record { parts = search (rules, take-append-drop); words = λ at l b. cut_colon _ _ _ colon c.split_at.ensures.front c.split_at.ensures.back at }

pub returns-in-Some : goal.returns-in-Some
returns-in-Some c =
    let colon : get_or c.args.text.now 0 0 ≡ 58 → ⊥ = λ e. both_ways _ c.if-starts_with.false ((starts_char 58 c.args.text.now _ c.starts_with.ensures.cases (omega arith) (omega arith)).1 e) in
    let found = c.in-Some.ensures.cases in
    let by-stop = found.1 stop (λ d. refl) in
    record {
      parts = search (rules, take-append-drop);
      words = λ at l b. cut_some _ _ _ c.in-Some.n found.0 found.3.0 by-stop.0 by-stop.1 colon c.split_at-in-Some.ensures.front c.split_at-in-Some.ensures.back at b;
    }

pub returns-in-None : goal.returns-in-None
returns-in-None c = record { parts = search (rules, append-nil); words = λ at l b. cut_all _ (c.in-None.ensures.cases stop (λ d. refl)) at l }
