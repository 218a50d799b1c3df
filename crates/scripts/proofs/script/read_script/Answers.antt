use Rattle.std.proofs.Common.{map, Ok, vec_items, sym, ap, ◌∙◌, append-nil}
use Rattle.std.specs.Option.{option_to_list}
use Rattle.std.proofs.lemmas.List.{map_push}
use Rattle.std.proofs.lemmas.Result.{err_from_is_err_and}
use Rattle.lines.proofs.Errors.{fails_on}
use Rattle.scripts.specs.Script.{request}
use Rattle.scripts.proofs.ScriptLines.{read_on, script_begins, line_more, line_wrong}
use Rattle.scripts.proofs.script.read_script.Goals as goal

pub loop-line-init : goal.loop-line-init
loop-line-init c = rw (c.into_iter-line-iterator.ensures.into_iter_gives, c.new-events.ensures.items) (script_begins _ _ c.new-line-items.ensures)

pub returns-in_err-event : goal.returns-in_err-event
returns-in_err-event c =
    let p = err_from_is_err_and c.from_residual.result c.from_residual.ensures.1 in
    rw (p.1, p.2) (fails_on (Unit {0}) _ _ _ c.in_err-event.ensures (λ q e. c.loop-line.invariant ∙ line_wrong _ _ q _ _ c.in-Some.ensures.steps e))

pub loop-line-preserved-in-Continue-branch-3 : goal.loop-line-preserved-in-Continue-branch-3
loop-line-preserved-in-Continue-branch-3 c =
    let told = c.in_ok-event.ensures ∙ ap (λ o. Ok (map request (option_to_list o))) c.in-Some-2.is in
    c.loop-line.invariant
    ∙ line_more _ _ _ _ _ c.in-Some.ensures.steps told
    ∙ ap (λ acc. read_on acc c.next.new.self.rest) (sym (ap (map request) c.in_ok-push.ensures.items ∙ map_push request (vec_items c.loop-line.events) c.in-Some-2.event))

pub loop-line-preserved : goal.loop-line-preserved
loop-line-preserved c =
    let told = c.in_ok-event.ensures ∙ ap (λ o. Ok (map request (option_to_list o))) c.in_default.is in
    c.loop-line.invariant ∙ line_more _ _ _ _ _ c.in-Some.ensures.steps told ∙ ap (λ acc. read_on acc c.next.new.self.rest) (append-nil _)
