use Rattle.std.proofs.Common.{◌≡◌, ◌+◌, ◌<◌, min, cond, ◌&&◌, leb, length, get_or, set, ap, ◌∙◌, length-set, rules}
use mir.Val.{bool_byte}
use Rattle.base.specs.Words.{bit}
use Rattle.base.specs.Stores.{update, cells}
use Rattle.base.proofs.StoreLaws.{cells_set}
use Rattle.base.proofs.words.count_time.Goals as goal

pub returns : goal.returns
returns c =
    let vs = c.args.vars.now in
    let n : c.if-on.count ≡ cond c.args.on (min (get_or vs c.args.counter 0 + c.args.elapsed) c.args.preset) 0 = search rules in
    let b : bool_byte c.if-on-2.vars ≡ bit (c.args.on && leb c.args.preset c.if-on.count) = search rules in
    let room : c.args.out < length (set vs c.args.counter c.if-on.count) = simp length-set c.if-out-vars.false in
    record {
      counts = λ out counter.
          (cells_set _ _ _ room ∙ ap (λ s. update s c.args.out (bool_byte c.if-on-2.vars)) (cells_set vs _ _ c.if-counter-vars.false))
          ∙ (ap (λ y. update (update (cells vs) c.args.counter c.if-on.count) c.args.out y) b
          ∙ ap (λ x. update (update (cells vs) c.args.counter x) c.args.out (bit (c.args.on && leb c.args.preset x))) n);
      missing = λ none. absurd (none c.if-out-vars.false c.if-counter-vars.false);
    }
