use Rattle.std.proofs.Common.{◌≡◌, ◌+◌, not, eqb, take, ap, ◌∙◌, arith, length-take}
use Rattle.std.proofs.lemmas.List.Sums.{count_by-le-length, suffix_len-le-length}
use Rattle.messages.specs.MessageText.{line_feeds, since_feed}
use Rattle.messages.proofs.Places.{feeds_counted, since_counted, take_min}
use Rattle.messages.proofs.place.line_and_column.Goals as goal

pub overflow_add-result : goal.overflow_add-result
overflow_add-result c =
    let before = take c.min.result c.as_bytes-bytes.result.now in
    omega (arith, c.line_feeds.ensures, count_by-le-length (λ b. eqb b 10) before, length-take c.min.result c.as_bytes-bytes.result.now, c.as_bytes-bytes.ensures.len)

pub overflow_add-result-2 : goal.overflow_add-result-2
overflow_add-result-2 c =
    let before = take c.min.result c.as_bytes-bytes.result.now in
    omega (arith, c.since_feed.ensures, suffix_len-le-length (λ b. not (eqb b 10)) before, length-take c.min.result c.as_bytes-bytes.result.now, c.as_bytes-bytes.ensures.len)

pub returns : goal.returns
returns c =
    let same : take c.min.result c.as_bytes-bytes.result.now ≡ take c.args.place c.args.text.now = rw (c.min.ensures, c.as_bytes-bytes.ensures.value) (take_min c.args.place c.args.text.now) in
    record {
      line = ap (λ n. 1 + n) (c.line_feeds.ensures ∙ feeds_counted _ ∙ ap line_feeds same);
      column = ap (λ n. 1 + n) (c.since_feed.ensures ∙ since_counted _ ∙ ap (since_feed 0) same);
    }
