use Rattle.std.proofs.Common.{ap, ◌∙◌, set}
use Rattle.compiler.specs.Listed.{listed}
use Rattle.compiler.proofs.Drafts.{listed_set}
use Rattle.compiler.proofs.draft.Draft.patch.Goals as goal

pub returns-then-place-self : goal.returns-then-place-self
returns-then-place-self c =
    listed_set c.self.inside.code c.self.inside.len c.args.place.0 c.args.instruction c.if-place-self.true
    ∙ ap (λ l. set l c.args.place.0 (listed c.args.instruction)) c.self.view_is
