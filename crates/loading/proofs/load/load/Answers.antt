use Rattle.std.proofs.Common.{refl, ◌∙◌, rules}
use Rattle.headers.specs.Header.{plan}
use Rattle.loading.proofs.Loads.{ready_within}
use Rattle.loading.proofs.load.load.Goals as goal

pub returns-clause-within : goal.returns-clause-within
returns-clause-within c =
    let told = c.in_ok-tokens.ensures in
    ready_within c.args.text.now _ (plan c.in_ok-project.project) told.0 c.in_ok-project.ensures told.2 (c.in_ok-code.ensures.within told.0 (c.as_slice.ensures.value ∙ told.1)) (search rules) refl refl refl
