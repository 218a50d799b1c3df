use Rattle.std.proofs.Common.{vec_items, refl, ap, ◌∙◌, arith}
use Rattle.project.proofs.Steps.{start_taken}
use Rattle.project.proofs.Moved.{moved}
use Rattle.project.proofs.player.Player.start.Goals as goal

pub returns : goal.returns
returns c =
    let p = c.args.self.now in
    let l = p.project in
    let m = p.memory.now in
    let m₁ = c.start.new.memory in
    moved p _ m m₁ refl refl refl _ _ _ refl
    (start_taken l.kept m m₁ l.firsts.now p.shown c.values-values.result c.values-values.result _ (vec_items c.in_ok-settings.settings)
    c.in_default.ensures.1.1 c.values-values.ensures refl c.in_ok-settings.ensures refl l.inputs.now l.code.now p.outside)
