use Rattle.std.proofs.Common.{refl, arith}
use Rattle.project.proofs.Steps.{told_so, force_goes}
use Rattle.project.proofs.Moved.{moved}
use Rattle.project.proofs.player.Player.force.Goals as goal

pub returns : goal.returns
returns c =
    let p = c.args.self.now in
    let l = p.project in
    let m = p.memory.now in
    let m₁ = c.force.new.memory in
    moved p _ m m₁ refl refl refl _ _ _
    (told_so _ c.force.result c.err.result c.map.result (λ x y h. h) c.err.ensures.value c.map.ensures.cases)
    (force_goes l.kept p.few m p.whole m₁ l.inputs.now l.firsts.now l.code.now p.outside p.shown c.args.point c.args.number c.force.result c.force.ensures)
