use Rattle.std.proofs.Common.{refl, arith}
use Rattle.project.proofs.Steps.{told_so, cut_goes}
use Rattle.project.proofs.Moved.{moved}
use Rattle.project.proofs.player.Player.cut.Goals as goal

pub returns : goal.returns
returns c =
    let p = c.args.self.now in
    let l = p.project in
    let m = p.memory.now in
    let m₁ = c.cut.new.memory in
    moved p _ m m₁ refl refl refl _ _ _
    (told_so _ c.cut.result c.err.result c.map.result (λ x y h. h) c.err.ensures.value c.map.ensures.cases)
    (cut_goes l.kept p.few m p.whole m₁ l.inputs.now l.firsts.now l.code.now c.note_inputs.new.outside (omega arith) (omega arith) (omega arith)
    c.args.elapsed c.args.at c.args.junk c.cut.result c.cut.ensures p.shown p.outside c.args.named.now c.note_inputs.ensures)
