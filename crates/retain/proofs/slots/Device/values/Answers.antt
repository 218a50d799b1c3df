use Rattle.std.proofs.Common.{ℕ, ◌+◌, ◌-◌, ◌<◌, get_or, drop, ap, ◌∙◌, arith, get_or-drop, get_or-take}
use Rattle.retain.specs.Device.{slot_base, recovered}
use Rattle.retain.proofs.slots.Device.values.Goals as goal

pub returns-clause-held : goal.returns-clause-held
unfolding recovered
returns-clause-held c = λ i l.
    let d = c.args.self.cells.now in
    let b : ℕ = c.slot_base-first.result in
    let h : i < b + 1 + c.args.self.kept - (b + 1) = omega arith in
    get_or-take _ (drop (b + 1) d) i 0 h ∙ get_or-drop (b + 1) d i 0 ∙ ap (λ x. get_or d (x + 1 + i) 0) (c.slot_base-first.ensures ∙ ap (slot_base c.args.self.kept) c.current.ensures)
