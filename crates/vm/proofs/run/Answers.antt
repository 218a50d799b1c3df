use Rattle.std.proofs.Common.{sym, ◌∙◌}
use Rattle.vm.proofs.EndLaws.{booted, store_made, fault_made, at_end, elsewhere}
use Rattle.vm.proofs.Meaning.{rightly}
use Rattle.vm.proofs.run.Goals as goal

pub returns-then-vm-code : goal.returns-then-vm-code
returns-then-vm-code c =
    let e = booted _ _ _ _ _ _ _ c.as_chunks.ensures.front (c.new-vm.ensures.boots _ c.args.vars.now) c.execute.ensures in
    let s = store_made _ _ _ _ _ e in
    let f = fault_made _ _ _ _ _ e in
    let o = at_end _ _ _ _ _ e (c.if-vm-code.true ∙ c.as_chunks.ensures.front_len) in
    record { vars = s; len = c.execute.auto.vars; fault = f; outcome = o; right = rightly _ _ _ _ _ _ _ s f o }

pub returns-else-vm-code : goal.returns-else-vm-code
returns-else-vm-code c =
    let e = booted _ _ _ _ _ _ _ c.as_chunks.ensures.front (c.new-vm.ensures.boots _ c.args.vars.now) c.execute.ensures in
    let s = store_made _ _ _ _ _ e in
    let f = fault_made _ _ _ _ _ e in
    let o = elsewhere _ _ _ _ _ e (λ p. c.if-vm-code.false (p ∙ sym c.as_chunks.ensures.front_len)) in
    record { vars = s; len = c.execute.auto.vars; fault = f; outcome = o; right = rightly _ _ _ _ _ _ _ s f o }
