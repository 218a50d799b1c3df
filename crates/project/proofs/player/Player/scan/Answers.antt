use Rattle.std.proofs.Common.{◌≡◌, [], ◌∷◌, not, ◌&&◌, eqb, get_or, take, replicate, vec_items, refl, sym, ap, ◌∙◌, arith}
use Rattle.project.proofs.Steps.{room_long, scan_refused, scan_taken}
use Rattle.project.proofs.Moved.{moved}
use Rattle.project.proofs.player.Player.scan.Goals as goal
use Rattle.project.proofs.player.Player.scan.Goals.{Joined-not-was_lit, then-not-was_lit, else-not-was_lit}

pub returns-in-Err : goal.returns-in-Err
returns-in-Err c =
    let p = c.args.self.now in
    let l = p.project in
    let m = p.memory.now in
    let m₁ = c.scan.new.memory in
    moved p _ m m₁ refl refl refl _ _ _ (ap (λ x. x ∷ []) (sym c.refused.ensures))
    (scan_refused l.kept p.few m p.whole m₁ _ l.inputs.now l.firsts.now l.code.now c.note_inputs.new.outside (omega arith) (omega arith) (omega arith)
    c.args.elapsed (replicate 64 0) (take c.device_length.result (replicate 132 0)) refl (room_long l.kept c.device_length.result p.few c.device_length.ensures) p.shown p.shown
    c.in-Err.refusal c.in-Err.ensures.1.0 refl refl c.in-Err.ensures.0 p.outside c.args.named.now c.note_inputs.ensures)

-- the lamp went on
lamp : (c : Joined-not-was_lit) → c.if-not-was_lit.lamp ≡ (not (eqb (get_or c.args.self.now.memory.now 193 0) 1) && eqb (get_or c.scan.new.memory 193 0) 1)
lamp c =
    let m₁ = c.scan.new.memory in
    let was = c.lamp_lit-was_lit.ensures in
    elim c.if-not-was_lit.branch [
      | then-not-was_lit w ↦ w.lamp-is ∙ w.lamp_lit-lamp.ensures ∙ sym (ap (λ x. x && eqb (get_or m₁ 193 0) 1) (ap not (sym was ∙ w.if-not-was_lit.true)))
      | else-not-was_lit w ↦ w.lamp-is ∙ ap not w.if-not-was_lit.false ∙ sym (ap (λ x. x && eqb (get_or m₁ 193 0) 1) (ap not (sym was ∙ w.if-not-was_lit.false)))
    ]

pub returns : goal.returns
returns c =
    let p = c.args.self.now in
    let l = p.project in
    let m = p.memory.now in
    let m₁ = c.scan.new.memory in
    moved p _ m m₁ refl refl refl _ _ _ refl
    (scan_taken l.kept p.few m p.whole m₁ _ l.inputs.now l.firsts.now l.code.now c.note_inputs.new.outside (omega arith) (omega arith) (omega arith)
    c.args.elapsed (replicate 64 0) (take c.device_length.result (replicate 132 0)) refl (room_long l.kept c.device_length.result p.few c.device_length.ensures) p.shown c.scan.new.out
    c.scan.new.out c.scan.new.writes c.in_default.field-0 (vec_items c.in_ok-changed.changed) c.if-not-was_lit.lamp
    c.in_default.ensures.1 c.in_default.ensures.0 refl c.in_ok-changed.ensures (lamp c) refl p.outside c.args.named.now c.note_inputs.ensures)
