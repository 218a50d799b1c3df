-- A player whose memory was lent to an entry.
use Rattle.std.proofs.Common.{◌≡◌, ℕ, List, sym, subst₂}
use Rattle.scripts.specs.Script.{Request}
use Rattle.reports.specs.Reports.{Said}
use Rattle.project.specs.declared.player.Player.{Player}
use Rattle.project.specs.Running.{Goes, Moves}

-- what was done to its memory was done to the player
pub moved : (p q : Player) (m m₁ : List ℕ) → m ≡ p.memory.now → q.project ≡ p.project → q.memory.now ≡ m₁ → (r : Request) (told said : List Said) → told ≡ said →
    Goes p.project.kept p.project.inputs.now p.project.firsts.now p.project.code.now r m p.outside p.shown m₁ q.outside q.shown told → Moves p r q said
moved p q m m₁ lent same held r told said tells goes =
    let there = subst₂ (λ (x y : List ℕ). Goes p.project.kept p.project.inputs.now p.project.firsts.now p.project.code.now r x p.outside p.shown y q.outside q.shown told) lent (sym held) goes in
    record { same = same; goes = rw (← tells) there }
