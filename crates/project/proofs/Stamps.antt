-- No script that finds memory runs out of stamps.
use Rattle.std.proofs.Common.{◌≡◌, ℕ, ◌^◌, ◌<◌, List, length, ap, arith}
use Rattle.retain.specs.Device.{stamp}
use Rattle.controller.specs.World.{Project, Event}
use Rattle.controller.specs.History.{after}
use Rattle.controller.specs.Memory.{device_in, StandsFor}
use Rattle.controller.proofs.Stamps.{stamps_last_lem}

-- a stamp rises by at most one with each event, so it can be raised after any history that is not absurdly long
pub stamp_low : (p : Project) (es : List Event) (m : List ℕ) → StandsFor p m es → length es < 2 ^ 61 → stamp p.kept (device_in m) < 2 ^ 62
stamp_low p es m h few =
    let x : stamp p.kept (device_in m) ≡ stamp p.kept (after p es).device = ap (λ s. stamp p.kept s.device) h in
    omega (arith, x, stamps_last_lem p es)
