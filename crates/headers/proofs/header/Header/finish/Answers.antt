use Rattle.std.proofs.Common.{◌≡◌, ℕ, length, None, Option, rules}
use Rattle.std.specs.Option.{unwrap_or}
use Rattle.headers.proofs.Mapped.{mapped}
use Rattle.headers.proofs.header.Header.finish.Goals as goal

pub returns : goal.returns
returns c =
    let long : length c.args.self.firsts ≡ 64 = search rules in
    let firsts = mapped _ _ (λ (v : Option ℕ). unwrap_or v 0) None c.args.self.firsts c.map.result 64 long c.map.ensures.items (λ p q a y k. search rules) in
    rw (c.unwrap_or.ensures, c.unwrap_or-2.ensures, firsts)
