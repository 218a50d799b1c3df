use Rattle.std.proofs.Common.{◌≡◌, ℕ, length, replicate, codes}
use Rattle.std.proofs.lemmas.List.{length-replicate}
use Rattle.messages.proofs.Pointing.{token_pointed, nowhere_pointed}
use Rattle.messages.proofs.message.Source.mismatch_line.Goals as goal

pub returns : goal.returns
returns c =
    let s = c.args.self.now in
    let p = c.args.program.now in
    token_pointed c.line-2.result s.file.now s.text.now p.at p.text.now c.args.index c.place_of_token-place.result c.as_str.result.now _ _ c.in-Ok.count
    c.in-Ok.ensures.0 c.place_of_token-place.ensures c.line-2.ensures

pub returns-in_default : goal.returns-in_default
returns-in_default c =
    let s = c.args.self.now in
    let p = c.args.program.now in
    let size : length {A = ℕ} (replicate 8192 0) ≡ 8192 = length-replicate {A = ℕ} 8192 0 in
    nowhere_pointed c.line.result s.file.now s.text.now p.at p.text.now c.args.index c.place_in-place.result (codes "this is no program") (replicate 8192 0) _ c.tokenize.result
    size c.in_default.not-Ok c.tokenize.ensures c.line.ensures
