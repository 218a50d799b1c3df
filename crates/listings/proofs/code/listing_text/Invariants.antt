use Rattle.std.proofs.Common.{◌≡◌, map, take, string_bytes}
use Rattle.compiler.specs.Code.{instr_at}
use Rattle.listings.specs.ListingText.{code_text}
use Rattle.listings.proofs.code.listing_text.Given as goal

-- so many lines were written
abbrev pub invariant-loop-place : goal.invariant-loop-place
invariant-loop-place l = string_bytes l.out ≡ code_text 0 (map instr_at (take l.place-counter l.instructions))
