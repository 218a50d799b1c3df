-- What an error says, carried on.
use Rattle.std.proofs.Common.{◌≡◌, ℕ, false, List, Some, None, Err, Option, Result, refl}
use Rattle.std.specs.Option.{ok_or}
use Rattle.std.specs.Str.{bytes_eq}
use Rattle.std.proofs.lemmas.Slice.Eq.{bytes_eq-Decides}
use Rattle.std.proofs.lemmas.Bool.{false≢true}
use Rattle.std.proofs.lemmas.Bool.Decides.{same_from_decides}
use Rattle.lines.specs.declared.words.ReadError.{ReadError}
use Rattle.lines.specs.declared.words.ReadError.TheVariants.{Memory, At}
use Rattle.lines.specs.Words.{Words}
use Rattle.lines.specs.Reading.{Took, took, wrong, read_as, Misses, Answers, Fails}

-- where the part t does not fit, the whole u does not
pub misses_on : {X Y : Type 0} (M N : Type 0) (e : ReadError) (t : Took X) (u : Took Y) → (M → N) → Misses M e t → ((p : ℕ) → t ≡ wrong p → u ≡ wrong p) → Misses N e u
misses_on M N Memory t u m h k = m h
misses_on M N (At p) t u m h k = k p h

pub differs : (xs ys : List ℕ) → (xs ≡ ys → ⊥) → bytes_eq xs ys ≡ false
differs xs ys h = same_from_decides _ _ (bytes_eq-Decides xs ys) ((λ e. absurd (false≢true e)), (λ e. absurd (h e)))

pub fails_on : {X Y : Type 0} (M : Type 0) (e : ReadError) (t : Result X ℕ) (u : Result Y ℕ) → Fails M e t → ((p : ℕ) → t ≡ Err p → u ≡ Err p) → Fails M e u
fails_on M Memory t u h k = h
fails_on M (At p) t u h k = k p h

-- a word that was read, or does not fit
pub as_read : {X : Type 0} (at : ℕ) (o : Option X) (us : Words) → Answers ⊥ (ok_or o (At at)) (λ x. took x us) (read_as at o us)
as_read at None us = refl
as_read at (Some x) us = refl
