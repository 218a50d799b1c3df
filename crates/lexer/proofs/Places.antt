-- A text is refused at one place, which counts characters as it counts bytes. Assumes nothing.
use Rattle.std.proofs.Common.{◌≡◌, ℕ, suc, ◌+◌, ◌<◌, ◌≤◌, true, false, ◌⊎◌, List, [], ◌∷◌, ◌++◌, length, get_or, take, drop, IsAscii, sym, refl, ap, ◌∙◌, subst, append_assoc, arith, length-append, take-append-drop}
use Rattle.std.specs.Str.{chars}
use Rattle.std.proofs.lemmas.Str.Ascii.{IsAscii-nil, IsAscii-cons}
use Rattle.std.proofs.lemmas.List.{take_at, length-take-le}
use Rattle.std.proofs.lemmas.Str.{IsAscii-append, chars-IsAscii, chars-append, IsUtf8-from_ascii}
use Rattle.std.proofs.lemmas.Bool.Decides.{nat_tests}
use Rattle.lexer.specs.declared.Token.{Token}
use Rattle.lexer.specs.Token.{blank, Cuts, none, skip, piece, Stuck}
use Rattle.lexer.specs.Outcome.{Broken}
use Rattle.lexer.specs.Laws.{OnePlace, PlaceInCharacters}
use Rattle.lexer.proofs.Cutting.{same_pieces}
use Rattle.lexer.proofs.Spelling.{shape, solid, shape_ascii}

-- after k tokens and these, the rest is refused
record Ends (k : ℕ) (ts : List Token) (rest : List ℕ) : Type 0 where
  some : 0 < length rest
  firm : blank (get_or rest 0 0) ≡ false
  few : k + length ts ≤ 4096
  wrong : (k + length ts ≡ 4096) ⊎ Stuck rest

-- what is refused at once is not cut further
at_once : {g s : List ℕ} {us : List Token} (k : ℕ) (rest : List ℕ) → Ends k [] rest → Cuts g us s → rest ≡ g ++ s → k + length us ≤ 4096 → length g ≡ 0
at_once k rest h none e few = refl
at_once k rest h (skip {b} {bs} y c) e few = absurd (grind arith)
at_once {s = s} k rest h (piece w {bs} t q p c) e few = absurd (grind (arith, append_assoc {A = ℕ}))

one_more : {k : ℕ} {t : Token} {ts : List Token} {rest : List ℕ} → Ends k (t ∷ ts) rest → Ends (suc k) ts rest
one_more h = grind arith

meet : {f g r s : List ℕ} {ts us : List Token} (k : ℕ) → Cuts f ts r → Cuts g us s → f ++ r ≡ g ++ s → Ends k ts r → Ends k us s → length f ≡ length g
meet {r = r} k none d e h j = sym (at_once k r h d e j.few)
meet {s = s} k (skip y c) none e h j = absurd (grind arith)
meet {r = r} {s = s} k (skip {bs = bs} y c) (skip {bs = cs} z d) e h j = let tail : bs ++ r ≡ cs ++ s = cc in ap suc (meet k c d tail h j)
meet {r = r} {s = s} k (skip y c) (piece w {bs} t q p d) e h j = absurd (grind (arith, append_assoc {A = ℕ}, solid w (bs ++ s) (shape w t q)))
meet {r = r} {s = s} k (piece w {bs} t q p c) none e h j = at_once k s j (piece w {bs = bs} t q p c) (sym e) h.few
meet {r = r} {s = s} k (piece w {bs} t q p c) (skip z d) e h j = absurd (grind (arith, append_assoc {A = ℕ}, solid w (bs ++ r) (shape w t q)))
meet {r = r} {s = s} k (piece w {bs} t q p c) (piece v {bs = cs} u o n d) e h j =
    let both = same_pieces w (bs ++ r) v (cs ++ s) t u q o p n (sym (append_assoc w bs r) ∙ e ∙ append_assoc v cs s) in
    let left = meet (suc k) c d both.1 (one_more h) (one_more j) in
    simp length-append (omega (arith, ap length both.0, left))

ends : (text : List ℕ) (p : ℕ) (b : Broken text p) → Ends 0 b.tokens b.rest
ends text p b = grind arith

pub one_place : OnePlace
one_place text p q b d = sym b.place ∙ meet 0 b.cuts d.cuts (b.split ∙ sym d.split) (ends text p b) (ends text q d) ∙ d.place

blank_ascii : (b : ℕ) → blank b ≡ true → b < 128
blank_ascii b h = grind (arith, nat_tests)

-- what is cut is ASCII
pub cuts_ascii : {f rest : List ℕ} {ts : List Token} → Cuts f ts rest → IsAscii f
cuts_ascii none = IsAscii-nil
cuts_ascii (skip {b} {bs} y c) = IsAscii-cons b bs (blank_ascii b y) (cuts_ascii c)
cuts_ascii (piece w {bs} t s p c) = IsAscii-append w bs (shape_ascii w (shape w t s)) (cuts_ascii c)

pub broken_ascii : (text : List ℕ) (p : ℕ) → Broken text p → IsAscii (take p text)
broken_ascii text p b = subst IsAscii (sym (take_at b.front b.rest p b.place) ∙ ap (take p) b.split) (cuts_ascii b.cuts)

pub place_in_characters : PlaceInCharacters
place_in_characters text p b =
    let plain = broken_ascii text p b in
    let size : p ≤ length text = omega (arith, simp length-append at (ap length b.split), b.place) in (
      ap chars (sym (take-append-drop p text)) ∙ chars-append (take p text) (drop p text) (IsUtf8-from_ascii (take p text) plain),
      ap length (chars-IsAscii (take p text) plain) ∙ length-take-le p text size,
    )
