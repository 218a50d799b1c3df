-- More blanks change nothing. Assumes nothing.
use Rattle.std.proofs.Common.{◌≡◌, ℕ, true, false, List, [], ◌∷◌, ◌++◌, length, sym, refl, ap, ◌∙◌, subst, append-nil, arith, length-append}
use Rattle.std.proofs.lemmas.Bool.Decides.{nat_tests}
use Rattle.lexer.specs.declared.Token.{Token}
use Rattle.lexer.specs.Token.{blank, Parted, Cuts, none, skip, piece}
use Rattle.lexer.specs.Laws.{BlanksAlike, BlanksBetween}
use Rattle.lexer.proofs.Spelling.{Shape, word, sign, becomes, shape, all_alnum}
use Rattle.lexer.proofs.Cutting.{join, unskip}

parted_blank : (w bs rest more : List ℕ) (b : ℕ) → blank b ≡ true → Parted w (bs ++ rest) → Parted w (bs ++ b ∷ more)
parted_blank w [] rest more b y p = grind (arith, nat_tests)
parted_blank w (c ∷ bs) rest more b y p = p

-- what is cut before anything is cut before a blank
loosen : {f rest : List ℕ} {ts : List Token} (b : ℕ) (more : List ℕ) → blank b ≡ true → Cuts f ts rest → Cuts f ts (b ∷ more)
loosen b more y none = none
loosen b more y (skip h c) = skip h (loosen b more y c)
loosen {rest = rest} b more y (piece w {bs} t s p c) = piece w t s (parted_blank w bs rest more b y p) (loosen b more y c)

pub between : BlanksBetween
between front rest b ts us y c d = join (loosen b rest y c) (sym (append-nil (b ∷ rest))) (skip y d)

-- no blank in it
Clear : List ℕ → Type 0
Clear [] = Unit {0}
Clear (b ∷ bs) = (blank b ≡ false) × Clear bs

alnum_clear : (bs : List ℕ) → all_alnum bs ≡ true → Clear bs
unfolding Clear
alnum_clear [] h = tt
alnum_clear (b ∷ bs) h = grind (arith, nat_tests, alnum_clear bs)

shape_clear : (w : List ℕ) → Shape w → Clear w
unfolding Clear
shape_clear _ (word b bs a h) = grind (arith, nat_tests, alnum_clear bs h)
shape_clear _ (sign b a s n l) = (s, tt)
shape_clear _ becomes = (refl, (refl, tt))

-- a blank after a piece stands behind all of it
past : (w bs xs ys : List ℕ) (b : ℕ) → Clear w → blank b ≡ true → w ++ bs ≡ xs ++ b ∷ ys → (zs : List ℕ) × (xs ≡ w ++ zs) × (bs ≡ zs ++ b ∷ ys)
unfolding Clear
past [] bs xs ys b h y e = (xs, refl, e)
past (c ∷ w) bs [] ys b h y e = absurd (grind arith)
past (c ∷ w) bs (x ∷ xs) ys b h y e = let r = past w bs xs ys b h.1 y (cc) in (r.0, (cc), r.2)

-- a text that is cut is cut on both sides of a blank
pub record Sides (xs ys : List ℕ) (b : ℕ) (ts : List Token) : Type 0 where
  pub us : List Token
  pub vs : List Token
  pub tokens : ts ≡ us ++ vs
  pub before : Cuts xs us (b ∷ ys)
  pub after : Cuts ys vs []

sides : {g : List ℕ} {ts : List Token} (xs ys : List ℕ) (b : ℕ) → blank b ≡ true → Cuts g ts [] → g ≡ xs ++ b ∷ ys → Sides xs ys b ts
sides xs ys b y none e = absurd (omega (arith, simp length-append at (ap length e)))
sides {ts = ts} [] ys b y (skip {bs = bs} h c) e = let q : bs ≡ ys = cc in record { us = []; vs = ts; tokens = refl; before = none; after = subst (λ x. Cuts x ts []) q c }
sides (x ∷ xs) ys b y (skip {b = d} {bs = bs} h c) e =
    let head : d ≡ x = cc in
    let tail : bs ≡ xs ++ b ∷ ys = cc in
    let r = sides xs ys b y c tail in
    record { us = r.us; vs = r.vs; tokens = r.tokens; before = skip (ap blank (sym head) ∙ h) r.before; after = r.after }
sides xs ys b y (piece w {bs} t s p c) e =
    let r = past w bs xs ys b (shape_clear w (shape w t s)) y e in
    let q = sides r.0 ys b y c r.2 in
    record {
      us = t ∷ q.us;
      vs = q.vs;
      tokens = ap (λ l. t ∷ l) q.tokens;
      before = subst (λ l. Cuts l (t ∷ q.us) (b ∷ ys)) (sym r.1) (piece w t s (subst (Parted w) (append-nil bs ∙ r.2) p) q.before);
      after = q.after;
    }

pub alike : BlanksAlike
alike front rest b c ts y z = (
  λ d.
      let r = sides front rest b y d refl in
      subst (λ l. Cuts (front ++ b ∷ c ∷ rest) l []) (sym r.tokens) (join (loosen b (c ∷ rest) y r.before) (sym (append-nil (b ∷ c ∷ rest))) (skip y (skip z r.after))),
  λ d.
      let r = sides front (c ∷ rest) b y d refl in
      subst (λ l. Cuts (front ++ b ∷ rest) l []) (sym r.tokens) (join (loosen b rest y r.before) (sym (append-nil (b ∷ rest))) (skip y (unskip z r.after refl))),
)
