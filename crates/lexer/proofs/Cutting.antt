-- How cuttings are joined, split and compared. Assumes nothing.
use Rattle.std.proofs.Common.{◌≡◌, ℕ, ◌<◌, true, false, List, [], ◌∷◌, ◌++◌, length, get_or, take, drop, sym, refl, ap, ◌∙◌, subst, inl, inr, append_assoc, append-nil, arith, length-append}
use Rattle.std.proofs.lemmas.List.{take_at, drop_at}
use Rattle.std.proofs.lemmas.Bool.{both_ways}
use Rattle.lexer.specs.declared.Token.{Token}
use Rattle.lexer.specs.Token.{blank, Spells, Parted, Cuts, none, skip, piece}
use Rattle.lexer.specs.Laws.{OneWay, RefusedRightly}
use Rattle.lexer.specs.Piece.{piece_length}
use Rattle.lexer.proofs.Spelling.{shape, solid, shape_length, one_token}

-- what is cut before g, and g, are cut together
pub join : {f g rest v : List ℕ} {ts us : List Token} → Cuts f ts v → v ≡ g ++ rest → Cuts g us rest → Cuts (f ++ g) (ts ++ us) rest
join none e d = d
join (skip h c) e d = skip h (join c e d)
join {g = g} {rest = rest} (piece w {bs} t s p c) e d =
    rw append_assoc (piece w t s (subst (Parted w) (ap (λ x. bs ++ x) e ∙ sym (append_assoc bs g rest)) p) (join c e d))

pub one : {rest : List ℕ} (w : List ℕ) (t : Token) → Spells w t → Parted w rest → Cuts w (t ∷ []) rest
one {rest} w t s p = subst (λ x. Cuts x (t ∷ []) rest) (append-nil w) (piece w {bs = []} t s p none)

-- the first piece of a text that can be cut and begins with no blank
pub record Head (g : List ℕ) (us : List Token) : Type 0 where
  pub w : List ℕ
  pub bs : List ℕ
  pub t : Token
  pub ts : List Token
  pub spells : Spells w t
  pub parted : Parted w bs
  pub split : w ++ bs ≡ g
  pub tokens : t ∷ ts ≡ us
  pub after : Cuts bs ts []

pub head_of : {g : List ℕ} {us : List Token} → Cuts g us [] → 0 < length g → blank (get_or g 0 0) ≡ false → Head g us
head_of none l s = absurd (omega arith)
head_of (skip h c) l s = absurd (both_ways _ s h)
head_of (piece w {bs} t s p c) l q = record { w = w; bs = bs; t = t; ts = _; spells = s; parted = subst (Parted w) (append-nil bs) p; split = refl; tokens = refl; after = c }

-- a blank in front can only be skipped
pub unskip : {b : ℕ} {bs g : List ℕ} {us : List Token} → blank b ≡ true → Cuts g us [] → g ≡ b ∷ bs → Cuts bs us []
unskip y none e = let z : ◌≡◌ {A = ℕ} 0 1 = cc in absurd (omega arith)
unskip {bs = bs} {us = us} y (skip {bs = cs} h c) e = let q : cs ≡ bs = cc in subst (λ x. Cuts x us []) q c
unskip y (piece w {bs} t s p c) e = absurd (both_ways _ (sym (ap (λ g. blank (get_or g 0 0)) e) ∙ (solid w bs (shape w t s)).1) y)

-- spellings in front of one text are one
pub same_pieces : (w bs v cs : List ℕ) (t u : Token) → Spells w t → Spells v u → Parted w bs → Parted v cs → w ++ bs ≡ v ++ cs → (w ≡ v) × (bs ≡ cs)
same_pieces w bs v cs t u s r p o e =
    let same : length w ≡ length v = sym (shape_length w bs (shape w t s) p) ∙ ap piece_length e ∙ shape_length v cs (shape v u r) o in (
      sym (take_at w bs (length w) refl) ∙ ap (take (length w)) e ∙ take_at v cs (length w) (sym same),
      sym (drop_at w bs (length w) refl) ∙ ap (drop (length w)) e ∙ drop_at v cs (length w) (sym same),
    )

-- a token in front can only be taken as it is
pub unpiece : {bs : List ℕ} {us : List Token} (w : List ℕ) (t : Token) → Spells w t → Parted w bs → Cuts (w ++ bs) us [] → (vs : List Token) × (us ≡ t ∷ vs) × Cuts bs vs []
unpiece {bs} w t s p c =
    let front = solid w bs (shape w t s) in
    let h = head_of c front.0 front.1 in
    let same = same_pieces h.w h.bs w bs h.t t h.spells s h.parted p h.split in
    let is : h.t ≡ t = one_token w h.t t (subst (λ x. Spells x h.t) same.0 h.spells) s in
    (h.ts, sym h.tokens ∙ ap (λ x. x ∷ h.ts) is, subst (λ x. Cuts x h.ts []) same.1 h.after)

-- what cuts the front is what cuts the front of the whole
pub peel : {f rest : List ℕ} {ts us : List Token} → Cuts f ts rest → Cuts (f ++ rest) us [] → (vs : List Token) × (us ≡ ts ++ vs) × Cuts rest vs []
peel none d = (_, refl, d)
peel (skip h c) d = peel c (unskip h d refl)
peel (piece w {bs} t s p c) d =
    let u = unpiece w t s p (rw append_assoc at d) in
    let v = peel c u.2 in
    (v.0, u.1 ∙ ap (λ x. t ∷ x) v.1, v.2)

pub empty : {g : List ℕ} {us : List Token} → Cuts g us [] → g ≡ [] → us ≡ []
empty none e = refl
empty (skip h c) e = let z : ◌≡◌ {A = ℕ} 0 1 = cc in absurd (omega arith)
empty (piece w {bs} t s p c) e = absurd (omega (arith, (solid w bs (shape w t s)).0, ap length e))

pub one_way : OneWay
one_way text ts us c d =
    let v = peel c (subst (λ x. Cuts x us []) (sym (append-nil text)) d) in
    sym (v.1 ∙ ap (λ x. ts ++ x) (empty v.2 refl) ∙ append-nil ts)

pub refused_rightly_lem : RefusedRightly
refused_rightly_lem text p n b w =
    let v = peel b.cuts (subst (λ x. Cuts x w.tokens []) (sym b.split) w.cuts) in
    let h = head_of v.2 b.more b.solid in
    elim b.wrong [
      | inl full ↦ omega (arith, simp length-append at (ap length v.1), ap length h.tokens, w.count, w.few)
      | inr stuck ↦ stuck h.w h.bs h.t (sym h.split) h.spells h.parted
    ]
