-- What is known of a text as the walk over its tokens goes on. Assumes nothing.
use Rattle.std.proofs.Common.{◌≡◌, ℕ, ◌+◌, ◌-◌, ◌*◌, ◌<◌, ◌≤◌, Bool, true, false, Option, is_some, Some, None, MatchOption, ◌⊎◌, List, [], ◌∷◌, ◌++◌, length, get_or, take, drop, set, sym, refl, ap, ◌∙◌, subst, inl, inr, append_assoc, append-nil, one-add, arith, length-append, length-drop, take-append-drop}
use Rattle.std.specs.List.{prefix_len}
use Rattle.std.specs.Iterator.{Yields, SkipsThenYields}
use Rattle.std.proofs.Math.Seq.{take-add}
use Rattle.std.proofs.lemmas.Bool.{cases_Bool, cases_lt}
use Rattle.std.proofs.lemmas.List.{drop_more, drop-drop, take_all, drop_all, length_push, length-take-le, get_or-drop, set_at}
use Rattle.std.proofs.lemmas.List.Sums.{prefix_len_stops, prefix_len-le-length}
use Rattle.lexer.specs.declared.Token.{Token}
use Rattle.lexer.specs.declared.walk.Tokens.{Tokens}
use Rattle.lexer.specs.Token.{blank, Cuts, none, skip}
use Rattle.lexer.specs.Pairs.{kind, value, pairs}
use Rattle.lexer.specs.Walk.{solid_from, Gives}
use Rattle.lexer.specs.Outcome.{Whole, Broken, PlaceOfToken, EndsIfFewer}
use Rattle.lexer.proofs.PairLaws.{pairs_push, pairs_length}
use Rattle.lexer.proofs.Cutting.{join, one, peel, head_of, one_way, refused_rightly_lem}

-- what `&text[p..]` is
pub tail : (text : List ℕ) (p : ℕ) → take (length text - p) (drop p text) ≡ drop p text
tail text p = take_all _ _ (omega (arith, length-drop p text))

pub at_solid : (text : List ℕ) (p k : ℕ) → p ≤ length text → k ≡ prefix_len blank (take (length text - p) (drop p text)) → (p + k ≡ solid_from text p) × (p + k ≤ length text)
at_solid text p k h e =
    let is = rw (tail text p) at e in
    (ap (λ n. p + n) is, omega (arith, is, prefix_len-le-length blank (drop p text), length-drop p text))

-- the first p bytes are cut into these tokens
pub record Front (text : List ℕ) (p : ℕ) (ts : List Token) : Type 0 where
  pub cuts : Cuts (take p text) ts (drop p text)
  pub within : p ≤ length text
  pub few : length ts ≤ 4096

further : (text : List ℕ) (p k : ℕ) (ts us : List Token) → Front text p ts → Cuts (take k (drop p text)) us (drop k (drop p text)) → p + k ≤ length text → length (ts ++ us) ≤ 4096 → Front text (p + k) (ts ++ us)
further text p k ts us f c fits few =
    let both = join f.cuts (sym (take-append-drop k (drop p text))) c in
    record {
      cuts = subst (λ x. Cuts (take (p + k) text) (ts ++ us) x) (drop-drop k p text) (subst (λ x. Cuts x (ts ++ us) (drop k (drop p text))) (sym (take-add p k text)) both);
      within = fits;
      few = few;
    }

blanks_cut : (rest : List ℕ) → Cuts (take (prefix_len blank rest) rest) [] (drop (prefix_len blank rest) rest)
blanks_cut [] = none
blanks_cut (b ∷ bs) = elim (cases_Bool (blank b)) [ inl y ↦ rw (y, one-add) (skip y (blanks_cut bs)) | inr n ↦ rw n none ]

module _ (text : List ℕ) (p : ℕ) (ts : List Token) (f : Front text p ts) where
  -- past the blanks
  solid : solid_from text p ≤ length text → Front text (solid_from text p) ts
  solid h = subst (Front text (solid_from text p)) (append-nil ts) (further text p _ ts [] f (blanks_cut (drop p text)) h (rw append-nil f.few))

  past_token : (at q m : ℕ) (t : Token) → Gives text p (length ts) (Some (at, Some t)) q m → Front text q (ts ++ t ∷ [])
  past_token at q m t g =
      let here : Front text at ts = subst (λ x. Front text x ts) (sym g.0) (solid (omega (arith, g.0, g.1))) in
      let first = g.2.1.2 in
      subst (λ x. Front text x (ts ++ t ∷ [])) (sym g.2.1.1)
      (further text at g.2.1.0 ts (t ∷ []) here (one _ t first.spells first.parted) (omega (arith, first.within, length-drop at text, g.1)) (omega (arith, g.2.0, length_push ts t)))

  -- where a token begins, or one should
  next_at : (at : ℕ) → at ≡ solid_from text p → at < length text → Front text at ts × (blank (get_or (drop at text) 0 0) ≡ false) × (0 < length (drop at text))
  next_at at e h =
      let stops = prefix_len_stops blank (drop p text) 0 (omega (arith, length-drop p text)) in
      let solid_byte = ap blank (ap (λ x. get_or text x 0) e ∙ sym (get_or-drop p text (prefix_len blank (drop p text)) 0)) ∙ stops in
      (subst (λ x. Front text x ts) (sym e) (solid (omega arith)), ap (λ l. blank (get_or l 0 0)) (drop_more text at 0 h) ∙ solid_byte, omega (arith, length-drop at text))

  all_passed : solid_from text p ≡ length text → Cuts text ts []
  all_passed e =
      let none : drop (solid_from text p) text ≡ [] = drop_all _ text (omega arith) in
      subst (λ x. Cuts x ts []) (take_all _ text (omega arith)) (subst (λ x. Cuts (take (solid_from text p) text) ts x) none (solid (omega arith)).cuts)

  stopped : (at q m : ℕ) → Gives text p (length ts) (Some (at, None)) q m → Broken text at
  stopped at q m g =
      let here = next_at at g.0 g.1 in
      record {
        front = take at text;
        rest = drop at text;
        tokens = ts;
        split = take-append-drop at text;
        place = length-take-le at text here.0.within;
        more = here.2;
        solid = here.1;
        cuts = here.0.cuts;
        few = f.few;
        wrong = elim g.2.0 [ inl full ↦ inl (omega (arith, full, f.few)) | inr stuck ↦ inr stuck ];
      }

  -- a text with one more token than these has more of them
  more : (at n : ℕ) → at ≡ solid_from text p → at < length text → Whole text n → length ts < n
  more at n e h whole =
      let here = next_at at e h in
      let after = peel here.0.cuts (subst (λ (l : List ℕ). Cuts l whole.tokens []) (sym (take-append-drop at text)) whole.cuts) in
      let next = head_of after.2 here.2 here.1 in
      omega (arith, whole.count, simp length-append at (ap length after.1), ap length next.tokens)

  begins_at : (at : ℕ) → at ≡ solid_from text p → at < length text → PlaceOfToken text (length ts) at × EndsIfFewer text (length ts) at
  begins_at at e h =
      let here = next_at at e h in (
        (
          here.0.within,
          λ _ _ _. record { front = take at text; rest = drop at text; tokens = ts; split = take-append-drop at text; place = length-take-le at text here.0.within; solid = here.1; cuts = here.0.cuts; count = refl },
        ),
        λ n whole few. absurd (omega (arith, more at n e h whole)),
      )

pub same_count : (text : List ℕ) (n m : ℕ) → Whole text n → Whole text m → n ≡ m
same_count text n m a b = sym a.count ∙ ap length (one_way text a.tokens b.tokens a.cuts b.cuts) ∙ b.count

-- a call of the walk's `next`
abbrev pub Step : Tokens → Option (ℕ × Option Token) → Tokens → Type 0
Step s r u = (u.text ≡ s.text) × Gives s.text.now s.place s.count r u.place u.count

-- the walk over the text has passed these tokens
pub record Walked (text : List ℕ) (s : Tokens) (ts : List Token) : Type 0 where
  pub same : s.text.now ≡ text
  pub count : s.count ≡ length ts
  pub front : Front text s.place ts

pub started : (text : List ℕ) (s : Tokens) → s.text.now ≡ text → s.place ≡ 0 → s.count ≡ 0 → Walked text s []
started text s e p n = record { same = e; count = n; front = subst (λ x. Front text x []) (sym p) (record { cuts = none; within = omega arith; few = omega arith }) }

module _ (text : List ℕ) (s u : Tokens) (ts : List Token) (w : Walked text s ts) where
  told : (r : Option (ℕ × Option Token)) → Step s r u → Gives text s.place (length ts) r u.place u.count
  told r g = subst (λ n. Gives text s.place n r u.place u.count) w.count (subst (λ x. Gives x s.place s.count r u.place u.count) w.same g.1)

  pub taken : (at : ℕ) (t : Token) → Step s (Some (at, Some t)) u → Walked text u (ts ++ t ∷ [])
  taken at t g =
      let gives = told (Some (at, Some t)) g in
      record { same = ap (λ x. x.now) g.0 ∙ w.same; count = omega (arith, gives.2.2, length_push ts t); front = past_token text s.place ts w.front at u.place u.count t gives }

  pub all_cut : Step s None u → Cuts text ts []
  all_cut g = all_passed text s.place ts w.front (told None g).0

  pub finished : Step s None u → Whole text (length ts)
  finished g = record { tokens = ts; cuts = all_cut g; count = refl; few = w.front.few }

  pub refused : (at : ℕ) → Step s (Some (at, None)) u → Broken text at
  refused at g = stopped text s.place ts w.front at u.place u.count (told (Some (at, None)) g)

  pub found : (at : ℕ) (o : Option Token) → Step s (Some (at, o)) u → (PlaceOfToken text (length ts) at × EndsIfFewer text (length ts) at) × ((n : ℕ) → Whole text n → length ts < n)
  found at o g =
      let gives = told (Some (at, o)) g in
      (begins_at text s.place ts w.front at gives.0 gives.1, λ n whole. more text s.place ts w.front at n gives.0 gives.1 whole)

-- n calls of `next` passed as many tokens, or the text is broken and the walk at its end
Reached : (text : List ℕ) → Tokens → ℕ → Type 0
Reached text t n = ((ts : List Token) × Walked text t ts × (length ts ≡ n)) ⊎ (((p : ℕ) × Broken text p) × (length t.text.now ≤ t.place) × (t.text.now ≡ text))

nothing_left : (s u : Tokens) (at : ℕ) (o : Option Token) → length s.text.now ≤ s.place → Step s (Some (at, o)) u → ⊥
nothing_left s u at o h g = omega (arith, g.1.0, g.1.1)

reach : (text : List ℕ) (s t : Tokens) (at n : ℕ) (o : Option Token) → Reached text s n → Step s (Some (at, o)) t → Reached text t (n + 1)
unfolding Reached
reach text s t at n o (inr end) g = absurd (nothing_left s t at o end.1 g)
reach text s t at n None (inl r) g = inr ((at, refused text s t r.0 r.1 at g), omega (arith, g.1.2.1, ap (λ x. length x.now) g.0), ap (λ x. x.now) g.0 ∙ r.1.same)
reach text s t at n (Some x) (inl r) g = inl (r.0 ++ x ∷ [], taken text s t r.0 r.1 at x g, omega (arith, r.2, length_push r.0 x))

along : (text : List ℕ) (xs : List (ℕ × Option Token)) (s t : Tokens) (n : ℕ) → Reached text s n → Yields Step s xs t → Reached text t (n + length xs)
along text [] s t n r y = subst (λ u. Reached text u (n + 0)) y (subst (Reached text s) (omega arith) r)
along text (x ∷ xs) s t n r y = subst (Reached text t) (omega arith) (along text xs y.0 t (n + 1) (reach text s y.0 x.0 n x.1 r y.1) y.2)

-- what `nth` answers is where the token begins
pub landed : (text : List ℕ) (s u : Tokens) (n p : ℕ) (r : Option (ℕ × Option Token)) → Walked text s [] → SkipsThenYields Step s n r u → MatchOption r (p ≡ length text) (λ x. p ≡ x.0) → PlaceOfToken text n p × EndsIfFewer text n p
unfolding Reached
landed text s u n p None w ran is =
    let reached = along text ran.0 s ran.1.0 0 (inl ([], w, refl)) ran.1.1 in
    elim reached [
      | inl r ↦
          let all = finished text ran.1.0 u r.0 r.1 ran.1.2 in
          ((omega arith, λ m whole few. absurd (omega (arith, same_count text _ m all whole, r.2, ran.2))), λ _ _ _. is)
      | inr end ↦ ((omega arith, λ m whole _. absurd (refused_rightly_lem text end.0.0 m end.0.1 whole)), λ _ _ _. is)
    ]
landed text s u n p (Some (at, o)) w ran is =
    let reached = along text ran.0 s ran.1.0 0 (inl ([], w, refl)) ran.1.1 in
    elim reached [
      | inl r ↦
          let here = (found text ran.1.0 u r.0 r.1 at o ran.1.2).0 in
          let P : ℕ → ℕ → Type 0 = λ i x. PlaceOfToken text i x × EndsIfFewer text i x in
          let k : length r.0 ≡ n = omega (arith, r.2, ran.2) in
          subst (λ i. P i p) k (subst (P (length r.0)) (sym is) here)
      | inr end ↦ absurd (nothing_left ran.1.0 u at o end.1 ran.1.2)
    ]

-- the walk passed n tokens, or all of a text that has no more
pub Passed : (text : List ℕ) → Tokens → ℕ → Type 0
Passed text t n = Reached text t n ⊎ (((k : ℕ) × Whole text k × (k ≤ n)) × (solid_from t.text.now t.place ≡ length text))

pub none_passed : (text : List ℕ) (s : Tokens) → Walked text s [] → Passed text s 0
unfolding Passed Reached
none_passed text s w = inl (inl ([], w, refl))

ended : (text : List ℕ) (s u : Tokens) (k n : ℕ) → Reached text s k → k ≤ n → Step s None u → Passed text u n
unfolding Passed Reached
ended text s u k n (inr end) few g = inl (inr (end.0, omega (arith, end.1, g.1.1, ap (λ x. length x.now) g.0), ap (λ x. x.now) g.0 ∙ end.2))
ended text s u k n (inl r) few g =
    let same = ap (λ x. x.now) g.0 in
    let solid : solid_from u.text.now u.place ≡ length text = ap (λ x. solid_from x u.place) same ∙ ap (solid_from s.text.now) g.1.1 ∙ g.1.0 ∙ ap length r.1.same in
    inr ((length r.0, finished text s u r.0 r.1 g, omega (arith, r.2, few)), solid)

-- `nth` passes the tokens before and the one that it answers
pub skipped : (text : List ℕ) (s u : Tokens) (n : ℕ) (r : Option (ℕ × Option Token)) → Walked text s [] → SkipsThenYields Step s n r u → Passed text u (n + 1)
unfolding Passed Reached
skipped text s u n None w ran = ended text ran.1.0 u (0 + length ran.0) (n + 1) (along text ran.0 s ran.1.0 0 (inl ([], w, refl)) ran.1.1) (omega (arith, ran.2)) ran.1.2
skipped text s u n (Some (at, o)) w ran =
    let reached = along text ran.0 s ran.1.0 0 (inl ([], w, refl)) ran.1.1 in
    inl (reach text ran.1.0 u at n o (subst (Reached text ran.1.0) (omega (arith, ran.2)) reached) ran.1.2)

-- where `nth` answers none there are no more tokens
pub run_out : (text : List ℕ) (s u : Tokens) (n : ℕ) (r : Option (ℕ × Option Token)) → is_some r ≡ false → Walked text s [] → SkipsThenYields Step s n r u → PlaceOfToken text (n + 1) (length text) × EndsIfFewer text (n + 1) (length text)
unfolding Reached
run_out text s u n (Some x) z w ran = absurd (let y : ◌≡◌ {A = Bool} true false = z in cc)
run_out text s u n None z w ran =
    elim (along text ran.0 s ran.1.0 0 (inl ([], w, refl)) ran.1.1) [
      | inl r ↦
          let all = finished text ran.1.0 u r.0 r.1 ran.1.2 in
          ((omega arith, λ m whole few. absurd (omega (arith, same_count text _ m all whole, r.2, ran.2, few))), λ _ _ _. refl)
      | inr end ↦ ((omega arith, λ m whole few. absurd (refused_rightly_lem text end.0.0 m end.0.1 whole)), λ _ _ _. refl)
    ]

-- past n tokens the next piece begins where token n does
pub next_place : (text : List ℕ) (t : Tokens) (n p : ℕ) → Passed text t n → p ≡ solid_from t.text.now t.place → p ≤ length t.text.now → PlaceOfToken text n p × EndsIfFewer text n p
unfolding Passed Reached
next_place text t n p (inr all) e h =
    let at : p ≡ length text = e ∙ all.1 in
    ((omega (arith, at), λ m whole few. absurd (omega (arith, same_count text _ m all.0.1 whole, all.0.2, few))), λ _ _ _. at)
next_place text t n p (inl (inr end)) e h = (
  (omega (arith, h, ap length end.2), λ m whole few. absurd (refused_rightly_lem text end.0.0 m end.0.1 whole)),
  λ m whole few. absurd (refused_rightly_lem text end.0.0 m end.0.1 whole),
)
next_place text t n p (inl (inl r)) e h =
    let w = r.1 in
    let is : p ≡ solid_from text t.place = e ∙ ap (λ x. solid_from x t.place) w.same in
    let within : p ≤ length text = omega (arith, h, ap length w.same) in
    elim (cases_lt p (length text)) [
      | inl l ↦ subst (λ i. PlaceOfToken text i p × EndsIfFewer text i p) r.2 (begins_at text t.place r.0 w.front p is l)
      | inr g ↦
          let at : p ≡ length text = omega (arith, within, g) in
          let all : Whole text (length r.0) = record { tokens = r.0; cuts = all_passed text t.place r.0 w.front (sym is ∙ at); count = refl; few = w.front.few } in
          ((within, λ m whole few. absurd (omega (arith, same_count text _ m all whole, r.2, few))), λ _ _ _. at)
    ]

-- the next pair goes behind those that are written
pub filled : (room₀ room : List ℕ) (ts : List Token) (t : Token) (i : ℕ) (p : ℕ × ℕ) → i ≡ length ts → room ≡ pairs ts ++ drop (2 * length ts) room₀ → 2 * i + 2 ≤ length room₀ → p ≡ (kind t, value t) → set (set room (2 * i) p.0) (2 * i + 1) p.1 ≡ pairs (ts ++ t ∷ []) ++ drop (2 * length (ts ++ t ∷ [])) room₀
filled room₀ room ts t i p e holds h is =
    let P = pairs ts in
    let at = 2 * i in
    let long : length P ≡ at = omega (arith, pairs_length ts) in
    let first : room ≡ P ++ (get_or room₀ at 0 ∷ drop (at + 1) room₀) = holds ∙ ap (λ k. P ++ drop (2 * k) room₀) (sym e) ∙ ap (λ l. P ++ l) (drop_more room₀ at 0 (omega arith)) in
    let second = drop_more room₀ (at + 1) 0 (omega arith) in
    let one_set : set room at p.0 ≡ P ++ (p.0 ∷ drop (at + 1) room₀) = ap (λ l. set l at p.0) first ∙ set_at P _ _ p.0 at long in
    let apart = one_set ∙ ap (λ l. P ++ (p.0 ∷ l)) second ∙ sym (append_assoc P (p.0 ∷ []) _) in
    let two_set = ap (λ l. set l (at + 1) p.1) apart ∙ set_at (P ++ (p.0 ∷ [])) _ _ p.1 (at + 1) (length_push P p.0 ∙ ap (λ k. k + 1) long) in
    let next : at + 1 + 1 ≡ 2 * length (ts ++ t ∷ []) = omega (arith, length_push ts t) in
    two_set ∙ ap (λ k. (P ++ (p.0 ∷ [])) ++ p.1 ∷ drop k room₀) next ∙ ap (λ (q : ℕ × ℕ). (P ++ (q.0 ∷ [])) ++ q.1 ∷ drop (2 * length (ts ++ t ∷ [])) room₀) is
    ∙ simp (pairs_push ts t, append_assoc)
