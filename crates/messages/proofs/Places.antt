-- Lines and columns of places, and lines found by their first word.
use Rattle.std.proofs.Common.{◌≡◌, ℕ, ◌+◌, ◌<◌, ◌≤◌, min, Bool, true, false, not, cond, eqb, count_by, reverse, List, [], ◌∷◌, ◌++◌, length, take, Some, None, Ok, Err, Option, Result, sym, refl, ap, ◌∙◌, ⊎_elim, arith}
use Rattle.std.proofs.lemmas.List.{take_all, reverse-append, reverse-reverse}
use Rattle.std.proofs.lemmas.List.Sums.{sum_by-cons}
use Rattle.std.proofs.lemmas.Bool.{cases_lt}
use Rattle.std.specs.Bool.{then_some}
use Rattle.std.specs.List.{prefix_len, suffix_len}
use Rattle.std.specs.Result.{result_ok}
use Rattle.std.proofs.lemmas.Option.{none-some, same_Some}
use Rattle.lines.specs.declared.line.Line.{Line}
use Rattle.lines.specs.declared.line.Word.{Word}
use Rattle.lines.specs.declared.words.ReadError.{ReadError}
use Rattle.lines.specs.declared.words.ReadError.TheVariants.{Memory, At}
use Rattle.lines.specs.Words.{Words, words_on, lines_on}
use Rattle.lines.specs.Lines.{lines_of, AllLeft, Gives}
use Rattle.lines.proofs.Left.{EndsText, last_ends}
use Rattle.lines.specs.Reading.{Took, took, take_word, Misses, Answers}
use Rattle.messages.specs.MessageText.{line_feeds, since_feed, keyword_place, line_place}

since_push : (n : ℕ) (xs : List ℕ) (b : ℕ) → since_feed n (xs ++ (b ∷ [])) ≡ cond (eqb b 10) 0 (since_feed n xs + 1)
unfolding since_feed
since_push n [] b = refl
since_push n (x ∷ xs) b = since_push (cond (eqb x 10) 0 (n + 1)) xs b

pub feeds_counted : (xs : List ℕ) → count_by (λ b. eqb b 10) xs ≡ line_feeds xs
unfolding line_feeds
feeds_counted [] = refl
feeds_counted (x ∷ xs) = sum_by-cons (λ b. cond (eqb b 10) 1 0) x xs ∙ ap (λ n. cond (eqb x 10) 1 0 + n) (feeds_counted xs)

-- one byte more stands after the last line feed, or it is one
one_more : (feed : Bool) (m n : ℕ) → m ≡ n → cond (not feed) (1 + m) 0 ≡ cond feed 0 (n + 1)
one_more true m n e = refl
one_more false m n e = omega (arith, e)

since_reversed : (ys : List ℕ) → prefix_len (λ b. not (eqb b 10)) ys ≡ since_feed 0 (reverse ys)
unfolding since_feed
since_reversed [] = refl
since_reversed (b ∷ ys) =
    one_more (eqb b 10) _ _ (since_reversed ys) ∙ sym (ap (since_feed 0) (reverse-append (b ∷ []) ys) ∙ since_push 0 (reverse ys) b)

pub since_counted : (xs : List ℕ) → suffix_len (λ b. not (eqb b 10)) xs ≡ since_feed 0 xs
since_counted xs = since_reversed (reverse xs) ∙ ap (since_feed 0) (reverse-reverse xs)

-- a line's first word, or none
no_keyword : (k : List ℕ) (e : ReadError) (t : Took (ℕ × List ℕ)) → Misses ⊥ e t → None ≡ keyword_place k t
no_keyword k Memory t h = absurd h
no_keyword k (At p) t h = sym (ap (keyword_place k) h)

pub word_none : (k : List ℕ) (us : Words) (t : Took (ℕ × List ℕ)) (r : Result Word ReadError) → Answers ⊥ r (λ (w : Word). took (w.at, w.text.now) us) t → None ≡ result_ok r → None ≡ keyword_place k t
word_none k us t (Ok w) h e = absurd (none-some w e)
word_none k us t (Err d) h e = no_keyword k d t h

pub word_some : (w : Word) (us : Words) (t : Took (ℕ × List ℕ)) (r : Result Word ReadError) → Answers ⊥ r (λ (v : Word). took (v.at, v.text.now) us) t → Some w ≡ result_ok r → t ≡ took (w.at, w.text.now) us
word_some w us t (Ok v) h e = h ∙ ap (λ (x : Word). took (x.at, x.text.now) us) (sym (same_Some w v e))
word_some w us t (Err d) h e = absurd (none-some w (sym e))

-- the word's place, if it is this one
pub some_if : (b : Bool) (p : ℕ) → then_some b p ≡ cond b (Some p) None
some_if true p = refl
some_if false p = refl

-- where the lines that are left have the word; the end of the text if they don't
abbrev pub place_on : List ℕ → List ℕ → Option Line → ℕ
place_on k text None = length text
place_on k text (Some left) = line_place k (lines_of left)

pub place_begins : (k text : List ℕ) (left : Option Line) → AllLeft text left → line_place k (lines_on 0 [] text) ≡ place_on k text left
place_begins k text None h = absurd h
place_begins k text (Some l) h = rw (h.0, h.1) refl

-- a line that begins with the word, or does not
module _ (k text : List ℕ) (l : Line) where
  pub line_found : (p : ℕ) (left more : Option Line) → Gives left (Some l) more → Some p ≡ keyword_place k (take_word (words_on l.at [] l.text.now)) → place_on k text left ≡ p
  unfolding line_place
  line_found p None more g e = absurd (none-some l (sym g.0))
  line_found p (Some r) None g e = ap (line_place k) g.lines ∙ rw (sym e)
  line_found p (Some r) (Some m) g e = ap (line_place k) g.lines ∙ rw (sym e)

  pub line_passed : (left more : Option Line) → EndsText text left → Gives left (Some l) more → None ≡ keyword_place k (take_word (words_on l.at [] l.text.now)) → place_on k text left ≡ place_on k text more
  unfolding line_place
  line_passed None more a g e = absurd (none-some l (sym g.0))
  line_passed (Some r) None a g e = ap (line_place k) g.lines ∙ rw (sym e) (last_ends text r l a g)
  line_passed (Some r) (Some m) a g e = ap (line_place k) g.lines ∙ rw (sym e)

-- past the end of a text nothing is left to take
pub take_min : (n : ℕ) (xs : List ℕ) → take (min n (length xs)) xs ≡ take n xs
take_min n xs = ⊎_elim
    (λ (h : n < length xs). ap (λ m. take m xs) (omega arith))
    (λ (h : length xs ≤ n).
    let all : min n (length xs) ≡ length xs = omega arith in
    ap (λ m. take m xs) all ∙ take_all (length xs) xs (omega arith) ∙ sym (take_all n xs h))
    (cases_lt n (length xs))
