-- A header read line by line.
use Rattle.std.proofs.Common.{◌≡◌, ℕ, ◌+◌, true, false, List, [], length, drop, set, Some, None, Ok, Err, Option, Result, sym, refl, ap, ◌∙◌}
use Rattle.std.proofs.lemmas.Bool.{both_ways}
use Rattle.headers.specs.declared.header.Header.{Header}
use Rattle.std.specs.Option.{unwrap_or}
use Rattle.std.proofs.lemmas.Option.{none-some}
use Rattle.lines.specs.declared.line.Line.{Line}
use Rattle.lines.specs.Words.{Words, end, word}
use Rattle.lines.specs.Lines.{lines_of, AllLeft, Gives}
use Rattle.lines.proofs.Left.{EndsText, last_ends, ends_more}
use Rattle.lines.specs.Reading.{took, wrong, and_then, read_as, take_variable, variable_of, ended}
use Rattle.headers.specs.Header.{Plan, blank_header, take_marks, read_header_line, finished, read_header, read_project}

-- a turn of the loop over marks, and its end
marked : (m : List ℕ) (p : ℕ) (o : Option ℕ) (ws : Words) → and_then (read_as p o ws) (λ v _. take_marks (set m v 1) ws) ≡ and_then (read_as p o ws) (λ v us. take_marks (set m v 1) us)
marked m p None ws = refl
marked m p (Some v) ws = refl

marks_more : (m : List ℕ) (ws : Words) → ended ws ≡ false → take_marks m ws ≡ and_then (take_variable ws) (λ v us. take_marks (set m v 1) us)
unfolding take_marks
marks_more m (end p) h = absurd (both_ways true h refl)
marks_more m (word p w ws) h = marked m p (variable_of w) ws

pub marks_all : (m : List ℕ) (ws : Words) → ended ws ≡ true → take_marks m ws ≡ took m ws
unfolding take_marks
marks_all m (end p) h = refl
marks_all m (word p w ws) h = absurd (both_ways false refl h)

pub marks_next : (m : List ℕ) (ws us : Words) (v : ℕ) → ended ws ≡ false → take_variable ws ≡ took v us → take_marks m ws ≡ take_marks (set m v 1) us
marks_next m ws us v some e = marks_more m ws some ∙ rw e

pub marks_wrong : (m : List ℕ) (ws : Words) (p : ℕ) → ended ws ≡ false → take_variable ws ≡ wrong p → take_marks m ws ≡ wrong p
marks_wrong m ws p some e = marks_more m ws some ∙ rw e

-- what is read of the lines that are left; where none is, none was the line `program`
abbrev pub read_on : List ℕ → Header → Option Line → Result Plan ℕ
read_on text h None = Err (length text)
read_on text h (Some left) = read_header text h (lines_of left)

-- before the first line nothing is said
pub header_begins : (text : List ℕ) (left : Option Line) → AllLeft text left → read_project text ≡ read_on text blank_header left
unfolding read_project
header_begins text None h = absurd h
header_begins text (Some l) h = rw (h.0, h.1) refl

-- what a line does with what is read
module _ (text : List ℕ) (h : Header) (l : Line) where
  pub header_program : (h₁ : Header) (p past : Line) (left more : Option Line) → p ≡ unwrap_or more past → past.at ≡ length text → past.text.now ≡ [] → EndsText text left → Gives left (Some l) more → read_header_line h l.at l.text.now ≡ Ok (true, h₁) → read_on text h left ≡ Ok (finished h₁ p.at p.text.now)
  unfolding read_header
  header_program h₁ p past None more u at none e g told = absurd (none-some l (sym g.0))
  header_program h₁ p past (Some r) None u at none e g told =
      let place : l.at + length l.text.now ≡ p.at = last_ends text r l e g ∙ sym (ap (λ (q : Line). q.at) u ∙ at) in
      let rest : [] ≡ p.text.now = sym (ap (λ (q : Line). q.text.now) u ∙ none) in
      ap (read_header text h) g.lines ∙ rw told (ap (λ n. Ok (finished h₁ n [])) place ∙ ap (λ t. Ok (finished h₁ p.at t)) rest)
  header_program h₁ p past (Some r) (Some m) u at none e g told =
      let place : l.at + (length l.text.now + 1) ≡ p.at = sym (ap (λ (q : Line). q.at) u ∙ g.begins) in
      let rest : drop p.at text ≡ p.text.now = ap (λ (q : Line). drop q.at text) u ∙ sym (ends_more text l (Some r) (Some m) e g).0 ∙ sym (ap (λ (q : Line). q.text.now) u) in
      ap (read_header text h) g.lines ∙ rw told (ap (λ n. Ok (finished h₁ n (drop n text))) place ∙ ap (λ t. Ok (finished h₁ p.at t)) rest)

  pub header_more : (h₁ : Header) (left more : Option Line) → EndsText text left → Gives left (Some l) more → read_header_line h l.at l.text.now ≡ Ok (false, h₁) → read_on text h left ≡ read_on text h₁ more
  unfolding read_header
  header_more h₁ None more e g told = absurd (none-some l (sym g.0))
  header_more h₁ (Some r) None e g told = ap (read_header text h) g.lines ∙ rw told (ap Err (last_ends text r l e g))
  header_more h₁ (Some r) (Some m) e g told = ap (read_header text h) g.lines ∙ rw told

  pub header_wrong : (p : ℕ) (left more : Option Line) → Gives left (Some l) more → read_header_line h l.at l.text.now ≡ Err p → read_on text h left ≡ Err p
  unfolding read_header
  header_wrong p None more g told = absurd (none-some l (sym g.0))
  header_wrong p (Some r) None g told = ap (read_header text h) g.lines ∙ rw told
  header_wrong p (Some r) (Some m) g told = ap (read_header text h) g.lines ∙ rw told
