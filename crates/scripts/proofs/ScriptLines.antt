-- A script read line by line.
use Rattle.std.proofs.Common.{◌≡◌, ℕ, List, [], ◌++◌, Some, None, Ok, Err, Option, Result, sym, refl, ap, ◌∙◌}
use Rattle.std.proofs.lemmas.Option.{none-some}
use Rattle.lines.specs.declared.line.Line.{Line}
use Rattle.lines.specs.Lines.{lines_of, AllLeft, Gives}
use Rattle.scripts.specs.Script.{Request, read_line, read_lines, read_script}

-- what was read, and what the lines that are left add to it
abbrev pub read_on : List Request → Option Line → Result (List Request) ℕ
read_on acc None = Ok acc
read_on acc (Some left) = read_lines acc (lines_of left)

pub script_begins : (text : List ℕ) (left : Option Line) → AllLeft text left → read_script text ≡ read_on [] left
unfolding read_script
script_begins text None h = absurd h
script_begins text (Some l) h = rw (h.0, h.1) refl

-- what a line adds
module _ (acc : List Request) (l : Line) where
  pub line_more : (new : List Request) (left more : Option Line) → Gives left (Some l) more → read_line l.at l.text.now ≡ Ok new → read_on acc left ≡ read_on (acc ++ new) more
  unfolding read_lines
  line_more new None more g told = absurd (none-some l (sym g.0))
  line_more new (Some r) None g told = ap (read_lines acc) g.lines ∙ rw told
  line_more new (Some r) (Some m) g told = ap (read_lines acc) g.lines ∙ rw told

  pub line_wrong : (p : ℕ) (left more : Option Line) → Gives left (Some l) more → read_line l.at l.text.now ≡ Err p → read_on acc left ≡ Err p
  unfolding read_lines
  line_wrong p None more g told = absurd (none-some l (sym g.0))
  line_wrong p (Some r) None g told = ap (read_lines acc) g.lines ∙ rw told
  line_wrong p (Some r) (Some m) g told = ap (read_lines acc) g.lines ∙ rw told
