-- What is read and printed again.
use Rattle.std.proofs.Common.{◌≡◌, ℕ, ◌*◌, leb, List, length, Some, None, Ok, Err, Result, arith, leb-false, leb-true}
use Rattle.base.specs.declared.Refusal.{Refusal}
use Rattle.base.specs.declared.Refusal.TheVariants.{Token, Program, Limit, Room, Length, Off, Time, Stamp, Point}
use Rattle.base.specs.Refusals.{unless}
use Rattle.base.proofs.Checks.{passed, refused_so}
use Rattle.printer.specs.Reprints.{ShortestText, TooShort, Reprints}
use Rattle.printer.specs.Printed.{Prints}
use Rattle.syntax.specs.Printer.{print}
use Rattle.syntax.specs.Program.{ProgramOf}
use Rattle.syntax.specs.Shape.{WellShaped}
use Rattle.printer.proofs.ReadsBack.{prints_back}
use Rattle.syntax.proofs.Shortest.{shortest_texts}

-- what is printed of a program that has a text is its shortest one
shortest_text : (xs m : List ℕ) (i : ℕ) (p : ProgramOf xs m i) → ShortestText (print p.program) p.program
shortest_text xs m i p = record {
  reads = prints_back.reads p.program (prints_back.programs _ _ p.reads);
  shortest = λ us r. shortest_texts.programs us p.program r;
  only = λ us r h. shortest_texts.only_program us p.program r h;
}

-- the room is too short
module _ (xs room m : List ℕ) (i : ℕ) (w : WellShaped xs) (p : ProgramOf xs m i) where
  too_short : (x y : ℕ) → unless (leb (2 * length (print p.program)) (length room)) 5 1 None ≡ Some (x, y) → (x ≡ 5) × (y ≡ 1) × TooShort xs room
  too_short x y h =
      let r = refused_so _ 5 1 x y h in
      (r.1, r.2, record { shape = w; program = p.program; text = print p.program; reads = p.reads; shortest = shortest_text xs m i p; short = leb-false _ _ r.0 })

  pub rewritten : (r : Result ℕ Refusal) (room' : List ℕ) → Prints m i room r room' → Reprints xs room r room'
  rewritten (Ok n) room' f =
      let a = f p.program p.holds in
      let le = leb-true _ _ (passed _ 5 1 None a.0).0 in
      record { shape = w; program = p.program; text = print p.program; reads = p.reads; shortest = shortest_text xs m i p; count = a.1.0; fits = omega (arith, le, a.1.0); after = a.1.1 }
  rewritten (Err (Length k)) room' f = let a = f p.program p.holds in let t = too_short 5 k a.0 in (t.1, t.2, a.1)
  rewritten (Err (Token k)) room' f = absurd (omega (arith, (too_short 1 k (f p.program p.holds).0).0))
  rewritten (Err (Program k)) room' f = absurd (omega (arith, (too_short 2 k (f p.program p.holds).0).0))
  rewritten (Err (Limit k)) room' f = absurd (omega (arith, (too_short 3 k (f p.program p.holds).0).0))
  rewritten (Err (Room k)) room' f = absurd (omega (arith, (too_short 4 k (f p.program p.holds).0).0))
  rewritten (Err Off) room' f = absurd (omega (arith, (too_short 6 0 (f p.program p.holds).0).0))
  rewritten (Err Time) room' f = absurd (omega (arith, (too_short 7 0 (f p.program p.holds).0).0))
  rewritten (Err Stamp) room' f = absurd (omega (arith, (too_short 8 0 (f p.program p.holds).0).0))
  rewritten (Err (Point k)) room' f = absurd (omega (arith, (too_short 9 k (f p.program p.holds).0).0))
