-- Pairs that are cut out of a list one after the other.
use Rattle.std.proofs.Common.{◌≡◌, ℕ, ◌+◌, ◌*◌, ◌<◌, min, List, ◌++◌, length, get_or, drop, sym, ap, ◌∙◌, add-zero, arith, get_or-drop, length-drop}
use Rattle.std.proofs.Math.ListN.{get_or-append}
use Rattle.std.proofs.Math.Seq.{drop-append_seam}
use Rattle.std.proofs.lemmas.List.{drop-drop}
use Rattle.lexer.specs.Pairs.{shaped}
use Rattle.syntax.specs.Shape.{Fine, IsFine}

-- pair i is cut out
module _ (xs pair rest left : List ℕ) (i : ℕ) (z : left ≡ drop (2 * i) xs) (e : left ≡ pair ++ rest) (h : length pair ≡ min 2 (length left)) (some : 0 < length left) where
  more : length left + 2 * i ≡ length xs
  more = omega (arith, ap length z, length-drop (2 * i) xs)

  same : (k : ℕ) → k < length pair → get_or pair k 0 ≡ get_or xs (2 * i + k) 0
  same k l = sym (get_or-append pair rest 0 k l) ∙ ap (λ (l : List ℕ). get_or l k 0) (sym e ∙ z) ∙ get_or-drop (2 * i) xs k 0

  shape : length pair ≡ 2 → shaped (get_or pair 0 0) (get_or pair 1 0) ≡ shaped (get_or xs (2 * i) 0) (get_or xs (2 * i + 1) 0)
  shape w =
      let first : get_or pair 0 0 ≡ get_or xs (2 * i) 0 = same 0 (omega arith) ∙ ap (λ n. get_or xs n 0) (add-zero (2 * i)) in
      λ j. shaped (first j) (same 1 (omega arith) j)

  pub onward : length pair ≡ 2 → rest ≡ drop (2 * (i + 1)) xs
  onward w =
      let next : 2 * i + 2 ≡ 2 * (i + 1) = omega arith in
      sym (drop-append_seam pair rest) ∙ ap (λ n. drop n (pair ++ rest)) w ∙ ap (drop 2) (sym e ∙ z) ∙ drop-drop 2 (2 * i) xs ∙ ap (λ n. drop n xs) next

  pub fine : ((k : ℕ) → get_or xs k 0 < 65536) → IsFine i pair → Fine xs i
  fine words t = record { there = omega (arith, more, h, t.1); few = t.0; word = words (2 * i + 1); is = sym (shape t.1) ∙ t.2 }

  pub unfine : Fine xs i → IsFine i pair
  unfine f = let two : length pair ≡ 2 = omega (arith, more, h, f.there) in (f.few, two, shape two ∙ f.is)
