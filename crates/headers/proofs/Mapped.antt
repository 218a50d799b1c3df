-- An array made of another, element by element.
use denote.Param.Members.{Mut, Called}
use Rattle.std.proofs.Common.{◌≡◌, ℕ, List, map, length, sym, ◌∙◌, arith}
use Rattle.std.specs.Array.{IsMapOf}
use Rattle.std.proofs.lemmas.List.{same_lists, length-map, get_or-map}

pub mapped : {F A B : Type 0} (g : Mut F (A × Unit {0}) B) (f : F) (h : A → B) (d : A) (xs : List A) (ys : List B) (n : ℕ) → length xs ≡ n → IsMapOf g f xs ys n → ((p q : F) (a : A) (y : B) → Called g p (a, tt) y q → y ≡ h a) → ys ≡ map h xs
mapped g f h d xs ys n l m calls =
    same_lists ys (map h xs) (m.long ∙ sym (length-map xs h ∙ l))
    (λ k e i. let call = m.at k d e (omega (arith, m.long)) in calls _ _ _ _ call.2 ∙ sym (get_or-map h xs k d e (omega (arith, m.long, l))))
