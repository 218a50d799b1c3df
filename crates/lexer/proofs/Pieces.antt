-- How far the first piece of a text goes, and the token that it is. Assumes nothing.
use Rattle.std.proofs.Common.{◌≡◌, ℕ, ◌≤◌, true, List, [], ◌∷◌, length, get_or, take, drop, sym, refl, ap, ◌∙◌, subst, arith, one-add}
use Rattle.std.specs.Char.{is_ascii_alphanumeric}
use Rattle.std.specs.List.{prefix_len}
use Rattle.std.proofs.lemmas.List.{take_at, length-take-le}
use Rattle.lexer.specs.declared.Token.{Token}
use Rattle.lexer.specs.Token.{Spells, Parted, Stuck, First}
use Rattle.lexer.specs.Piece.{run, piece_length}
use Rattle.lexer.proofs.Spelling.{shape, shape_length, shape_some, piece_parted}

run_is : (bs : List ℕ) → prefix_len is_ascii_alphanumeric bs ≡ run bs
run_is [] = refl
run_is (b ∷ bs) = simp (one-add, run_is bs)

pub word_piece : (text : List ℕ) → 1 ≤ length text → is_ascii_alphanumeric (get_or text 0 0) ≡ true → piece_length text ≡ prefix_len is_ascii_alphanumeric text
word_piece [] some a = absurd (omega arith)
word_piece (b ∷ bs) some a = sym (rw (run_is (b ∷ bs), a))

-- where the first piece is no token, no token begins
pub stuck_from : (text : List ℕ) (n : ℕ) → n ≡ piece_length text → ((t : Token) → Spells (take n text) t → ⊥) → Stuck text
stuck_from text n e no_token w bs t split s p =
    let long : length w ≡ n = sym (shape_length w bs (shape w t s) p) ∙ ap piece_length (sym split) ∙ sym e in
    let is : take n text ≡ w = ap (take n) split ∙ take_at w bs n long in
    no_token t (subst (λ x. Spells x t) (sym is) s)

-- where it is one, it is the first token
pub first_from : (text : List ℕ) (n : ℕ) (t : Token) → n ≡ piece_length text → n ≤ length text → Spells (take n text) t → First text t n
first_from text n t e in-text s = record {
  some = omega (arith, shape_some (take n text) (shape (take n text) t s), length-take-le n text in-text);
  within = in-text;
  spells = s;
  parted = subst (λ k. Parted (take k text) (drop k text)) (sym e) (piece_parted text);
}
