-- Code written into a room as numbers. Assumes nothing.
use Rattle.std.proofs.Common.{◌≡◌, ℕ, ◌+◌, ◌*◌, ◌≤◌, List, [], ◌∷◌, ◌++◌, length, sym, refl, ap, ◌∙◌, append_assoc, append-nil, arith, length-append}
use Rattle.compiler.specs.Instr.{Instr, push, load, jump, jump_if_zero, enter, back, tick, stop}
use Rattle.base.specs.Rooms.{write}
use Rattle.base.proofs.RoomLaws.{write_append, write_swap}
use Rattle.compiler.specs.Code.{word, words}

pub words_append : (a b : List Instr) → words (a ++ b) ≡ words a ++ words b
unfolding words
words_append [] b = refl
words_append (i ∷ a) b = ap (λ ws. word i ++ ws) (words_append a b) ∙ sym (append_assoc (word i) (words a) (words b))

pub length_word : (i : Instr) → length (word i) ≡ 4
unfolding word
length_word (push n) = refl
length_word (load i) = refl
length_word (Instr.store i) = refl
length_word Instr.invert = refl
length_word (Instr.binary o) = refl
length_word (jump n) = refl
length_word (jump_if_zero n) = refl
length_word (enter n past) = refl
length_word (back n) = refl
length_word (tick out elapsed preset) = refl
length_word stop = refl

pub length_words : (c : List Instr) → length (words c) ≡ 4 * length c
unfolding words
length_words [] = refl
length_words (i ∷ c) = length-append (word i) (words c) ∙ omega (arith, length_word i, length_words c)

-- one instruction
pub words_one : (i : Instr) → words (i ∷ []) ≡ word i
unfolding words
words_one i = append-nil (word i)

-- code by parts, at places that are known
pub write_then : (room : List ℕ) (p q : ℕ) (a b : List Instr) → q ≡ p + 4 * length a → write room p (words (a ++ b)) ≡ write (write room p (words a)) q (words b)
write_then room p q a b e = rw (e, words_append a b, write_append room p (words a) (words b), length_words a)

-- two parts that lie apart may be written in either order
pub words_swap : (room : List ℕ) (p q : ℕ) (a b : List Instr) → p + 4 * length a ≤ q → write (write room q (words b)) p (words a) ≡ write (write room p (words a)) q (words b)
words_swap room p q a b h = sym (write_swap room p q (words a) (words b) (omega (arith, length_words a)))
