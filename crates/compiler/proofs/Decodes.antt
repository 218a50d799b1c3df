-- What was written is read back. Assumes nothing.
use Rattle.std.proofs.Common.{◌≡◌, ℕ, zero, suc, ◌+◌, ◌*◌, ◌/◌, ◌≤◌, List, [], ◌∷◌, ◌++◌, length, map, take, refl, ap, ◌∙◌, arith}
use Rattle.compiler.specs.Instr.{Instr, push, load, jump, jump_if_zero, enter, back, tick, stop}
use Rattle.std.specs.Simd.{first_chunks}
use Rattle.base.specs.Rooms.{write}
use Rattle.base.proofs.OpLaws.{op_of_code}
use Rattle.base.proofs.RoomLaws.{take_write}
use Rattle.compiler.specs.Code.{word, words, instr_of, instr_at, code_in}
use Rattle.compiler.proofs.Writes.{length_words}

-- the first instruction is read back
word_back : (i : Instr) (ws : List ℕ) → code_in (word i ++ ws) ≡ i ∷ code_in ws
unfolding code_in word
word_back (push n) ws = refl
word_back (load n) ws = refl
word_back (Instr.store n) ws = refl
word_back Instr.invert ws = refl
word_back (Instr.binary o) ws = ap (λ p. Instr.binary p ∷ code_in ws) (op_of_code o)
word_back (jump n) ws = refl
word_back (jump_if_zero n) ws = refl
word_back (enter n past) ws = refl
word_back (back n) ws = refl
word_back (tick out counter preset) ws = refl
word_back stop ws = refl

pub code_in_words : (c : List Instr) → code_in (words c) ≡ c
unfolding words code_in
code_in_words [] = refl
code_in_words (i ∷ c) = word_back i (words c) ∙ ap (λ x. i ∷ x) (code_in_words c)

pub read_back : (c : List Instr) (room : List ℕ) → 4 * length c ≤ length room → code_in (take (4 * length c) (write room 0 (words c))) ≡ c
read_back c room h =
    let e : 4 * length c ≡ 0 + length (words c) = omega (arith, length_words c) in
    ap (λ n. code_in (take n (write room 0 (words c)))) e ∙ ap code_in (take_write room 0 (words c) (omega (arith, length_words c))) ∙ code_in_words c

-- four numbers at a time
pub chunks_read : (n : ℕ) (xs : List ℕ) → n ≡ length xs / 4 → map instr_at (first_chunks 4 n xs) ≡ code_in xs
unfolding code_in
chunks_read zero [] e = refl
chunks_read zero (k ∷ []) e = refl
chunks_read zero (k ∷ (a ∷ [])) e = refl
chunks_read zero (k ∷ (a ∷ (b ∷ []))) e = refl
chunks_read zero (k ∷ (a ∷ (b ∷ (c ∷ xs)))) e = absurd (omega arith)
chunks_read (suc n) [] e = absurd (omega arith)
chunks_read (suc n) (k ∷ []) e = absurd (omega arith)
chunks_read (suc n) (k ∷ (a ∷ [])) e = absurd (omega arith)
chunks_read (suc n) (k ∷ (a ∷ (b ∷ []))) e = absurd (omega arith)
chunks_read (suc n) (k ∷ (a ∷ (b ∷ (c ∷ xs)))) e = ap (λ is. instr_of k a b c ∷ is) (chunks_read n xs (omega arith))
