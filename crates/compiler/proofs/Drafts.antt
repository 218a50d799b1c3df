-- Code in a draft, and copied out of it. Assumes nothing.
use Rattle.std.proofs.Common.{◌≡◌, ℕ, ◌+◌, ◌*◌, ◌<◌, ◌≤◌, List, [], ◌∷◌, ◌++◌, length, map, take, drop, set, get_or, sym, refl, ap, ◌∙◌, arith}
use borrow.Rule.Slice.PartMut.{put_mid}
use Rattle.std.proofs.lemmas.List.{map-set, map_more, length-map, length-take-le, drop-drop}
use Rattle.std.proofs.Math.Seq.{take-set-lt}
use Rattle.base.specs.Rooms.{write}
use Rattle.base.proofs.RoomLaws.{write_parts, length_write}
use Rattle.compiler.specs.Instr.{Instr}
use Rattle.compiler.specs.Code.{word, words}
use Rattle.compiler.specs.Listed.{listed}
use Rattle.compiler.specs.declared.instruction.Instruction.{Instruction}
use Rattle.compiler.proofs.Writes.{length_word, write_then, words_one}

-- an instruction of the code is replaced
pub listed_set : (xs : List Instruction) (n p : ℕ) (i : Instruction) → p < n → map listed (take n (set xs p i)) ≡ set (map listed (take n xs)) p (listed i)
listed_set xs n p i h = ap (map listed) (take-set-lt n xs p i h) ∙ map-set listed (take n xs) p i

-- no instruction was copied yet
pub copied_none : (room : List ℕ) → room ≡ write room 0 (words [])
unfolding write words
copied_none room = refl

-- one instruction more was copied
pub copied_more : (xs : List Instruction) (d : Instruction) (room r ws : List ℕ) (n k : ℕ) → n < length xs → 4 * n + 4 ≤ length room → k ≡ 4 → ws ≡ word (listed (get_or xs n d)) → r ≡ write room 0 (words (map listed (take n xs))) →
    put_mid (4 * n) k r ws ≡ write room 0 (words (map listed (take (n + 1) xs)))
copied_more xs d room r ws n k h fits e is inv =
    let i = listed (get_or xs n d) in
    let cs = map listed (take n xs) in
    let four : length ws ≡ 4 = ap length is ∙ length_word i in
    let here : 4 * n ≡ 0 + 4 * length cs = omega (arith, length-map (take n xs) listed, length-take-le n xs (omega arith)) in
    let long : length r ≡ length room = ap length inv ∙ length_write room 0 (words cs) in
    let after : drop k (drop (4 * n) r) ≡ drop (4 * n + length ws) r = drop-drop k (4 * n) r ∙ (let m : 4 * n + k ≡ 4 * n + length ws = omega (arith, four) in ap (λ (m : ℕ). drop m r) m) in
    ap (λ (z : List ℕ). take (4 * n) r ++ (ws ++ z)) after
    ∙ sym (write_parts r (4 * n) ws (omega (arith, four, long)))
    ∙ (λ j. write (inv j) (4 * n) ((is ∙ sym (words_one i)) j))
    ∙ sym (write_then room 0 (4 * n) cs (i ∷ []) here)
    ∙ ap (λ (z : List Instr). write room 0 (words z)) (sym (map_more listed xs n d h))
