-- Code as numbers, four to an instruction. Assumes nothing: these are definitions.
use Rattle.std.specs.Prelude.{ℕ, cond, List, [], ◌∷◌, ◌++◌, ◌==◌, slice_index}
use Rattle.base.specs.Ops.{op_code, op_of}
use Rattle.compiler.specs.Instr.{Instr, push, load, store, invert, binary, jump, jump_if_zero, enter, back, tick, stop}

-- an instruction's four numbers
unfoldable pub word : Instr → List ℕ
word (push n) = 0 ∷ n ∷ 0 ∷ 0 ∷ []
word (load i) = 1 ∷ i ∷ 0 ∷ 0 ∷ []
word (store i) = 2 ∷ i ∷ 0 ∷ 0 ∷ []
word invert = 3 ∷ 0 ∷ 0 ∷ 0 ∷ []
word (binary o) = 4 ∷ op_code o ∷ 0 ∷ 0 ∷ []
word (jump n) = 5 ∷ n ∷ 0 ∷ 0 ∷ []
word (jump_if_zero n) = 6 ∷ n ∷ 0 ∷ 0 ∷ []
word (enter n past) = 7 ∷ n ∷ past ∷ 0 ∷ []
word (back n) = 8 ∷ n ∷ 0 ∷ 0 ∷ []
word (tick out counter preset) = 9 ∷ out ∷ counter ∷ preset ∷ []
word stop = 10 ∷ 0 ∷ 0 ∷ 0 ∷ []

-- a code's numbers
unfoldable pub words : List Instr → List ℕ
words [] = []
words (i ∷ c) = word i ++ words c

-- the instruction of four numbers; from kind 10 on stop
abbrev pub instr_of : (kind a b c : ℕ) → Instr
instr_of kind a b c =
    cond (kind == 0) (push a) (cond (kind == 1) (load a) (cond (kind == 2) (store a) (cond (kind == 3) invert (cond (kind == 4) (binary (op_of a)) (cond (kind == 5) (jump a)
    (cond (kind == 6) (jump_if_zero a) (cond (kind == 7) (enter a b) (cond (kind == 8) (back a) (cond (kind == 9) (tick a b c) stop)))))))))

-- the instruction of four numbers in a row
abbrev pub instr_at : List ℕ → Instr
instr_at ns = instr_of (slice_index ns 0) (slice_index ns 1) (slice_index ns 2) (slice_index ns 3)

-- the instructions in a row of numbers; what is short of four at its end is none
unfoldable pub code_in : List ℕ → List Instr
code_in [] = []
code_in (k ∷ []) = []
code_in (k ∷ (a ∷ [])) = []
code_in (k ∷ (a ∷ (b ∷ []))) = []
code_in (k ∷ (a ∷ (b ∷ (c ∷ xs)))) = instr_of k a b c ∷ code_in xs
