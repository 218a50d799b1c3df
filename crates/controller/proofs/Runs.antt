-- A run on the lent memory is a run on what the program is given.
use Rattle.std.proofs.Common.{◌≡◌, ℕ, Bool, true, false, eqb, List, length, get_or, refl, ap, ◌∙◌}
use mir.Val.{bool_byte}
use Rattle.base.specs.Stores.{Store, cells}
use Rattle.base.specs.Words.{bit}
use Rattle.vm.specs.Outcomes.{values_of, program_of}
use Rattle.controller.specs.World.{input_image, given}
use Rattle.controller.specs.Memory.{live_in, flags}

-- a flag as a number is its bit
pub byte : (b : Bool) → bool_byte b ≡ bit b
byte true = refl
byte false = refl

lamp_given : (m : List ℕ) → bool_byte (eqb (get_or m 193 0) 1) ≡ bit (live_in m).lamp
unfolding live_in
lamp_given m = byte (eqb (get_or m 193 0) 1)

-- 64 variables that hold what the program sees, and the lamp as a fault
pub run_given : (input : ℕ → Bool) (f : Store) (m code vars : List ℕ) (lit : Bool) (elapsed : ℕ) → length vars ≡ 64 → cells vars ≡ input_image input (live_in m) f → lit ≡ eqb (get_or m 193 0) 1 →
    program_of (length vars) code elapsed (values_of vars (bool_byte lit)) ≡ program_of 64 code elapsed (given input (live_in m) f)
run_given input f m code vars lit elapsed long seen is =
    let lamp = ap bool_byte is ∙ lamp_given m in
    λ i. program_of (long i) code elapsed (record { store = seen i; fault = lamp i })

-- a run on equal lists
pub run_same : {inputs inputs' code code' outside outside' m m' : List ℕ} (elapsed : ℕ) → inputs ≡ inputs' → code ≡ code' → outside ≡ outside' → m ≡ m' →
    program_of 64 code elapsed (given (flags inputs) (live_in m) (cells outside)) ≡ program_of 64 code' elapsed (given (flags inputs') (live_in m') (cells outside'))
run_same elapsed a b c d = λ i. program_of 64 (b i) elapsed (given (flags (a i)) (live_in (d i)) (cells (c i)))
