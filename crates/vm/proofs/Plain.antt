-- Where the machine without bounds stays within a need, a bounded run is a plain one.
use Rattle.std.proofs.Common.{◌≡◌, ℕ, zero, suc, ◌+◌, ◌≤◌, Bool, true, false, cond, ◌||◌, eqb, ltb, List, ◌∷◌, length, get_or, refl, ap, ◌∙◌, arith}
use Rattle.std.proofs.lemmas.List.{get_or_past}
use Rattle.std.proofs.lemmas.Bool.{cond-true, lt-ltb, and_from}
use Rattle.semantics.specs.Needs.{Need}
use Rattle.compiler.specs.Instr.{Instr, push, load, store, invert, binary, jump, jump_if_zero, enter, back, tick, stop}
use Rattle.compiler.specs.Machine.{Machine, step, steps}
use Rattle.compiler.specs.Right.{Within}
use Rattle.vm.specs.Bounds.{bounded_step, bounded_steps}

-- a need that the machine of so many variables meets
pub record Met (size : ℕ) (a : Need) : Type 0 where
  pub low : a.height ≤ 32
  pub shallow : a.depth ≤ 8
  pub near : a.reach ≤ size

enter_room : (b : Bool) (n : ℕ) (ls : List ℕ) (d : ℕ) → length (cond b ls (n ∷ ls)) ≤ d → d ≤ 8 → (b || ltb (length ls) 8) ≡ true
enter_room true n ls d h l = refl
enter_room false n ls d h l = lt-ltb (length ls) 8 (omega arith)

-- an instruction is allowed where the machine before and after it is within the need
one_step : (size elapsed : ℕ) (a : Need) (i j : Instr) (m : Machine) → Met size a → Within a i m → Within a j (step elapsed i m) → bounded_step size elapsed i m ≡ step elapsed i m
one_step size elapsed a (push n) j m h w x = cond-true _ _ _ (lt-ltb (length m.stack) 32 (omega (arith, x.stack_low)))
one_step size elapsed a (load i) j m h w x = cond-true _ _ _ (and_from _ _ (lt-ltb (m.base + i) size (omega arith)) (lt-ltb (length m.stack) 32 (omega (arith, x.stack_low))))
one_step size elapsed a (store i) j m h w x = cond-true _ _ _ (lt-ltb (m.base + i) size (omega arith))
one_step size elapsed a invert j m h w x = refl
one_step size elapsed a (binary o) j m h w x = refl
one_step size elapsed a (jump n) j m h w x = refl
one_step size elapsed a (jump_if_zero n) j m h w x = refl
one_step size elapsed a (enter n past) j m h w x = cond-true _ _ _ (enter_room (eqb n 0) n m.control a.depth x.control_low h.shallow)
one_step size elapsed a (back n) j m h w x = refl
one_step size elapsed a (tick out counter preset) j m h w x = cond-true _ _ _ (and_from _ _ (lt-ltb (m.base + out) size (omega arith)) (lt-ltb (m.base + counter) size (omega arith)))
one_step size elapsed a stop j m h w x = refl

-- a plain run is within the need at every step
abbrev pub Low : (a : Need) (elapsed : ℕ) → List Instr → Machine → Type 0
Low a elapsed code m = (j : ℕ) → Within a (get_or code (steps j elapsed code m).pc stop) (steps j elapsed code m)

pub same_steps : (size k elapsed : ℕ) (a : Need) (code : List Instr) (m : Machine) → Met size a → Low a elapsed code m → bounded_steps size k elapsed code m ≡ steps k elapsed code m
unfolding steps bounded_steps
same_steps size zero elapsed a code m h low = refl
same_steps size (suc k) elapsed a code m h low =
    ap (bounded_steps size k elapsed code) (one_step size elapsed a (get_or code m.pc stop) _ m h (low 0) (low 1))
    ∙ same_steps size k elapsed a code (step elapsed (get_or code m.pc stop) m) h (λ j. low (suc j))

-- at the code's end, a machine stays as it is
stays_at_end : (k elapsed : ℕ) (code : List Instr) (m : Machine) → m.pc ≡ length code → steps k elapsed code m ≡ m
unfolding steps
stays_at_end zero elapsed code m e = refl
stays_at_end (suc k) elapsed code m e =
    let past : length code ≤ m.pc = omega arith in
    ap (λ i. steps k elapsed code (step elapsed i m)) (get_or_past code m.pc stop past) ∙ stays_at_end k elapsed code m e

pub ends_before : (k budget elapsed : ℕ) (code : List Instr) (m : Machine) → k ≤ budget → (steps k elapsed code m).pc ≡ length code → steps budget elapsed code m ≡ steps k elapsed code m
unfolding steps
ends_before zero budget elapsed code m h e = stays_at_end budget elapsed code m e
ends_before (suc k) zero elapsed code m h e = absurd (omega arith)
ends_before (suc k) (suc budget) elapsed code m h e = ends_before k budget elapsed code (step elapsed (get_or code m.pc stop) m) (omega arith) e
