-- A run touches no variable past those that the machine has.
use Rattle.std.proofs.Common.{◌≡◌, ℕ, zero, suc, ◌+◌, ◌≤◌, Bool, true, false, cond, ◌&&◌, ltb, leb, List, get_or, refl, ◌∙◌, arith}
use Rattle.std.proofs.lemmas.Bool.{ltb-true, and_parts}
use Rattle.base.specs.Delays.{counted, delayed}
use Rattle.base.specs.Stores.{Store, update}
use Rattle.base.specs.Words.{bit}
use Rattle.base.proofs.StoreLaws.{update_other}
use Rattle.semantics.specs.Eval.{Values}
use Rattle.compiler.specs.Instr.{Instr, push, load, store, invert, binary, jump, jump_if_zero, enter, back, tick, stop}
use Rattle.compiler.specs.Machine.{Machine, step, boot}
use Rattle.compiler.specs.Code.{code_in}
use Rattle.vm.specs.Bounds.{allowed, bounded_step, bounded_steps}
use Rattle.vm.specs.Outcomes.{program_of}

-- a delay changes its two variables alone
delayed_other : (elapsed out counter preset : ℕ) (c : Bool) (s : Store) (j : ℕ) → (j ≡ out → ⊥) → (j ≡ counter → ⊥) → delayed elapsed out counter preset c s j ≡ s j
delayed_other elapsed out counter preset c s j o n =
    let t = counted elapsed (s counter) preset c in
    update_other (update s counter t) out (bit (c && leb preset t)) j o ∙ update_other s counter t j n

-- an instruction that is allowed
step_past : (size elapsed : ℕ) (i : Instr) (m : Machine) (j : ℕ) → size ≤ j → allowed size i m ≡ true → (step elapsed i m).vars j ≡ m.vars j
step_past size elapsed (push n) m j h a = refl
step_past size elapsed (load i) m j h a = refl
step_past size elapsed (store i) m j h a = update_other m.vars (m.base + i) _ j (λ e. omega (arith, ltb-true (m.base + i) size a))
step_past size elapsed invert m j h a = refl
step_past size elapsed (binary o) m j h a = refl
step_past size elapsed (jump n) m j h a = refl
step_past size elapsed (jump_if_zero n) m j h a = refl
step_past size elapsed (enter n past) m j h a = refl
step_past size elapsed (back n) m j h a = refl
step_past size elapsed (tick out counter preset) m j h a =
    let p = and_parts (ltb (m.base + out) size) (ltb (m.base + counter) size) a in
    delayed_other elapsed (m.base + out) (m.base + counter) preset _ m.vars j
    (λ e. omega (arith, ltb-true (m.base + out) size p.0))
    (λ e. omega (arith, ltb-true (m.base + counter) size p.1))
step_past size elapsed stop m j h a = refl

kept_past : (b : Bool) (m m₁ : Machine) (j : ℕ) → (b ≡ true → m₁.vars j ≡ m.vars j) → (cond b m₁ m).vars j ≡ m.vars j
kept_past true m m₁ j h = h refl
kept_past false m m₁ j h = refl

steps_past : (size k elapsed : ℕ) (code : List Instr) (m : Machine) (j : ℕ) → size ≤ j → (bounded_steps size k elapsed code m).vars j ≡ m.vars j
unfolding bounded_steps
steps_past size zero elapsed code m j h = refl
steps_past size (suc k) elapsed code m j h =
    let i = get_or code m.pc stop in
    steps_past size k elapsed code (bounded_step size elapsed i m) j h
    ∙ kept_past (allowed size i m) m (step elapsed i m) j (step_past size elapsed i m j h)

-- whatever the code, the program that it is leaves the variables from size on as they were
pub program_of_past : (size : ℕ) (code : List ℕ) (elapsed : ℕ) (r : Values) (i : ℕ) → size ≤ i → (program_of size code elapsed r).store i ≡ r.store i
unfolding program_of
program_of_past size code elapsed r i h = steps_past size 20000 elapsed (code_in code) (boot r) i h
