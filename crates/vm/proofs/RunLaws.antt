-- Laws of a run: one instruction more, and where it stops.
use Rattle.std.proofs.Common.{◌≡◌, ℕ, zero, suc, ◌-◌, ◌<◌, ◌≤◌, Bool, true, false, List, length, get_or, map, sym, refl, ap, ◌∙◌, subst, arith}
use Rattle.std.proofs.lemmas.List.{get_or_past, get_or-map, length-map}
use Rattle.std.proofs.lemmas.Bool.{cond-true, cond-false}
use Rattle.compiler.specs.Instr.{Instr, stop}
use Rattle.compiler.specs.Machine.{Machine}
use Rattle.compiler.specs.Code.{instr_at}
use Rattle.vm.specs.Bounds.{bounded_step, bounded_steps}
use Rattle.vm.specs.State.{passed, Does}

-- where an instruction leaves the machine as it is, the run is over
pub stays : (z k elapsed : ℕ) (code : List Instr) (m : Machine) → bounded_step z elapsed (get_or code m.pc stop) m ≡ m → bounded_steps z k elapsed code m ≡ m
unfolding bounded_steps
stays z zero elapsed code m e = refl
stays z (suc k) elapsed code m e = ap (bounded_steps z k elapsed code) e ∙ stays z k elapsed code m e

pub ended : (z k elapsed : ℕ) (xs : List (List ℕ)) (m : Machine) → length xs ≤ m.pc → m ≡ bounded_steps z k elapsed (map instr_at xs) m
ended z k elapsed xs m h =
    let past : length (map instr_at xs) ≤ m.pc = omega (arith, length-map xs instr_at) in
    let e : get_or (map instr_at xs) m.pc stop ≡ stop = get_or_past _ _ _ past in
    sym (stays z k elapsed (map instr_at xs) m (ap (λ i. bounded_step z elapsed i m) e))

pub spent : (z k elapsed : ℕ) (code : List Instr) (m : Machine) → k ≤ 0 → m ≡ bounded_steps z k elapsed code m
unfolding bounded_steps
spent z zero elapsed code m h = refl
spent z (suc k) elapsed code m h = absurd (omega arith)

-- an instruction that was told to be done
done : (size elapsed : ℕ) (i : Instr) (m m₁ : Machine) → Does size elapsed i m m₁ true → bounded_step size elapsed i m ≡ m₁
done size elapsed i m m₁ d = cond-true _ _ _ (sym d.tells) ∙ sym d.does

-- the rest of a run after an instruction is the run from before it
pub again : (z k elapsed : ℕ) (xs : List (List ℕ)) (n : List ℕ) (m m₁ : Machine) (told : Bool) → 0 < k → m.pc < length xs → Does z elapsed (instr_at (get_or xs m.pc n)) m m₁ told → told ≡ true →
    bounded_steps z (k - 1) elapsed (map instr_at xs) m₁ ≡ bounded_steps z k elapsed (map instr_at xs) m
unfolding bounded_steps
again z zero elapsed xs n m m₁ told h less d t = absurd (omega arith)
again z (suc k) elapsed xs n m m₁ told h less d t =
    let e : suc k - 1 ≡ k = omega arith in
    rw (e, get_or-map instr_at xs m.pc n stop less) (ap (bounded_steps z k elapsed (map instr_at xs)) (sym (done z elapsed (instr_at (get_or xs m.pc n)) m m₁ (subst (Does z elapsed (instr_at (get_or xs m.pc n)) m m₁) t d))))

-- a machine at another instruction
abbrev pub at_pc : ℕ → Machine → Machine
at_pc pc m = record { pc = pc; stack = m.stack; control = m.control; base = m.base; vars = m.vars; fault = m.fault }

-- an instruction that is not allowed ends the run where it stands
pub trapped : (z k elapsed : ℕ) (xs : List (List ℕ)) (n : List ℕ) (m m₁ : Machine) (told : Bool) → m.pc < length xs → Does z elapsed (instr_at (get_or xs m.pc n)) m m₁ told → told ≡ false →
    at_pc m.pc m₁ ≡ bounded_steps z k elapsed (map instr_at xs) m
trapped z k elapsed xs n m m₁ told less d f =
    let same : bounded_step z elapsed (instr_at (get_or xs m.pc n)) m ≡ m = cond-false _ _ _ (sym d.tells ∙ f) in
    let left : m₁ ≡ passed m = d.does ∙ cond-false told _ _ f in
    ap (at_pc m.pc) left ∙ sym (stays z k elapsed (map instr_at xs) m (ap (λ i. bounded_step z elapsed i m) (get_or-map instr_at xs m.pc n stop less) ∙ same))
