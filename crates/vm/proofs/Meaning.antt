-- Code that is right for a program is that program on the bounded machine.
use Rattle.std.proofs.Common.{◌≡◌, ℕ, ◌≤◌, List, length, ap, ◌∙◌, arith}
use mathlib.Core.Path.{fun_ext}
use Rattle.std.proofs.lemmas.Bool.{cond-true, eq-eqb}
use Rattle.base.specs.Stores.{cells}
use Rattle.semantics.specs.Eval.{Values, Program}
use Rattle.compiler.specs.Machine.{steps, boot}
use Rattle.compiler.specs.Code.{code_in}
use Rattle.compiler.specs.Right.{Finished as Arrived, Compiled}
use Rattle.vm.specs.Outcomes.{values_of, last, program_of, outcome_of, RunsRight, CodeMeans, NeverTrapped}
use Rattle.vm.specs.declared.Outcome.{Outcome}
use Rattle.vm.specs.declared.Outcome.TheVariants.{Finished, Trapped}
use Rattle.vm.proofs.Plain.{Met, same_steps, ends_before}

-- a bounded run of right code arrives at its end with what the program means
arrives : (size : ℕ) (means : Program) (code : List ℕ) → Compiled size means code → (elapsed : ℕ) (r : Values) → Arrived (code_in code) (means elapsed r) (last size code elapsed r)
arrives size means code c elapsed r =
    let (k, le, end) = c.right.runs elapsed r in
    let h : k ≤ 20000 = omega (arith, le, c.fits.cheap) in
    let met : Met size c.needs = record { low = c.fits.low; shallow = c.fits.shallow; near = c.near } in
    let same : last size code elapsed r ≡ steps k elapsed (code_in code) (boot r) =
    same_steps size 20000 elapsed c.needs (code_in code) (boot r) met (c.right.low elapsed r)
    ∙ ends_before k 20000 elapsed (code_in code) (boot r) h end.at_end in
    record {
      at_end = ap (λ m. m.pc) same ∙ end.at_end;
      no_stack = ap (λ m. m.stack) same ∙ end.no_stack;
      no_control = ap (λ m. m.control) same ∙ end.no_control;
      same_store = λ i. ap (λ m. m.vars i) same ∙ end.same_store i;
      same_fault = ap (λ m. m.fault) same ∙ end.same_fault;
    }

pub never_trapped_lem : NeverTrapped
never_trapped_lem size means code c elapsed r = (arrives size means code c elapsed r).at_end

same_values : (q r : Values) → q.store ≡ r.store → q.fault ≡ r.fault → q ≡ r
same_values q r a b = λ i. record { store = a i; fault = b i }

run_means : (size : ℕ) (means : Program) (code : List ℕ) → Compiled size means code → (elapsed : ℕ) (r : Values) → program_of size code elapsed r ≡ means elapsed r
unfolding program_of
run_means size means code c elapsed r =
    let end = arrives size means code c elapsed r in
    same_values (program_of size code elapsed r) (means elapsed r) (fun_ext end.same_store) end.same_fault

pub code_means_lem : CodeMeans
code_means_lem size means code c = fun_ext (λ elapsed. fun_ext (λ r. run_means size means code c elapsed r))

-- what is known of a run of any code, of code that is right for a program
pub rightly : (elapsed : ℕ) (code vars : List ℕ) (fault : ℕ) (r : Outcome) (vars₁ : List ℕ) (fault₁ : ℕ) →
    cells vars₁ ≡ (program_of (length vars) code elapsed (values_of vars fault)).store →
    fault₁ ≡ (program_of (length vars) code elapsed (values_of vars fault)).fault →
    r ≡ outcome_of (length vars) code elapsed (values_of vars fault) → RunsRight elapsed code vars fault r vars₁ fault₁
rightly elapsed code vars fault r vars₁ fault₁ s f o means c =
    let same = run_means (length vars) means code c elapsed (values_of vars fault) in (
      o ∙ cond-true _ Finished Trapped (eq-eqb _ _ (never_trapped_lem (length vars) means code c elapsed (values_of vars fault))),
      s ∙ ap (λ q. q.store) same,
      f ∙ ap (λ q. q.fault) same,
    )
