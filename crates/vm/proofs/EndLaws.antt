-- From the last machine of a run to what `run` answers.
use Rattle.std.proofs.Common.{◌≡◌, ℕ, ◌/◌, List, length, map, sym, refl, ap, ◌∙◌}
use Rattle.std.proofs.lemmas.Bool.{cond-true, cond-false, eq-eqb, ne_eqb}
use Rattle.semantics.specs.Eval.{Values}
use Rattle.compiler.specs.Machine.{Machine, boot}
use Rattle.std.specs.Simd.{first_chunks}
use Rattle.compiler.specs.Code.{instr_at}
use Rattle.compiler.proofs.Decodes.{chunks_read}
use Rattle.vm.specs.Bounds.{bounded_steps}
use Rattle.vm.specs.Outcomes.{last, program_of, outcome_of}
use Rattle.vm.specs.declared.Outcome.TheVariants.{Finished, Trapped}
use Rattle.vm.proofs.CodeLaws.{code_length}

-- a run of a machine before its first instruction
pub booted : (size : ℕ) (code : List ℕ) (xs : List (List ℕ)) (elapsed : ℕ) (r : Values) (b m : Machine) → xs ≡ first_chunks 4 (length code / 4) code → b ≡ boot r → m ≡ bounded_steps size 20000 elapsed (map instr_at xs) b → m ≡ last size code elapsed r
booted size code xs elapsed r b m c e h = h ∙ (λ i. bounded_steps size 20000 elapsed ((ap (map instr_at) c ∙ chunks_read _ code refl) i) (e i))

pub store_made : (size : ℕ) (code : List ℕ) (elapsed : ℕ) (r : Values) (m : Machine) → m ≡ last size code elapsed r → m.vars ≡ (program_of size code elapsed r).store
unfolding program_of
store_made size code elapsed r m e = ap (λ x. x.vars) e

pub fault_made : (size : ℕ) (code : List ℕ) (elapsed : ℕ) (r : Values) (m : Machine) → m ≡ last size code elapsed r → m.fault ≡ (program_of size code elapsed r).fault
unfolding program_of
fault_made size code elapsed r m e = ap (λ x. x.fault) e

pub at_end : (size : ℕ) (code : List ℕ) (elapsed : ℕ) (r : Values) (m : Machine) → m ≡ last size code elapsed r → m.pc ≡ length code / 4 → Finished ≡ outcome_of size code elapsed r
at_end size code elapsed r m e h = sym (cond-true _ Finished Trapped (eq-eqb _ _ (sym (ap (λ x. x.pc) e) ∙ (h ∙ sym (code_length code)))))

pub elsewhere : (size : ℕ) (code : List ℕ) (elapsed : ℕ) (r : Values) (m : Machine) → m ≡ last size code elapsed r → (m.pc ≡ length code / 4 → ⊥) → Trapped ≡ outcome_of size code elapsed r
elsewhere size code elapsed r m e h = sym (cond-false _ Finished Trapped (ne_eqb _ _ (λ p. h (ap (λ x. x.pc) e ∙ (p ∙ code_length code)))))
