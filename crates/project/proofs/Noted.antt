-- Inputs noted one after another.
use Rattle.std.proofs.Common.{◌≡◌, ℕ, ◌+◌, ◌<◌, ◌≤◌, cond, ltb, List, length, get_or, drop, set, sym, ap, ◌∙◌, arith}
use Rattle.std.proofs.lemmas.List.{drop_more, drop_all}
use Rattle.std.proofs.lemmas.Bool.{cond-true, cond-false, lt-ltb, le-ltb}
use Rattle.base.specs.Stores.{Store, cells, update}
use Rattle.base.proofs.StoreLaws.{cells_set}
use Rattle.scripts.specs.declared.script.Input.{Input}
use Rattle.scripts.specs.Script.{inputs_after}

-- a turn of the loop over inputs, and its end
module _ (all : Store) (outside : List ℕ) (is : List Input) (k : ℕ) (d : Input) (long : length outside ≡ 64) (inv : all ≡ inputs_after (cells outside) (drop k is)) where
  next_input : k < length is → all ≡ inputs_after (cond (ltb (get_or is k d).variable 64) (update (cells outside) (get_or is k d).variable (get_or is k d).value) (cells outside)) (drop (k + 1) is)
  unfolding inputs_after
  next_input h = inv ∙ ap (inputs_after (cells outside)) (drop_more is k d h)

  pub input_noted : (next : List ℕ) → k < length is → (get_or is k d).variable < 64 → next ≡ set outside (get_or is k d).variable (get_or is k d).value → all ≡ inputs_after (cells next) (drop (k + 1) is)
  input_noted next h low e =
      next_input h
      ∙ ap (λ s. inputs_after s (drop (k + 1) is)) (cond-true _ _ _ (lt-ltb _ 64 low) ∙ sym (cells_set outside (get_or is k d).variable (get_or is k d).value (omega arith)) ∙ ap cells (sym e))

  pub input_passed : (next : List ℕ) → k < length is → 64 ≤ (get_or is k d).variable → next ≡ outside → all ≡ inputs_after (cells next) (drop (k + 1) is)
  input_passed next h high e = next_input h ∙ ap (λ s. inputs_after s (drop (k + 1) is)) (cond-false _ _ _ (le-ltb _ 64 high) ∙ ap cells (sym e))

  pub inputs_noted : length is ≤ k → cells outside ≡ all
  unfolding inputs_after
  inputs_noted h = sym (inv ∙ ap (inputs_after (cells outside)) (drop_all k is h))
