-- Inputs read word by word.
use Rattle.std.proofs.Common.{◌≡◌, ℕ, true, false, List, [], ◌∷◌, ◌++◌, Some, None, Option, refl, ◌∙◌}
use Rattle.std.proofs.lemmas.Bool.{both_ways}
use Rattle.scripts.specs.declared.script.Input.{Input}
use Rattle.lines.specs.Words.{Words, end, word}
use Rattle.lines.specs.Reading.{Took, took, wrong, and_then, read_as, take_variable, take_value, variable_of, value_of, ended}
use Rattle.scripts.specs.Script.{take_pairs}

-- one input more
abbrev with_input : List Input → ℕ → ℕ → List Input
with_input acc x y = acc ++ (record { variable = x; value = y } ∷ [])

-- a turn of the loop, and its end
abbrev turn : List Input → Words → Took (List Input)
turn acc ws = and_then (take_variable ws) (λ x us. and_then (take_value us) (λ y vs. take_pairs (with_input acc x y) vs))

no_value : (acc : List Input) (p q : ℕ) (o : Option ℕ) → and_then (read_as p o (end q)) (λ x _. wrong q) ≡ and_then (read_as p o (end q)) (λ x us. and_then (take_value us) (λ y vs. take_pairs (with_input acc x y) vs))
no_value acc p q None = refl
no_value acc p q (Some x) = refl

pair_value : (acc : List Input) (q x : ℕ) (o : Option ℕ) (ws : Words) → and_then (read_as q o ws) (λ y _. take_pairs (with_input acc x y) ws) ≡ and_then (read_as q o ws) (λ y vs. take_pairs (with_input acc x y) vs)
pair_value acc q x None ws = refl
pair_value acc q x (Some y) ws = refl

pair : (acc : List Input) (p q : ℕ) (o : Option ℕ) (n : List ℕ) (ws : Words) → and_then (read_as p o ws) (λ x _. and_then (read_as q (value_of n) ws) (λ y _. take_pairs (with_input acc x y) ws)) ≡ and_then (read_as p o (word q n ws)) (λ x us. and_then (take_value us) (λ y vs. take_pairs (with_input acc x y) vs))
pair acc p q None n ws = refl
pair acc p q (Some x) n ws = pair_value acc q x (value_of n) ws

pub pairs_more : (acc : List Input) (ws : Words) → ended ws ≡ false → take_pairs acc ws ≡ turn acc ws
unfolding take_pairs
pairs_more acc (end p) h = absurd (both_ways true h refl)
pairs_more acc (word p v (end q)) h = no_value acc p q (variable_of v)
pairs_more acc (word p v (word q n ws)) h = pair acc p q (variable_of v) n ws

pub pairs_all : (acc : List Input) (ws : Words) → ended ws ≡ true → take_pairs acc ws ≡ took acc ws
unfolding take_pairs
pairs_all acc (end p) h = refl
pairs_all acc (word p w ws) h = absurd (both_ways false refl h)

-- how a turn goes on, and where it stops
module _ (acc : List Input) (ws : Words) (some : ended ws ≡ false) where
  pub pairs_next : (us vs : Words) (x y : ℕ) → take_variable ws ≡ took x us → take_value us ≡ took y vs → take_pairs acc ws ≡ take_pairs (with_input acc x y) vs
  pairs_next us vs x y e f = pairs_more acc ws some ∙ rw (e, f)

  pub pairs_no_variable : (p : ℕ) → take_variable ws ≡ wrong p → take_pairs acc ws ≡ wrong p
  pairs_no_variable p e = pairs_more acc ws some ∙ rw e

  pub pairs_no_value : (us : Words) (x p : ℕ) → take_variable ws ≡ took x us → take_value us ≡ wrong p → take_pairs acc ws ≡ wrong p
  pairs_no_value us x p e f = pairs_more acc ws some ∙ rw (e, f)
