-- What a memory's cells say: values, on and lamp, what the program sees and what goes out, point by point.
use Rattle.std.proofs.Common.{◌≡◌, ℕ, ◌+◌, ◌<◌, ◌≤◌, cond, eqb, List, length, get_or, refl, ap, ◌∙◌, zero-add}
use Rattle.std.proofs.lemmas.List.{get_or_past}
use Rattle.base.specs.Stores.{cells, region}
use Rattle.base.proofs.Regions.{region_at, region_past}
use Rattle.controller.specs.World.{input_image, output_image}
use Rattle.controller.specs.Memory.{live_in, marks, flags, input_cell, output_cell}

pub on_is : (m : List ℕ) → (live_in m).on ≡ eqb (get_or m 192 0) 1
unfolding live_in
on_is m = refl

pub lamp_is : (m : List ℕ) → (live_in m).lamp ≡ eqb (get_or m 193 0) 1
unfolding live_in
lamp_is m = refl

module _ (m : List ℕ) (i : ℕ) where
  at_0 : i < 64 → region m 0 64 i ≡ get_or m i 0
  at_0 h = region_at m 0 64 i h ∙ ap (λ x. get_or m x 0) (zero-add i)

  pub value_at : i < 64 → (live_in m).store i ≡ get_or m i 0
  unfolding live_in
  value_at h = at_0 h

  pub input_at : (inputs outside : List ℕ) → i < 64 → input_image (flags inputs) (live_in m) (cells outside) i ≡ input_cell inputs outside m i
  unfolding input_image live_in marks
  input_at inputs outside h =
      ap (λ x. cond (eqb x 1) (region m 128 64 i) (cond (flags inputs i) (get_or outside i 0) (region m 0 64 i))) (region_at m 64 64 i h)
      ∙ ap (λ x. cond (eqb (get_or m (64 + i) 0) 1) x (cond (flags inputs i) (get_or outside i 0) (region m 0 64 i))) (region_at m 128 64 i h)
      ∙ ap (λ x. cond (eqb (get_or m (64 + i) 0) 1) (get_or m (128 + i) 0) (cond (flags inputs i) (get_or outside i 0) x)) (at_0 h)

  pub input_past : (inputs outside : List ℕ) → 64 ≤ i → length inputs ≤ i → input_image (flags inputs) (live_in m) (cells outside) i ≡ 0
  unfolding input_image live_in marks
  input_past inputs outside h l =
      ap (λ x. cond (eqb x 1) (region m 128 64 i) (cond (flags inputs i) (get_or outside i 0) (region m 0 64 i))) (region_past m 64 64 i h)
      ∙ ap (λ x. cond (eqb x 1) (get_or outside i 0) (region m 0 64 i)) (get_or_past inputs i 0 l)
      ∙ region_past m 0 64 i h

  pub output_at : (values : List ℕ) → i < 64 → output_image (live_in m) (cells values) i ≡ output_cell m values i
  unfolding output_image live_in marks
  output_at values h =
      ap (λ x. cond (eqb x 1) (region m 128 64 i) (get_or values i 0)) (region_at m 64 64 i h)
      ∙ ap (λ x. cond (eqb (get_or m (64 + i) 0) 1) x (get_or values i 0)) (region_at m 128 64 i h)

  pub output_past : (values : List ℕ) → 64 ≤ i → length values ≤ i → output_image (live_in m) (cells values) i ≡ 0
  unfolding output_image live_in marks
  output_past values h l =
      ap (λ x. cond (eqb x 1) (region m 128 64 i) (get_or values i 0)) (region_past m 64 64 i h) ∙ get_or_past values i 0 l
