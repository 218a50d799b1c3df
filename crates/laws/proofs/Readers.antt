-- What is read of a header and of a script is words.
use Rattle.std.proofs.Common.{◌≡◌, ℕ, zero, suc, ◌<◌, Bool, true, false, cond, ltb, List, [], ◌∷◌, ◌++◌, get_or, set, replicate, is_some, Some, None, Ok, Err, codes, Option, Result, map, sym, refl, subst, arith}
use Rattle.std.specs.Option.{unwrap_or}
use Rattle.std.proofs.lemmas.List.{map-set}
use Rattle.std.specs.Str.{bytes_eq}
use Rattle.std.proofs.lemmas.Bool.{ltb-true}
use Rattle.base.specs.Stores.{Store, update, cells}
use Rattle.controller.specs.Promises.{Words}
use Rattle.headers.specs.declared.header.Header.{Header}
use Rattle.scripts.specs.declared.script.Input.{Input}
use Rattle.lines.specs.Words as words
use Rattle.lines.specs.Words.{end, word, words_on, Lines, last, line, lines_on}
use Rattle.lines.specs.Reading.{Took, took, wrong, and_then, read_as, below, take, take_word, take_number, take_name, take_value, take_end, take_keyword, variable_of, value_of, number_of, ended, outcome, and_ok}
use Rattle.headers.specs.Header.{Plan, blank_header, take_kept, take_marks, take_outside, unless_named, take_first, more_header, take_entry, take_header_line, read_header_line, read_header, read_project}
use Rattle.scripts.specs.Script.{Request, start, scan, cut, force, free, take_pairs, take_inputs, take_scan, take_cut, take_force, take_free, take_request, take_line, read_line, read_lines, read_script, inputs_after}
use Rattle.laws.specs.Texts.{Every}
use Rattle.laws.proofs.Words.{either}

-- P holds of what was read, if anything was
abbrev IfTook : {X : Type 0} → (X → Type 0) → Took X → Type 0
IfTook P (took x ws) = P x
IfTook P (wrong p) = Unit {0}

abbrev OkHolds : {X : Type 0} → (X → Type 0) → Result X ℕ → Type 0
OkHolds P (Ok x) = P x
OkHolds P (Err p) = Unit {0}

abbrev IfSome : {X : Type 0} → (X → Type 0) → Option X → Type 0
IfSome P (Some x) = P x
IfSome P None = Unit {0}

then_took : {X Y : Type 0} (P : X → Type 0) (Q : Y → Type 0) (t : Took X) (k : X → words.Words → Took Y) → IfTook P t → ((x : X) (ws : words.Words) → P x → IfTook Q (k x ws)) → IfTook Q (and_then t k)
then_took P Q (took x ws) k h f = f x ws h
then_took P Q (wrong p) k h f = tt

then_ok : {X Y : Type 0} (P : X → Type 0) (Q : Y → Type 0) (r : Result X ℕ) (k : X → Result Y ℕ) → OkHolds P r → ((x : X) → P x → OkHolds Q (k x)) → OkHolds Q (and_ok r k)
then_ok P Q (Ok x) k h f = f x h
then_ok P Q (Err p) k h f = tt

either_took : {X : Type 0} (P : X → Type 0) (b : Bool) (t u : Took X) → IfTook P t → IfTook P u → IfTook P (cond b t u)
either_took P true t u h g = h
either_took P false t u h g = g

either_ok : {X : Type 0} (P : X → Type 0) (b : Bool) (r q : Result X ℕ) → OkHolds P r → OkHolds P q → OkHolds P (cond b r q)
either_ok P true r q h g = h
either_ok P false r q h g = g

whole : {X : Type 0} (P : X → Type 0) (t : Took X) → IfTook P t → OkHolds P (outcome t)
whole P (took x ws) h = h
whole P (wrong p) h = tt

any : {X : Type 0} (t : Took X) → IfTook (λ x. Unit {0}) t
any (took x ws) = tt
any (wrong p) = tt

read_word : {X : Type 0} (P : X → Type 0) (p : ℕ) (o : Option X) (ws : words.Words) → IfSome P o → IfTook P (read_as p o ws)
read_word P p (Some x) ws h = h
read_word P p None ws h = tt

below_limit : (limit : ℕ) (o : Option ℕ) → IfSome (λ n. n < limit) (below limit o)
below_limit limit None = tt
below_limit limit (Some n) = way (ltb n limit) refl
  where
    way : (b : Bool) → ltb n limit ≡ b → IfSome (λ n. n < limit) (cond b (Some n) None)
    way true e = ltb-true n limit e
    way false e = tt

value_word : (ws : words.Words) → IfTook (λ n. n < 65536) (take_value ws)
value_word ws = then_took (λ w. Unit {0}) (λ n. n < 65536) (take_word ws) _ (any _) (λ w us z. read_word (λ n. n < 65536) w.0 (value_of w.1) us (below_limit 65536 (number_of w.1)))

-- the first values of a header are words, where what is not said is 0
abbrev said : List (Option ℕ) → List ℕ
said = map (λ v. unwrap_or v 0)

abbrev FirstWords : Header → Type 0
FirstWords h = Words (cells (said h.firsts))

abbrev LineWords : Bool × Header → Type 0
LineWords x = FirstWords x.1

set_words : (xs : List ℕ) (v n : ℕ) → Words (cells xs) → n < 65536 → Words (cells (set xs v n))
set_words [] v n h l i = h i
set_words (x ∷ xs) zero n h l zero = l
set_words (x ∷ xs) zero n h l (suc i) = h (suc i)
set_words (x ∷ xs) (suc v) n h l zero = h 0
set_words (x ∷ xs) (suc v) n h l (suc i) = set_words xs v n (λ j. h (suc j)) l i

zero_words : (n i : ℕ) → get_or (replicate n 0) i 0 < 65536
zero_words zero i = omega arith
zero_words (suc n) zero = omega arith
zero_words (suc n) (suc i) = zero_words n i

module _ (h : Header) (w : FirstWords h) where
  kept_words : (p : ℕ) (ws : words.Words) → IfTook FirstWords (take_kept h p ws)
  kept_words p ws = either_took FirstWords (is_some h.kept) (wrong p) _ tt (then_took (λ n. Unit {0}) FirstWords (take_number ws) (λ n us. took _ us) (any _) (λ n us z. w))

  outside_words : (p : ℕ) (ws : words.Words) → IfTook FirstWords (take_outside h p ws)
  outside_words p ws = either_took FirstWords (is_some h.inputs) (wrong p) _ tt (then_took (λ m. Unit {0}) FirstWords (take_marks (replicate 64 0) ws) _ (any _) (λ m us z. w))

  first_words : (ws : words.Words) → IfTook FirstWords (take_first h ws)
  first_words ws =
      then_took (λ v. Unit {0}) FirstWords (take (λ u. unless_named h.firsts (variable_of u)) ws) _ (any _)
      (λ v us z. then_took (λ n. n < 65536) FirstWords (take_value us) _ (value_word us) (λ n vs l. subst (λ xs. Words (cells xs)) (sym (map-set (λ v. unwrap_or v 0) h.firsts v (Some n))) (set_words (said h.firsts) v n w l)))

  more_words : (t : Took Header) → IfTook FirstWords t → IfTook LineWords (more_header t)
  more_words t g = then_took FirstWords LineWords t _ g (λ x ws y. y)

  entry_words : (ws : words.Words) → IfTook LineWords (take_entry h ws)
  entry_words ws =
      then_took (λ x. Unit {0}) LineWords (take_word ws) _ (any _)
      (λ x us z. either_took LineWords (bytes_eq x.1 (codes "kept")) _ _ (more_words _ (kept_words x.0 us))
      (either_took LineWords (bytes_eq x.1 (codes "outside")) _ _ (more_words _ (outside_words x.0 us))
      (either_took LineWords (bytes_eq x.1 (codes "first")) _ _ (more_words _ (first_words us))
      (either_took LineWords (bytes_eq x.1 (codes "program")) (took (true, h) us) (wrong x.0) w tt))))

  line_words : (at : ℕ) (bs : List ℕ) → OkHolds LineWords (read_header_line h at bs)
  unfolding read_header_line
  line_words at bs =
      let ws = words_on at [] bs in
      whole LineWords (take_header_line h ws)
      (either_took LineWords (ended ws) _ _ w (then_took LineWords LineWords (take_entry h ws) _ (entry_words ws) (λ x us g. then_took (λ y. Unit {0}) LineWords (take_end us) _ (any _) (λ y vs z. g))))

abbrev PlanWords : Plan → Type 0
PlanWords p = Words (cells p.firsts)

header_words : (bs : List ℕ) (h : Header) (ls : Lines) → FirstWords h → OkHolds PlanWords (read_header bs h ls)
unfolding read_header
header_words bs h (last at l) w = then_ok LineWords PlanWords (read_header_line h at l) _ (line_words h w at l) (λ x g. either_ok PlanWords x.0 _ _ g tt)
header_words bs h (line at l ls) w = then_ok LineWords PlanWords (read_header_line h at l) _ (line_words h w at l) (λ x g. either_ok PlanWords x.0 _ _ g (header_words bs x.1 ls g))

pub firsts_words : (text : List ℕ) (h : Plan) → read_project text ≡ Ok h → Words (cells h.firsts)
unfolding read_project
firsts_words text h e = subst (OkHolds PlanWords) e (header_words text blank_header (lines_on 0 [] text) (zero_words 64))

-- the inputs that a request names are words
abbrev InputWords : List Input → Type 0
InputWords is = Every (λ (x : Input). x.value < 65536) is

abbrev pub AsksWords : Request → Type 0
AsksWords start = Unit {0}
AsksWords (scan elapsed inputs) = Every (λ (x : Input). x.value < 65536) inputs
AsksWords (cut elapsed at junk inputs) = Every (λ (x : Input). x.value < 65536) inputs
AsksWords (force point number) = Unit {0}
AsksWords (free point) = Unit {0}

pub every_append : {A : Type 0} (P : A → Type 0) (xs ys : List A) → Every P xs → Every P ys → Every P (xs ++ ys)
every_append P [] ys h g = g
every_append P (x ∷ xs) ys h g = (h.0, every_append P xs ys h.1 g)

pairs_words : (acc : List Input) (ws : words.Words) → InputWords acc → IfTook InputWords (take_pairs acc ws)
unfolding take_pairs
pairs_words acc (end p) h = h
pairs_words acc (word p v (end q)) h = then_took (λ x. Unit {0}) InputWords (read_as p (variable_of v) (end q)) _ (any _) (λ x us z. tt)
pairs_words acc (word p v (word q n ws)) h =
    then_took (λ x. Unit {0}) InputWords (read_as p (variable_of v) ws) _ (any _)
    (λ x us z. then_took (λ n. n < 65536) InputWords (read_as q (value_of n) ws) _ (read_word (λ n. n < 65536) q (value_of n) ws (below_limit 65536 (number_of n)))
    (λ y vs l. pairs_words (acc ++ (record { variable = x; value = y } ∷ [])) ws (every_append (λ (i : Input). i.value < 65536) acc (record { variable = x; value = y } ∷ []) h (l, tt))))

inputs_words : (ws : words.Words) → IfTook InputWords (take_inputs ws)
inputs_words ws = either_took InputWords (ended ws) _ _ tt (then_took (λ x. Unit {0}) InputWords (take_keyword (codes ":") ws) _ (any _) (λ x us z. pairs_words [] us tt))

-- a request that is made of whatever was read before it
passing : {X : Type 0} (t : Took X) (k : X → words.Words → Took Request) → ((x : X) (ws : words.Words) → IfTook AsksWords (k x ws)) → IfTook AsksWords (and_then t k)
passing t k f = then_took (λ x. Unit {0}) AsksWords t k (any t) (λ x ws z. f x ws)

scan_words : (ws : words.Words) → IfTook AsksWords (take_scan ws)
scan_words ws = passing (take_number ws) _ (λ t us. then_took InputWords AsksWords (take_inputs us) _ (inputs_words us) (λ is vs h. h))

cut_words : (ws : words.Words) → IfTook AsksWords (take_cut ws)
cut_words ws =
    passing (take_number ws) _ (λ t us. passing (take_keyword (codes "at") us) _ (λ x ks. passing (take_number ks) _ (λ k ts. passing (take_keyword (codes "junk") ts) _
    (λ y js. passing (take_number js) _ (λ j rest. then_took InputWords AsksWords (take_inputs rest) _ (inputs_words rest) (λ is vs h. h))))))

request_words : (ws : words.Words) → IfTook AsksWords (take_request ws)
request_words ws =
    passing (take_word ws) _ (λ w us. either_took AsksWords (bytes_eq w.1 (codes "start")) (took start us) _ tt
    (either_took AsksWords (bytes_eq w.1 (codes "scan")) (take_scan us) _ (scan_words us)
    (either_took AsksWords (bytes_eq w.1 (codes "cut")) (take_cut us) _ (cut_words us)
    (either_took AsksWords (bytes_eq w.1 (codes "force")) (take_force us) _ (passing (take_name us) (λ i vs. and_then (take_number vs) (λ n xs. took (force i n) xs)) (λ i vs. passing (take_number vs) (λ n xs. took (force i n) xs) (λ n xs. tt)))
    (either_took AsksWords (bytes_eq w.1 (codes "free")) (take_free us) (wrong w.0) (passing (take_name us) (λ i vs. took (free i) vs) (λ i vs. tt)) tt)))))

script_line_words : (at : ℕ) (bs : List ℕ) → OkHolds (Every AsksWords) (read_line at bs)
unfolding read_line
script_line_words at bs =
    let ws = words_on at [] bs in
    whole (Every AsksWords) (take_line ws)
    (either_took (Every AsksWords) (ended ws) _ _ tt (then_took AsksWords (Every AsksWords) (take_request ws) _ (request_words ws)
    (λ r us h. then_took (λ y. Unit {0}) (Every AsksWords) (take_end us) _ (any _) (λ y vs z. (h, tt)))))

lines_words : (acc : List Request) (ls : Lines) → Every AsksWords acc → OkHolds (Every AsksWords) (read_lines acc ls)
unfolding read_lines
lines_words acc (last at bs) h = then_ok (Every AsksWords) (Every AsksWords) (read_line at bs) _ (script_line_words at bs) (λ new g. every_append AsksWords acc new h g)
lines_words acc (line at bs ls) h = then_ok (Every AsksWords) (Every AsksWords) (read_line at bs) _ (script_line_words at bs) (λ new g. lines_words (acc ++ new) ls (every_append AsksWords acc new h g))

pub script_words : (script : List ℕ) (rs : List Request) → read_script script ≡ Ok rs → Every AsksWords rs
unfolding read_script
script_words script rs e = subst (OkHolds (Every AsksWords)) e (lines_words [] (lines_on 0 [] script) tt)

pub inputs_after_words : (s : Store) (is : List Input) → Words s → Every (λ (x : Input). x.value < 65536) is → Words (inputs_after s is)
unfolding inputs_after
inputs_after_words s [] w h = w
inputs_after_words s (i ∷ is) w h = inputs_after_words (cond (ltb i.variable 64) (update s i.variable i.value) s) is (λ j. way (ltb i.variable 64) j) h.1
  where
    way : (b : Bool) (j : ℕ) → cond b (update s i.variable i.value) s j < 65536
    way true j = either _ _ _ h.0 (w j)
    way false j = w j
