-- A script played line by line: what was told so far, and what is still to be told.
use Rattle.std.proofs.Common.{◌≡◌, ℕ, suc, ◌+◌, ◌^◌, ◌<◌, ◌≤◌, List, [], ◌∷◌, ◌++◌, map, length, get_or, drop, replicate, Some, None, Ok, Err, Option, Result, sym, ap, ◌∙◌, ap₂, ⊎_elim, append_assoc, append-nil, arith}
use mathlib.Core.Path.{fun_ext}
use Rattle.std.proofs.lemmas.List.{drop_more, drop_all, get_or-replicate, get_or_past, length-replicate}
use Rattle.std.proofs.lemmas.Bool.{cases_lt}
use Rattle.base.specs.Stores.{Store, cells}
use Rattle.base.specs.Refusals.{Answered, number_of, place_of}
use Rattle.base.specs.declared.Refusal.{Refusal}
use Rattle.base.proofs.Checks.{not_both}
use Rattle.semantics.specs.Eval.{Program}
use Rattle.compiler.specs.Right.{Compiled}
use Rattle.controller.specs.World.{Project, Event}
use Rattle.controller.specs.Story.{as_made, tale}
use Rattle.controller.specs.Decided.{decided}
use Rattle.controller.specs.Memory.{project, StandsFor}
use Rattle.controller.specs.Entries.{New}
use Rattle.scripts.specs.declared.script.Event.{Event as Line}
use Rattle.scripts.specs.Script.{Request, request}
use Rattle.reports.specs.Reports.{Said}
use Rattle.project.specs.Play.{by_refusal, said_inputs, event_of, act, plays, taken, decisions, zip, tells}
use Rattle.project.specs.Running.{scene_of, Went, Goes, Told}

-- what lines tell after a history
abbrev still : Project → List Event → (outside shown : List ℕ) → List Request → List Said
still p es outside shown rs = plays p (scene_of p es outside shown) (zip rs (decisions p es (cells outside) rs))

-- after i lines: the events that were taken, and what was told, with what is still to be told
pub record Sofar (p : Project) (lines : List Line) (i : ℕ) (memory outside shown : List ℕ) (out : List Said) : Type 0 where
  pub events : List Event
  pub few : length events ≤ i
  pub stands : StandsFor p memory events
  pub whole : tells p (map request lines) ≡ out ++ still p events outside shown (map request (drop i lines))

-- so it is for every program that the code is right for
abbrev pub PlayedTo : (kept : ℕ) → (inputs firsts code : List ℕ) → List Line → (i : ℕ) → (memory outside shown : List ℕ) → List Said → Type 0
PlayedTo kept inputs firsts code lines i memory outside shown out =
    (means : Program) → Compiled 64 means code → Sofar (project kept inputs firsts means) lines i memory outside shown out

long_zeros : (n : ℕ) → length {A = ℕ} (replicate n 0) ≡ n
long_zeros n = length-replicate n 0

zeros : (n : ℕ) → cells (replicate n 0) ≡ λ i. 0
zeros n = fun_ext (λ i. ⊎_elim
    (λ (h : i < n). get_or-replicate n i 0 0 h)
    (λ (h : n ≤ i). get_or_past (replicate n 0) i 0 (omega (arith, long_zeros n)))
    (cases_lt i n))

-- what is not refused was done
pub done_of : {A : Type 0} (r : Result A Refusal) (why : Option (ℕ × ℕ)) (P : A → Type 0) (U Q : Type 0) → why ≡ None → Answered r why P U → ((x : A) → P x → Q) → Q
done_of (Ok x) why P U Q e h f = f x h.1
done_of (Err r) why P U Q e h f = absurd (not_both why (number_of r, place_of r) e h.0)

pub played_none : (kept : ℕ) (inputs firsts code : List ℕ) (lines : List Line) (memory outside shown : List ℕ) (out : List Said) →
    New kept firsts memory → outside ≡ replicate 64 0 → shown ≡ replicate 64 0 → out ≡ [] → PlayedTo kept inputs firsts code lines 0 memory outside shown out
unfolding tale decided
played_none kept inputs firsts code lines memory outside shown out new o s e means right = record {
  events = [];
  few = omega arith;
  stands = new.history inputs means;
  whole =
      let p = project kept inputs firsts means in
      let rs = map request lines in
      let a : cells outside ≡ (λ i. 0) = ap cells o ∙ zeros 64 in
      let b : cells shown ≡ (λ i. 0) = ap cells s ∙ zeros 64 in
      ap₂ (λ (x y : Store). plays p (record { tale = as_made p; outside = x; shown = y }) (zip rs (decisions p [] x rs))) (sym a) (sym b)
      ∙ ap (λ l. l ++ still p [] outside shown rs) (sym e);
}

longer : (why : Option (ℕ × ℕ)) (e : Event) (es : List Event) → length (by_refusal why (λ _ _. es) (e ∷ es)) ≤ suc (length es)
longer None e es = omega arith
longer (Some w) e es = omega arith

taken_few : (p : Project) (es : List Event) (o : Store) (r : Request) → length (taken p es o r) ≤ suc (length es)
unfolding taken
taken_few p es o r = longer _ (event_of o r) es

-- a line is told, and then those after it
still_more : (p : Project) (es : List Event) (o sh m₁ o₁ sh₁ : List ℕ) (r : Request) (rs : List Request) (more : List Said) → Went p es r o sh m₁ o₁ sh₁ more →
    still p es o sh (r ∷ rs) ≡ more ++ still p (taken p es (cells o) r) o₁ sh₁ rs
unfolding plays zip decisions act
still_more p es o sh m₁ o₁ sh₁ r rs more went =
    let es₁ = taken p es (cells o) r in
    ap₂ (λ l s. l ++ plays p s (zip rs (decisions p es₁ (said_inputs (cells o) r) rs))) (sym went.says) went.scene
    ∙ ap (λ (x : Store). more ++ plays p (scene_of p es₁ o₁ sh₁) (zip rs (decisions p es₁ x rs))) (ap (λ s. s.outside) went.scene)

pub played_more : (kept : ℕ) (inputs firsts code : List ℕ) (lines : List Line) (i : ℕ) (m o sh m₁ o₁ sh₁ : List ℕ) (x : Line) (out more new : List Said) →
    i < length lines → length lines < 2 ^ 61 → x ≡ get_or lines i x → Goes kept inputs firsts code (request x) m o sh m₁ o₁ sh₁ more → new ≡ out ++ more →
    PlayedTo kept inputs firsts code lines i m o sh out → PlayedTo kept inputs firsts code lines (i + 1) m₁ o₁ sh₁ new
played_more kept inputs firsts code lines i m o sh m₁ o₁ sh₁ x out more new inside short at goes grown inv means right =
    let p = project kept inputs firsts means in
    let was = inv means right in
    let es = was.events in
    let low : length es ≤ i = was.few in
    let went = goes means right es (omega arith) was.stands in
    let rest = map request (drop (i + 1) lines) in
    record {
      events = taken p es (cells o) (request x);
      few = omega (arith, taken_few p es (cells o) (request x));
      stands = went.stands;
      whole =
          was.whole
          ∙ ap (λ l. out ++ still p es o sh (map request l)) (drop_more lines i x inside)
          ∙ ap (λ y. out ++ still p es o sh (request y ∷ rest)) (sym at)
          ∙ ap (λ l. out ++ l) (still_more p es o sh m₁ o₁ sh₁ (request x) rest more went)
          ∙ sym (append_assoc out more (still p (taken p es (cells o) (request x)) o₁ sh₁ rest))
          ∙ ap (λ l. l ++ still p (taken p es (cells o) (request x)) o₁ sh₁ rest) (sym grown);
    }

pub played_all : (kept : ℕ) (inputs firsts code : List ℕ) (lines : List Line) (i : ℕ) (m o sh : List ℕ) (out : List Said) →
    length lines ≤ i → PlayedTo kept inputs firsts code lines i m o sh out → Told kept inputs firsts code lines out
unfolding plays zip
played_all kept inputs firsts code lines i m o sh out past inv means right =
    let p = project kept inputs firsts means in
    let was = inv means right in
    sym (was.whole ∙ ap (λ l. out ++ still p was.events o sh (map request l)) (drop_all i lines past) ∙ append-nil out)
