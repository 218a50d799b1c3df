-- What each entry of the controller does is what the story tells of the line that called it.
use Rattle.std.proofs.Common.{◌≡◌, ℕ, ◌≤◌, min, Bool, not, ◌&&◌, eqb, List, [], ◌∷◌, map, length, get_or, take, replicate, Some, None, Ok, Err, Option, Result, sym, refl, ap, ◌∙◌, subst, ap₂, arith}
use Rattle.std.specs.Option.{MatchOption, IsSomeAnd, option_to_list}
use Rattle.std.specs.Result.{result_err}
use Rattle.std.proofs.lemmas.List.{length-take-le, length-replicate}
use Rattle.base.specs.Stores.{cells, region}
use Rattle.base.specs.Refusals.{Answered, number_of, place_of}
use Rattle.base.specs.declared.Refusal.{Refusal}
use Rattle.retain.specs.Device.{cell_count}
use Rattle.controller.specs.World.{Project, scan as scanned_once, cut as cut_off, force as forced_to, free as freed, outputs}
use Rattle.controller.specs.Layout.{memory_length}
use Rattle.controller.specs.Memory.{live_in, project, StandsFor}
use Rattle.controller.specs.Requests.{force_refusal, free_refusal, scan_refusal, cut_refusal}
use Rattle.controller.specs.Entries.{EachMeaning, Follows, Started, Forced, Freed, Scanned, CutOff}
use Rattle.scripts.specs.Script.{start, scan, cut, force, free}
use Rattle.reports.specs.declared.report.Setting.{Setting}
use Rattle.reports.specs.declared.report.Report.{Report}
use Rattle.reports.specs.Reports.{Said, said, started, scanned, refused}
use Rattle.project.specs.Play.{line_refusal, values_from, changed_from}
use Rattle.project.specs.Running.{Goes, GoesNoted}
use Rattle.project.proofs.Stamps.{stamp_low}
use Rattle.project.proofs.Whys.{free_why, force_why, scan_why, cut_why}
use Rattle.project.proofs.Scenes.{after_live, line_taken, line_refused}

store_is : (m : List ℕ) → (live_in m).store ≡ region m 0 64
unfolding live_in
store_is m = refl

lamp_is : (m : List ℕ) → (live_in m).lamp ≡ eqb (get_or m 193 0) 1
unfolding live_in
lamp_is m = refl

-- what is told of a refusal
abbrev pub told_as : Refusal → Said
told_as e = refused (number_of e) (place_of e)

-- what is told of an answer: its refusal, if it has one
abbrev pub told_of : {A : Type 0} → Result A Refusal → List Said
told_of r = map told_as (option_to_list (result_err r))

-- and what `.err().map(refused)` makes of it
pub told_so : {A : Type 0} (Q : Refusal → Report → Type 0) (r : Result A Refusal) (e : Option Refusal) (o : Option Report) → ((x : Refusal) (y : Report) → Q x y → said y ≡ refused (number_of x) (place_of x)) →
    e ≡ result_err r → MatchOption e (o ≡ None) (λ x. IsSomeAnd o (Q x)) → told_of r ≡ map said (option_to_list o)
told_so Q r None o is same h = ap (λ x. map told_as (option_to_list x)) (sym same) ∙ sym (ap (λ x. map said (option_to_list x)) h)
told_so Q r (Some x) None is same h = absurd h
told_so Q r (Some x) (Some y) is same h = ap (λ z. map told_as (option_to_list z)) (sym same) ∙ ap (λ z. z ∷ []) (sym (is x y h))

-- how long the part of the room for writes is
pub room_long : (k n : ℕ) → k ≤ 64 → n ≡ cell_count (min k 64) → length {A = ℕ} (take n (replicate 132 0)) ≡ cell_count k
room_long k n h e =
    let all : min k 64 ≡ k = omega arith in
    let part : n ≡ cell_count k = e ∙ ap cell_count all in
    let z : length {A = ℕ} (replicate 132 0) ≡ 132 = length-replicate {A = ℕ} 132 0 in
    length-take-le {A = ℕ} n (replicate 132 0) (omega arith) ∙ part

-- a start is never refused
never : (m : List ℕ) → line_refusal (live_in m) start ≡ None
unfolding line_refusal
never m = refl

module _ (kept : ℕ) (low : kept ≤ 64) (m : List ℕ) (size : length m ≡ memory_length kept) (m₁ : List ℕ) (told : List Said) where
  module _ (e : Refusal) (same : m₁ ≡ m) (tells : told ≡ refused (number_of e) (place_of e) ∷ []) (inputs firsts code outside shown : List ℕ) where
    force_refused : (point number : ℕ) → force_refusal kept point number m ≡ Some (number_of e, place_of e) → Goes kept inputs firsts code (force point number) m outside shown m₁ outside shown told
    force_refused point number why means right es few h =
        line_refused (project kept inputs firsts means) es (force point number) outside shown m h m₁ outside shown refl (number_of e) (place_of e) (sym (force_why kept low m size point number) ∙ why) same refl told tells

    free_refused : (point : ℕ) → free_refusal kept point m ≡ Some (number_of e, place_of e) → Goes kept inputs firsts code (free point) m outside shown m₁ outside shown told
    free_refused point why means right es few h =
        line_refused (project kept inputs firsts means) es (free point) outside shown m h m₁ outside shown refl (number_of e) (place_of e) (sym (free_why kept low m size point) ∙ why) same refl told tells

  module _ (tells : told ≡ []) (inputs firsts code outside shown : List ℕ) where
    force_taken : (point number : ℕ) → force_refusal kept point number m ≡ None → ((p : Project) → Follows p (forced_to point number) m m₁) → Goes kept inputs firsts code (force point number) m outside shown m₁ outside shown told
    force_taken point number why follows means right es few h =
        line_taken (project kept inputs firsts means) es (force point number) outside shown m h m₁ outside shown refl (sym (force_why kept low m size point number) ∙ why) ((follows (project kept inputs firsts means)).history es h) refl told tells

    free_taken : (point : ℕ) → free_refusal kept point m ≡ None → ((p : Project) → Follows p (freed point) m m₁) → Goes kept inputs firsts code (free point) m outside shown m₁ outside shown told
    free_taken point why follows means right es few h =
        line_taken (project kept inputs firsts means) es (free point) outside shown m h m₁ outside shown refl (sym (free_why kept low m size point) ∙ why) ((follows (project kept inputs firsts means)).history es h) refl told tells

  module _ (inputs firsts code outside : List ℕ) (i : length inputs ≡ 64) (f : length firsts ≡ 64) (o : length outside ≡ 64) (elapsed : ℕ) where
    cut_refused : (at junk : ℕ) (e : Refusal) → m₁ ≡ m → told ≡ refused (number_of e) (place_of e) ∷ [] → cut_refusal kept inputs firsts outside elapsed m ≡ Some (number_of e, place_of e) →
        (shown : List ℕ) → GoesNoted kept inputs firsts code (cut elapsed at junk) m outside shown m₁ shown told
    cut_refused at junk e same tells why shown before named noted means right es few h =
        let p = project kept inputs firsts means in
        line_refused p es (cut elapsed at junk named) before shown m h m₁ outside shown noted (number_of e) (place_of e)
        (sym (cut_why kept low m size inputs firsts outside i f o (stamp_low p es m h few) elapsed at junk named) ∙ why) same refl told tells

    cut_taken : (at junk : ℕ) → told ≡ [] → cut_refusal kept inputs firsts outside elapsed m ≡ None → EachMeaning code (λ q. CutOff (project kept inputs firsts q) (cells outside) elapsed at junk m m₁) →
        (shown : List ℕ) → GoesNoted kept inputs firsts code (cut elapsed at junk) m outside shown m₁ shown told
    cut_taken at junk tells why each shown before named noted means right es few h =
        let p = project kept inputs firsts means in
        line_taken p es (cut elapsed at junk named) before shown m h m₁ outside shown noted
        (sym (cut_why kept low m size inputs firsts outside i f o (stamp_low p es m h few) elapsed at junk named) ∙ why)
        (subst (λ x. StandsFor p m₁ (cut_off x elapsed at junk ∷ es)) noted ((each.right means right).follows.history es h)) refl told tells

    module _ (out writes : List ℕ) (a : length out ≡ 64) (b : length writes ≡ cell_count kept) (shown shown₁ : List ℕ) where
      pub scan_refused : (e : Refusal) → m₁ ≡ m → shown₁ ≡ shown → told ≡ refused (number_of e) (place_of e) ∷ [] → scan_refusal kept inputs firsts outside elapsed m out writes ≡ Some (number_of e, place_of e) →
          GoesNoted kept inputs firsts code (scan elapsed) m outside shown m₁ shown₁ told
      scan_refused e same still tells why before named noted means right es few h =
          let p = project kept inputs firsts means in
          line_refused p es (scan elapsed named) before shown m h m₁ outside shown₁ noted (number_of e) (place_of e)
          (sym (scan_why kept low m size inputs firsts outside i f o (stamp_low p es m h few) elapsed out writes a b named) ∙ why) same still told tells

      pub scan_taken : (out₁ writes₁ : List ℕ) (n : ℕ) (changed : List Setting) (lamp : Bool) → EachMeaning code (λ q. Scanned (project kept inputs firsts q) (cells outside) elapsed m writes m₁ out₁ writes₁ n) →
          scan_refusal kept inputs firsts outside elapsed m out writes ≡ None →
          shown₁ ≡ out₁ → changed ≡ changed_from 0 64 (cells shown) (cells out₁) → lamp ≡ (not (eqb (get_or m 193 0) 1) && eqb (get_or m₁ 193 0) 1) → told ≡ scanned changed lamp ∷ [] →
          GoesNoted kept inputs firsts code (scan elapsed) m outside shown m₁ shown₁ told
      scan_taken out₁ writes₁ n changed lamp each why copied items lit tells before named noted means right es few h =
          let p = project kept inputs firsts means in
          let done = each.right means right in
          let stands : StandsFor p m₁ (scanned_once (cells outside) elapsed ∷ es) = done.follows.history es h in
          let shows : cells out₁ ≡ outputs (live_in m₁) = done.history es h ∙ ap outputs (after_live p (scanned_once (cells outside) elapsed ∷ es) m₁ stands) in
          line_taken p es (scan elapsed named) before shown m h m₁ outside shown₁ noted
          (sym (scan_why kept low m size inputs firsts outside i f o (stamp_low p es m h few) elapsed out writes a b named) ∙ why)
          (subst (λ x. StandsFor p m₁ (scanned_once x elapsed ∷ es)) noted stands)
          (ap cells copied ∙ shows) told
          (tells ∙ ap₂ (λ x y. scanned x y ∷ []) (items ∙ ap (changed_from 0 64 (cells shown)) shows) (lit ∙ sym (ap₂ (λ x y. not x && y) (lamp_is m) (lamp_is m₁))))

module _ (kept : ℕ) (m m₁ firsts shown shown₁ values : List ℕ) (told : List Said) (settings : List Setting) where
  pub start_taken : Started kept firsts m m₁ → cells values ≡ region m₁ 0 64 → shown₁ ≡ values → settings ≡ values_from 0 kept (cells values) → told ≡ started settings ∷ [] →
      (inputs code outside : List ℕ) → Goes kept inputs firsts code start m outside shown m₁ outside shown₁ told
  start_taken done found copied items tells inputs code outside means right es few h =
      line_taken (project kept inputs firsts means) es start outside shown m h m₁ outside shown₁ refl (never m)
      ((done.follows inputs means).history es h) (ap cells copied ∙ found ∙ sym (store_is m₁)) told
      (tells ∙ ap (λ x. started x ∷ []) (items ∙ ap (values_from 0 kept) (found ∙ sym (store_is m₁))))

-- what is told of a force, a free and a cut, taken or refused
module _ (kept : ℕ) (low : kept ≤ 64) (m : List ℕ) (size : length m ≡ memory_length kept) (m₁ inputs firsts code outside : List ℕ) where
  pub force_goes : (shown : List ℕ) (point number : ℕ) (r : Result ℕ Refusal) → Answered r (force_refusal kept point number m) (λ n. (n ≡ 0) × Forced point number m m₁) (m₁ ≡ m) →
      Goes kept inputs firsts code (force point number) m outside shown m₁ outside shown (told_of r)
  force_goes shown point number (Ok n) h = force_taken kept low m size m₁ [] refl inputs firsts code outside shown point number h.0 h.1.1.follows
  force_goes shown point number (Err e) h = force_refused kept low m size m₁ (refused (number_of e) (place_of e) ∷ []) e h.1 refl inputs firsts code outside shown point number h.0

  pub free_goes : (shown : List ℕ) (point : ℕ) (r : Result ℕ Refusal) → Answered r (free_refusal kept point m) (λ n. (n ≡ 0) × Freed point m m₁) (m₁ ≡ m) →
      Goes kept inputs firsts code (free point) m outside shown m₁ outside shown (told_of r)
  free_goes shown point (Ok n) h = free_taken kept low m size m₁ [] refl inputs firsts code outside shown point h.0 h.1.1.follows
  free_goes shown point (Err e) h = free_refused kept low m size m₁ (refused (number_of e) (place_of e) ∷ []) e h.1 refl inputs firsts code outside shown point h.0

  module _ (i : length inputs ≡ 64) (f : length firsts ≡ 64) (o : length outside ≡ 64) (elapsed at junk : ℕ) where
    pub cut_goes : (r : Result ℕ Refusal) →
        Answered r (cut_refusal kept inputs firsts outside elapsed m) (λ n. (n ≡ 0) × EachMeaning code (λ q. CutOff (project kept inputs firsts q) (cells outside) elapsed at junk m m₁)) (m₁ ≡ m) →
        (shown : List ℕ) → GoesNoted kept inputs firsts code (cut elapsed at junk) m outside shown m₁ shown (told_of r)
    cut_goes (Ok n) h = cut_taken kept low m size m₁ [] inputs firsts code outside i f o elapsed at junk refl h.0 h.1.1
    cut_goes (Err e) h = cut_refused kept low m size m₁ (refused (number_of e) (place_of e) ∷ []) inputs firsts code outside i f o elapsed at junk e h.1 refl h.0
