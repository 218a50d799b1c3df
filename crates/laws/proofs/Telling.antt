-- Every value that is told of a script is a word.
use Rattle.std.proofs.Common.{◌≡◌, ℕ, zero, suc, ◌<◌, Bool, true, false, cond, eqb, leb, List, [], ◌∷◌, Some, None, Option, sym, refl, ap, ◌∙◌, subst, arith}
use Rattle.std.proofs.lemmas.Bool.{leb-true}
use Rattle.base.specs.Stores.{Store}
use Rattle.base.proofs.Checks.{passed}
use Rattle.controller.specs.World.{Project, Live, Event, outputs}
use Rattle.controller.specs.Story.{as_made, tale}
use Rattle.controller.specs.History.{after}
use Rattle.controller.specs.Decided.{decided}
use Rattle.controller.specs.Promises.{Words, Each, BringsWords, KeepsWords}
use Rattle.controller.proofs.Survival.{survives}
use Rattle.controller.proofs.WordLaws.{words_stay}
use Rattle.scripts.specs.Script.{Request, start, scan, cut, force, free}
use Rattle.reports.specs.declared.report.Setting.{Setting}
use Rattle.project.specs.Play.{Scene, line_refusal, said_inputs, event_of, values_from, changed_from, telling, act, report, plays, taken, decisions, zip}
use Rattle.project.specs.Loading.{project_of}
use Rattle.laws.specs.Texts.{Every, SaysWords, ToldWords}
use Rattle.laws.proofs.Words.{words_of_words_lem}
use Rattle.laws.proofs.Readers.{AsksWords, every_append, firsts_words, script_words, inputs_after_words}
use Rattle.laws.proofs.Taken.{literals}

abbrev SetWords : List Setting → Type 0
SetWords l = Every (λ (x : Setting). x.value < 65536) l

values_words : (i n : ℕ) (s : Store) → Words s → SetWords (values_from i n s)
unfolding values_from
values_words i zero s w = tt
values_words i (suc n) s w = (w i, values_words (suc i) n s w)

changed_words : (i n : ℕ) (before s : Store) → Words s → SetWords (changed_from i n before s)
unfolding changed_from
changed_words i zero before s w = tt
changed_words i (suc n) before s w = way (eqb (s i) (before i)) (changed_words (suc i) n before s w)
  where
    way : (b : Bool) → SetWords (changed_from (suc i) n before s) → SetWords (cond b (changed_from (suc i) n before s) (record { variable = i; value = s i } ∷ changed_from (suc i) n before s))
    way true h = h
    way false h = (w i, h)

said_words : (o : Store) (r : Request) → Words o → AsksWords r → Words (said_inputs o r)
said_words o start w h = w
said_words o (scan elapsed inputs) w h = inputs_after_words o inputs w h
said_words o (cut elapsed at junk inputs) w h = inputs_after_words o inputs w h
said_words o (force point number) w h = w
said_words o (free point) w h = w

-- a line that is taken brings words
brought : (l : Live) (o : Store) (r : Request) → Words o → AsksWords r → line_refusal l r ≡ None → BringsWords (event_of o r)
unfolding line_refusal
brought l o start w h t = tt
brought l o (scan elapsed inputs) w h t = inputs_after_words o inputs w h
brought l o (cut elapsed at junk inputs) w h t = inputs_after_words o inputs w h
brought l o (force point number) w h t =
    let on = (passed l.on 6 0 _ t).1 in
    let number_ok = (passed (leb point 63) 9 0 _ on).1 in
    omega (arith, leb-true number 65535 (passed (leb number 65535) 9 1 None number_ok).0)
brought l o (free point) w h t = tt

module _ (p : Project) (first : Words p.initial) (makes : KeepsWords p.program) where
  telling_words : (r : Request) (was l : Live) (shown : Store) → Words l.store → Words (outputs l) → Every SaysWords (telling p r was l shown)
  telling_words start was l shown v o = (values_words 0 p.kept l.store v, tt)
  telling_words (scan elapsed inputs) was l shown v o = (changed_words 0 64 shown (outputs l) o, tt)
  telling_words (cut elapsed at junk inputs) was l shown v o = tt
  telling_words (force point number) was l shown v o = tt
  telling_words (free point) was l shown v o = tt

  -- the scene after a history
  abbrev scene : List Event → (outside shown : Store) → Scene
  scene es o sh = record { tale = tale p (decided p es); outside = o; shown = sh }

  -- a line, and then those after it
  step_words : (es : List Event) (o sh : Store) (r : Request) (rs : List Request) → Each BringsWords es → Words o → AsksWords r →
      ((es' : List Event) (o' sh' : Store) → Each BringsWords es' → Words o' → Every SaysWords (plays p (scene es' o' sh') (zip rs (decisions p es' o' rs)))) →
      Every SaysWords (plays p (scene es o sh) (zip (r ∷ rs) (decisions p es o (r ∷ rs))))
  unfolding plays zip decisions report act taken tale decided
  step_words es o sh r rs b w h rest = way (line_refusal (after p es).live r) refl
    where
      e : Event
      e = event_of o r

      told : (why : Option (ℕ × ℕ)) → line_refusal (after p es).live r ≡ why → line_refusal (tale p (decided p es)).live r ≡ why
      told why q = ap (λ l. line_refusal l r) (sym (survives p es).lives) ∙ q

      way : (why : Option (ℕ × ℕ)) → line_refusal (after p es).live r ≡ why → Every SaysWords (plays p (scene es o sh) (zip (r ∷ rs) (decisions p es o (r ∷ rs))))
      way (Some x) q = rw (told (Some x) q, q) (tt, rest es (said_inputs o r) sh b (said_words o r w h))
      way None q =
          let brings : Each BringsWords (e ∷ es) = (brought (after p es).live o r w h q, b) in
          let all = words_stay p (e ∷ es) first makes brings in
          let live = (survives p (e ∷ es)).lives in
          rw (told None q, q)
          (every_append SaysWords _ _ (telling_words r _ _ sh (subst (λ (l : Live). Words l.store) live all.values) (subst (λ (l : Live). Words (outputs l)) live all.shown))
          (rest (e ∷ es) (said_inputs o r) _ brings (said_words o r w h)))

  plays_words : (rs : List Request) (es : List Event) (o sh : Store) → Each BringsWords es → Words o → Every AsksWords rs → Every SaysWords (plays p (scene es o sh) (zip rs (decisions p es o rs)))
  unfolding plays zip
  plays_words [] es o sh b w h = tt
  plays_words (r ∷ rs) es o sh b w h = step_words es o sh r rs b w h.0 (λ es' o' sh' b' w'. plays_words rs es' o' sh' b' w' h.1)

pub told_words_lem : ToldWords
unfolding as_made tale decided
told_words_lem text script h s rs t read =
    plays_words (project_of h s) (firsts_words text h t.parsed.read_up.header) (words_of_words_lem s (literals t)) rs [] (λ i. 0) (λ i. 0) tt (λ i. omega arith) (script_words script rs read)
