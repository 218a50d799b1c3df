-- A script played: what is told of each of its lines. It knows no code, no machine, no slots, no stamps and no memory layout. Assumes nothing: these are definitions.
use Rattle.std.specs.Prelude.{ℕ, zero, suc, cond, not, ◌&&◌, List, [], ◌∷◌, ◌++◌, Some, None, Option, ◌==◌, nat_le}
use Rattle.std.specs.List.{flat_map}
use Rattle.base.specs.Stores.{Store}
use Rattle.base.specs.Refusals.{unless}
use Rattle.controller.specs.World.{Project, Live, Event, start as started_up, scan as scanned_once, cut as cut_off, force as forced_to, free as freed, outputs}
use Rattle.controller.specs.Story.{Tale, Decision, as_made, tell}
use Rattle.controller.specs.History.{after}
use Rattle.controller.specs.Decided.{decide}
use Rattle.scripts.specs.Script.{Request, start, scan, cut, force, free, inputs_after}
use Rattle.reports.specs.declared.report.Setting.{Setting}
use Rattle.reports.specs.Reports.{Said, started, scanned, refused, said_text}

-- the tale so far, what was last said of each input, and what each variable last showed
pub record Scene : Type 0 where
  pub tale : Tale
  pub outside : Store
  pub shown : Store

-- before the first line: as it leaves the factory, nothing said, nothing shown
abbrev pub opening : Project → Scene
opening p = record { tale = as_made p; outside = λ i. 0; shown = λ i. 0 }

-- why a line is refused, by the first check that fails; its place in the list of refusals, and which of several
unfoldable pub line_refusal : Live → Request → Option (ℕ × ℕ)
line_refusal l start = None
line_refusal l (scan elapsed inputs) = unless l.on 6 0 (unless (nat_le elapsed 65535) 7 0 None)
line_refusal l (cut elapsed at junk inputs) = unless l.on 6 0 (unless (nat_le elapsed 65535) 7 0 None)
line_refusal l (force point number) = unless l.on 6 0 (unless (nat_le point 63) 9 0 (unless (nat_le number 65535) 9 1 None))
line_refusal l (free point) = unless l.on 6 0 (unless (nat_le point 63) 9 0 None)

-- one thing of what is refused, with its number and place, and another of what is taken
abbrev pub by_refusal : {A : Type 0} → Option (ℕ × ℕ) → (of-refused : ℕ → ℕ → A) → (of-taken : A) → A
by_refusal (Some why) of-refused of-taken = of-refused why.0 why.1
by_refusal None of-refused of-taken = of-taken

-- what was last said of each input once a line was read, also one that is refused
abbrev pub said_inputs : Store → Request → Store
said_inputs before start = before
said_inputs before (scan elapsed inputs) = inputs_after before inputs
said_inputs before (cut elapsed at junk inputs) = inputs_after before inputs
said_inputs before (force point number) = before
said_inputs before (free point) = before

-- what happens to the controller by a line that is taken, after what was said of the inputs before it
abbrev pub event_of : Store → Request → Event
event_of before start = started_up
event_of before (scan elapsed inputs) = scanned_once (inputs_after before inputs) elapsed
event_of before (cut elapsed at junk inputs) = cut_off (inputs_after before inputs) elapsed at junk
event_of before (force point number) = forced_to point number
event_of before (free point) = freed point

-- the variables i, i + 1, .., n of them, with their values
unfoldable pub values_from : (i n : ℕ) → Store → List Setting
values_from i zero values = []
values_from i (suc n) values = record { variable = i; value = values i } ∷ values_from (suc i) n values

-- those of them whose value is another than it was before
unfoldable pub changed_from : (i n : ℕ) → (before values : Store) → List Setting
changed_from i zero before values = []
changed_from i (suc n) before values =
    cond (values i == before i) (changed_from (suc i) n before values)
    (record { variable = i; value = values i } ∷ changed_from (suc i) n before values)

-- what each variable shows after a line that is taken: at a start its value, after a scan what goes out
abbrev pub showing : Request → Live → (before : Store) → Store
showing start l before = l.store
showing (scan elapsed inputs) l before = outputs l
showing (cut elapsed at junk inputs) l before = before
showing (force point number) l before = before
showing (free point) l before = before

-- what is told of a line that is taken, by what it made of the controller: after a start every kept variable, after a scan each variable of
-- the 64 that shows another value than it last showed, and the lamp if it went on
abbrev pub telling : Project → Request → (was l : Live) → (shown : Store) → List Said
telling p start was l shown = started (values_from 0 p.kept l.store) ∷ []
telling p (scan elapsed inputs) was l shown = scanned (changed_from 0 64 shown (outputs l)) (not was.lamp && l.lamp) ∷ []
telling p (cut elapsed at junk inputs) was l shown = []
telling p (force point number) was l shown = []
telling p (free point) was l shown = []

-- what a line makes of a scene; one that is refused changes nothing but what was said of the inputs
unfoldable pub act : Project → Request → Decision → Scene → Scene
act p r d s =
    record {
      tale = by_refusal (line_refusal s.tale.live r) (λ _ _. s.tale) (tell p (event_of s.outside r) d s.tale);
      outside = said_inputs s.outside r;
      shown = by_refusal (line_refusal s.tale.live r) (λ _ _. s.shown) (showing r (tell p (event_of s.outside r) d s.tale).live s.shown);
    }

-- what is told of it
unfoldable pub report : Project → Request → Decision → Scene → List Said
report p r d s =
    by_refusal (line_refusal s.tale.live r) (λ number place. refused number place ∷ [])
    (telling p r s.tale.live (tell p (event_of s.outside r) d s.tale).live s.shown)

-- what is told of lines, one after another, each with what is decided of it
unfoldable pub plays : Project → Scene → List (Request × Decision) → List Said
plays p s [] = []
plays p s (x ∷ xs) = report p x.0 x.1 s ++ plays p (act p x.0 x.1 s) xs

-- the events that were taken, the latest first, once a line was read
unfoldable pub taken : Project → List Event → Store → Request → List Event
taken p es outside r = by_refusal (line_refusal (after p es).live r) (λ _ _. es) (event_of outside r ∷ es)

-- what the device decides of each line, in its state after the events taken before it: of a cut once, and never anew
unfoldable pub decisions : Project → List Event → (outside : Store) → List Request → List Decision
decisions p es outside [] = []
decisions p es outside (r ∷ rs) =
    decide p (event_of outside r) (after p es) ∷ decisions p (taken p es outside r) (said_inputs outside r) rs

-- each line with its decision
unfoldable pub zip : List Request → List Decision → List (Request × Decision)
zip [] ds = []
zip (r ∷ rs) [] = []
zip (r ∷ rs) (d ∷ ds) = (r, d) ∷ zip rs ds

-- what is told of a script, from the factory on
abbrev pub tells : Project → List Request → List Said
tells p rs = plays p (opening p) (zip rs (decisions p [] (λ i. 0) rs))

-- its text
abbrev pub played : Project → List Request → List ℕ
played p rs = flat_map said_text (tells p rs)
