-- What is told of a script's first lines does not hang on the lines after them.
use Rattle.std.proofs.Common.{◌≡◌, List, [], ◌∷◌, ◌++◌, sym, refl, ap, ◌∙◌, append_assoc}
use Rattle.std.specs.List.{flat_map}
use Rattle.base.specs.Stores.{Store}
use Rattle.controller.specs.World.{Project, Event}
use Rattle.controller.specs.History.{after}
use Rattle.controller.specs.Decided.{decide}
use Rattle.scripts.specs.Script.{Request}
use Rattle.reports.specs.Reports.{Said, said_text}
use Rattle.project.specs.Play.{Scene, opening, said_inputs, event_of, act, report, plays, taken, decisions, zip, tells}
use Rattle.laws.specs.Texts.{ToldInOrder}

joined_append : {X A : Type 0} (f : X → List A) (xs ys : List X) → flat_map f (xs ++ ys) ≡ flat_map f xs ++ flat_map f ys
joined_append f [] ys = refl
joined_append f (x ∷ xs) ys = ap (λ l. f x ++ l) (joined_append f xs ys) ∙ sym (append_assoc (f x) (flat_map f xs) (flat_map f ys))

plays_append : (p : Project) (rs qs : List Request) (es : List Event) (o : Store) (s : Scene) →
    (more : List Said) × (plays p s (zip (rs ++ qs) (decisions p es o (rs ++ qs))) ≡ plays p s (zip rs (decisions p es o rs)) ++ more)
unfolding plays zip decisions
plays_append p [] qs es o s = (plays p s (zip qs (decisions p es o qs)), refl)
plays_append p (r ∷ rs) qs es o s =
    let d = decide p (event_of o r) (after p es) in
    let rest = plays_append p rs qs (taken p es o r) (said_inputs o r) (act p r d s) in
    (rest.0, ap (λ l. report p r d s ++ l) rest.1 ∙ sym (append_assoc (report p r d s) _ rest.0))

pub told_in_order_lem : ToldInOrder
told_in_order_lem p rs qs =
    let t = plays_append p rs qs [] (λ i. 0) (opening p) in
    (flat_map said_text t.0, ap (flat_map said_text) t.1 ∙ joined_append said_text (tells p rs) t.0)
