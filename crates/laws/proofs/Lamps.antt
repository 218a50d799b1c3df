-- A lamp that is lit stays lit until a start or a cut.
use Rattle.std.proofs.Common.{◌≡◌, ℕ, ◌<◌, Bool, true, cond, List, [], ◌∷◌, ◌++◌, sym, refl, ap, ◌∙◌, subst, arith}
use Rattle.std.proofs.lemmas.Bool.{cond-true}
use Rattle.base.specs.Words.{bit, truthy}
use Rattle.semantics.proofs.Faulted.{first_fault_stays}
use Rattle.syntax.specs.Ast.{Stmt}
use Rattle.controller.specs.World.{Event, start, scan, cut, force, free, given, executed, scanned, forced_at, freed_at}
use Rattle.controller.specs.History.{State, react, after}
use Rattle.controller.specs.Promises.{Each}
use Rattle.headers.specs.Header.{Plan}
use Rattle.project.specs.Loading.{project_of}
use Rattle.laws.specs.Histories.{KeepsPower, LampStays}

module _ (h : Plan) (s : Stmt) where
  record Lit (t : State) : Type 0 where
    on : t.live.on ≡ true
    lamp : t.live.lamp ≡ true

  -- a scan is given the fault, and makes no other of it
  fault_stays : (t : State) → Lit t → (f : ℕ → ℕ) (elapsed : ℕ) → (executed (project_of h s) t.live f elapsed).fault ≡ 1
  unfolding executed
  fault_stays t l f elapsed =
      let g = given (project_of h s).input t.live f in
      let is : g.fault ≡ 1 = ap bit l.lamp in
      let some : 0 < g.fault = omega arith in
      first_fault_stays elapsed 0 s g some ∙ is

  with_power : (b : Bool) (x y : State) → b ≡ true → Lit x → Lit (cond b x y)
  with_power b x y e l = subst Lit (sym (cond-true b x y e)) l

  event_lit : (t : State) → Lit t → (e : Event) → KeepsPower e → Lit (react (project_of h s) e t)
  unfolding react scanned forced_at freed_at
  event_lit t l start g = absurd g
  event_lit t l (scan f elapsed) g = with_power t.live.on _ t l.on (record { on = refl; lamp = ap truthy (fault_stays t l f elapsed) })
  event_lit t l (cut f elapsed k junk) g = absurd g
  event_lit t l (force i v) g = with_power t.live.on _ t l.on (record { on = refl; lamp = l.lamp })
  event_lit t l (free i) g = with_power t.live.on _ t l.on (record { on = refl; lamp = l.lamp })

  after_lit : (es gs : List Event) → Lit (after (project_of h s) es) → Each KeepsPower gs → Lit (after (project_of h s) (gs ++ es))
  unfolding after
  after_lit es [] l g = l
  after_lit es (e ∷ gs) l g = event_lit (after (project_of h s) (gs ++ es)) (after_lit es gs l g.1) e g.0

pub lamp_stays : LampStays
lamp_stays h s es gs on lit g = (after_lit h s es gs (record { on = on; lamp = lit }) g).lamp
