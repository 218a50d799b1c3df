-- What happens at a point that is neither read nor kept is not seen elsewhere.
use Rattle.std.proofs.Common.{◌≡◌, ℕ, zero, suc, ◌+◌, ◌<◌, ◌≤◌, Bool, true, false, cond, not, eqb, List, [], ◌∷◌, ◌++◌, sym, refl, ap, ◌∙◌, subst, ap₂, zero-add, arith}
use Rattle.base.specs.Stores.{Store, update}
use Rattle.base.specs.Words.{bit, truthy}
use Rattle.base.proofs.StoreLaws.{update_other}
use Rattle.retain.specs.declared.Write.{Write}
use Rattle.retain.specs.Device.{slot_base, current, stamp, recovered, value_writes, slot_writes, commit_writes, apply_writes, cut_writes}
use Rattle.semantics.specs.Eval.{Values}
use Rattle.controller.specs.World.{Project, Event, start, scan, cut, force, free, input_image, given, executed, output_image, outputs, started, scanned, forced_at, freed_at}
use Rattle.controller.specs.History.{State, save, react, factory, after}
use Rattle.project.specs.Loading.{project_of}
use Rattle.laws.specs.Language.{AgreeBut, AlikeBut}
use Rattle.laws.specs.Histories.{SameBut, same, scans, cuts, forces, HistoriesBut, none, more, LooksAlike, UnreadUnseen}
use Rattle.laws.proofs.Unread.{unread_is_nothing_lem}

-- a save writes the kept values alone
values_same : (from : ℕ) (v w : Store) (i n : ℕ) → ((j : ℕ) → j < i + n → v j ≡ w j) → value_writes from v i n ≡ value_writes from w i n
unfolding value_writes
values_same from v w i zero h = refl
values_same from v w i (suc n) h =
    ap₂ (λ (x : ℕ) (ws : List Write). record { cell = from + i; value = x } ∷ ws) (h i (omega arith)) (values_same from v w (suc i) n (λ j l. h j (omega arith)))

commit_same : (kept : ℕ) (d : Store) (v w : Store) → ((j : ℕ) → j < kept → v j ≡ w j) → commit_writes kept d v ≡ commit_writes kept d w
unfolding commit_writes slot_writes
commit_same kept d v w h =
    let from = slot_base kept (not (current kept d)) in
    let next = suc (stamp kept d) in
    ap (λ (ws : List Write). record { cell = from; value = next } ∷ (ws ++ (record { cell = from + 1 + kept; value = next } ∷ [])))
    (values_same (from + 1) v w 0 kept (λ j l. h j (omega arith)))

module _ (p : Project) (i : ℕ) (low : p.kept ≤ i) (blind : (elapsed : ℕ) (q r : Values) → AlikeBut i q r → AlikeBut i (p.program elapsed q) (p.program elapsed r)) where
  -- two states that agree but at i
  record Near (s t : State) : Type 0 where
    power : s.live.on ≡ t.live.on
    stores : AgreeBut i s.live.store t.live.store
    lamp : s.live.lamp ≡ t.live.lamp
    marks : (j : ℕ) → s.live.forced j ≡ t.live.forced j
    numbers : AgreeBut i s.live.force t.live.force
    device : s.device ≡ t.device

  by_power : (b c : Bool) (x x' y y' : State) → b ≡ c → Near x x' → Near y y' → Near (cond b x y) (cond c x' y')
  by_power b c x x' y y' e h g = rw e (way c)
    where
      way : (b : Bool) → Near (cond b x y) (cond b x' y')
      way true = h
      way false = g

  near_same : (s : State) → Near s s
  near_same s = record { power = refl; stores = λ j n. refl; lamp = refl; marks = λ j. refl; numbers = λ j n. refl; device = refl }

  module _ (s t : State) (h : Near s t) where
    made : (f g : ℕ → ℕ) (elapsed : ℕ) → AgreeBut i f g → AlikeBut i (executed p s.live f elapsed) (executed p t.live g elapsed)
    unfolding executed input_image
    made f g elapsed a =
        blind elapsed (given p.input s.live f) (given p.input t.live g)
        (record { stores = λ j n. (λ z. cond (h.marks j z) (h.numbers j n z) (cond (p.input j) (a j n z) (h.stores j n z))); faults = ap bit h.lamp })

    saves : (f g : ℕ → ℕ) (elapsed : ℕ) → AgreeBut i f g → save p s f elapsed ≡ save p t g elapsed
    saves f g elapsed a =
        commit_same p.kept s.device (executed p s.live f elapsed).store (executed p t.live g elapsed).store (λ j l. (made f g elapsed a).stores j (λ q. omega arith))
        ∙ ap (λ (d : Store). commit_writes p.kept d (executed p t.live g elapsed).store) h.device

    scan_near : (f g : ℕ → ℕ) (elapsed : ℕ) → AgreeBut i f g → Near (react p (scan f elapsed) s) (react p (scan g elapsed) t)
    unfolding react scanned
    scan_near f g elapsed a = by_power _ _ _ _ s t h.power (record {
      power = refl;
      stores = (made f g elapsed a).stores;
      lamp = ap truthy (made f g elapsed a).faults;
      marks = h.marks;
      numbers = h.numbers;
      device = ap₂ apply_writes h.device (saves f g elapsed a);
    }) h

    cut_near : (f g : ℕ → ℕ) (elapsed k junk : ℕ) → AgreeBut i f g → Near (react p (cut f elapsed k junk) s) (react p (cut g elapsed k junk) t)
    unfolding react
    cut_near f g elapsed k junk a = by_power _ _ _ _ s t h.power (record {
      power = refl;
      stores = λ j n. refl;
      lamp = refl;
      marks = λ j. refl;
      numbers = λ j n. refl;
      device = ap₂ (λ (d : Store) (ws : List Write). cut_writes d ws k junk) h.device (saves f g elapsed a);
    }) h

    force_near : (j v w : ℕ) → AgreeBut i (update s.live.force j v) (update t.live.force j w) → Near (react p (force j v) s) (react p (force j w) t)
    unfolding react forced_at
    force_near j v w a = by_power _ _ _ _ s t h.power (record {
      power = refl;
      stores = h.stores;
      lamp = h.lamp;
      marks = λ k. ap (cond (eqb k j) true) (h.marks k);
      numbers = a;
      device = h.device;
    }) h

    free_near : (j : ℕ) → Near (react p (free j) s) (react p (free j) t)
    unfolding react freed_at
    free_near j = by_power _ _ _ _ s t h.power (record {
      power = refl;
      stores = h.stores;
      lamp = h.lamp;
      marks = λ k. ap (cond (eqb k j) false) (h.marks k);
      numbers = h.numbers;
      device = h.device;
    }) h

    start_near : Near (react p start s) (react p start t)
    unfolding react
    start_near = subst (λ (d : Store). Near (react p start s) (record { live = started p (recovered p.kept d); device = d })) h.device (near_same (react p start s))

    event_near : (e g : Event) → SameBut i e g → Near (react p e s) (react p g t)
    event_near e g (same start) = start_near
    event_near e g (same (scan f elapsed)) = scan_near f f elapsed (λ j n. refl)
    event_near e g (same (cut f elapsed k junk)) = cut_near f f elapsed k junk (λ j n. refl)
    event_near e g (same (force j v)) = force_near j v v (λ k n. ap (cond (eqb k j) v) (h.numbers k n))
    event_near e g (same (free j)) = free_near j
    event_near e g (scans f f' elapsed a) = scan_near f f' elapsed a
    event_near e g (cuts f f' elapsed k junk a) = cut_near f f' elapsed k junk a
    event_near e g (forces v w) = force_near i v w (λ k n. update_other s.live.force i v k n ∙ h.numbers k n ∙ sym (update_other t.live.force i w k n))

  after_near : {es gs : List Event} → HistoriesBut i es gs → Near (after p es) (after p gs)
  unfolding after
  after_near none = near_same (factory p)
  after_near (more {es = es} {gs = gs} e h) = event_near (after p es) (after p gs) (after_near h) _ _ e

  looks_alike : (es gs : List Event) → HistoriesBut i es gs → LooksAlike i (after p es) (after p gs)
  unfolding outputs output_image
  looks_alike es gs h =
      let n = after_near h in
      record { power = n.power; lamp = n.lamp; shown = λ j k. (λ z. cond (n.marks j z) (n.numbers j k z) (n.stores j k z)); device = n.device }

pub unread_unseen_lem : UnreadUnseen
unread_unseen_lem h s i es gs u low a =
    looks_alike (project_of h s) i low
    (λ elapsed q r x. subst (λ (k : ℕ). AlikeBut k q r → AlikeBut k ((project_of h s).program elapsed q) ((project_of h s).program elapsed r)) (zero-add i) (unread_is_nothing_lem elapsed 0 i s q r u) x) es gs a
