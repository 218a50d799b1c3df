-- What an event does, and what the story tells of it, with power and without.
use Rattle.std.proofs.Common.{◌≡◌, ℕ, true, false, refl, ap, ⊎_elim, arith}
use Rattle.std.proofs.lemmas.Bool.{cond-true, cond-false, cases_Bool}
use Rattle.retain.specs.Device.{recovered, apply_writes, cut_writes, write_count, came_out}
use Rattle.retain.specs.Story.{cut_leaves}
use Rattle.controller.specs.World.{Project, Event, start, scan, cut, force, free, needs_power, saves, executed, off, started, scanned, forced_at, freed_at}
use Rattle.controller.specs.Story.{Decision, Tale, tell}
use Rattle.controller.specs.History.{State, save, react}
use Rattle.controller.specs.Decided.{decide}

module _ (p : Project) (s : State) where
  pub react_start : react p start s ≡ record { live = started p (recovered p.kept s.device); device = s.device }
  unfolding react
  react_start = refl

  pub react_scan : (f : ℕ → ℕ) (dt : ℕ) → s.live.on ≡ true → react p (scan f dt) s ≡ record { live = scanned p f dt s.live; device = apply_writes s.device (save p s f dt) }
  unfolding react
  react_scan f dt h = cond-true _ _ _ h

  pub react_cut : (f : ℕ → ℕ) (dt k junk : ℕ) → s.live.on ≡ true → react p (cut f dt k junk) s ≡ record { live = off; device = cut_writes s.device (save p s f dt) k junk }
  unfolding react
  react_cut f dt k junk h = cond-true _ _ _ h

  pub react_force : (i v : ℕ) → s.live.on ≡ true → react p (force i v) s ≡ record { live = forced_at i v s.live; device = s.device }
  unfolding react
  react_force i v h = cond-true _ _ _ h

  pub react_free : (i : ℕ) → s.live.on ≡ true → react p (free i) s ≡ record { live = freed_at i s.live; device = s.device }
  unfolding react
  react_free i h = cond-true _ _ _ h

  -- without power
  pub react_off : (e : Event) → needs_power e ≡ true → s.live.on ≡ false → react p e s ≡ s
  unfolding react
  react_off start n h = let z : ◌≡◌ {A = ℕ} 0 1 = cc in absurd (omega arith)
  react_off (scan f dt) n h = cond-false _ _ _ h
  react_off (cut f dt k junk) n h = cond-false _ _ _ h
  react_off (force i v) n h = cond-false _ _ _ h
  react_off (free i) n h = cond-false _ _ _ h

  -- an event that saves nothing leaves the device
  pub react_device : (e : Event) → saves e ≡ false → (react p e s).device ≡ s.device
  react_device start n = ap (λ t. t.device) react_start
  react_device (scan f dt) n = let z : ◌≡◌ {A = ℕ} 0 1 = cc in absurd (omega arith)
  react_device (cut f dt k junk) n = let z : ◌≡◌ {A = ℕ} 0 1 = cc in absurd (omega arith)
  react_device (force i v) n = ⊎_elim (λ h. ap (λ t. t.device) (react_force i v h)) (λ h. ap (λ t. t.device) (react_off (force i v) refl h)) (cases_Bool s.live.on)
  react_device (free i) n = ⊎_elim (λ h. ap (λ t. t.device) (react_free i h)) (λ h. ap (λ t. t.device) (react_off (free i) refl h)) (cases_Bool s.live.on)

  pub decide_cut : (f : ℕ → ℕ) (dt k junk : ℕ) → decide p (cut f dt k junk) s ≡ record { writes = write_count s.device (save p s f dt); new = came_out p.kept s.device junk }
  unfolding decide
  decide_cut f dt k junk = refl

module _ (p : Project) (d : Decision) (t : Tale) where
  pub tell_start : tell p start d t ≡ record { live = started p t.kept; kept = t.kept }
  unfolding tell
  tell_start = refl

  pub tell_scan : (f : ℕ → ℕ) (dt : ℕ) → t.live.on ≡ true → tell p (scan f dt) d t ≡ record { live = scanned p f dt t.live; kept = (executed p t.live f dt).store }
  unfolding tell
  tell_scan f dt h = cond-true _ _ _ h

  pub tell_cut : (f : ℕ → ℕ) (dt k junk : ℕ) → t.live.on ≡ true →
      tell p (cut f dt k junk) d t ≡ record { live = off; kept = cut_leaves d.writes k d.new t.kept (executed p t.live f dt).store }
  unfolding tell
  tell_cut f dt k junk h = cond-true _ _ _ h

  pub tell_force : (i v : ℕ) → t.live.on ≡ true → tell p (force i v) d t ≡ record { live = forced_at i v t.live; kept = t.kept }
  unfolding tell
  tell_force i v h = cond-true _ _ _ h

  pub tell_free : (i : ℕ) → t.live.on ≡ true → tell p (free i) d t ≡ record { live = freed_at i t.live; kept = t.kept }
  unfolding tell
  tell_free i h = cond-true _ _ _ h

  -- without power
  pub tell_off : (e : Event) → needs_power e ≡ true → t.live.on ≡ false → tell p e d t ≡ t
  unfolding tell
  tell_off start n h = let z : ◌≡◌ {A = ℕ} 0 1 = cc in absurd (omega arith)
  tell_off (scan f dt) n h = cond-false _ _ _ h
  tell_off (cut f dt k junk) n h = cond-false _ _ _ h
  tell_off (force i v) n h = cond-false _ _ _ h
  tell_off (free i) n h = cond-false _ _ _ h
