-- What a memory stands for after a scan, and after one that was cut.
use Rattle.std.proofs.Common.{◌≡◌, ℕ, ◌+◌, ◌-◌, ◌*◌, ◌<◌, ◌≤◌, Bool, true, false, eqb, List, length, get_or, take, drop, set, sym, refl, ap, ◌∙◌, subst, zero-add, arith, get_or-set_other, get_or-set_same}
use borrow.Rule.Slice.PartMut.{put_mid}
use Rattle.std.proofs.lemmas.List.{get_or_past}
use Rattle.std.proofs.lemmas.Bool.{eq-eqb}
use Rattle.base.specs.Stores.{Store, cells, Overwritten}
use Rattle.base.specs.Words.{bit, truthy}
use Rattle.base.proofs.Regions.{region_is, region_same}
use Rattle.semantics.specs.Eval.{Program}
use Rattle.retain.specs.Device.{commit_writes, apply_writes, cut_writes, effective_writes}
use Rattle.vm.specs.Outcomes.{program_of}
use Rattle.vm.proofs.Meaning.{code_means_lem, never_trapped_lem}
use Rattle.controller.specs.World.{Project, Live, scan, cut, executed, output_image, outputs, scanned}
use Rattle.controller.specs.History.{save, react}
use Rattle.controller.specs.Memory.{live_in, device_in, state_in, marks, writes_in}
use Rattle.controller.specs.Entries.{EachMeaning, Scanned, CutOff}
use Rattle.controller.proofs.Reacts.{react_scan, react_cut}
use Rattle.controller.proofs.States.{state_is, device_same, follows}
use Rattle.controller.proofs.Parts.{part_below, part_length, part_device, device_rest}
use Rattle.controller.proofs.Factory.{off_state}
use Rattle.controller.proofs.Forces.{is_on}

-- what holds for the program that the code is holds for every program that it is right for
pub each_meaning : (code : List ℕ) (P : Program → Type 0) → P (program_of 64 code) → EachMeaning code P
each_meaning code P x = record { any = x; right = λ means c. subst P (code_means_lem 64 means code c) x; ends = λ means c. never_trapped_lem 64 means code c }

-- a bit is a mark
bit_mark : (b : Bool) → eqb (bit b) 1 ≡ b
bit_mark true = refl
bit_mark false = refl

-- what a scan shows
shown_is : (p : Project) (f : Store) (elapsed : ℕ) (s : Live) → outputs (scanned p f elapsed s) ≡ output_image s (executed p s f elapsed).store
unfolding outputs output_image scanned
shown_is p f elapsed s = refl

module _ (p : Project) (f : Store) (elapsed : ℕ) (m dev values : List ℕ) (long : 194 ≤ length m) (size : length dev ≡ length m - 194) (on : get_or m 192 0 ≡ 1)
    (made : cells values ≡ (executed p (live_in m) f elapsed).store) where
  abbrev slice : Store
  slice = cells (take (length m - 194) (drop 194 m))

  abbrev m₁ : List ℕ
  m₁ = put_mid 194 (length m - 194) m dev

  -- the memory after the values were written to it, and the lamp
  module _ (m₂ : List ℕ) (lamp : ℕ) (room : length values ≡ 64) (same_size : length m₂ ≡ length m₁)
      (done : cells dev ≡ apply_writes slice (commit_writes p.kept slice (cells values)))
      (stored : Overwritten 0 64 (cells values) m₁ m₂) (lit : lamp ≡ bit (truthy (executed p (live_in m) f elapsed).fault)) where
    abbrev last : List ℕ
    last = set m₂ 193 lamp

    untouched : (k : ℕ) → 64 ≤ k → k < 193 → get_or last k 0 ≡ get_or m k 0
    untouched k a b = get_or-set_other m₂ 193 k lamp 0 (λ q. omega arith) ∙ stored.above k a ∙ part_below m dev long size k (omega arith)

    value : (i : ℕ) → i < 64 → get_or last i 0 ≡ get_or values i 0
    value i h = get_or-set_other m₂ 193 i lamp 0 (λ q. omega arith) ∙ stored.inside i (omega arith) h

    lamp_is : get_or last 193 0 ≡ bit (truthy (executed p (live_in m) f elapsed).fault)
    lamp_is = get_or-set_same m₂ 193 lamp 0 (omega (arith, part_length m dev long size)) ∙ lit

    device_is : device_in last ≡ apply_writes (device_in m) (save p (state_in m) f elapsed)
    device_is =
        device_same m₁ last (λ k h. get_or-set_other m₂ 193 k lamp 0 (λ q. omega arith) ∙ stored.above k (omega arith)) ∙ part_device m dev long size ∙ done
        ∙ ap (λ d. apply_writes d (commit_writes p.kept d (cells values))) (device_rest m)
        ∙ ap (λ v. apply_writes (device_in m) (commit_writes p.kept (device_in m) v)) made

    scan_state : state_in last ≡ react p (scan f elapsed) (state_in m)
    unfolding live_in scanned
    scan_state =
        state_is last (record { live = scanned p f elapsed (live_in m); device = apply_writes (device_in m) (save p (state_in m) f elapsed) })
        (eq-eqb _ _ (untouched 192 (omega arith) (omega arith) ∙ on))
        (region_is last 0 64 (cells values) (λ i h. ap (λ x. get_or last x 0) (zero-add i) ∙ value i h) (λ i h. get_or_past values i 0 (omega arith)) ∙ made)
        (ap (λ x. eqb x 1) lamp_is ∙ bit_mark (truthy (executed p (live_in m) f elapsed).fault))
        device_is
        (ap marks (region_same m last 64 64 (λ i h. untouched (64 + i) (omega arith) (omega arith))))
        (region_same m last 128 64 (λ i h. untouched (128 + i) (omega arith) (omega arith)))
        ∙ sym (react_scan p (state_in m) f elapsed (is_on m on))

    module _ (out : List ℕ) (shown : cells out ≡ output_image (live_in m) (cells values)) where
      shows : cells out ≡ outputs (scanned p f elapsed (live_in m))
      shows = shown ∙ ap (output_image (live_in m)) made ∙ sym (shown_is p f elapsed (live_in m))

      shows_now : cells out ≡ outputs (live_in last)
      shows_now = shows ∙ sym (ap (λ s. outputs s.live) (scan_state ∙ react_scan p (state_in m) f elapsed (is_on m on)))

      pub scan_done : (writes₀ writes : List ℕ) (n : ℕ) → writes_in writes 0 n ≡ effective_writes slice (commit_writes p.kept slice (cells values))
          → ((i : ℕ) → 2 * n ≤ i → get_or writes i 0 ≡ get_or writes₀ i 0) → Scanned p f elapsed m writes₀ last out writes n
      scan_done writes₀ writes n handed beyond =
          let next = follows p (scan f elapsed) m last scan_state in
          record {
            follows = next;
            values = λ i h. value i h ∙ ap (λ v. v i) made;
            untouched = untouched;
            lamp = lamp_is;
            device = device_is;
            shows = shows;
            history = λ es h. shows_now ∙ ap (λ s. outputs s.live) (next.history es h);
            told = λ es h. shows_now ∙ ap outputs (next.told es h).lives;
            handed = handed ∙ ap (λ d. effective_writes d (commit_writes p.kept d (cells values))) (device_rest m)
                ∙ ap (λ v. effective_writes (device_in m) (commit_writes p.kept (device_in m) v)) made;
            beyond = beyond;
          }

  pub cut_done : (k junk : ℕ) (m₂ : List ℕ)
      → cells dev ≡ cut_writes slice (commit_writes p.kept slice (cells values)) k junk
      → Overwritten 0 194 (λ i. 0) m₁ m₂ → CutOff p f elapsed k junk m m₂
  cut_done k junk m₂ done cleared =
      let device_is : device_in m₂ ≡ cut_writes (device_in m) (save p (state_in m) f elapsed) k junk =
      device_same m₁ m₂ (λ i h. cleared.above i h) ∙ part_device m dev long size ∙ done
      ∙ ap (λ d. cut_writes d (commit_writes p.kept d (cells values)) k junk) (device_rest m)
      ∙ ap (λ v. cut_writes (device_in m) (commit_writes p.kept (device_in m) v) k junk) made in
      record {
        follows = follows p (cut f elapsed k junk) m m₂
            (off_state m₂ _ (λ i h. cleared.inside i (omega arith) h) device_is ∙ sym (react_cut p (state_in m) f elapsed k junk (is_on m on)));
        blank = record { blank = λ i h. cleared.inside i (omega arith) h };
        device = device_is;
      }
