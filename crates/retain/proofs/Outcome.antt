-- What the functions' loops come to, as the contracts say it.
use Rattle.std.proofs.Common.{◌≡◌, ℕ, ◌+◌, ◌-◌, ◌*◌, ◌<◌, ◌≤◌, List, [], length, get_or, take, replicate, set, sym, ap, ◌∙◌, subst, inl, inr, append-nil, cond, eqb, length-append, length-drop, length-set, get_or-set_other, get_or-set_same, arith}
use mathlib.Core.Path.{fun_ext}
use lib.ListN.{length-replicate}
use borrow.Rule.Slice.PartMut.{put_mid}
use Rattle.std.proofs.lemmas.List.{get_or_past, get_or-replicate, length-take-le}
use Rattle.std.proofs.lemmas.Bool.{cases_lt}
use Rattle.std.proofs.lemmas.Bool.Decides.{nat_tests}
use Rattle.base.specs.Stores.{Store, cells, Overwritten}
use Rattle.base.proofs.StoreLaws.{get_d_set}
use Rattle.retain.specs.declared.Write.{Write}
use Rattle.retain.specs.Device.{cell_count, commit_writes, apply_writes, cut_writes, effective_writes, write_count, factory, came_out, recovered, Holds}
use Rattle.retain.specs.Story.{cut_leaves}
use Rattle.retain.specs.History.{after}
use Rattle.retain.specs.Entry.{Formatted, Committed, Interrupted}
use Rattle.retain.proofs.Writes.{count_length}
use Rattle.retain.proofs.Cells.{Going}
use Rattle.retain.proofs.Parts.{part_written}
use Rattle.retain.proofs.Holds.{factory_sound, commit_keeps, cut_keeps}

past_factory : (kept : ℕ) (first : Store) (i : ℕ) → 2 * (kept + 2) ≤ i → factory kept first i ≡ 0
unfolding factory
past_factory kept first i l = grind (arith, nat_tests)

-- a device whose cells are those of the factory is as it leaves there, however they were written
pub formatted_by : (kept : ℕ) (first device : List ℕ) → length device ≡ cell_count kept → ((i : ℕ) → i < length device → get_or device i 0 ≡ factory kept (cells first) i) → Formatted kept first device
unfolding after
formatted_by kept first device size h = record { cells_are = same; holds = subst (λ d. Holds kept d (cells first)) (sym same) (factory_sound kept (cells first)); history = same }
  where
    same : cells device ≡ factory kept (cells first)
    same =
        fun_ext (λ i. elim (cases_lt i (length device)) [
          | inl l ↦ h i l
          | inr l ↦ get_or_past device i 0 l ∙ sym (past_factory kept (cells first) i (omega arith))
        ])

-- a device of zeros, after the stamps and the first values were written to it
module _ (kept : ℕ) (first zeros ys : List ℕ) (size : length zeros ≡ cell_count kept) (n : ℕ) (filled : zeros ≡ replicate n 0) (long : length ys ≡ kept) (same : (i : ℕ) → i < kept → get_or ys i 0 ≡ get_or first i 0) where
  zero : (i : ℕ) → get_or zeros i 0 ≡ 0
  zero i =
      ap (λ xs. get_or xs i 0) filled
      ∙ elim (cases_lt i n) [ inl l ↦ get_or-replicate n i 0 0 l | inr l ↦ get_or_past (replicate n 0) i 0 (omega (arith, length-replicate {A = ℕ} n 0)) ]

  abbrev made : List ℕ
  made = put_mid 1 kept (set zeros 0 1) ys

  part : Overwritten 1 (1 + kept) (λ i. get_or first (i - 1) 0) (set zeros 0 1) made
  part = part_written 1 kept (λ i. get_or first (i - 1) 0) (set zeros 0 1) ys (simp length-set (omega arith)) long (λ i l. same i l ∙ ap (λ x. get_or first x 0) (omega arith))

  at_start : get_or made 0 0 ≡ 1
  at_start = part.below 0 (omega arith) ∙ get_or-set_same zeros 0 1 0 (omega arith)

  past_values : (i : ℕ) → 1 + kept ≤ i → get_or made i 0 ≡ 0
  past_values i l = part.above i l ∙ get_or-set_other zeros 0 i 1 0 (λ e. omega arith) ∙ zero i

  made_long : length made ≡ cell_count kept
  made_long = simp (length-append, length-drop, length-set) (omega (arith, length-take-le 1 (set zeros 0 1) (simp length-set (omega arith))))

  cells_are : (i : ℕ) → cond (eqb i (kept + 1)) 1 (get_or made i 0) ≡ factory kept (cells first) i
  unfolding factory
  cells_are i = elim (cases_lt i 1) [
    | inl l ↦ let e : i ≡ 0 = omega arith in rw e (let h = at_start in grind (arith, nat_tests))
    | inr l ↦ elim (cases_lt i (1 + kept)) [
      | inl m ↦ let h = part.inside i l m in grind (arith, nat_tests)
      | inr m ↦ let h = past_values i m in grind (arith, nat_tests)
    ]
  ]

  made_is : (i : ℕ) → get_or (set made (kept + 1) 1) i 0 ≡ factory kept (cells first) i
  made_is i = get_d_set made (kept + 1) 1 i (omega (arith, made_long)) ∙ cells_are i

  pub formatted : Formatted kept first (set made (kept + 1) 1)
  formatted = formatted_by kept first (set made (kept + 1) 1) (simp length-set made_long) (λ i l. made_is i)

module _ (kept : ℕ) (device values device₁ : List ℕ) where
  abbrev planned : List Write
  planned = commit_writes kept (cells device) (cells values)

  pub committed : (writes : List Write) (n : ℕ) (writes₁ : List Write) → n ≤ kept + 2 → n ≤ length writes₁ →
      Going (apply_writes (cells device) planned) (effective_writes (cells device) planned) writes device₁ writes₁ n [] → Committed kept device values writes n device₁ writes₁
  unfolding apply_writes effective_writes after
  committed writes n writes₁ few short g =
      let noted : take n writes₁ ≡ effective_writes (cells device) planned = sym (append-nil (take n writes₁)) ∙ g.writes in
      record {
        applied = g.device;
        noted = noted;
        beyond = g.beyond;
        few = few;
        count = sym (length-take-le n writes₁ short) ∙ ap length noted ∙ sym (count_length planned (cells device));
        holds = λ s. subst (λ d. Holds kept d (cells values)) (sym g.device) (commit_keeps kept (cells device) (cells values) s);
        history = λ first h e. g.device ∙ ap (λ d. apply_writes d (commit_writes kept d (cells values))) e;
      }

  pub interrupted : (k junk : ℕ) → cells device₁ ≡ cut_writes (cells device) planned k junk → Interrupted kept device values k junk device₁
  unfolding after
  interrupted k junk e = record {
    cells_are = e;
    holds = λ s. subst (λ d. Holds kept d (cut_leaves (write_count (cells device) planned) k (came_out kept (cells device) junk) (recovered kept (cells device)) (cells values)))
        (sym e) (cut_keeps kept (cells device) (cells values) k junk s);
    history = λ first h e'. e ∙ ap (λ d. cut_writes d (commit_writes kept d (cells values)) k junk) e';
  }

  pub interrupted_all : (k junk left : ℕ) → cut_writes (cells device₁) [] left junk ≡ cut_writes (cells device) planned k junk → Interrupted kept device values k junk device₁
  unfolding cut_writes
  interrupted_all k junk left e = interrupted k junk e
