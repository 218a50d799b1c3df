-- After every history recovery finds what the story says.
use Rattle.std.proofs.Common.{ℕ, List, [], ◌∷◌, ap, ◌∙◌, inl, inr}
use Rattle.std.proofs.lemmas.Bool.{cond-true, cond-false, cases_Bool}
use Rattle.base.specs.Stores.{Store}
use Rattle.retain.specs.Device.{recovered, came_out, Sound}
use Rattle.retain.specs.Story.{story}
use Rattle.retain.specs.History.{Op, committed, cut, after, writes_after, told, Retained, Ruled}
use Rattle.retain.proofs.StoryLaws.{before_leaves, past_leaves, last_leaves}
use Rattle.retain.proofs.Holds.{Held, recovered_is, commit_step, cut_step, factory_held, held_holds, factory_sound, commit_keeps, cut_keeps}

-- the theorem, with the device's state
pub held : (n : ℕ) (first : Store) (h : List Op) → Held n (after n first h) (story first (told n first h))
unfolding after story told writes_after
held n first [] = factory_held n first
held n first (committed v ∷ h) = commit_step n (after n first h) (story first (told n first h)) v (held n first h)
held n first (cut v k j ∷ h) = cut_step n (after n first h) (story first (told n first h)) v k j (held n first h)

pub retained : Retained
retained n first h = recovered_is n (after n first h) (story first (told n first h)) (held n first h)

after_sound : (n : ℕ) (first : Store) (h : List Op) → Sound n (after n first h)
after_sound n first h = (held_holds n (after n first h) (story first (told n first h)) (held n first h)).0

pub ruled : Ruled
unfolding after writes_after came_out
ruled n first = record {
  as_made = (factory_sound n first).1;
  saved = λ h v. (commit_keeps n (after n first h) v (after_sound n first h)).1;
  cut_before = λ h v k j l i m. (cut_keeps n (after n first h) v k j (after_sound n first h)).1 i m ∙ ap (λ u. u i) (before_leaves _ k _ _ v l);
  cut_past = λ h v k j l i m. (cut_keeps n (after n first h) v k j (after_sound n first h)).1 i m ∙ ap (λ u. u i) (past_leaves _ k _ _ v l);
  cut_last = λ h v k j l. elim (cases_Bool (came_out n (after n first h) j)) [
    | inl e ↦ inr (λ i m. (cut_keeps n (after n first h) v k j (after_sound n first h)).1 i m ∙ ap (λ u. u i) (last_leaves _ k _ (recovered n (after n first h)) v l ∙ cond-true _ _ _ e))
    | inr e ↦ inl (λ i m. (cut_keeps n (after n first h) v k j (after_sound n first h)).1 i m ∙ ap (λ u. u i) (last_leaves _ k _ (recovered n (after n first h)) v l ∙ cond-false _ _ _ e))
  ];
}
