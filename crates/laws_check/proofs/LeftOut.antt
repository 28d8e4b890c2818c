-- Creates that never start, in a run in which no step is halted.
use Rattle.std.proofs.Common.{◌≡◌, ℕ, List, [], ◌∷◌, cond, Bool, true, false, Option, Some, None, refl, ap, ap₂, ◌∙◌, ⊎_elim, inl, inr}
use Rattle.std.specs.Prelude.{◌&&◌, ◌||◌, ◌⊎◌, ◌↔◌, is_some, option_map, option_to_list}
use Rattle.std.specs.List.{filter, list_any}
use Rattle.std.proofs.lemmas.Bool.{cases_Bool, or_parts}
use Rattle.std.proofs.lemmas.Option.{slice_get_within}
use Rattle.apply_model.specs.declared.plan.step_kind.StepKind.TheVariants.{Create}
use Rattle.apply_model.specs.declared.script.wait.Wait.{Wait}
use Rattle.apply_hooks.specs.declared.phase.Phase.TheVariants.{Pre}
use Rattle.apply_events.specs.declared.event.Event.{Event}
use Rattle.apply_events.specs.declared.what.What.TheVariants.{Halted}
use Rattle.apply_events.specs.Step.{Step, Work}
use Rattle.apply_events.specs.StepEvents.{event, start_events}
use Rattle.apply_events.specs.Totals.{is_halted}
use Rattle.laws_run.specs.ChangesUnderWay.{is_start}
use Rattle.laws_run.specs.Scripts.{LeaveOutJustWhatWaitsInVain}
use Rattle.laws_run.specs.WaitingSteps.{AreWhole, has_events, is_of_step}
use Rattle.laws_check.specs.Unstarted.{IsLeftOut, NeverStarts, has_started}

-- ---- some of the events

any_filtered : (p q : Event → Bool) (es : List Event) → list_any (λ e. p e && q e) es ≡ list_any q (filter p es)
any_filtered p q [] = refl
any_filtered p q (e ∷ es) = of_test (any_filtered p q es) (p e)
  where
    of_test : list_any (λ e. p e && q e) es ≡ list_any q (filter p es) → (b : Bool) → ((b && q e) || list_any (λ e. p e && q e) es) ≡ list_any q (cond b (e ∷ filter p es) (filter p es))
    of_test rest true = ap (λ (x : Bool). q e || x) rest
    of_test rest false = rest

none_filtered : (p q : Event → Bool) (es : List Event) → list_any q es ≡ false → list_any q (filter p es) ≡ false
none_filtered p q [] none = refl
none_filtered p q (e ∷ es) none = let both = or_parts (q e) (list_any q es) none in of_test both.0 (none_filtered p q es both.1) (p e)
  where
    of_test : q e ≡ false → list_any q (filter p es) ≡ false → (b : Bool) → list_any q (cond b (e ∷ filter p es) (filter p es)) ≡ false
    of_test here rest true = ap₂ (λ (x y : Bool). x || y) here rest
    of_test here rest false = rest

none_of_both : (p q : Event → Bool) (es : List Event) → list_any p es ≡ false → list_any (λ e. p e && q e) es ≡ false
none_of_both p q [] none = refl
none_of_both p q (e ∷ es) none =
    let both = or_parts (p e) (list_any p es) none in
    ap₂ (λ (x y : Bool). x || y) (ap (λ (b : Bool). b && q e) both.0) (none_of_both p q es both.1)

-- ---- the events of a step

halts_or_starts : (o : Option ℕ) (worker : ℕ) (step : Step) (at : ℕ)
    → (list_any (λ e. is_halted e.what) (cond (is_some o) (option_to_list (option_map (λ hook. event worker step at (Halted Pre hook)) o)) (start_events worker step at)) ≡ true)
    ⊎ (list_any (λ e. is_start e.what) (cond (is_some o) (option_to_list (option_map (λ hook. event worker step at (Halted Pre hook)) o)) (start_events worker step at)) ≡ true)
halts_or_starts (Some hook) worker step at = inl refl
halts_or_starts None worker step at = inr refl

module _ (work : Work) (es : List Event) (whole : AreWhole work es) (none_halted : list_any (λ e. is_halted e.what) es ≡ false) where
  events_start : (name : Wait) → has_events es name ≡ true → has_started es name ≡ true
  events_start name some =
      let all = whole name some in
      let same = any_filtered (is_of_step name) (λ e. is_start e.what) es in
      ⊎_elim
      (λ halts. absurd (let one = none_filtered (is_of_step name) (λ e. is_halted e.what) es none_halted in let other = ap (list_any (λ e. is_halted e.what)) all.are_all ∙ halts in contradicts _ one other))
      (λ starts. same ∙ ap (list_any (λ e. is_start e.what)) all.are_all ∙ starts)
      (halts_or_starts (all.step.halts Pre) all.lane all.step all.begin)
    where
      contradicts : (b : Bool) → b ≡ false → b ≡ true → ⊥
      contradicts b off on = cc

  unstarted : (name : Wait) → has_started es name ≡ false → has_events es name ≡ false
  unstarted name none =
      ⊎_elim (λ (some : has_events es name ≡ true). let starts = events_start name some in absurd cc) (λ (no : has_events es name ≡ false). no) (cases_Bool (has_events es name))

  module _ (law : LeaveOutJustWhatWaitsInVain work es) (a : List ℕ) where
    pub left_out : NeverStarts work.plan es a ↔ IsLeftOut work es a
    left_out = (
      λ never. (never.0, never.1, never.2, never.3, (law never.0 never.1 (slice_get_within _ never.1 Create never.2)).0 (unstarted (record { change = never.0; step = never.1 }) never.4)),
      λ left. (left.0, left.1, left.2, left.3, none_of_both (is_of_step (record { change = left.0; step = left.1 })) (λ e. is_start e.what) es ((law left.0 left.1 (slice_get_within _ left.1 Create left.2)).1 left.4)),
    )
