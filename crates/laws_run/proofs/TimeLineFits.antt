-- Each event of a time line can happen: it is an event of a whole step.
use Rattle.std.proofs.Common.{◌≡◌, ℕ, zero, suc, ◌+◌, All, Bool, true, false, List, [], ◌∷◌, Some, length, map, slice_get, refl, sym, ap, ◌∙◌, subst, arith}
use Rattle.std.specs.Prelude.{◌≤◌}
use Rattle.std.specs.List.{enumerate_from}
use Rattle.std.proofs.lemmas.List.Elements.{All-nil}
use Rattle.apply_model.specs.declared.plan.step_kind.StepKind.{StepKind}
use Rattle.apply_hooks.specs.Hooks.{max_hooks}
use Rattle.apply_events.specs.declared.event.Event.{Event}
use Rattle.apply_events.specs.Fits.{IsOfPlan}
use Rattle.apply_events.specs.Laws.{AllFit}
use Rattle.apply_events.specs.Step.{Step, Work, kinds_applied, step_of}
use Rattle.apply_events.specs.StepEvents.{step_events}
use Rattle.laws_run.proofs.EventsFit.{CanHappen, all-step}
use Rattle.laws_run.proofs.WholeBegins.{filter_none, named, of_named}
use Rattle.laws_run.specs.WaitingSteps.{AreWhole, has_events, is_of_step}

-- a step of a change is the one of its number and kind
step_is : (work : Work) (c n k : ℕ) (kinds : List StepKind) (s : Step) → slice_get (map (λ (p : ℕ × StepKind). step_of work c p.0 p.1) (enumerate_from n kinds)) k ≡ Some s
    → (kind : StepKind) × (s ≡ step_of work c (n + k) kind) × (slice_get kinds k ≡ Some kind)
step_is work c n k [] s is = absurd cc
step_is work c n zero (kind ∷ kinds) s is =
    let here : n ≡ n + 0 = omega arith in
    (kind, (let same : s ≡ step_of work c n kind = cc in same) ∙ ap (λ (i : ℕ). step_of work c i kind) here, refl)
step_is work c n (suc k) (kind ∷ kinds) s is =
    let rest = step_is work c (n + 1) k kinds s is in
    let same : n + 1 + k ≡ n + suc k = omega arith in
    (rest.0, rest.1 ∙ ap (λ (i : ℕ). step_of work c i rest.0) same, rest.2)

module _ (work : Work) (events : List Event) (hooks : length work.hooks ≤ max_hooks) (whole : AreWhole work events) where
  of_step : (c k : ℕ) → All (λ e. e.change ≡ c → e.step ≡ k → CanHappen work e) events
  of_step c k = either (has_events events (named c k)) refl
    where
      either : (b : Bool) → has_events events (named c k) ≡ b → All (λ e. e.change ≡ c → e.step ≡ k → CanHappen work e) events
      either false absent = of_named (CanHappen work) c k events (subst (All (CanHappen work)) (sym (filter_none (is_of_step (named c k)) events absent)) (All-nil (CanHappen work)))
      either true there =
          let one = whole (named c k) there in
          let step = step_is work c 0 k (kinds_applied work.plan work.script c) one.step one.is_step in
          let number : k ≡ 0 + k = omega arith in
          let all : All (CanHappen work) (step_events one.lane one.step one.begin) =
          subst (λ (s : Step). All (CanHappen work) (step_events one.lane s one.begin)) (sym step.1) (all-step work one.lane c (0 + k) step.0 one.begin (subst (λ (i : ℕ). slice_get (kinds_applied work.plan work.script c) i ≡ Some step.0) number step.2) hooks) in
          of_named (CanHappen work) c k events (subst (All (CanHappen work)) (sym one.are_all) all)

  pub time_line_fits : All (IsOfPlan work.plan) events → AllFit work events
  time_line_fits of_plan k d less = record { of_plan = of_plan k d less; happens = of_step _ _ k d less refl refl }
