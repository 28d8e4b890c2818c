-- A step whose events are whole starts once.
use Rattle.std.proofs.Common.{◌≡◌, ℕ, All, Bool, true, false, List, [], ◌∷◌, cond, filter, refl, sym, ap₂, subst, eq-eqb}
use Rattle.std.specs.Prelude.{◌&&◌, ◌||◌}
use Rattle.std.specs.List.{list_any}
use Rattle.std.proofs.lemmas.List.Elements.{All-cons, All-head, All-nil, All-tail, All-weaker}
use Rattle.apply_model.specs.declared.script.wait.Wait.{Wait}
use Rattle.apply_events.specs.declared.event.Event.{Event}
use Rattle.apply_events.specs.Step.{Work}
use Rattle.apply_events.specs.StepEvents.{step_events}
use Rattle.laws_run.specs.StepTimes.{ComesAfterItsSeconds, HasOneBegin}
use Rattle.laws_run.proofs.TimeLines.StepTimes.{IsOnTime, step_on_time}
use Rattle.laws_run.specs.WaitingSteps.{AreWhole, events_of, has_events, is_of_step}

abbrev pub named : (c k : ℕ) → Wait
named c k = record { change = c; step = k }

pub filter_none : {X : Type 0} (p : X → Bool) (xs : List X) → list_any p xs ≡ false → filter p xs ≡ []
filter_none p [] h = refl
filter_none p (x ∷ xs) h = at (p x) (filter_none p xs) h
  where
    at : (b : Bool) → (list_any p xs ≡ false → filter p xs ≡ []) → (b || list_any p xs) ≡ false → cond b (x ∷ filter p xs) (filter p xs) ≡ []
    at true rest absent = absurd cc
    at false rest absent = rest absent

-- from the events of a step to all events
pub of_named : (P : Event → Type 0) (c k : ℕ) (es : List Event) → All P (events_of (named c k) es) → All (λ e. e.change ≡ c → e.step ≡ k → P e) es
of_named P c k [] h = All-nil (λ e. e.change ≡ c → e.step ≡ k → P e)
of_named P c k (e ∷ es) h = at (is_of_step (named c k) e) refl (of_named P c k es) h
  where
    at : (b : Bool) → is_of_step (named c k) e ≡ b → (All P (events_of (named c k) es) → All (λ x. x.change ≡ c → x.step ≡ k → P x) es) → All P (cond b (e ∷ events_of (named c k) es) (events_of (named c k) es)) → All (λ x. x.change ≡ c → x.step ≡ k → P x) (e ∷ es)
    at true is rest h = All-cons (λ x. x.change ≡ c → x.step ≡ k → P x) e es (λ _ _. All-head P e (events_of (named c k) es) h) (rest (All-tail P e (events_of (named c k) es) h))
    at false is rest h =
        All-cons (λ x. x.change ≡ c → x.step ≡ k → P x) e es
        (λ change step. let same : is_of_step (named c k) e ≡ true = ap₂ (λ (a b : Bool). a && b) (eq-eqb e.change c change) (eq-eqb e.step k step) in absurd cc) (rest h)

pub begins_once : (work : Work) (c k : ℕ) (events : List Event) → AreWhole work events → HasOneBegin c k events
begins_once work c k events whole = either (has_events events (named c k)) refl
  where
    either : (b : Bool) → has_events events (named c k) ≡ b → HasOneBegin c k events
    either false absent = record {
      begin = 0;
      in_time = of_named (ComesAfterItsSeconds 0) c k events (subst (All (ComesAfterItsSeconds 0)) (sym (filter_none (is_of_step (named c k)) events absent)) (All-nil (ComesAfterItsSeconds 0)));
    }
    either true there =
        let one = whole (named c k) there in
        let all = step_events one.lane one.step one.begin in
        record {
          begin = one.begin;
          in_time = of_named (ComesAfterItsSeconds one.begin) c k events
              (subst (All (ComesAfterItsSeconds one.begin)) (sym one.are_all) (All-weaker (IsOnTime one.begin one.step) (ComesAfterItsSeconds one.begin) (λ e h. h.2) all (step_on_time one.lane one.begin one.step)));
        }
