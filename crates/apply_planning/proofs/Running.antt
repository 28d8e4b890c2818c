-- The events of an object that runs: progress, and then its end.
use Rattle.std.proofs.Common.{◌≡◌, ℕ, ◌+◌, ◌*◌, ◌/◌, ◌<◌, ◌≤◌, true, false, List, [], ◌∷◌, ◌++◌, map, sym, ap, ◌∙◌, inr, arith}
use Rattle.apply_events.specs.declared.event.Event.{Event}
use Rattle.apply_events.specs.declared.what.What.{What}
use Rattle.apply_events.specs.declared.what.What.TheVariants.{Progress, Complete, Errored, ErrorNote, WarnNote}
use Rattle.apply_events.proofs.ProgressTimes.{next_time, no_time}
use Rattle.apply_planning.specs.declared.told_events.Stage.TheVariants.{Running}
use Rattle.apply_planning.specs.declared.told_events.ToldEvents.{ToldEvents}
use Rattle.apply_planning.specs.ToldEvents.{ends, from_stage, left, running, told_event}

module _ (e : ToldEvents) (after : ℕ) (is : e.stage ≡ Running after) where
  runs : left e ≡ running e.turn e.seconds e.fails e.warns after
  runs = ap (from_stage e.turn e.seconds e.fails e.warns) is

  abbrev pieces : List ℕ → List (ℕ × What)
  pieces times = map (λ p. (p, Progress p)) times

  abbrev with_times : List ℕ → List Event
  with_times times =
      map (λ p. told_event e.turn (e.turn.begin.second + p.0) p.1) (pieces times)
      ++ map (λ what. told_event e.turn (e.turn.begin.second + e.seconds) what) (ends e.seconds e.fails e.warns)

  pub goes_on : (event : Event) → (after / 10 + 1) * 10 < e.seconds → event ≡ told_event e.turn (e.turn.begin.second + (after / 10 + 1) * 10) (Progress ((after / 10 + 1) * 10))
      → left e ≡ event ∷ running e.turn e.seconds e.fails e.warns ((after / 10 + 1) * 10)
  goes_on event lt same =
      runs ∙ ap with_times (next_time e.seconds after e.seconds (omega arith) lt)
      ∙ ap (λ (f : Event). f ∷ running e.turn e.seconds e.fails e.warns ((after / 10 + 1) * 10)) (sym same)

  -- no progress is left
  pub over_by : e.seconds ≤ (after / 10 + 1) * 10 → left e ≡ map (λ what. told_event e.turn (e.turn.begin.second + e.seconds) what) (ends e.seconds e.fails e.warns)
  over_by late = runs ∙ ap with_times (no_time e.seconds after e.seconds (inr late))

  module _ (late : e.seconds ≤ (after / 10 + 1) * 10) where
    pub fails_then : (event : Event) → e.fails ≡ true → event ≡ told_event e.turn (e.turn.begin.second + e.seconds) (Errored e.seconds)
        → left e ≡ event ∷ told_event e.turn (e.turn.begin.second + e.seconds) ErrorNote ∷ []
    fails_then event fails same =
        over_by late ∙ ap (λ f. map (λ what. told_event e.turn (e.turn.begin.second + e.seconds) what) (ends e.seconds f e.warns)) fails
        ∙ ap (λ (f : Event). f ∷ told_event e.turn (e.turn.begin.second + e.seconds) ErrorNote ∷ []) (sym same)

    pub warns_then : (event : Event) → e.fails ≡ false → e.warns ≡ true → event ≡ told_event e.turn (e.turn.begin.second + e.seconds) WarnNote → left e ≡ event ∷ []
    warns_then event fails warns same =
        over_by late ∙ ap (λ f. map (λ what. told_event e.turn (e.turn.begin.second + e.seconds) what) (ends e.seconds f e.warns)) fails
        ∙ ap (λ f. map (λ what. told_event e.turn (e.turn.begin.second + e.seconds) what) (ends e.seconds false f)) warns
        ∙ ap (λ (f : Event). f ∷ []) (sym same)

    pub completes_then : (event : Event) → e.fails ≡ false → e.warns ≡ false → event ≡ told_event e.turn (e.turn.begin.second + e.seconds) (Complete e.seconds) → left e ≡ event ∷ []
    completes_then event fails warns same =
        over_by late ∙ ap (λ f. map (λ what. told_event e.turn (e.turn.begin.second + e.seconds) what) (ends e.seconds f e.warns)) fails
        ∙ ap (λ f. map (λ what. told_event e.turn (e.turn.begin.second + e.seconds) what) (ends e.seconds false f)) warns
        ∙ ap (λ (f : Event). f ∷ []) (sym same)
