-- The events of a step between its start and its end.
use Rattle.std.proofs.Common.{◌≡◌, ℕ, ◌+◌, ◌-◌, ◌<◌, ◌≤◌, zero, suc, List, [], ◌∷◌, ◌++◌, map, filter, Bool, true, false, cond, refl, sym, subst, arith, nat_le, nat_lt, All, ◌⊎◌, ⊎_elim}
use Rattle.std.specs.Prelude.{◌&&◌}
use Rattle.std.specs.List.{range_with_len}
use Rattle.std.proofs.lemmas.Bool.{and_parts, leb-true, ltb-true}
use Rattle.std.proofs.lemmas.List.Sums.{sum_by-cons}
use Rattle.apply_model.specs.declared.script.provisioner.Provisioner.{Provisioner}
use Rattle.apply_model.specs.declared.script.timed_text.TimedText.{TimedText}
use Rattle.apply_plan.specs.Script.Outcome.{has_failed, seconds_of_all}
use Rattle.stream_check.specs.declared.messages.action.Action.{Action}
use Rattle.apply_events.specs.declared.what.What.{What}
use Rattle.apply_events.specs.declared.what.What.TheVariants.{Progress, ProvisionStart, ProvisionOutput, ProvisionComplete, ProvisionErrored}
use Rattle.apply_events.specs.Diagnostics.{is_note}
use Rattle.apply_events.specs.ProgressTimes.{is_multiple_of_ten}
use Rattle.apply_events.specs.Provisions.{along, output_at, progress, provision_end, emitted_by}
use Rattle.apply_events.specs.Step.{Step}
use Rattle.apply_events.specs.StepEvents as told_in
use Rattle.apply_events.specs.StepEvents.{end_of, endings, event, goes_on, halts, notes, phase_after, seconds_of, start_events, step_events, step_time}
use Rattle.apply_events.proofs.Provisions.{all_along}
use Rattle.laws_check.proofs.Phases.{MayRun, Phase, under_way, Turns}

-- these events lead a change from the first phase to the last, one after another, in a step with
-- that action
abbrev pub Passes : (may : Type 0) → Action → Phase → List (ℕ × What) → Phase → Type 0
Passes may k p [] r = p ≡ r
Passes may k p (x ∷ xs) r = (q : Phase) × Turns may p k x.1 q × Passes may k q xs r

passes_on : (may : Type 0) (k : Action) (p q r : Phase) (xs ys : List (ℕ × What)) → Passes may k p xs q → Passes may k q ys r → Passes may k p (xs ++ ys) r
passes_on may k p q r [] ys one other = subst (λ (x : Phase). Passes may k x ys r) (sym one) other
passes_on may k p q r (x ∷ xs) ys one other = (one.0, one.1, passes_on may k one.0 q r xs ys one.2 other)

module _ (may : Type 0) (k : Action) where
  -- from so many elapsed seconds, with a provisioner under way or none, it leads to elapsed seconds
  -- up to a limit
  abbrev Goes : (b : Bool) → (elapsed limit : ℕ) → List (ℕ × What) → (c : Bool) → Type 0
  Goes b elapsed limit xs c = (last : ℕ) × (last ≤ limit) × Passes may k (under_way k elapsed b) xs (under_way k last c)

  -- progress at the times that are within two numbers
  abbrev progress_of : (after until : ℕ) → List ℕ → List (ℕ × What)
  progress_of after until times = map (λ p. (p, Progress p)) (filter (λ p. nat_lt after p && nat_le p until) times)

  one_progress_on : (b : Bool) (after until elapsed low : ℕ) (others : List ℕ) (t : Bool) → (nat_lt after low && nat_le low until) ≡ t → ((p : ℕ) → low ≤ p → after < p → elapsed < p)
      → ((now : ℕ) → now ≤ until → ((p : ℕ) → low + 1 ≤ p → after < p → now < p) → Goes b now until (progress_of after until others) b)
      → elapsed ≤ until → Goes b elapsed until (map (λ p. (p, Progress p)) (cond t (low ∷ filter (λ p. nat_lt after p && nat_le p until) others) (filter (λ p. nat_lt after p && nat_le p until) others))) b
  one_progress_on b after until elapsed low others true is less rest fits =
      let both = and_parts (nat_lt after low) (nat_le low until) is in
      let then = rest low (leb-true low until both.1) (λ p above more. omega arith) in
      (then.0, then.1, (under_way k low b, (refl, less low (omega arith) (ltb-true after low both.0), refl), then.2))
  one_progress_on b after until elapsed low others false is less rest fits = rest elapsed fits (λ p above more. less p (omega arith) more)

  progress_on : (b : Bool) (after until elapsed low n : ℕ) → elapsed ≤ until → ((p : ℕ) → low ≤ p → after < p → elapsed < p)
      → Goes b elapsed until (progress_of after until (filter is_multiple_of_ten (range_with_len low n))) b
  progress_on b after until elapsed low zero fits less = (elapsed, fits, refl)
  progress_on b after until elapsed low (suc n) fits less =
      let others : List ℕ = filter is_multiple_of_ten (range_with_len (low + 1) n) in
      elim (is_multiple_of_ten low) as (λ m. Goes b elapsed until (progress_of after until (cond m (low ∷ others) others)) b) [
        | true ↦ one_progress_on b after until elapsed low others (nat_lt after low && nat_le low until) refl less
            (λ now within rise. progress_on b after until now (low + 1) n within rise) fits
        | false ↦ progress_on b after until elapsed (low + 1) n fits (λ p above more. less p (omega arith) more)
      ]

  progress_goes : (b : Bool) (d after until elapsed : ℕ) → elapsed ≤ after → after ≤ until → Goes b elapsed until (progress d after until) b
  progress_goes b d after until elapsed fits order = progress_on b after until elapsed 1 (d - 1) (omega arith) (λ p above more. omega arith)

  -- the events of a provisioner that runs, up to its end
  module _ (runs : MayRun may k) where
    provision_ends : (elapsed i until : ℕ) (p : Provisioner) → Passes may k (under_way k elapsed true) ((until, provision_end i p) ∷ []) (under_way k elapsed false)
    provision_ends elapsed i until p =
        elim (has_failed p) as (λ f. Passes may k (under_way k elapsed true) ((until, cond f (ProvisionErrored i) (ProvisionComplete i)) ∷ []) (under_way k elapsed false)) [
          | true ↦ (under_way k elapsed false, (refl, runs, refl, refl), refl)
          | false ↦ (under_way k elapsed false, (refl, runs, refl, refl), refl)
        ]

    provisioner_goes : (d after i j since until elapsed : ℕ) (p : Provisioner) (outputs : List TimedText) → elapsed ≤ after → after ≤ until
        → (last : ℕ) × (last ≤ until) × Passes may k (under_way k elapsed true) (emitted_by d after i j since until (provision_end i p) outputs) (under_way k last false)
    provisioner_goes d after i j since until elapsed p [] low order =
        let within = progress_goes true d after until elapsed low order in (
          within.0,
          within.1,
          passes_on may k (under_way k elapsed true) (under_way k within.0 true) (under_way k within.0 false) (progress d after until) ((until, provision_end i p) ∷ []) within.2 (provision_ends within.0 i until p),
        )
    provisioner_goes d after i j since until elapsed p (o ∷ os) low order =
        let at = output_at after since until o in
        let first : after ≤ at = omega arith in
        let last : at ≤ until = omega arith in
        let within = progress_goes true d after at elapsed low first in
        let rest = provisioner_goes d at i (j + 1) since until within.0 p os within.1 last in
        let others = emitted_by d at i (j + 1) since until (provision_end i p) os in (
          rest.0,
          rest.1,
          passes_on may k (under_way k elapsed true) (under_way k within.0 true) (under_way k rest.0 false) (progress d after at) ((at, ProvisionOutput i j) ∷ others) within.2
              (under_way k within.0 true, (refl, runs, refl, refl), rest.2),
        )

    all_go : (d after i since elapsed : ℕ) (ps : List Provisioner) → elapsed ≤ after → after ≤ since → since + seconds_of_all ps ≤ d → Goes false elapsed d (along d after i since ps) false
    all_go d after i since elapsed [] low order high = progress_goes false d after d elapsed low (let none : seconds_of_all [] ≡ 0 = refl in omega arith)
    all_go d after i since elapsed (p ∷ ps) low order high =
        let until = since + p.seconds in
        let sum = sum_by-cons (λ (q : Provisioner). q.seconds) p ps in
        let before = progress_goes false d after since elapsed low order in
        let within = provisioner_goes d since i 0 since until before.0 p p.output before.1 (omega arith) in
        let rest = all_go d until (i + 1) until within.0 ps within.1 (omega arith) (omega arith) in
        let ended : List (ℕ × What) = emitted_by d since i 0 since until (provision_end i p) p.output in
        let others = along d until (i + 1) until ps in (
          rest.0,
          rest.1,
          passes_on may k (under_way k elapsed false) (under_way k before.0 false) (under_way k rest.0 false) (progress d after since) ((since, ProvisionStart i) ∷ (ended ++ others)) before.2 (
            under_way k before.0 true,
            (refl, runs, refl, refl),
            passes_on may k (under_way k before.0 true) (under_way k within.0 false) (under_way k rest.0 false) ended others within.2 rest.2,
          ),
        )

  -- all events between start and end, of a step that runs no provisioners or may run some
  pub along_goes : (d since : ℕ) (ps : List Provisioner) → (ps ≡ []) ⊎ MayRun may k → since + seconds_of_all ps ≤ d → Goes false 0 d (along d 0 0 since ps) false
  along_goes d since ps whether high =
      ⊎_elim
      (λ (none : ps ≡ []). subst (λ (l : List Provisioner). Goes false 0 d (along d 0 0 since l) false) (sym none) (progress_goes false d 0 d 0 (omega arith) (omega arith)))
      (λ runs. all_go runs d 0 0 since 0 ps (omega arith) (omega arith) high)
      whether

-- none of these events is a diagnostic
pub no_note : (s : Step) → All (λ (x : ℕ × What). is_note x.1 ≡ false) (told_in.between s)
no_note s =
    all_along (λ (x : ℕ × What). is_note x.1 ≡ false) (seconds_of s) 0 0 s.seconds_before s.ran (λ t. refl) (λ i p since. refl) (λ i p j since. refl)
    (λ i p since. elim (has_failed p) as (λ f. is_note (cond f (ProvisionErrored i) (ProvisionComplete i)) ≡ false) [ true ↦ refl | false ↦ refl ])
