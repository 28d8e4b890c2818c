-- A step that has started, and the state after its end.
use Rattle.std.proofs.Common.{◌≡◌, ℕ, suc, ◌+◌, Bool, true, false, not, ◌&&◌, List, [], ◌∷◌, drop, take, Option, Some, None, refl, ap, ◌∙◌, arith, add-one}
use Rattle.std.specs.Prelude.{is_none, sum_by}
use Rattle.std.specs.List.{list_all}
use Rattle.std.proofs.lemmas.List.Sums.{sum_by-append, sum_by-cons}
use Rattle.apply_hooks.specs.declared.phase.Phase.{Phase}
use Rattle.apply_hooks.specs.declared.phase.Phase.TheVariants.{Pre, PostDone}
use Rattle.apply_events.specs.declared.mid_step.MidStep.{MidStep}
use Rattle.apply_events.specs.declared.stage.Stage.{Stage}
use Rattle.apply_events.specs.declared.stage.Stage.TheVariants.{Before, Running, Noting, Halting, Over}
use Rattle.apply_events.specs.ChangeEvents.{begun}
use Rattle.apply_events.specs.Stages.{IsUnderWay, is_on_course, is_reached, time_before}
use Rattle.apply_events.specs.Step.{Step}
use Rattle.apply_events.specs.StepEvents.{goes_on, phase_after, seconds_of, step_time}
use Rattle.apply_events.proofs.Begun.{all_more, and_both, and_first, and_second, begun_last, take_more}

none_of : {X : Type 0} (answer : Option X) → is_none answer ≡ true → answer ≡ None
none_of None h = refl
none_of (Some x) h = cc

-- the time of one step more
time_more : (steps : List Step) (k : ℕ) (s : Step) (rest : List Step) → drop k steps ≡ s ∷ rest
    → sum_by step_time (take (suc k) steps) ≡ sum_by step_time (take k steps) + step_time s
time_more steps k s rest h =
    ap (λ ss. sum_by step_time ss) (take_more steps k s rest h) ∙ sum_by-append step_time (take k steps) (s ∷ [])
    ∙ ap (λ n. sum_by step_time (take k steps) + n) (let one : sum_by step_time (s ∷ []) ≡ step_time s = sum_by-cons step_time s [] ∙ omega arith in one)

-- ---- where a step begins

-- a hook halts before it
pub halted_time : (steps : List Step) (k : ℕ) (s : Step) (rest : List Step) (begin at hook : ℕ) (stage : Stage) → drop k steps ≡ s ∷ rest → stage ≡ Before
    → is_on_course steps k stage ≡ true → at ≡ begin + time_before steps k stage → s.halts Pre ≡ Some hook
    → at ≡ begin + time_before steps k Over
halted_time steps k s rest begin at hook stage h before on time halts =
    let all : list_all goes_on (take k steps) ≡ true = rw before at on in
    let now : at ≡ begin + sum_by step_time (take k steps) = rw before at time in
    let ends : goes_on s ≡ false = rw halts refl in
    let none : step_time s ≡ 0 = rw halts refl in
    let whole : sum_by step_time (begun steps) ≡ sum_by step_time (take (suc k) steps) = ap (λ ss. sum_by step_time ss) (begun_last steps k s rest h all ends) in
    let more : sum_by step_time (take (suc k) steps) ≡ sum_by step_time (take k steps) + step_time s = time_more steps k s rest h in
    omega arith

-- it starts
pub started_course : (steps : List Step) (k : ℕ) (s : Step) (rest : List Step) (mid : MidStep) (stage : Stage) → drop k steps ≡ s ∷ rest → stage ≡ Before
    → is_on_course steps k stage ≡ true → s.halts Pre ≡ None → is_on_course steps k (Running mid) ≡ true
started_course steps k s rest mid stage h before on starts =
    and_both (list_all goes_on (take k steps)) (is_reached (drop k steps) (Running mid)) (rw before at on) (rw (h, starts) refl)

pub started_time : (steps : List Step) (k begin at : ℕ) (mid : MidStep) (stage : Stage) → stage ≡ Before → at ≡ begin + time_before steps k stage → at ≡ begin + time_before steps k (Running mid)
started_time steps k begin at mid stage before time = rw before at time

-- ---- a step that has started

pub under_way-running : (steps : List Step) (k : ℕ) (s : Step) (begin at : ℕ) (mid : MidStep) (stage : Stage) → drop k steps ≡ s ∷ drop (k + 1) steps → stage ≡ Running mid
    → is_on_course steps k stage ≡ true → at ≡ begin + time_before steps k stage → IsUnderWay steps k s begin at
under_way-running steps k s begin at mid stage h is on time =
    let both : is_on_course steps k (Running mid) ≡ true = rw is at on in
    record {
      step = h;
      reached = and_first (list_all goes_on (take k steps)) (is_reached (drop k steps) (Running mid)) both;
      unhalted = none_of (s.halts Pre) (rw h at (and_second (list_all goes_on (take k steps)) (is_reached (drop k steps) (Running mid)) both));
      time = rw is at time;
    }

pub under_way-noting : (steps : List Step) (k : ℕ) (s : Step) (begin at : ℕ) (stage : Stage) → drop k steps ≡ s ∷ drop (k + 1) steps → stage ≡ Noting
    → is_on_course steps k stage ≡ true → at ≡ begin + time_before steps k stage → IsUnderWay steps k s begin at
under_way-noting steps k s begin at stage h is on time =
    let both : is_on_course steps k Noting ≡ true = rw is at on in
    record {
      step = h;
      reached = and_first (list_all goes_on (take k steps)) (is_reached (drop k steps) Noting) both;
      unhalted = none_of (s.halts Pre) (rw h at (and_second (list_all goes_on (take k steps)) (is_reached (drop k steps) Noting) both));
      time = rw is at time;
    }

-- its note comes next
pub noting_course : (steps : List Step) (k : ℕ) (s : Step) (begin at : ℕ) → IsUnderWay steps k s begin at → is_on_course steps k Noting ≡ true
noting_course steps k s begin at way =
    and_both (list_all goes_on (take k steps)) (is_reached (drop k steps) Noting) way.reached (rw (way.step, way.unhalted) refl)

stops : (fails : Bool) (halts : Phase → Option ℕ) (hook : ℕ) → halts (phase_after fails) ≡ Some hook → ((true && not fails) && is_none (halts PostDone)) ≡ false
stops true halts hook h = refl
stops false halts hook h = rw h refl

-- a hook halts after it
pub halting_course : (steps : List Step) (k : ℕ) (s : Step) (begin at hook : ℕ) → IsUnderWay steps k s begin at → s.halts (phase_after s.fails) ≡ Some hook
    → is_on_course steps k (Halting hook) ≡ true
halting_course steps k s begin at hook way halts =
    and_both (list_all goes_on (take k steps)) (is_reached (drop k steps) (Halting hook)) way.reached (rw (way.step, way.unhalted, stops s.fails s.halts hook halts) refl)

-- it is over, and no other follows
over_time : (steps : List Step) (k : ℕ) (s : Step) (begin at : ℕ) → IsUnderWay steps k s begin at → goes_on s ≡ false → at + (seconds_of s) ≡ begin + time_before steps (k + 1) Over
over_time steps k s begin at way ends =
    let took : step_time s ≡ (seconds_of s) = rw way.unhalted refl in
    let now : at ≡ begin + sum_by step_time (take k steps) = way.time in
    let whole : sum_by step_time (begun steps) ≡ sum_by step_time (take (suc k) steps) = ap (λ ss. sum_by step_time ss) (begun_last steps k s (drop (k + 1) steps) way.step way.reached ends) in
    let more : sum_by step_time (take (suc k) steps) ≡ sum_by step_time (take k steps) + step_time s = time_more steps k s (drop (k + 1) steps) way.step in
    omega arith

pub halted_over : (steps : List Step) (k : ℕ) (s : Step) (begin at hook : ℕ) (stage : Stage) → drop k steps ≡ s ∷ drop (k + 1) steps → stage ≡ Halting hook
    → is_on_course steps k stage ≡ true → at ≡ begin + time_before steps k stage → at + (seconds_of s) ≡ begin + time_before steps (k + 1) Over
halted_over steps k s begin at hook stage h is on time =
    let both : is_on_course steps k (Halting hook) ≡ true = rw is at on in
    let reached : (is_none (s.halts Pre) && not (goes_on s)) ≡ true = rw h at (and_second (list_all goes_on (take k steps)) (is_reached (drop k steps) (Halting hook)) both) in
    over_time steps k s begin at (record {
      step = h;
      reached = and_first (list_all goes_on (take k steps)) (is_reached (drop k steps) (Halting hook)) both;
      unhalted = none_of (s.halts Pre) (and_first (is_none (s.halts Pre)) (not (goes_on s)) reached);
      time = rw is at time;
    }) (not_true (goes_on s) (and_second (is_none (s.halts Pre)) (not (goes_on s)) reached))
  where
    not_true : (b : Bool) → not b ≡ true → b ≡ false
    not_true true h = cc
    not_true false h = refl

pub failed_over : (steps : List Step) (k : ℕ) (s : Step) (begin at : ℕ) → IsUnderWay steps k s begin at → s.fails ≡ true → at + (seconds_of s) ≡ begin + time_before steps (k + 1) Over
failed_over steps k s begin at way fails = over_time steps k s begin at way (rw (way.unhalted, fails) refl)

completes : (fails : Bool) (halts : Phase → Option ℕ) → halts (phase_after fails) ≡ None → fails ≡ false → ((true && not fails) && is_none (halts PostDone)) ≡ true
completes true halts h e = cc
completes false halts h e = rw h refl

-- it is over, and the next follows
pub next_course : (steps : List Step) (k : ℕ) (s : Step) (begin at : ℕ) → IsUnderWay steps k s begin at → s.halts (phase_after s.fails) ≡ None → s.fails ≡ false
    → is_on_course steps (k + 1) Before ≡ true
next_course steps k s begin at way halts goes =
    rw add-one (all_more steps k s (drop (k + 1) steps) way.step way.reached (rw (way.unhalted, completes s.fails s.halts halts goes) refl))

pub next_time : (steps : List Step) (k : ℕ) (s : Step) (begin at : ℕ) → IsUnderWay steps k s begin at → at + (seconds_of s) ≡ begin + time_before steps (k + 1) Before
next_time steps k s begin at way =
    let took : step_time s ≡ (seconds_of s) = rw way.unhalted refl in
    let now : at ≡ begin + sum_by step_time (take k steps) = way.time in
    let more : sum_by step_time (take (suc k) steps) ≡ sum_by step_time (take k steps) + step_time s = time_more steps k s (drop (k + 1) steps) way.step in
    let place : take (k + 1) steps ≡ take (suc k) steps = rw add-one refl in
    let sums : sum_by step_time (take (k + 1) steps) ≡ sum_by step_time (take (suc k) steps) = ap (λ ss. sum_by step_time ss) place in
    omega arith
