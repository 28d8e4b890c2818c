-- No more steps begin in a run than are planned.
use Rattle.std.proofs.Common.{All, ◌≡◌, ℕ, zero, suc, ◌+◌, ◌≤◌, List, [], ◌∷◌, ◌++◌, cond, count_by, flat_map, map, take, Bool, true, false, Option, Some, None, option_map, option_to_list, refl, ap, ◌∙◌, subst, ⊎_elim, slice_get, arith}
use Rattle.std.specs.Prelude.{◌&&◌, is_some}
use Rattle.std.specs.List.{enumerate_from}
use Rattle.std.specs.Option.{option_map_or}
use Rattle.std.proofs.lemmas.List.Elements.{All-head, All-tail}
use Rattle.std.proofs.lemmas.List.Sums.{sum_by-append, sum_by-cons}
use Rattle.apply_model.specs.declared.plan.step_kind.StepKind.{StepKind}
use Rattle.apply_model.specs.declared.script.outcome.Outcome.{Outcome}
use Rattle.apply_model.specs.Plan.ResourceChange.{ResourceChange}
use Rattle.apply_model.specs.Plan.SavedPlan.{SavedPlan}
use Rattle.apply_model.specs.Script.Outcome.{has_failed}
use Rattle.apply_model.specs.Script.OutcomeMap.{OutcomeMap, first_skipped, outcome_of}
use Rattle.stream_check.specs.declared.messages.action.Action.{Action}
use Rattle.stream_check.specs.Tally.{begins}
use Rattle.stream_check.specs.Words.{same_action}
use Rattle.apply_hooks.specs.declared.phase.Phase as asked
use Rattle.apply_hooks.specs.declared.phase.Phase.TheVariants.{Pre}
use Rattle.apply_events.specs.declared.event.Event.{Event}
use Rattle.apply_events.specs.declared.what.What.{What}
use Rattle.apply_events.specs.declared.what.What.TheVariants.{Start, Progress, Complete, Errored, ErrorNote, WarnNote, Halted, ProvisionStart, ProvisionOutput, ProvisionComplete, ProvisionErrored}
use Rattle.apply_events.specs.Step.{Step, Work, kinds_applied, kinds_of, step_of, steps_of}
use Rattle.apply_events.specs.StepEvents.{between, end_of, endings, event, goes_on, halts, notes, phase_after, seconds_of, start_events, step_events, emits_end}
use Rattle.apply_events.proofs.Provisions.{all_along}
use Rattle.apply_text_terraform.specs.Message.{is_silent}
use Rattle.laws_run.specs.ChangesUnderWay.{is_start}
use Rattle.laws_check.specs.ReadBack.{action_of}
use Rattle.laws_check.specs.ReadBackInForm.{read_back_in_form, event_read_back_in_form}
use Rattle.laws_check.specs.WholeSteps.{AreOfSteps}
use Rattle.laws_check.proofs.AppliedKinds.{applied_is_planned}

-- ---- starts

-- a step of that action starts
abbrev pub starts_as : SavedPlan → Action → Event → Bool
starts_as plan k e = is_start e.what && option_map_or (λ does. same_action (action_of does) k) (slice_get (kinds_of plan e.change) e.step) false

-- ---- starts that are read back

starts_read_back : (k : Action) (change : ResourceChange) (does : StepKind) (outcome : Outcome) (what : What)
    → count_by (begins k) (cond (is_silent does what) [] (read_back_in_form change does outcome what ∷ [])) ≤ cond (is_start what && same_action (action_of does) k) 1 0
starts_read_back k change does outcome what = of_test (is_silent does what) what
  where
    of_test : (b : Bool) (what : What) → count_by (begins k) (cond b [] (read_back_in_form change does outcome what ∷ [])) ≤ cond (is_start what && same_action (action_of does) k) 1 0
    of_test true what = omega arith
    of_test false Start = omega arith
    of_test false (Progress s) = omega arith
    of_test false (Complete s) = omega arith
    of_test false (Errored s) = omega arith
    of_test false ErrorNote = omega arith
    of_test false WarnNote = omega arith
    of_test false (Halted phase hook) = omega arith
    of_test false (ProvisionStart i) = omega arith
    of_test false (ProvisionOutput i line) = omega arith
    of_test false (ProvisionComplete i) = omega arith
    of_test false (ProvisionErrored i) = omega arith

one_told : (plan : SavedPlan) (script : OutcomeMap) (k : Action) (e : Event) → count_by (begins k) (event_read_back_in_form plan script e) ≤ cond (starts_as plan k e) 1 0
one_told plan script k e = of_change (slice_get plan.changes e.change)
  where
    of_step : (change : ResourceChange) (o : Option StepKind)
        → count_by (begins k) (option_map_or (λ does. cond (is_silent does e.what) [] (read_back_in_form change does (outcome_of script e.change e.step) e.what ∷ [])) o [])
        ≤ cond (is_start e.what && option_map_or (λ does. same_action (action_of does) k) o false) 1 0
    of_step change None = omega arith
    of_step change (Some does) = starts_read_back k change does (outcome_of script e.change e.step) e.what

    of_change : (o : Option ResourceChange)
        → count_by (begins k) (option_map_or (λ (change : ResourceChange). option_map_or (λ does. cond (is_silent does e.what) [] (read_back_in_form change does (outcome_of script e.change e.step) e.what ∷ [])) (slice_get change.steps e.step) []) o [])
        ≤ cond (is_start e.what && option_map_or (λ does. same_action (action_of does) k) (slice_get (option_map_or (λ (change : ResourceChange). change.steps) o []) e.step) false) 1 0
    of_change None = omega arith
    of_change (Some change) = of_step change (slice_get change.steps e.step)

pub all_starts_read_back : (plan : SavedPlan) (script : OutcomeMap) (k : Action) (es : List Event) → count_by (begins k) (flat_map (event_read_back_in_form plan script) es) ≤ count_by (starts_as plan k) es
all_starts_read_back plan script k [] = omega arith
all_starts_read_back plan script k (e ∷ es) =
    let rest = all_starts_read_back plan script k es in
    let here = one_told plan script k e in
    let both = sum_by-append (λ m. cond (begins k m) 1 0) (event_read_back_in_form plan script e) (flat_map (event_read_back_in_form plan script) es) in
    let first = sum_by-cons (λ x. cond (starts_as plan k x) 1 0) e es in
    omega arith

-- ---- what starts along a step

module _ (plan : SavedPlan) (k : Action) where
  abbrev quiet : List Event → Type 0
  quiet es = count_by (starts_as plan k) es ≡ 0

  quiet_both : (es fs : List Event) → quiet es → quiet fs → quiet (es ++ fs)
  quiet_both es fs one other = let both = sum_by-append (λ e. cond (starts_as plan k e) 1 0) es fs in omega arith

  quiet_before : (e : Event) (es : List Event) → is_start e.what ≡ false → quiet es → quiet (e ∷ es)
  quiet_before e es other rest =
      let first = sum_by-cons (λ x. cond (starts_as plan k x) 1 0) e es in
      let here : cond {A = ℕ} (starts_as plan k e) 1 0 ≡ 0 = ap (λ (b : Bool). cond (b && option_map_or (λ does. same_action (action_of does) k) (slice_get (kinds_of plan e.change) e.step) false) 1 0) other in
      omega arith

  module _ (w : ℕ) (s : Step) where
    abbrev StartsNot : ℕ × What → Type 0
    StartsNot x = is_start x.1 ≡ false

    none_starts : All StartsNot (between s)
    none_starts =
        all_along StartsNot (seconds_of s) 0 0 s.seconds_before s.ran (λ t. refl) (λ i p since. refl) (λ i p j since. refl)
        (λ i p since. elim (has_failed p) as (λ f. is_start (cond f (ProvisionErrored i) (ProvisionComplete i)) ≡ false) [ true ↦ refl | false ↦ refl ])

    quiet_between : (at : ℕ) (xs : List (ℕ × What)) → All StartsNot xs → quiet (map (λ (x : ℕ × What). event w s (at + x.0) x.1) xs)
    quiet_between at [] none = refl
    quiet_between at (x ∷ xs) none =
        quiet_before (event w s (at + x.0) x.1) (map (λ (y : ℕ × What). event w s (at + y.0) y.1) xs) (All-head StartsNot x xs none) (quiet_between at xs (All-tail StartsNot x xs none))

    quiet_ends : (emitted fails warns : Bool) (at end : ℕ) → quiet (map (λ what. event w s at what) (cond emitted (end_of fails end ∷ notes fails warns) (WarnNote ∷ [])))
    quiet_ends false fails warns at end = refl
    quiet_ends true true warns at end = refl
    quiet_ends true false true at end = refl
    quiet_ends true false false at end = refl

    quiet_halts : (phase : asked.Phase) (at : ℕ) (located : Option ℕ) → quiet (option_to_list (option_map (λ hook. event w s at (Halted phase hook)) located))
    quiet_halts phase at None = refl
    quiet_halts phase at (Some hook) = refl

    module _ (does : StepKind) (lookup : slice_get (kinds_of plan s.change) s.number ≡ Some does) where
      abbrev one : ℕ
      one = cond (same_action (action_of does) k) 1 0

      first_starts : (at : ℕ) → count_by (starts_as plan k) (event w s at Start ∷ []) ≡ cond (same_action (action_of does) k) 1 0
      first_starts at =
          let all = sum_by-cons (λ x. cond (starts_as plan k x) 1 0) (event w s at Start) [] in
          let none : count_by (starts_as plan k) [] ≡ 0 = refl in
          let here : cond {A = ℕ} (starts_as plan k (event w s at Start)) 1 0 ≡ cond (same_action (action_of does) k) 1 0 =
          ap (λ (o : Option StepKind). cond (option_map_or (λ does. same_action (action_of does) k) o false) 1 0) lookup in
          omega arith

      pub step_starts : (at : ℕ) → count_by (starts_as plan k) (step_events w s at) ≤ cond (same_action (action_of does) k) 1 0
      step_starts at = either (s.halts Pre)
        where
          either : (located : Option ℕ) → count_by (starts_as plan k) (cond (is_some located) (option_to_list (option_map (λ hook. event w s at (Halted Pre hook)) located)) (start_events w s at)) ≤ cond (same_action (action_of does) k) 1 0
          either (Some hook) = let none : quiet (option_to_list (option_map (λ hook. event w s at (Halted Pre hook)) (Some hook))) = quiet_halts Pre at (Some hook) in omega arith
          either None =
              let start = event w s at Start ∷ [] in
              let middle = map (λ (x : ℕ × What). event w s (at + x.0) x.1) (between s) in
              let last = map (λ what. event w s (at + seconds_of s) what) (endings s) in
              let halt = halts w s (phase_after s.fails) (at + seconds_of s) in
              let a = first_starts at in
              let b = quiet_between at (between s) none_starts in
              let c = quiet_ends (emits_end s.fails s.only_warns) s.fails s.warns (at + seconds_of s) (seconds_of s) in
              let d = quiet_halts (phase_after s.fails) (at + seconds_of s) (s.halts (phase_after s.fails)) in
              let one_two = sum_by-append (λ e. cond (starts_as plan k e) 1 0) start middle in
              let three = sum_by-append (λ e. cond (starts_as plan k e) 1 0) (start ++ middle) last in
              let four = sum_by-append (λ e. cond (starts_as plan k e) 1 0) ((start ++ middle) ++ last) halt in
              omega arith

-- ---- along a change

abbrev pub does_so : Action → StepKind → Bool
does_so k does = same_action (action_of does) k

steps_start : (work : Work) (k : Action) (c n : ℕ) (kinds : List StepKind) → ((i : ℕ) (does : StepKind) → slice_get kinds i ≡ Some does → slice_get (kinds_of work.plan c) (n + i) ≡ Some does)
    → (es : List Event) → AreOfSteps (map (λ p. step_of work c p.0 p.1) (enumerate_from n kinds)) es → count_by (starts_as work.plan k) es ≤ count_by (does_so k) kinds
steps_start work k c n [] at es are = let none : count_by (starts_as work.plan k) es ≡ 0 = ap (count_by (starts_as work.plan k)) are in omega arith
steps_start work k c n (does ∷ kinds) at es are =
    let all = sum_by-cons (λ x. cond (does_so k x) 1 0) does kinds in
    ⊎_elim
    (λ (empty : es ≡ []). let none : count_by (starts_as work.plan k) es ≡ 0 = ap (count_by (starts_as work.plan k)) empty in omega arith)
    (λ (some : (w : ℕ) × (begin : ℕ) × (rest : List Event) × (es ≡ step_events w (step_of work c n does) begin ++ rest)
    × (goes_on (step_of work c n does) ≡ true → AreOfSteps (map (λ p. step_of work c p.0 p.1) (enumerate_from (n + 1) kinds)) rest) × (goes_on (step_of work c n does) ≡ false → rest ≡ [])).
    let here : n + 0 ≡ n = omega arith in
    let lookup : slice_get (kinds_of work.plan c) n ≡ Some does = subst (λ (x : ℕ). slice_get (kinds_of work.plan c) x ≡ Some does) here (at 0 does refl) in
    let first = step_starts work.plan k some.0 (step_of work c n does) does lookup some.1 in
    let split : count_by (starts_as work.plan k) es ≡ count_by (starts_as work.plan k) (step_events some.0 (step_of work c n does) some.1) + count_by (starts_as work.plan k) some.2 =
    ap (count_by (starts_as work.plan k)) some.3 ∙ sum_by-append (λ e. cond (starts_as work.plan k e) 1 0) (step_events some.0 (step_of work c n does) some.1) some.2 in
    let others = after (goes_on (step_of work c n does)) refl some.2 (λ on. steps_start work k c (n + 1) kinds next some.2 (some.4 on)) some.5 in
    omega arith)
    are
  where
    next : (i : ℕ) (x : StepKind) → slice_get kinds i ≡ Some x → slice_get (kinds_of work.plan c) (n + 1 + i) ≡ Some x
    next i x is = subst (λ (m : ℕ). slice_get (kinds_of work.plan c) m ≡ Some x) (let e : n + suc i ≡ n + 1 + i = omega arith in e) (at (suc i) x is)

    after : (b : Bool) → goes_on (step_of work c n does) ≡ b → (rest : List Event) → (goes_on (step_of work c n does) ≡ true → count_by (starts_as work.plan k) rest ≤ count_by (does_so k) kinds)
        → (goes_on (step_of work c n does) ≡ false → rest ≡ []) → count_by (starts_as work.plan k) rest ≤ count_by (does_so k) kinds
    after true is rest on off = on is
    after false is rest on off = let none : count_by (starts_as work.plan k) rest ≡ 0 = ap (count_by (starts_as work.plan k)) (off is) in omega arith

fewer : (p : StepKind → Bool) (m : ℕ) (kinds : List StepKind) → count_by p (take m kinds) ≤ count_by p kinds
fewer p zero kinds = omega arith
fewer p (suc m) [] = omega arith
fewer p (suc m) (x ∷ xs) =
    let rest = fewer p m xs in
    let one = sum_by-cons (λ y. cond (p y) 1 0) x (take m xs) in
    let other = sum_by-cons (λ y. cond (p y) 1 0) x xs in
    omega arith

applied_fewer : (plan : SavedPlan) (script : OutcomeMap) (c : ℕ) (p : StepKind → Bool) → count_by p (kinds_applied plan script c) ≤ count_by p (kinds_of plan c)
applied_fewer plan script c p = of_first (first_skipped script c)
  where
    of_first : (first : Option ℕ) → count_by p (option_map_or (λ skipped. take skipped (kinds_of plan c)) first (kinds_of plan c)) ≤ count_by p (kinds_of plan c)
    of_first None = omega arith
    of_first (Some skipped) = fewer p skipped (kinds_of plan c)

-- a change starts no more steps than the plan has for it
pub change_starts : (work : Work) (k : Action) (c : ℕ) (es : List Event) → AreOfSteps (steps_of work c) es → count_by (starts_as work.plan k) es ≤ count_by (does_so k) (kinds_of work.plan c)
change_starts work k c es are =
    let kinds = kinds_applied work.plan work.script c in
    let some = steps_start work k c 0 kinds (λ i does is. subst (λ (m : ℕ). slice_get (kinds_of work.plan c) m ≡ Some does) (let e : i ≡ 0 + i = omega arith in e) (applied_is_planned work.plan work.script c i does is)) es are in
    let most = applied_fewer work.plan work.script c (does_so k) in
    omega arith
