-- The checker accepts all messages before an apply: the planning, and the plan where it is told.
use Rattle.std.proofs.Common.{◌≡◌, ℕ, ◌+◌, ◌<◌, ◌≤◌, List, [], ◌∷◌, ◌++◌, append-nil, length, map, flat_map, Bool, true, false, cond, Option, Some, None, Result, Ok, refl, sym, ap, ap₂, ◌∙◌, subst, ⊎_elim, ◌⊎◌, count_by, arith, slice_get}
use Rattle.std.specs.Prelude.{◌&&◌}
use Rattle.std.specs.List.{enumerate_from, filter_map, list_any}
use Rattle.std.specs.Option.{option_map_or}
use Rattle.std.proofs.Math.Bool.{and-false}
use Rattle.std.proofs.lemmas.Grind.{flat_map-append}
use Rattle.std.proofs.lemmas.List.Sums.{sum_by-append}
use Rattle.apply_model.specs.declared.plan.mode.Mode.{Mode}
use Rattle.apply_model.specs.declared.plan.mode.Mode.TheVariants.{Managed, DataSource}
use Rattle.apply_model.specs.declared.plan.step_kind.StepKind.TheVariants as kind
use Rattle.apply_model.specs.Plan.ResourceChange.{ResourceChange}
use Rattle.stream_check.specs.declared.messages.action.Action.{Action}
use Rattle.stream_check.specs.declared.messages.action.Action.TheVariants.{Create, Update, Delete, Read, Refresh}
use Rattle.stream_check.specs.declared.messages.timed_stage.TimedStage.{TimedStage}
use Rattle.stream_check.specs.declared.messages.totals.Totals.{Totals}
use Rattle.stream_check.specs.declared.rules.fault.Fault.{Fault}
use Rattle.stream_check.specs.declared.rules.pending.Pending.{Pending}
use Rattle.stream_check.specs.declared.rules.pending.Pending.TheVariants.{One, Several}
use Rattle.stream_check.specs.AddressState.{pending_at, state_of}
use Rattle.stream_check.specs.Intents.{creates, deletes, updates}
use Rattle.stream_check.specs.Message.{Message, version, step, provision, planned, plan_summary, summary, diagnostic, outputs, other, foreign}
use Rattle.stream_check.specs.Results.{◌>>=◌}
use Rattle.stream_check.specs.Tally.{begins, begun_totals, completed_totals, completes, is_begin, is_completion, is_error, is_plan_summary, is_step, line_of, no_totals, planned_totals, plans_create, plans_delete, plans_update}
use Rattle.stream_check.specs.Words.{same_action}
use Rattle.stream_check.proofs.Counting.{same_counts}
use Rattle.apply_events.specs.declared.event.Event.{Event}
use Rattle.apply_events.specs.declared.what.What.{What}
use Rattle.apply_events.specs.declared.what.What.TheVariants.{Start, Progress, Complete, Errored, ErrorNote, WarnNote, Halted, ProvisionStart, ProvisionOutput, ProvisionComplete, ProvisionErrored}
use Rattle.apply_planning.specs.declared.told.Told.{Told}
use Rattle.apply_planning.specs.PlanningWork.{planning_work}
use Rattle.apply_planning_failures.specs.Planning.{planning_notes}
use Rattle.apply_planning_failures.specs.PlansPart.{details_at}
use Rattle.apply_prior.specs.declared.drift.Drift.{Drift}
use Rattle.apply_prior.specs.declared.planned_output.PlannedOutput.{PlannedOutput}
use Rattle.apply_text_planning.specs.Totals as plan_sums
use Rattle.apply_command.specs.declared.head_line.HeadLine.TheVariants as line
use Rattle.apply_command.specs.Head.{HeadInputs, head_lines, plan_lines, sums}
use Rattle.apply_writer.specs.Stream.Terraform as form
use Rattle.laws_check.specs.Passing.{with_all}
use Rattle.laws_check.specs.Plans.{AreStepsOfOne}
use Rattle.laws_check.specs.ReadBackInForm.{planned_read_back_at}
use Rattle.laws_check.specs.WholeSteps.{IsOfWholeSteps}
use Rattle.laws_check.proofs.Counting.{counted}
use Rattle.laws_check.proofs.FormParts.{none_counted, none_on}
use Rattle.laws_check.proofs.FormPendings.{held}
use Rattle.laws_check.proofs.Fitting.{MatchesPending}
use Rattle.laws_check.proofs.Turning.{followed_by, followed_by_both, joined}
use Rattle.laws_check.proofs.Whole.{counts_followed_by}
use Rattle.laws_command_check.specs.FewTold.{FewShareAnAddress, OnlyReadsWarn, is_told_at}
use Rattle.laws_command_check.specs.HeadReadBack.{drift_read_back_at, head_read_back, line_read_back, planning_read_back, told_read_back, totals_of_plan}
use Rattle.laws_command_check.proofs.Behind.{IsBehind, ignores_plans, more_other, more_outputs, more_summary, one_less}
use Rattle.laws_command_check.proofs.Courses.{all_courses, all_known}
use Rattle.laws_command_check.proofs.Ended.{all_ended}
use Rattle.laws_command_check.proofs.HeadTaken.{ArePassed, ArePlain, IsGoing, after_planning, all_behind, all_ignored, all_plain, all_planned_so, by_numbers, command_at, counts_as, forgetting, message_at, plain_both, plain_planned, planning_passed, puts_out, sums_up}
use Rattle.laws_command_check.proofs.Planning.{Stands, all_closed, all_run, at_begin, few_shown}

abbrev fine : {A : Type 0} → A → Result A Fault
fine x = Ok x

-- ---- messages before an apply

abbrev pub IsAhead : Message → Type 0
IsAhead version = ⊥
IsAhead (step a k stage) = (k ≡ Read) ⊎ (k ≡ Refresh)
IsAhead (provision a stage) = ⊥
IsAhead (planned intent o) = Unit {0}
IsAhead (plan_summary t) = Unit {0}
IsAhead (summary t) = ⊥
IsAhead (diagnostic e o) = ⊥
IsAhead outputs = Unit {0}
IsAhead other = Unit {0}
IsAhead foreign = ⊥

abbrev pub AreAhead : List Message → Type 0
AreAhead [] = Unit {0}
AreAhead (m ∷ ms) = IsAhead m × AreAhead ms

ahead_both : (xs ys : List Message) → AreAhead xs → AreAhead ys → AreAhead (xs ++ ys)
ahead_both [] ys h k = k
ahead_both (x ∷ xs) ys h k = (h.0, ahead_both xs ys h.1 k)

-- the test passes none of these
abbrev Leaves : (Message → Bool) → Type 0
Leaves q = (m : Message) → IsAhead m → q m ≡ false

ahead_after : (q : Message → Bool) → Leaves q → (xs ms : List Message) → AreAhead xs → count_by q (followed_by ms xs) ≡ count_by q ms
ahead_after q leaves [] ms h = refl
ahead_after q leaves (x ∷ xs) ms h = ahead_after q leaves xs (x ∷ ms) h.1 ∙ one_less q x ms (leaves x h.0)

leaves_steps : (k : Action) (test : TimedStage → Bool) → same_action Read k ≡ false → same_action Refresh k ≡ false → Leaves (is_step k test)
leaves_steps k test r f version h = refl
leaves_steps k test r f (step a l stage) h =
    ⊎_elim
    (λ (is : l ≡ Read). ap (λ (x : Action). test stage && same_action x k) is ∙ ap (λ (b : Bool). test stage && b) r ∙ and-false (test stage))
    (λ (is : l ≡ Refresh). ap (λ (x : Action). test stage && same_action x k) is ∙ ap (λ (b : Bool). test stage && b) f ∙ and-false (test stage))
    h
leaves_steps k test r f (provision a stage) h = refl
leaves_steps k test r f (planned intent o) h = refl
leaves_steps k test r f (plan_summary t) h = refl
leaves_steps k test r f (summary t) h = refl
leaves_steps k test r f (diagnostic e o) h = refl
leaves_steps k test r f outputs h = refl
leaves_steps k test r f other h = refl
leaves_steps k test r f foreign h = refl

leaves_errors : Leaves is_error
leaves_errors version h = refl
leaves_errors (step a l stage) h = refl
leaves_errors (provision a stage) h = refl
leaves_errors (planned intent o) h = refl
leaves_errors (plan_summary t) h = refl
leaves_errors (summary t) h = refl
leaves_errors (diagnostic e o) h = absurd h
leaves_errors outputs h = refl
leaves_errors other h = refl
leaves_errors foreign h = refl

passed_ahead : (ms : List Message) → ArePassed ms → AreAhead ms
passed_ahead [] h = tt
passed_ahead (version ∷ ms) h = absurd h.0
passed_ahead (step a k stage ∷ ms) h = (h.0, passed_ahead ms h.1)
passed_ahead (provision a stage ∷ ms) h = absurd h.0
passed_ahead (planned intent o ∷ ms) h = (tt, passed_ahead ms h.1)
passed_ahead (plan_summary t ∷ ms) h = (tt, passed_ahead ms h.1)
passed_ahead (summary t ∷ ms) h = absurd h.0
passed_ahead (diagnostic e o ∷ ms) h = absurd h.0
passed_ahead (outputs ∷ ms) h = (tt, passed_ahead ms h.1)
passed_ahead (other ∷ ms) h = (tt, passed_ahead ms h.1)
passed_ahead (foreign ∷ ms) h = absurd h.0

plain_ahead : (ms : List Message) → ArePlain ms → AreAhead ms
plain_ahead [] h = tt
plain_ahead (version ∷ ms) h = absurd h.0
plain_ahead (step a k stage ∷ ms) h = absurd h.0
plain_ahead (provision a stage ∷ ms) h = absurd h.0
plain_ahead (planned intent o ∷ ms) h = (tt, plain_ahead ms h.1)
plain_ahead (plan_summary t ∷ ms) h = absurd h.0
plain_ahead (summary t ∷ ms) h = absurd h.0
plain_ahead (diagnostic e o ∷ ms) h = absurd h.0
plain_ahead (outputs ∷ ms) h = absurd h.0
plain_ahead (other ∷ ms) h = (tt, plain_ahead ms h.1)
plain_ahead (foreign ∷ ms) h = absurd h.0

-- none of these is the summary of a plan
plain_unsummed : (ms : List Message) → ArePlain ms → count_by is_plan_summary ms ≡ 0
plain_unsummed [] h = refl
plain_unsummed (version ∷ ms) h = absurd h.0
plain_unsummed (step a k stage ∷ ms) h = absurd h.0
plain_unsummed (provision a stage ∷ ms) h = absurd h.0
plain_unsummed (planned intent o ∷ ms) h = one_less is_plan_summary (planned intent o) ms refl ∙ plain_unsummed ms h.1
plain_unsummed (plan_summary t ∷ ms) h = absurd h.0
plain_unsummed (summary t ∷ ms) h = absurd h.0
plain_unsummed (diagnostic e o ∷ ms) h = absurd h.0
plain_unsummed (outputs ∷ ms) h = absurd h.0
plain_unsummed (other ∷ ms) h = one_less is_plan_summary other ms refl ∙ plain_unsummed ms h.1
plain_unsummed (foreign ∷ ms) h = absurd h.0

-- nor of a planning
reads_unsummed : (m : Mode) (a : List ℕ) (w : What) → count_by is_plan_summary (told_read_back m a w) ≡ 0
reads_unsummed Managed a Start = refl
reads_unsummed Managed a (Progress s) = refl
reads_unsummed Managed a (Complete s) = refl
reads_unsummed Managed a (Errored s) = refl
reads_unsummed Managed a ErrorNote = refl
reads_unsummed Managed a WarnNote = refl
reads_unsummed Managed a (Halted phase hook) = refl
reads_unsummed Managed a (ProvisionStart i) = refl
reads_unsummed Managed a (ProvisionOutput i n) = refl
reads_unsummed Managed a (ProvisionComplete i) = refl
reads_unsummed Managed a (ProvisionErrored i) = refl
reads_unsummed DataSource a Start = refl
reads_unsummed DataSource a (Progress s) = refl
reads_unsummed DataSource a (Complete s) = refl
reads_unsummed DataSource a (Errored s) = refl
reads_unsummed DataSource a ErrorNote = refl
reads_unsummed DataSource a WarnNote = refl
reads_unsummed DataSource a (Halted phase hook) = refl
reads_unsummed DataSource a (ProvisionStart i) = refl
reads_unsummed DataSource a (ProvisionOutput i n) = refl
reads_unsummed DataSource a (ProvisionComplete i) = refl
reads_unsummed DataSource a (ProvisionErrored i) = refl

planning_unsummed : (told : List Told) (es : List Event) → count_by is_plan_summary (flat_map (planning_read_back told) es) ≡ 0
planning_unsummed told [] = refl
planning_unsummed told (e ∷ es) =
    let here = of_found (slice_get told e.change) in
    let rest = planning_unsummed told es in
    let both = sum_by-append (λ m. cond (is_plan_summary m) 1 0) (planning_read_back told e) (flat_map (planning_read_back told) es) in
    omega arith
  where
    of_found : (o : Option Told) → count_by is_plan_summary (option_map_or (λ (t : Told). told_read_back t.object.mode t.object.address e.what) o []) ≡ 0
    of_found None = refl
    of_found (Some t) = reads_unsummed t.object.mode t.object.address e.what

-- ---- which messages they are

flat_map_map : {X Y M : Type 0} (f : Y → List M) (g : X → Y) (xs : List X) → flat_map f (map g xs) ≡ flat_map (λ x. f (g x)) xs
flat_map_map f g [] = refl
flat_map_map f g (x ∷ xs) = ap (λ l. f (g x) ++ l) (flat_map_map f g xs)

module _ (inputs : HeadInputs) (drifts numbers : List ℕ) where
  abbrev pub drift_messages : List Message
  drift_messages = flat_map (drift_read_back_at inputs) drifts

  abbrev pub planned_messages : List Message
  planned_messages = flat_map (message_at inputs.plan.changes inputs.details) numbers

  abbrev pub sum_messages : List PlannedOutput → List Message
  sum_messages [] = plan_summary (totals_of_plan inputs.totals) ∷ []
  sum_messages (output ∷ others) = plan_summary (totals_of_plan inputs.totals) ∷ outputs ∷ []

  abbrev pub plan_messages : (is_told : Bool) → List Message
  plan_messages is_told = cond is_told ((drift_messages ++ planned_messages) ++ sum_messages inputs.outputs) []

  pub head_is : (events : List Event) (is_told : Bool) → head_read_back inputs (head_lines events (plan_lines is_told drifts numbers inputs.outputs)) ≡ version ∷ (flat_map (planning_read_back inputs.told) events ++ plan_messages is_told)
  head_is events is_told =
      ap (λ (l : List Message). version ∷ l)
      (flat_map-append (line_read_back inputs) (map line.Planning events) (plan_lines is_told drifts numbers inputs.outputs)
      ∙ ap₂ (λ (l m : List Message). l ++ m) (flat_map_map (line_read_back inputs) line.Planning events) (of_test is_told))
    where
      of_sums : (os : List PlannedOutput) → flat_map (line_read_back inputs) (sums os) ≡ sum_messages os
      of_sums [] = refl
      of_sums (o ∷ os) = refl

      of_test : (b : Bool) → flat_map (line_read_back inputs) (plan_lines b drifts numbers inputs.outputs) ≡ plan_messages b
      of_test true =
          flat_map-append (line_read_back inputs) (map line.Drift drifts ++ map line.Planned numbers) (sums inputs.outputs)
          ∙ ap₂ (λ (l m : List Message). l ++ m)
          (flat_map-append (line_read_back inputs) (map line.Drift drifts) (map line.Planned numbers)
          ∙ ap₂ (λ (l m : List Message). l ++ m) (flat_map_map (line_read_back inputs) line.Drift drifts) (flat_map_map (line_read_back inputs) line.Planned numbers))
          (of_sums inputs.outputs)
      of_test false = refl

  plain_drifts : (ns : List ℕ) → ArePlain (flat_map (drift_read_back_at inputs) ns)
  plain_drifts [] = tt
  plain_drifts (n ∷ ns) = plain_both (drift_read_back_at inputs n) (flat_map (drift_read_back_at inputs) ns) (of_drift (slice_get inputs.drifts n)) (plain_drifts ns)
    where
      of_drift : (o : Option Drift) → ArePlain (option_map_or (λ drift. other ∷ []) o [])
      of_drift None = tt
      of_drift (Some drift) = (tt, tt)

  pub plain_front : ArePlain (drift_messages ++ planned_messages)
  plain_front = plain_both drift_messages planned_messages (plain_drifts drifts) (plain_planned inputs.plan.changes inputs.details numbers)

  sums_ahead : (os : List PlannedOutput) → AreAhead (sum_messages os)
  sums_ahead [] = (tt, tt)
  sums_ahead (o ∷ os) = (tt, (tt, tt))

  plan_ahead : (b : Bool) → AreAhead (plan_messages b)
  plan_ahead true = ahead_both (drift_messages ++ planned_messages) (sum_messages inputs.outputs) (plain_ahead (drift_messages ++ planned_messages) plain_front) (sums_ahead inputs.outputs)
  plan_ahead false = tt

  -- drifts plan nothing
  drifts_plan_none : (q : Message → Bool) → q other ≡ false → (ns : List ℕ) → count_by q (flat_map (drift_read_back_at inputs) ns) ≡ 0
  drifts_plan_none q none [] = refl
  drifts_plan_none q none (n ∷ ns) =
      let here = of_drift (slice_get inputs.drifts n) in
      let rest = drifts_plan_none q none ns in
      let both = sum_by-append (λ m. cond (q m) 1 0) (drift_read_back_at inputs n) (flat_map (drift_read_back_at inputs) ns) in
      omega arith
    where
      of_drift : (o : Option Drift) → count_by q (option_map_or (λ drift. other ∷ []) o []) ≡ 0
      of_drift None = refl
      of_drift (Some drift) = one_less q other [] none

-- ---- a planning

-- no more reads stand open than objects share the address
pub held_counted : (limit : ℕ) (h : ℕ → Option ℕ) (p : Option Pending) → MatchesPending limit Delete h p → held p ≡ counted h 0 limit
held_counted limit h None f = sym f
held_counted limit h (Some (One begin elapsed since)) f = sym f.0
held_counted limit h (Some (Several begin count)) f = sym f.1

module _ (told : List Told) (events : List Event) (few : FewShareAnAddress told) (steps : IsOfWholeSteps (planning_work told) events) where
  abbrev planned_so : List Message
  planned_so = flat_map (planning_read_back told) events

  room : (a : List ℕ) → count_by (is_told_at a) told ≤ 10000
  room a = let less = few a in omega arith

  pub planning_ran : (with_all (version ∷ []) (flat_map (planning_read_back told) events) ≡ Ok (followed_by (version ∷ []) (flat_map (planning_read_back told) events)))
      × ((last : ℕ → Option ℕ) × Stands told last (followed_by (version ∷ []) (flat_map (planning_read_back told) events)))
  planning_ran =
      let ran = all_run told room _ events (λ c. None) (version ∷ []) (at_begin told) (all_known told events steps) (all_courses told events steps.whole) in
      (ran.0, (ran.1.0, ran.1.1))

  pub planning_closed : OnlyReadsWarn told → list_any form.is_error (planning_notes (record { told = told; events = events })) ≡ false → (a : List ℕ) → pending_at Refresh (state_of a (followed_by (version ∷ []) (flat_map (planning_read_back told) events))) ≡ None
  planning_closed warns none =
      let ran = all_run told room _ events (λ c. None) (version ∷ []) (at_begin told) (all_known told events steps) (all_ended told events warns none steps.whole) in
      all_closed told Managed ran.1.0 (followed_by (version ∷ []) planned_so) ran.1.1 (λ c t is managed. ran.1.2 c t is managed)

  pub planning_held : (a : List ℕ) → held (state_of a (followed_by (version ∷ []) (flat_map (planning_read_back told) events))).read < 10000
  planning_held a =
      let stands = planning_ran.1.1 in
      let shown = few_shown told a DataSource planning_ran.1.0 in
      let is = held_counted (length told) _ (state_of a (followed_by (version ∷ []) planned_so)).read (stands.open_steps DataSource a) in
      let less = few a in
      omega arith

-- ---- the plan

module _ (inputs : HeadInputs) (drifts numbers : List ℕ) (events : List Event) (few : FewShareAnAddress inputs.told) (steps : IsOfWholeSteps (planning_work inputs.told) events)
    (whole : (c : ℕ) (change : ResourceChange) → slice_get inputs.plan.changes c ≡ Some change → AreStepsOfOne change.steps)
    (totals_are : inputs.totals ≡ plan_sums.planned_totals (filter_map (details_at inputs.plan.changes inputs.details) numbers)) where
  abbrev pm : List Message
  pm = flat_map (planning_read_back inputs.told) events

  -- the messages up to the end of the planning
  abbrev made : List Message
  made = followed_by (version ∷ []) (flat_map (planning_read_back inputs.told) events)

  abbrev front : List Message
  front = drift_messages inputs drifts numbers ++ planned_messages inputs drifts numbers

  abbrev sum : Totals
  sum = totals_of_plan inputs.totals

  going : IsGoing (followed_by (version ∷ []) (flat_map (planning_read_back inputs.told) events))
  going = let amid = (planning_ran inputs.told events few steps).1.1.amid in record { begun = amid.0; unsummed = amid.1 }

  pm_ahead : AreAhead (flat_map (planning_read_back inputs.told) events)
  pm_ahead = passed_ahead pm (planning_passed inputs.told events)

  -- how much is planned
  counted_so : (q : Message → Bool) → q other ≡ false → count_by q (followed_by (version ∷ []) (flat_map (planning_read_back inputs.told) events)) ≡ 0
      → count_by q (followed_by (followed_by (version ∷ []) (flat_map (planning_read_back inputs.told) events)) (drift_messages inputs drifts numbers ++ planned_messages inputs drifts numbers)) ≡ count_by q (planned_messages inputs drifts numbers)
  counted_so q none before =
      let all = counts_followed_by q made front in
      let both = sum_by-append (λ m. cond (q m) 1 0) (drift_messages inputs drifts numbers) (planned_messages inputs drifts numbers) in
      let empty = drifts_plan_none inputs drifts numbers q none drifts in
      omega arith

  plans_so : planned_totals (followed_by (followed_by (version ∷ []) (flat_map (planning_read_back inputs.told) events)) (drift_messages inputs drifts numbers ++ planned_messages inputs drifts numbers)) ≡ totals_of_plan inputs.totals
  plans_so =
      same_counts
      (counted_so plans_create refl (all_ignored plans_create (ignores_plans creates refl) pm (version ∷ []) (planning_passed inputs.told events)) ∙ all_planned_so inputs.plan.changes inputs.details whole plans_create kind.Create (λ change d one. (counts_as change d change.steps one).0) numbers)
      (counted_so plans_update refl (all_ignored plans_update (ignores_plans updates refl) pm (version ∷ []) (planning_passed inputs.told events)) ∙ all_planned_so inputs.plan.changes inputs.details whole plans_update kind.Update (λ change d one. (counts_as change d change.steps one).1) numbers)
      (counted_so plans_delete refl (all_ignored plans_delete (ignores_plans deletes refl) pm (version ∷ []) (planning_passed inputs.told events)) ∙ all_planned_so inputs.plan.changes inputs.details whole plans_delete kind.Delete (λ change d one. (counts_as change d change.steps one).2) numbers)
      ∙ ap totals_of_plan (sym totals_are)

  -- no summary of a plan came before
  made_unsummed : count_by is_plan_summary (followed_by (version ∷ []) (flat_map (planning_read_back inputs.told) events)) ≡ 0
  made_unsummed = let all = counts_followed_by is_plan_summary (version ∷ []) pm in let first : count_by is_plan_summary (version ∷ []) ≡ 0 = refl in let none = planning_unsummed inputs.told events in omega arith

  first_time : line_of is_plan_summary (followed_by (followed_by (version ∷ []) (flat_map (planning_read_back inputs.told) events)) (drift_messages inputs drifts numbers ++ planned_messages inputs drifts numbers)) ≡ None
  first_time = none_on is_plan_summary (followed_by made front)
      (let all = counts_followed_by is_plan_summary made front in let none = plain_unsummed front (plain_front inputs drifts numbers) in let before = made_unsummed in omega arith)

  -- what the checker knows after the head
  pub record IsHeadTaken (is_told : Bool) : Type 0 where
    pub accepted : with_all (version ∷ []) (flat_map (planning_read_back inputs.told) events ++ plan_messages inputs drifts numbers is_told) ≡ Ok (followed_by (version ∷ []) (flat_map (planning_read_back inputs.told) events ++ plan_messages inputs drifts numbers is_told))
    pub goes_on : IsGoing (followed_by (version ∷ []) (flat_map (planning_read_back inputs.told) events ++ plan_messages inputs drifts numbers is_told))
    pub states : (a : List ℕ) → state_of a (followed_by (version ∷ []) (flat_map (planning_read_back inputs.told) events ++ plan_messages inputs drifts numbers is_told)) ≡ state_of a (followed_by (version ∷ []) (flat_map (planning_read_back inputs.told) events))
    pub summed : count_by is_plan_summary (followed_by (version ∷ []) (flat_map (planning_read_back inputs.told) events ++ plan_messages inputs drifts numbers is_told)) ≡ cond is_told 1 0
    pub planned_as : is_told ≡ true → planned_totals (followed_by (version ∷ []) (flat_map (planning_read_back inputs.told) events ++ plan_messages inputs drifts numbers is_told)) ≡ totals_of_plan inputs.totals

  -- the sums
  record AreSummed (xs : List Message) : Type 0 where
    accepted : with_all (followed_by (followed_by (version ∷ []) (flat_map (planning_read_back inputs.told) events)) (drift_messages inputs drifts numbers ++ planned_messages inputs drifts numbers)) xs
        ≡ Ok (followed_by (followed_by (followed_by (version ∷ []) (flat_map (planning_read_back inputs.told) events)) (drift_messages inputs drifts numbers ++ planned_messages inputs drifts numbers)) xs)
    goes_on : IsGoing (followed_by (followed_by (followed_by (version ∷ []) (flat_map (planning_read_back inputs.told) events)) (drift_messages inputs drifts numbers ++ planned_messages inputs drifts numbers)) xs)
    states : (a : List ℕ) → state_of a (followed_by (followed_by (followed_by (version ∷ []) (flat_map (planning_read_back inputs.told) events)) (drift_messages inputs drifts numbers ++ planned_messages inputs drifts numbers)) xs)
        ≡ state_of a (followed_by (followed_by (version ∷ []) (flat_map (planning_read_back inputs.told) events)) (drift_messages inputs drifts numbers ++ planned_messages inputs drifts numbers))
    once : count_by is_plan_summary xs ≡ 1
    planned_as : planned_totals (followed_by (followed_by (followed_by (version ∷ []) (flat_map (planning_read_back inputs.told) events)) (drift_messages inputs drifts numbers ++ planned_messages inputs drifts numbers)) xs) ≡ totals_of_plan inputs.totals

  plain_taken : (with_all (followed_by (version ∷ []) (flat_map (planning_read_back inputs.told) events)) (drift_messages inputs drifts numbers ++ planned_messages inputs drifts numbers)
      ≡ Ok (followed_by (followed_by (version ∷ []) (flat_map (planning_read_back inputs.told) events)) (drift_messages inputs drifts numbers ++ planned_messages inputs drifts numbers)))
      × IsGoing (followed_by (followed_by (version ∷ []) (flat_map (planning_read_back inputs.told) events)) (drift_messages inputs drifts numbers ++ planned_messages inputs drifts numbers))
      × ((a : List ℕ) → state_of a (followed_by (followed_by (version ∷ []) (flat_map (planning_read_back inputs.told) events)) (drift_messages inputs drifts numbers ++ planned_messages inputs drifts numbers)) ≡ state_of a (followed_by (version ∷ []) (flat_map (planning_read_back inputs.told) events)))
  plain_taken = all_plain front made (plain_front inputs drifts numbers) going

  are_summed : (os : List PlannedOutput) → AreSummed (sum_messages inputs drifts numbers os)
  unfolding state_of
  are_summed [] =
      let c = followed_by made front in
      let up = sums_up sum c plain_taken.1 first_time plans_so in
      record {
        accepted = ap (λ (r : Result (List Message) Fault). r >>= λ later. with_all later []) up.0;
        goes_on = up.1;
        states = λ a. refl;
        once = refl;
        planned_as = still (plan_summary sum) c refl refl refl ∙ plans_so;
      }
    where
      still : (m : Message) (ms : List Message) → plans_create m ≡ false → plans_update m ≡ false → plans_delete m ≡ false → planned_totals (m ∷ ms) ≡ planned_totals ms
      still m ms c u d = same_counts (one_less plans_create m ms c) (one_less plans_update m ms u) (one_less plans_delete m ms d)
  are_summed (o ∷ os) =
      let c = followed_by made front in
      let up = sums_up sum c plain_taken.1 first_time plans_so in
      record {
        accepted = ap (λ (r : Result (List Message) Fault). r >>= λ later. with_all later (outputs ∷ [])) up.0
            ∙ ap (λ (r : Result (List Message) Fault). r >>= λ later. with_all later []) (puts_out sum c up.1);
        goes_on = record { begun = up.1.begun; unsummed = up.1.unsummed };
        states = λ a. refl;
        once = refl;
        planned_as = still outputs (plan_summary sum ∷ c) refl refl refl ∙ still (plan_summary sum) c refl refl refl ∙ plans_so;
      }
    where
      still : (m : Message) (ms : List Message) → plans_create m ≡ false → plans_update m ≡ false → plans_delete m ≡ false → planned_totals (m ∷ ms) ≡ planned_totals ms
      still m ms c u d = same_counts (one_less plans_create m ms c) (one_less plans_update m ms u) (one_less plans_delete m ms d)

  all_is : (xs : List Message) → followed_by (followed_by (followed_by (version ∷ []) (flat_map (planning_read_back inputs.told) events)) (drift_messages inputs drifts numbers ++ planned_messages inputs drifts numbers)) xs
      ≡ followed_by (version ∷ []) (flat_map (planning_read_back inputs.told) events ++ ((drift_messages inputs drifts numbers ++ planned_messages inputs drifts numbers) ++ xs))
  all_is xs = followed_by_both made front xs ∙ followed_by_both (version ∷ []) pm (front ++ xs)

  pub head_taken : (is_told : Bool) → IsHeadTaken is_told
  head_taken true =
      let s = sum_messages inputs drifts numbers inputs.outputs in
      let so = are_summed inputs.outputs in
      let is = all_is s in
      record {
        accepted = joined (version ∷ []) made pm (front ++ s) (planning_ran inputs.told events few steps).0 ∙ joined made (followed_by made front) front s plain_taken.0 ∙ so.accepted ∙ ap (λ (l : List Message). fine l) is;
        goes_on = subst IsGoing is so.goes_on;
        states = λ a. ap (state_of a) (sym is) ∙ so.states a ∙ plain_taken.2 a;
        summed = ap (count_by is_plan_summary) (sym is)
            ∙ (let all = counts_followed_by is_plan_summary (followed_by made front) s in
            let middle = counts_followed_by is_plan_summary made front in
            let none = plain_unsummed front (plain_front inputs drifts numbers) in
            let before = made_unsummed in
            let once = so.once in
            omega arith);
        planned_as = λ told. ap planned_totals (sym is) ∙ so.planned_as;
      }
  head_taken false =
      let same : pm ++ [] ≡ pm = append-nil pm in
      let is : followed_by (version ∷ []) (pm ++ []) ≡ made = ap (followed_by (version ∷ [])) same in
      record {
        accepted = ap (with_all (version ∷ [])) same ∙ (planning_ran inputs.told events few steps).0 ∙ ap (λ (l : List Message). fine l) (sym is);
        goes_on = subst IsGoing (sym is) going;
        states = λ a. ap (state_of a) is;
        summed = ap (count_by is_plan_summary) is ∙ made_unsummed;
        planned_as = λ told. absurd (let bad : false ≡ true = told in cc);
      }

  -- no step but refreshes and reads has begun, and no error was told
  all_ahead : (is_told : Bool) → AreAhead (flat_map (planning_read_back inputs.told) events ++ plan_messages inputs drifts numbers is_told)
  all_ahead is_told = ahead_both pm (plan_messages inputs drifts numbers is_told) pm_ahead (plan_ahead inputs drifts numbers is_told)

  pub head_begins_none : (is_told : Bool) → begun_totals (followed_by (version ∷ []) (flat_map (planning_read_back inputs.told) events ++ plan_messages inputs drifts numbers is_told)) ≡ no_totals
  head_begins_none is_told =
      let xs = pm ++ plan_messages inputs drifts numbers is_told in
      same_counts (ahead_after (begins Create) (leaves_steps Create is_begin refl refl) xs (version ∷ []) (all_ahead is_told)) (ahead_after (begins Update) (leaves_steps Update is_begin refl refl) xs (version ∷ []) (all_ahead is_told))
      (ahead_after (begins Delete) (leaves_steps Delete is_begin refl refl) xs (version ∷ []) (all_ahead is_told))

  pub head_completes_none : (is_told : Bool) → completed_totals (followed_by (version ∷ []) (flat_map (planning_read_back inputs.told) events ++ plan_messages inputs drifts numbers is_told)) ≡ no_totals
  head_completes_none is_told =
      let xs = pm ++ plan_messages inputs drifts numbers is_told in
      same_counts (ahead_after (completes Create) (leaves_steps Create is_completion refl refl) xs (version ∷ []) (all_ahead is_told)) (ahead_after (completes Update) (leaves_steps Update is_completion refl refl) xs (version ∷ []) (all_ahead is_told))
      (ahead_after (completes Delete) (leaves_steps Delete is_completion refl refl) xs (version ∷ []) (all_ahead is_told))

  pub head_has_no_error : (is_told : Bool) → list_any is_error (followed_by (version ∷ []) (flat_map (planning_read_back inputs.told) events ++ plan_messages inputs drifts numbers is_told)) ≡ false
  head_has_no_error is_told = none_counted is_error (followed_by (version ∷ []) (pm ++ plan_messages inputs drifts numbers is_told)) (ahead_after is_error leaves_errors (pm ++ plan_messages inputs drifts numbers is_told) (version ∷ []) (all_ahead is_told))

  -- ---- where all changes are told

  behind_drifts : (s c : List Message) (ns : List ℕ) → IsBehind s c → IsBehind s (followed_by c (flat_map (drift_read_back_at inputs) ns))
  behind_drifts s c [] b = b
  behind_drifts s c (n ∷ ns) b =
      subst (λ (l : List Message). IsBehind s l) (followed_by_both c (drift_read_back_at inputs n) (flat_map (drift_read_back_at inputs) ns)) (behind_drifts s (followed_by c (drift_read_back_at inputs n)) ns (of_drift (slice_get inputs.drifts n)))
    where
      of_drift : (o : Option Drift) → IsBehind s (followed_by c (option_map_or (λ drift. other ∷ []) o []))
      of_drift None = b
      of_drift (Some drift) = more_other s c b

  pub head_behind : numbers ≡ map (λ (p : ℕ × ResourceChange). p.0) (enumerate_from 0 inputs.plan.changes) → ((a : List ℕ) → pending_at Refresh (state_of a (followed_by (version ∷ []) (flat_map (planning_read_back inputs.told) events))) ≡ None) → (is_told : Bool) → is_told ≡ true
      → IsBehind (followed_by (version ∷ []) (flat_map (planned_read_back_at (map forgetting inputs.details)) (enumerate_from 0 inputs.plan.changes))) (followed_by (version ∷ []) (flat_map (planning_read_back inputs.told) events ++ plan_messages inputs drifts numbers is_told))
  head_behind all closed false told = absurd (let bad : false ≡ true = told in cc)
  head_behind all closed true told =
      let ran = planning_ran inputs.told events few steps in
      let s = followed_by (version ∷ []) (flat_map (planned_read_back_at (map forgetting inputs.details)) (enumerate_from 0 inputs.plan.changes)) in
      let ds = drift_messages inputs drifts numbers in
      let first = after_planning inputs.told ran.1.0 pm (planning_passed inputs.told events) ran.1.1 closed in
      let second = behind_drifts (version ∷ []) made drifts first in
      let third = all_behind inputs.details (enumerate_from 0 inputs.plan.changes) (version ∷ []) (followed_by made ds) second in
      let same : flat_map (command_at inputs.details) (enumerate_from 0 inputs.plan.changes) ≡ planned_messages inputs drifts numbers =
      sym (ap (λ (ns : List ℕ). flat_map (message_at inputs.plan.changes inputs.details) ns) all ∙ by_numbers inputs.plan.changes inputs.details 0 inputs.plan.changes (λ i x is. subst (λ (k : ℕ). slice_get inputs.plan.changes k ≡ Some x) (let e : i ≡ 0 + i = omega arith in e) is)) in
      let fourth : IsBehind s (followed_by made front) = subst (IsBehind s) (ap (followed_by (followed_by made ds)) same ∙ followed_by_both made ds (planned_messages inputs drifts numbers)) third in
      subst (IsBehind s) (all_is (sum_messages inputs drifts numbers inputs.outputs)) (of_sums s (followed_by made front) inputs.outputs fourth)
    where
      of_sums : (s c : List Message) (os : List PlannedOutput) → IsBehind s c → IsBehind s (followed_by c (sum_messages inputs drifts numbers os))
      of_sums s c [] b = more_summary sum s c b
      of_sums s c (o ∷ os) b = more_outputs s (plan_summary sum ∷ c) (more_summary sum s c b)
