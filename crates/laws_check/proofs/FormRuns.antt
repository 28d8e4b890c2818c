-- The messages of events are accepted in Terraform's form if they are in the default form, and no
-- more steps begin than are planned.
use Rattle.std.proofs.Common.{◌≡◌, ℕ, ◌+◌, ◌<◌, ◌≤◌, List, [], ◌∷◌, ◌++◌, cond, count_by, flat_map, Bool, true, false, Option, Some, None, Result, Ok, Err, refl, sym, ap, ◌∙◌, subst, slice_get, arith}
use Rattle.std.specs.List.{list_any}
use Rattle.std.specs.Option.{option_map_or}
use Rattle.std.proofs.lemmas.Bool.{and_right, lt-leb}
use Rattle.std.proofs.lemmas.List.Sums.{sum_by-append, sum_by-cons}
use Rattle.apply_model.specs.declared.plan.step_kind.StepKind.{StepKind}
use Rattle.apply_model.specs.declared.plan.step_kind.StepKind.TheVariants as kind
use Rattle.apply_model.specs.declared.script.outcome.Outcome.{Outcome}
use Rattle.apply_model.specs.Plan.ResourceChange.{ResourceChange}
use Rattle.apply_model.specs.Plan.SavedPlan.{SavedPlan}
use Rattle.apply_model.specs.Script.OutcomeMap.{OutcomeMap, outcome_of}
use Rattle.stream_check.specs.declared.messages.action.Action.{Action}
use Rattle.stream_check.specs.declared.messages.action.Action.TheVariants.{Create, Update, Delete, Read, Refresh}
use Rattle.stream_message.specs.declared.stage.Stage.TheVariants as stage
use Rattle.stream_check.specs.declared.messages.timed_stage.TimedStage.{TimedStage}
use Rattle.stream_check.specs.declared.messages.timed_stage.TimedStage.TheVariants as timed_stage
use Rattle.stream_check.specs.declared.rules.fault.Fault.{Fault}
use Rattle.stream_check.specs.declared.rules.pending.Pending.{Pending}
use Rattle.stream_check.specs.Course.{max_overlap}
use Rattle.stream_check.specs.Lines.{is_beyond_plan, next}
use Rattle.stream_check.specs.Message.{Message, step}
use Rattle.stream_check.specs.Results.{◌>>=◌}
use Rattle.stream_check.specs.AddressState.{pending_at, state_of}
use Rattle.stream_check.specs.Tally.{begins, is_begin, is_planned, plans_create, plans_delete, plans_update}
use Rattle.stream_check.proofs.WholeStream.{one_next}
use Rattle.apply_events.specs.declared.event.Event.{Event}
use Rattle.apply_events.specs.declared.what.What.{What}
use Rattle.apply_events.specs.declared.what.What.TheVariants.{Start, Progress, Complete, Errored, ErrorNote, WarnNote, Halted, ProvisionStart, ProvisionOutput, ProvisionComplete, ProvisionErrored}
use Rattle.apply_text_terraform.specs.Message.{is_silent, diagnostic_address}
use Rattle.laws_check.specs.Passing.{with_all}
use Rattle.laws_check.specs.ReadBack.{action_of, events_read_back, read_back}
use Rattle.laws_check.specs.ReadBackInForm.{read_back_in_form, event_read_back_in_form}
use Rattle.laws_check.proofs.FormMatches.{AreAlike, both_diagnostic, both_step, silent_step, was_stepped}
use Rattle.laws_check.proofs.FormPendings.{HasRoom, held}
use Rattle.laws_check.proofs.FormProvisioners.{both_provision, was_provisioned}
use Rattle.laws_check.proofs.Turning.{followed_by, followed_by_both, joined}
use Rattle.laws_check.proofs.Whole.{counts_followed_by}

-- ---- which events have a line

abbrev pub is_end_of_failure : What → Bool
is_end_of_failure (Errored s) = true
is_end_of_failure Start = false
is_end_of_failure (Progress s) = false
is_end_of_failure (Complete s) = false
is_end_of_failure ErrorNote = false
is_end_of_failure WarnNote = false
is_end_of_failure (Halted phase hook) = false
is_end_of_failure (ProvisionStart i) = false
is_end_of_failure (ProvisionOutput i line) = false
is_end_of_failure (ProvisionComplete i) = false
is_end_of_failure (ProvisionErrored i) = false

pub spoken : (does : StepKind) (what : What) → is_end_of_failure what ≡ false → is_silent does what ≡ false
spoken kind.Create what h = refl
spoken kind.Update what h = refl
spoken kind.Delete what h = refl
spoken kind.Read (Errored s) h = absurd cc
spoken kind.Read Start h = refl
spoken kind.Read (Progress s) h = refl
spoken kind.Read (Complete s) h = refl
spoken kind.Read ErrorNote h = refl
spoken kind.Read WarnNote h = refl
spoken kind.Read (Halted phase hook) h = refl
spoken kind.Read (ProvisionStart i) h = refl
spoken kind.Read (ProvisionOutput i line) h = refl
spoken kind.Read (ProvisionComplete i) h = refl
spoken kind.Read (ProvisionErrored i) h = refl

-- ---- counts

-- no more begins than was planned, and not too many reads
pub record IsWithin (cap : Action → ℕ) (ns rest : List Message) : Type 0 where
  pub begun : (k : Action) → count_by (begins k) ns + count_by (begins k) rest ≤ cap k
  pub creates : count_by plans_create ns ≡ cap Create
  pub updates : count_by plans_update ns ≡ cap Update
  pub deletes : count_by plans_delete ns ≡ cap Delete
  pub reads : cap Read ≤ max_overlap

-- none of the messages is a planned change
record PlansNothing (ms : List Message) : Type 0 where
  creates : count_by plans_create ms ≡ 0
  updates : count_by plans_update ms ≡ 0
  deletes : count_by plans_delete ms ≡ 0

read_back_plans : (change : ResourceChange) (does : StepKind) (outcome : Outcome) (what : What) → PlansNothing (read_back_in_form change does outcome what ∷ [])
read_back_plans change does outcome Start = record { creates = refl; updates = refl; deletes = refl }
read_back_plans change does outcome (Progress s) = record { creates = refl; updates = refl; deletes = refl }
read_back_plans change does outcome (Complete s) = record { creates = refl; updates = refl; deletes = refl }
read_back_plans change does outcome (Errored s) = record { creates = refl; updates = refl; deletes = refl }
read_back_plans change does outcome ErrorNote = record { creates = refl; updates = refl; deletes = refl }
read_back_plans change does outcome WarnNote = record { creates = refl; updates = refl; deletes = refl }
read_back_plans change does outcome (Halted phase hook) = record { creates = refl; updates = refl; deletes = refl }
read_back_plans change does outcome (ProvisionStart i) = record { creates = refl; updates = refl; deletes = refl }
read_back_plans change does outcome (ProvisionOutput i line) = record { creates = refl; updates = refl; deletes = refl }
read_back_plans change does outcome (ProvisionComplete i) = record { creates = refl; updates = refl; deletes = refl }
read_back_plans change does outcome (ProvisionErrored i) = record { creates = refl; updates = refl; deletes = refl }

both_counts : (p : Message → Bool) (xs ys : List Message) → count_by p (xs ++ ys) ≡ count_by p xs + count_by p ys
both_counts p xs ys = sum_by-append (λ m. cond (p m) 1 0) xs ys

still_within : (cap : Action → ℕ) (ns checked rest : List Message) → IsWithin cap ns (checked ++ rest) → PlansNothing checked → IsWithin cap (followed_by ns checked) rest
still_within cap ns checked rest within none = record {
  begun = λ k. let all = within.begun k in let now = counts_followed_by (begins k) ns checked in let split = both_counts (begins k) checked rest in omega arith;
  creates = let now = counts_followed_by plans_create ns checked in let old = within.creates in let other = none.creates in omega arith;
  updates = let now = counts_followed_by plans_update ns checked in let old = within.updates in let other = none.updates in omega arith;
  deletes = let now = counts_followed_by plans_delete ns checked in let old = within.deletes in let other = none.deletes in omega arith;
  reads = within.reads;
}

-- ---- one event

-- the messages of both forms are accepted in Terraform's form
record Went (m : Message) (checked : List Message) (ms ns : List Message) : Type 0 where
  accepted : with_all ns checked ≡ Ok (followed_by ns checked)
  alike : AreAlike (m ∷ ms) (followed_by ns checked)

went_one : (m n : Message) (ms ns : List Message) → (next ns n ≡ Ok (n ∷ ns)) × AreAlike (m ∷ ms) (n ∷ ns) → Went m (n ∷ []) ms ns
went_one m n ms ns h = record { accepted = ap (λ (r : Result (List Message) Fault). r >>= λ later. with_all later []) h.0; alike = h.1 }

module _ (cap : Action → ℕ) where
  -- where one begins there is room
  module _ (a : List ℕ) (k : Action) (ns rest : List Message) (within : IsWithin cap ns (step a k timed_stage.Start ∷ rest)) where
    less : (one : begins k (step a k timed_stage.Start) ≡ true) → count_by (begins k) ns < cap k
    less one =
        let all = within.begun k in
        let first = sum_by-cons (λ m. cond (begins k m) 1 0) (step a k timed_stage.Start) rest in
        let is : cond {A = ℕ} (begins k (step a k timed_stage.Start)) 1 0 ≡ 1 = ap (λ (b : Bool). cond b 1 0) one in
        omega arith

  fits_plan : (a : List ℕ) (k : Action) (ns rest : List Message) → IsWithin cap ns (step a k timed_stage.Start ∷ rest) → is_beyond_plan k timed_stage.Start ns ≡ false
  fits_plan a Create ns rest within = and_right (list_any is_planned ns) _ (lt-leb (count_by plans_create ns) (count_by (begins Create) ns) (let low = less a Create ns rest within refl in let same = within.creates in omega arith))
  fits_plan a Update ns rest within = and_right (list_any is_planned ns) _ (lt-leb (count_by plans_update ns) (count_by (begins Update) ns) (let low = less a Update ns rest within refl in let same = within.updates in omega arith))
  fits_plan a Delete ns rest within = and_right (list_any is_planned ns) _ (lt-leb (count_by plans_delete ns) (count_by (begins Delete) ns) (let low = less a Delete ns rest within refl in let same = within.deletes in omega arith))
  fits_plan a Read ns rest within = and_right (list_any is_planned ns) false refl
  fits_plan a Refresh ns rest within = and_right (list_any is_planned ns) false refl

  room_for : (a : List ℕ) (k : Action) (ms ns rest : List Message) → AreAlike ms ns → IsWithin cap ns (step a k timed_stage.Start ∷ rest) → HasRoom k timed_stage.Start (pending_at k (state_of a ns))
  room_for a Create ms ns rest alike within = tt
  room_for a Update ms ns rest alike within = tt
  room_for a Delete ms ns rest alike within = tt
  room_for a Refresh ms ns rest alike within = tt
  room_for a Read ms ns rest alike within =
      let low = less a Read ns rest within refl in
      let few = within.reads in
      let open_reads : held (state_of a ns).read ≤ count_by (begins Read) ns = alike.reads a in
      omega arith

  room_later : (k : Action) (stage : TimedStage) (q : Option Pending) → is_begin stage ≡ false → HasRoom k stage q
  room_later Create stage q h = tt
  room_later Update stage q h = tt
  room_later Delete stage q h = tt
  room_later Refresh stage q h = tt
  room_later Read timed_stage.Start q h = absurd cc
  room_later Read (timed_stage.Progress s) q h = tt
  room_later Read (timed_stage.Complete s) q h = tt
  room_later Read (timed_stage.Errored s) q h = tt

  module _ (change : ResourceChange) (does : StepKind) (outcome : Outcome) (ms ns later rest : List Message) (alike : AreAlike ms ns) where
    later_step : (stage : TimedStage) → is_begin stage ≡ false → is_beyond_plan (action_of does) stage ns ≡ false → next ms (step change.address (action_of does) stage) ≡ Ok later
        → Went (step change.address (action_of does) stage) (step change.address (action_of does) stage ∷ []) ms ns
    later_step stage other fits e =
        went_one (step change.address (action_of does) stage) (step change.address (action_of does) stage) ms ns
        (both_step change.address (action_of does) stage ms ns alike (was_stepped change.address (action_of does) stage ms later e) (room_later (action_of does) stage (pending_at (action_of does) (state_of change.address ns)) other) fits)

    -- an event that has a line
    says : (what : What) → is_end_of_failure what ≡ false → next ms (read_back change.address (action_of does) what) ≡ Ok later → IsWithin cap ns (read_back_in_form change does outcome what ∷ rest)
        → Went (read_back change.address (action_of does) what) (read_back_in_form change does outcome what ∷ []) ms ns
    says Start other e within =
        went_one _ _ ms ns
        (both_step change.address (action_of does) timed_stage.Start ms ns alike (was_stepped change.address (action_of does) timed_stage.Start ms later e) (room_for change.address (action_of does) ms ns rest alike within)
        (fits_plan change.address (action_of does) ns rest within))
    says (Progress s) other e within = later_step (timed_stage.Progress s) refl refl e
    says (Complete s) other e within = later_step (timed_stage.Complete s) refl refl e
    says (Errored s) other e within = absurd cc
    says ErrorNote other e within = went_one _ _ ms ns (both_diagnostic change.address true (diagnostic_address change does outcome) ms ns alike)
    says WarnNote other e within = went_one _ _ ms ns (both_diagnostic change.address false (diagnostic_address change does outcome) ms ns alike)
    says (Halted phase hook) other e within = went_one _ _ ms ns (both_diagnostic change.address true (Some change.address) ms ns alike)
    says (ProvisionStart i) other e within = went_one _ _ ms ns (both_provision change.address stage.Start ms ns alike (was_provisioned change.address stage.Start ms later e))
    says (ProvisionOutput i line) other e within = went_one _ _ ms ns (both_provision change.address stage.Progress ms ns alike (was_provisioned change.address stage.Progress ms later e))
    says (ProvisionComplete i) other e within = went_one _ _ ms ns (both_provision change.address stage.Complete ms ns alike (was_provisioned change.address stage.Complete ms later e))
    says (ProvisionErrored i) other e within = went_one _ _ ms ns (both_provision change.address stage.Errored ms ns alike (was_provisioned change.address stage.Errored ms later e))

    abbrev read_back_here : What → List Message
    read_back_here what = cond (is_silent does what) [] (read_back_in_form change does outcome what ∷ [])

    by_words : (what : What) → is_end_of_failure what ≡ false → next ms (read_back change.address (action_of does) what) ≡ Ok later → IsWithin cap ns (read_back_here what ++ rest) → Went (read_back change.address (action_of does) what) (read_back_here what) ms ns
    by_words what other e within =
        let has : read_back_here what ≡ read_back_in_form change does outcome what ∷ [] = ap (λ (b : Bool). cond b [] (read_back_in_form change does outcome what ∷ [])) (spoken does what other) in
        subst (λ (l : List Message). Went (read_back change.address (action_of does) what) l ms ns) (sym has) (says what other e (subst (λ (l : List Message). IsWithin cap ns (l ++ rest)) has within))

  -- the end of a failure
  fails : (change : ResourceChange) (does : StepKind) (outcome : Outcome) (seconds : ℕ) (ms ns later : List Message) → AreAlike ms ns → next ms (read_back change.address (action_of does) (Errored seconds)) ≡ Ok later
      → Went (read_back change.address (action_of does) (Errored seconds)) (cond (is_silent does (Errored seconds)) [] (read_back_in_form change does outcome (Errored seconds) ∷ [])) ms ns
  fails change kind.Create outcome seconds ms ns later alike e = later_step change kind.Create outcome ms ns later [] alike (timed_stage.Errored seconds) refl refl e
  fails change kind.Update outcome seconds ms ns later alike e = later_step change kind.Update outcome ms ns later [] alike (timed_stage.Errored seconds) refl refl e
  fails change kind.Delete outcome seconds ms ns later alike e = later_step change kind.Delete outcome ms ns later [] alike (timed_stage.Errored seconds) refl refl e
  fails change kind.Read outcome seconds ms ns later alike e = record { accepted = refl; alike = silent_step change.address seconds ms ns alike (was_stepped change.address Read (timed_stage.Errored seconds) ms later e) }

  went : (change : ResourceChange) (does : StepKind) (outcome : Outcome) (what : What) (ms ns later rest : List Message) → AreAlike ms ns → next ms (read_back change.address (action_of does) what) ≡ Ok later
      → IsWithin cap ns (cond (is_silent does what) [] (read_back_in_form change does outcome what ∷ []) ++ rest)
      → Went (read_back change.address (action_of does) what) (cond (is_silent does what) [] (read_back_in_form change does outcome what ∷ [])) ms ns
  went change does outcome Start ms ns later rest alike e within = by_words change does outcome ms ns later rest alike Start refl e within
  went change does outcome (Progress s) ms ns later rest alike e within = by_words change does outcome ms ns later rest alike (Progress s) refl e within
  went change does outcome (Complete s) ms ns later rest alike e within = by_words change does outcome ms ns later rest alike (Complete s) refl e within
  went change does outcome (Errored s) ms ns later rest alike e within = fails change does outcome s ms ns later alike e
  went change does outcome ErrorNote ms ns later rest alike e within = by_words change does outcome ms ns later rest alike ErrorNote refl e within
  went change does outcome WarnNote ms ns later rest alike e within = by_words change does outcome ms ns later rest alike WarnNote refl e within
  went change does outcome (Halted phase hook) ms ns later rest alike e within = by_words change does outcome ms ns later rest alike (Halted phase hook) refl e within
  went change does outcome (ProvisionStart i) ms ns later rest alike e within = by_words change does outcome ms ns later rest alike (ProvisionStart i) refl e within
  went change does outcome (ProvisionOutput i line) ms ns later rest alike e within = by_words change does outcome ms ns later rest alike (ProvisionOutput i line) refl e within
  went change does outcome (ProvisionComplete i) ms ns later rest alike e within = by_words change does outcome ms ns later rest alike (ProvisionComplete i) refl e within
  went change does outcome (ProvisionErrored i) ms ns later rest alike e within = by_words change does outcome ms ns later rest alike (ProvisionErrored i) refl e within

-- ---- all events

still_none : (does : StepKind) (change : ResourceChange) (outcome : Outcome) (what : What) → PlansNothing (cond (is_silent does what) [] (read_back_in_form change does outcome what ∷ []))
still_none does change outcome what = of_test (is_silent does what)
  where
    of_test : (b : Bool) → PlansNothing (cond b [] (read_back_in_form change does outcome what ∷ []))
    of_test true = record { creates = refl; updates = refl; deletes = refl }
    of_test false = read_back_plans change does outcome what

abbrev pub told_if : OutcomeMap → Event → Option ResourceChange → List Message
told_if script e located =
    option_map_or (λ (change : ResourceChange). option_map_or (λ does. cond (is_silent does e.what) [] (read_back_in_form change does (outcome_of script e.change e.step) e.what ∷ [])) (slice_get change.steps e.step) []) located []

abbrev pub plainly_if : Event → Option ResourceChange → List Message
plainly_if e located =
    option_map_or (λ does. read_back (option_map_or (λ (change : ResourceChange). change.address) located []) (action_of does) e.what ∷ [])
    (slice_get (option_map_or (λ (change : ResourceChange). change.steps) located []) e.step) []

with_both : (ns xs ys : List Message) → with_all ns xs ≡ Ok (followed_by ns xs) → with_all (followed_by ns xs) ys ≡ Ok (followed_by (followed_by ns xs) ys) → with_all ns (xs ++ ys) ≡ Ok (followed_by (followed_by ns xs) ys)
with_both ns xs ys one other = joined ns (followed_by ns xs) xs ys one ∙ other

module _ (script : OutcomeMap) (cap : Action → ℕ) where
  -- the messages of some events in both forms, after earlier messages
  pub record Ran (plainly : List Message) (checked : List Message) (ms ns : List Message) : Type 0 where
    pub accepted : with_all ns checked ≡ Ok (followed_by ns checked)
    pub alike : AreAlike (followed_by ms plainly) (followed_by ns checked)

  then_ran : (m : Message) (xs plainly ys ms ns : List Message) → Went m xs ms ns → Ran plainly ys (m ∷ ms) (followed_by ns xs) → Ran (m ∷ plainly) (xs ++ ys) ms ns
  then_ran m xs plainly ys ms ns one others =
      let same = followed_by_both ns xs ys in
      record {
        accepted = with_both ns xs ys one.accepted others.accepted ∙ ap (λ (l : List Message). fine l) same;
        alike = subst (AreAlike (followed_by (m ∷ ms) plainly)) same others.alike;
      }
    where
      fine : List Message → Result (List Message) Fault
      fine l = Ok l

  -- the first event, and the events after it
  first_ran : (e : Event) (located : Option ResourceChange) (plainly ys : List Message) (ms ns later : List Message) → AreAlike ms ns → with_all ms (plainly_if e located ++ plainly) ≡ Ok later → IsWithin cap ns (told_if script e located ++ ys)
      → ((ms ns later : List Message) → AreAlike ms ns → with_all ms plainly ≡ Ok later → IsWithin cap ns ys → Ran plainly ys ms ns)
      → Ran (plainly_if e located ++ plainly) (told_if script e located ++ ys) ms ns
  first_ran e None plainly ys ms ns later alike is within rest = rest ms ns later alike is within
  first_ran e (Some change) plainly ys ms ns later alike is within rest = of_step (slice_get change.steps e.step) is within
    where
      outcome : Outcome
      outcome = outcome_of script e.change e.step

      of_answer : (does : StepKind) (r : Result (List Message) Fault) → next ms (read_back change.address (action_of does) e.what) ≡ r → (r >>= λ now. with_all now plainly) ≡ Ok later
          → IsWithin cap ns (cond (is_silent does e.what) [] (read_back_in_form change does (outcome_of script e.change e.step) e.what ∷ []) ++ ys)
          → Ran (read_back change.address (action_of does) e.what ∷ plainly) (cond (is_silent does e.what) [] (read_back_in_form change does (outcome_of script e.change e.step) e.what ∷ []) ++ ys) ms ns
      of_answer does (Err fault) same f within = absurd cc
      of_answer does (Ok now) same f within =
          let here = cond (is_silent does e.what) [] (read_back_in_form change does (outcome_of script e.change e.step) e.what ∷ []) in
          let m = read_back change.address (action_of does) e.what in
          let one = went cap change does (outcome_of script e.change e.step) e.what ms ns now ys alike same within in
          let added : now ≡ m ∷ ms = sym (one_next ms m now same) in
          then_ran m here plainly ys ms ns one
          (rest (m ∷ ms) (followed_by ns here) later one.alike (subst (λ (l : List Message). with_all l plainly ≡ Ok later) added f)
          (still_within cap ns here ys within (still_none does change (outcome_of script e.change e.step) e.what)))

      of_step : (o : Option StepKind) → with_all ms (option_map_or (λ does. read_back change.address (action_of does) e.what ∷ []) o [] ++ plainly) ≡ Ok later
          → IsWithin cap ns (option_map_or (λ does. cond (is_silent does e.what) [] (read_back_in_form change does (outcome_of script e.change e.step) e.what ∷ [])) o [] ++ ys)
          → Ran (option_map_or (λ does. read_back change.address (action_of does) e.what ∷ []) o [] ++ plainly)
          (option_map_or (λ does. cond (is_silent does e.what) [] (read_back_in_form change does (outcome_of script e.change e.step) e.what ∷ [])) o [] ++ ys) ms ns
      of_step None f within = rest ms ns later alike f within
      of_step (Some does) f within = of_answer does (next ms (read_back change.address (action_of does) e.what)) refl f within

  pub all_ran : (plan : SavedPlan) (es : List Event) (ms ns later : List Message) → AreAlike ms ns → with_all ms (events_read_back plan es) ≡ Ok later → IsWithin cap ns (flat_map (event_read_back_in_form plan script) es)
      → Ran (events_read_back plan es) (flat_map (event_read_back_in_form plan script) es) ms ns
  all_ran plan [] ms ns later alike is within = record { accepted = refl; alike = alike }
  all_ran plan (e ∷ es) ms ns later alike is within =
      first_ran e (slice_get plan.changes e.change) (events_read_back plan es) (flat_map (event_read_back_in_form plan script) es) ms ns later alike is within (all_ran plan es)
