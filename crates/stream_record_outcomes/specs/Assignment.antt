-- Which diagnostic each step has.
use Rattle.std.specs.Prelude.{ℕ, ◌+◌, ◌-◌, List, [], ◌∷◌, codes, filter, length, replicate, slice_get, slice_set, take, Bool, true, false, ◌&&◌, is_none, not, if◌then◌else◌, Option, Some, None, option_and_then, option_map}
use Rattle.std.specs.List.{after_first, filter_map, find}
use Rattle.std.specs.Option.{option_map_or, option_or}
use Rattle.std.specs.Str.{bytes_eq}
use Rattle.apply_model.specs.declared.details.note.Note.{Note}
use Rattle.apply_model.specs.declared.details.note.Severity.{Severity}
use Rattle.apply_model.specs.declared.details.note.Severity.TheVariants.{Error, Warning}
use Rattle.apply_model.specs.declared.plan.step_kind.StepKind.{StepKind}
use Rattle.apply_model.specs.declared.plan.step_kind.StepKind.TheVariants.{Delete, Read}
use Rattle.apply_model.specs.Plan.StepKind.{is_kind}
use Rattle.stream_record_steps.specs.declared.begun_step.BegunStep.{BegunStep}
use Rattle.stream_record_steps.specs.declared.begun_step.EndResult.{EndResult}
use Rattle.stream_record_steps.specs.declared.begun_step.EndResult.TheVariants.{Completed, Failed}
use Rattle.stream_record_steps.specs.Begun.{Begun, begun_at}
use Rattle.stream_record_steps.specs.Steps.{PlannedStep}
use Rattle.stream_record_outcomes.specs.declared.circumstances.Circumstances.{Circumstances}
use Rattle.stream_record_outcomes.specs.declared.turn.Turn.{Turn}
use Rattle.stream_record_outcomes.specs.declared.turn.Turn.TheVariants as turn
use Rattle.stream_record_outcomes.specs.Outcome.{is_warning}
use Rattle.stream_record_outcomes.specs.Provisioners.{fails_its_step, last_provisioner}

-- ---- diagnostics that are of the plan as a whole

-- The warning that ends the apply of a partial plan. It has no address.
abbrev pub is_of_partial_plan : Note → Bool
is_of_partial_plan note =
    is_none note.address && is_warning note.severity && bytes_eq note.diag.summary (codes "Applied changes may be incomplete")

-- The error of the apply of an errored plan. It has no address.
abbrev pub is_of_errored_plan : Note → Bool
is_of_errored_plan note =
    is_none note.address && not (is_warning note.severity) && bytes_eq note.diag.summary (codes "Cannot apply incomplete plan")

-- Without the last diagnostic, if it is of a partial plan.
abbrev pub without_partial : List Note → List Note
without_partial notes =
    if option_map_or is_of_partial_plan (slice_get notes (length notes - 1)) false then take (length notes - 1) notes else notes

-- The diagnostics, without those that every apply of such a plan has.
abbrev pub considered : Circumstances → List Note → List Note
considered circumstances notes =
    let others = if circumstances.is_partial then without_partial notes else notes in
    filter (λ note. not (circumstances.is_errored && is_of_errored_plan note)) others

-- ---- which diagnostics fit a step

-- Diagnostics of a severity, or of any, with an address, or with none.
pub record Fit : Type 0 where
  pub severity : Option Severity
  pub address : Option (List ℕ)

abbrev pub same_severity : Severity → Severity → Bool
same_severity Error Error = true
same_severity Warning Warning = true
same_severity _ _ = false

abbrev pub same_address : Option (List ℕ) → Option (List ℕ) → Bool
same_address None None = true
same_address (Some a) (Some b) = bytes_eq a b
same_address _ _ = false

abbrev pub fits : Fit → Note → Bool
fits fit note = option_map_or (same_severity note.severity) fit.severity true && same_address note.address fit.address

-- In Terraform's form a provider's diagnostics of a delete have no address.
abbrev pub is_unaddressed : (is_default_form : Bool) → StepKind → Bool
is_unaddressed is_default_form kind = is_kind Delete kind && not is_default_form

-- The error of a delete has no address, unless it is that of a provisioner.
abbrev pub fit_of_end : (is_default_form : Bool) → PlannedStep → BegunStep → EndResult → Option Fit
fit_of_end is_default_form step begun (Completed id_key id) =
    if is_unaddressed is_default_form step.kind then None
    else Some (record { severity = Some Warning; address = Some step.change.address })
fit_of_end is_default_form step begun Failed = Some (record {
  severity = Some Error;
  address =
      if is_unaddressed is_default_form step.kind && not (fails_its_step (last_provisioner begun.facts)) then None
      else Some step.change.address;
})

-- Of a step without an end it is an error; of a read a warning too.
abbrev pub fit_without_end : PlannedStep → Fit
fit_without_end step = record {
  severity = if is_kind Read step.kind then None else Some Error;
  address = Some step.change.address;
}

abbrev pub fit_of : (is_default_form : Bool) → PlannedStep → BegunStep → Option Fit
fit_of is_default_form step begun =
    option_map_or (λ end. fit_of_end is_default_form step begun end.result) begun.end (Some (fit_without_end step))

-- ---- the steps that may have a diagnostic

pub record Taker : Type 0 where
  -- The number of the step in the plan.
  pub place : ℕ
  pub kind : StepKind
  pub address : List ℕ
  pub has_end : Bool
  pub has_failed : Bool
  pub fit : Fit

abbrev pub is_failed_end : EndResult → Bool
is_failed_end (Completed id_key id) = false
is_failed_end Failed = true

abbrev pub taker_with : (place : ℕ) → PlannedStep → BegunStep → Fit → Taker
taker_with place step begun fit = record {
  place = place;
  kind = step.kind;
  address = step.change.address;
  has_end = not (is_none begun.end);
  has_failed = option_map_or (λ end. is_failed_end end.result) begun.end false;
  fit = fit;
}

-- The step with this number, if diagnostics fit it.
abbrev pub taker_at : (is_default_form : Bool) → Begun → (place : ℕ) → Option Taker
taker_at is_default_form begun place =
    option_and_then (λ step. option_and_then (λ found. option_map (taker_with place step found) (fit_of is_default_form step found))
    (begun_at begun.by_step place)) (slice_get begun.planned place)

abbrev pub takers_of : (is_default_form : Bool) → Begun → (places : List ℕ) → List Taker
takers_of is_default_form begun places = filter_map (taker_at is_default_form begun) places

-- A read without an end, and any other step without one.
abbrev pub is_open_read : Taker → Bool
is_open_read taker = not taker.has_end && is_kind Read taker.kind

abbrev pub is_other_open : Taker → Bool
is_other_open taker = not taker.has_end && not (is_kind Read taker.kind)

-- ---- who has which

-- For each step of the plan the number of its diagnostic, and for each diagnostic whether a step has
-- it.
pub record Assignment : Type 0 where
  pub of_step : List (Option ℕ)
  pub is_taken : List Bool

abbrev pub none_taken : (steps notes : ℕ) → Assignment
none_taken steps notes = record { of_step = replicate steps None; is_taken = replicate notes false }

-- The step has the diagnostic with this number.
abbrev pub give : (place number : ℕ) → Assignment → Assignment
give place number before = record {
  of_step = slice_set before.of_step place (Some number);
  is_taken = slice_set before.is_taken number true;
}

abbrev pub note_number : Assignment → (place : ℕ) → Option ℕ
note_number assignment place = option_and_then (λ number. number) (slice_get assignment.of_step place)

abbrev pub has_none : Assignment → Taker → Bool
has_none assignment taker = is_none (note_number assignment taker.place)

-- ---- along the diagnostics

-- The step is a read without an end that has no diagnostic, and this one fits it.
abbrev pub takes_read : Assignment → Note → Taker → Bool
takes_read assignment note taker = is_open_read taker && has_none assignment taker && fits taker.fit note

-- Each diagnostic goes to the first of the ended steps that it fits, and the next one to a step
-- after that. Else it goes to the first read without an end that has none and that it fits. The first
-- diagnostic that fits none ends this. The first of these diagnostics has this number.
abbrev pub along : List Note → (number : ℕ) → (ended started : List Taker) → Assignment → Assignment
along [] number ended started before = before
along (note ∷ notes) number ended started before =
    option_map_or
    (λ taker. along notes (number + 1) (after_first (λ taker. fits taker.fit note) ended) started (give taker.place number before))
    (find (λ taker. fits taker.fit note) ended)
    (option_map_or (λ taker. along notes (number + 1) ended started (give taker.place number before))
    (find (takes_read before note) started) before)

-- ---- what is left

-- No step has the diagnostic with this number.
abbrev pub is_left : Assignment → (number : ℕ) → Bool
is_left assignment number = option_map_or not (slice_get assignment.is_taken number) false

-- The number of the first of these diagnostics that no step has and that fits. The first of these
-- has this number.
abbrev pub first_left_from : (number : ℕ) → List Note → Assignment → Fit → Option ℕ
first_left_from number [] assignment fit = None
first_left_from number (note ∷ notes) assignment fit =
    if is_left assignment number && fits fit note then Some number else first_left_from (number + 1) notes assignment fit

abbrev pub first_left : List Note → Assignment → Fit → Option ℕ
first_left notes assignment fit = first_left_from 0 notes assignment fit

abbrev pub error_fit : (address : Option (List ℕ)) → Fit
error_fit address = record { severity = Some Error; address = address }

-- A step takes the first error that fits it. A delete that failed takes, else, the first error with
-- its address or with none, and a read the first warning that fits it.
abbrev pub other_address : Taker → Option (List ℕ)
other_address taker = if is_none taker.fit.address then Some taker.address else None

abbrev pub choice : List Note → Assignment → Taker → Option ℕ
choice notes assignment taker =
    option_or (first_left notes assignment (error_fit taker.fit.address))
    (if taker.has_failed && is_kind Delete taker.kind then first_left notes assignment (error_fit (other_address taker))
    else if is_kind Read taker.kind then first_left notes assignment taker.fit
    else None)

abbrev pub with_choice : List Note → Taker → Assignment → Assignment
with_choice notes taker before =
    if has_none before taker then option_map_or (λ number. give taker.place number before) (choice notes before taker) before else before

abbrev pub is_in_turn : Turn → Taker → Bool
is_in_turn turn.Failed taker = taker.has_failed
is_in_turn turn.OpenReads taker = is_open_read taker
is_in_turn turn.OtherOpen taker = is_other_open taker

-- What is left goes to these steps in their order.
abbrev pub share_left : List Note → List Taker → Assignment → Assignment
share_left notes [] before = before
share_left notes (taker ∷ takers) before = share_left notes takers (with_choice notes taker before)

-- ---- all

-- Who has which of the diagnostics that are considered. What is left goes to the steps that failed, in
-- the order of their ends, to reads without an end, and to other steps without one, both in the
-- order of their starts.
abbrev pub assigned : List Note → (steps : ℕ) → (ended started : List Taker) → Assignment
assigned notes steps ended started =
    let first = along notes 0 ended started (none_taken steps (length notes)) in
    let failed = share_left notes (filter (is_in_turn turn.Failed) ended) first in
    let reads = share_left notes (filter (is_in_turn turn.OpenReads) started) failed in
    share_left notes (filter (is_in_turn turn.OtherOpen) started) reads

abbrev pub assignment_of : (is_default_form : Bool) → Begun → List Note → Assignment
assignment_of is_default_form begun notes =
    assigned notes (length begun.planned) (takers_of is_default_form begun begun.ends) (takers_of is_default_form begun begun.begins)

-- The diagnostic that a step has.
abbrev pub note_of_step : List Note → Assignment → (place : ℕ) → Option Note
note_of_step notes assignment place = option_and_then (λ number. slice_get notes number) (note_number assignment place)

-- Those of these diagnostics that no step has. The first of these has this number.
abbrev pub left_from : (number : ℕ) → List Note → Assignment → List Note
left_from number [] assignment = []
left_from number (note ∷ notes) assignment =
    if is_left assignment number then note ∷ left_from (number + 1) notes assignment else left_from (number + 1) notes assignment

-- The diagnostics that no step has.
abbrev pub loose_notes : List Note → Assignment → List Note
loose_notes notes assignment = left_from 0 notes assignment
