-- Of each step that began, the line of the last message about a step before its start.
use Rattle.std.proofs.Common.{◌≡◌, ◌∙◌, ◌+◌, ◌+ℤ◌, ◌<◌, ℕ, ℤ, pos, zero, suc, List, [], ◌∷◌, length, map, set, take, true, Option, Some, None, refl, sym, ap, arith, subst, ◌⊎◌, inl, inr, ⊎_elim}
use Rattle.std.specs.Prelude.{if◌then◌else◌, option_map, slice_get}
use Rattle.std.specs.List.{Contains}
use Rattle.std.specs.Option.{option_map_or}
use Rattle.std.proofs.lemmas.Option.{same_Some}
use Rattle.apply_model.specs.declared.plan.step_kind.StepKind.{StepKind}
use Rattle.apply_model.specs.Plan.ResourceChange.{ResourceChange}
use Rattle.apply_events.specs.declared.event.Event.{Event}
use Rattle.apply_events.specs.declared.what.What.{What}
use Rattle.apply_events.specs.declared.what.What.TheVariants.{Start, Progress, Complete, Errored, ErrorNote, WarnNote, Halted, ProvisionStart, ProvisionOutput, ProvisionComplete, ProvisionErrored}
use Rattle.apply_events.specs.Step.{kinds_of}
use Rattle.apply_events.proofs.Waits.Members.{in_head, in_tail}
use Rattle.stream_record_lines.specs.declared.event.Event as lines
use Rattle.stream_record_lines.specs.declared.event.Event.TheVariants as stated
use Rattle.stream_record_lines.specs.declared.step.StepStage.{StepStage}
use Rattle.stream_record_lines.specs.declared.step.StepStage.TheVariants as step_stage
use Rattle.stream_record_steps.specs.declared.begun_step.BegunStep.{BegunStep}
use Rattle.stream_record_steps.specs.declared.begun_step.StepEnd.{StepEnd}
use Rattle.stream_record_steps.specs.declared.step_facts.StepFact.{StepFact}
use Rattle.stream_record_steps.specs.Begun.{Begun, begun_at, none_begun}
use Rattle.stream_record_steps.specs.Starts.{after_start_of, first_known}
use Rattle.stream_record_steps.specs.Steps.{PlannedStep}
use Rattle.stream_record_steps.specs.Taken.{after_stage}
use Rattle.stream_record_steps.specs.UnderWay.{after_end, after_fact, ended, plus_fact}
use Rattle.laws_begun.specs.Telling.{Telling, after_events, after_stated, line_of, stated_of}
use Rattle.laws_queue.specs.OfRun.{is_about_step, latest_of}
use Rattle.laws_recorded.proofs.Stated.{item_there}

-- ---- what holds of each step that began

set_either : (xs : List (Option BegunStep)) (place : ℕ) (item : Option BegunStep) (other : ℕ)
    → (begun_at (set xs place item) other ≡ item) ⊎ (begun_at (set xs place item) other ≡ begun_at xs other)
set_either [] place item other = inr refl
set_either (x ∷ xs) zero item zero = inl refl
set_either (x ∷ xs) zero item (suc other) = inr refl
set_either (x ∷ xs) (suc place) item zero = inr refl
set_either (x ∷ xs) (suc place) item (suc other) = set_either xs place item other

module _ (P : Option ℕ → ℕ → Type 0) where
  -- It holds of the line of the last message before the start of a step, and of that of the start.
  abbrev HoldsOf : Option BegunStep → Type 0
  HoldsOf item = (known : BegunStep) → item ≡ Some known → P known.previous known.line

  abbrev pub HoldsOfAll : List (Option BegunStep) → Type 0
  HoldsOfAll by_step = (place : ℕ) (known : BegunStep) → begun_at by_step place ≡ Some known → P known.previous known.line

  set_keeps : (xs : List (Option BegunStep)) (place : ℕ) (item : Option BegunStep) → HoldsOfAll xs → HoldsOf item → HoldsOfAll (set xs place item)
  set_keeps xs place item old new other known at = ⊎_elim
      (λ (here : begun_at (set xs place item) other ≡ item). new known (sym here ∙ at))
      (λ (same : begun_at (set xs place item) other ≡ begun_at xs other). old other known (sym same ∙ at))
      (set_either xs place item other)

  with_fact : (fact : StepFact) (item : Option BegunStep) → HoldsOf item → HoldsOf (option_map (plus_fact fact) item)
  with_fact fact None old known at = absurd cc
  with_fact fact (Some step) old known at =
      subst (λ (s : BegunStep). P s.previous s.line) (same_Some (plus_fact fact step) known at) (old step refl)

  with_end : (end : StepEnd) (item : Option BegunStep) → HoldsOf item → HoldsOf (option_map (ended end) item)
  with_end end None old known at = absurd cc
  with_end end (Some step) old known at =
      subst (λ (s : BegunStep). P s.previous s.line) (same_Some (ended end step) known at) (old step refl)

  -- ---- one line

  fact_keeps : (line : ℕ) (fact : StepFact) (found : Option ℕ) (begun : Begun) → HoldsOfAll begun.by_step → HoldsOfAll (after_fact line fact found begun).by_step
  fact_keeps line fact None begun old = old
  fact_keeps line fact (Some place) begun old =
      set_keeps begun.by_step place (option_map (plus_fact fact) (begun_at begun.by_step place)) old (with_fact fact (begun_at begun.by_step place) (old place))

  end_keeps : (end : StepEnd) (found : Option ℕ) (begun : Begun) → HoldsOfAll begun.by_step → HoldsOfAll (after_end end found begun).by_step
  end_keeps end None begun old = old
  end_keeps end (Some place) begun old =
      set_keeps begun.by_step place (option_map (ended end) (begun_at begun.by_step place)) old (with_end end (begun_at begun.by_step place) (old place))

  start_keeps : (line : ℕ) (second : ℤ) (kind : StepKind) (address : List ℕ) (found : Option ℕ) (begun : Begun) → HoldsOfAll begun.by_step → P begun.latest line
      → HoldsOfAll (after_start_of line second kind address found begun).by_step
  start_keeps line second kind address None begun old now = old
  start_keeps line second kind address (Some place) begun old now =
      set_keeps begun.by_step place (Some (first_known line second kind begun.latest)) old
      (λ known at. subst (λ (s : BegunStep). P s.previous s.line) (same_Some (first_known line second kind begun.latest) known at) now)

  stage_keeps : (line : ℕ) (second : ℤ) (kind : StepKind) (address : List ℕ) (stage : StepStage) (begun : Begun) → HoldsOfAll begun.by_step → P begun.latest line
      → HoldsOfAll (after_stage line second kind address stage begun).by_step
  stage_keeps line second kind address (step_stage.Began id) begun old now = start_keeps line second kind address _ (record begun { has_starts = true }) old now
  stage_keeps line second kind address (step_stage.Progress seconds) begun old now = fact_keeps line _ _ begun old
  stage_keeps line second kind address (step_stage.Completed seconds id_key id) begun old now = end_keeps _ _ begun old
  stage_keeps line second kind address (step_stage.Failed seconds) begun old now = end_keeps _ _ begun old

  line_keeps : (line : ℕ) (second : ℤ) (one : lines.Event) (begun : Begun) → HoldsOfAll begun.by_step → P begun.latest line
      → HoldsOfAll (after_stated line second one begun).by_step
  line_keeps line second (stated.Version ui) begun old now = old
  line_keeps line second (stated.Step step) begun old now = stage_keeps line second step.kind step.address step.stage begun old now
  line_keeps line second (stated.Provisioner provisioner) begun old now = fact_keeps line _ _ begun old
  line_keeps line second stated.Ephemeral begun old now = old
  line_keeps line second (stated.Diagnostic note) begun old now = old
  line_keeps line second (stated.Summary summary) begun old now = old
  line_keeps line second (stated.Outputs outputs) begun old now = old
  line_keeps line second stated.Malformed begun old now = old
  line_keeps line second stated.Other begun old now = old

-- ---- the line of the last message about a step

fact_latest : (line : ℕ) (fact : StepFact) (found : Option ℕ) (begun : Begun) → (after_fact line fact found begun).latest ≡ begun.latest
fact_latest line fact None begun = refl
fact_latest line fact (Some place) begun = refl

module _ (telling : Telling) (line : ℕ) (second : ℤ) (begun : Begun) where
  line_latest : (change : ResourceChange) (kind : StepKind) (c k : ℕ) (what : What)
      → (after_stated line second (line_of telling change kind c k what) begun).latest ≡ (if is_about_step what then Some line else begun.latest)
  line_latest change kind c k Start = refl
  line_latest change kind c k (Progress seconds) = refl
  line_latest change kind c k (Complete seconds) = refl
  line_latest change kind c k (Errored seconds) = refl
  line_latest change kind c k ErrorNote = refl
  line_latest change kind c k WarnNote = refl
  line_latest change kind c k (Halted phase hook) = refl
  line_latest change kind c k (ProvisionStart i) = fact_latest line _ _ begun
  line_latest change kind c k (ProvisionOutput i output) = fact_latest line _ _ begun
  line_latest change kind c k (ProvisionComplete i) = fact_latest line _ _ begun
  line_latest change kind c k (ProvisionErrored i) = fact_latest line _ _ begun

  stated_latest : (event : Event) → event.step < length (kinds_of telling.plan event.change)
      → (after_stated line second (stated_of telling event) begun).latest ≡ (if is_about_step event.what then Some line else begun.latest)
  stated_latest event less = by_change (slice_get telling.plan.changes event.change) less
    where
      by_change : (o : Option ResourceChange) → event.step < length (option_map_or (λ (own : ResourceChange). own.steps) o [])
          → (after_stated line second (option_map_or (λ (change : ResourceChange). option_map_or (λ (kind : StepKind). line_of telling change kind event.change event.step event.what)
          (slice_get change.steps event.step) stated.Other) o stated.Other) begun).latest ≡ (if is_about_step event.what then Some line else begun.latest)
      by_change None inside = absurd (omega (arith, inside))
      by_change (Some change) inside =
          let kind = item_there change.steps event.step inside in
          ap (λ (o : Option StepKind). (after_stated line second (option_map_or (λ (kind : StepKind). line_of telling change kind event.change event.step event.what) o stated.Other) begun).latest) kind.1
          ∙ line_latest change kind.0 event.change event.step event.what

-- ---- all lines

module _ (telling : Telling) (start : ℤ) (first : ℕ) (P : Option ℕ → ℕ → Type 0) where
  -- The first of the events has this place among all.
  lines_keep : (n line : ℕ) (events : List Event) (begun : Begun) → line ≡ first + n
      → ((event : Event) → Contains events event → event.step < length (kinds_of telling.plan event.change)) → HoldsOfAll P begun.by_step
      → ((j : ℕ) → P (latest_of (λ (i : ℕ). first + i) n begun.latest (take j events)) (first + (n + j)))
      → HoldsOfAll P (after_events telling start line events begun).by_step
  lines_keep n line [] begun is known old each = old
  lines_keep n line (event ∷ events) begun is known old each =
      let new = after_stated line (start +ℤ pos event.at) (stated_of telling event) begun in
      let here : first + (n + 0) ≡ line = omega (arith, is) in
      let next : line + 1 ≡ first + (n + 1) = omega (arith, is) in
      let latest : (if is_about_step event.what then Some (first + n) else begun.latest) ≡ new.latest =
      ap (λ (l : ℕ). if is_about_step event.what then Some l else begun.latest) (sym is)
      ∙ sym (stated_latest telling line (start +ℤ pos event.at) begun event (known event (in_head event events))) in
      lines_keep (n + 1) (line + 1) events new next (λ other has. known other (in_tail event events other has))
      (line_keeps P line (start +ℤ pos event.at) (stated_of telling event) begun old (subst (P begun.latest) here (each 0)))
      (λ j.
      let there : first + (n + suc j) ≡ first + ((n + 1) + j) = omega arith in
      subst (λ (l : Option ℕ). P (latest_of (λ (i : ℕ). first + i) (n + 1) l (take j events)) (first + ((n + 1) + j))) latest
      (subst (P (latest_of (λ (i : ℕ). first + i) n begun.latest (take (suc j) (event ∷ events)))) there (each (suc j))))

none_at : (planned : List PlannedStep) (place : ℕ) → begun_at (map (λ step. None) planned) place ≡ None
none_at [] place = refl
none_at (step ∷ planned) zero = refl
none_at (step ∷ planned) (suc place) = none_at planned place

-- What is known of a step has the line of the last message about a step before its start, which has
-- this place among the hook messages.
pub previous_is : (telling : Telling) (start : ℤ) (first : ℕ) (hooks : List Event) (planned : List PlannedStep)
    → ((event : Event) → Contains hooks event → event.step < length (kinds_of telling.plan event.change))
    → (place : ℕ) (known : BegunStep) → begun_at (after_events telling start first hooks (none_begun planned)).by_step place ≡ Some known
    → (n : ℕ) → known.line ≡ first + n → known.previous ≡ latest_of (λ (i : ℕ). first + i) 0 None (take n hooks)
previous_is telling start first hooks planned of_plan =
    lines_keep telling start first
    (λ previous line. (n : ℕ) → line ≡ first + n → previous ≡ latest_of (λ (i : ℕ). first + i) 0 None (take n hooks))
    0 first hooks (none_begun planned) (omega arith) of_plan
    (λ place known at. let none : None ≡ Some known = sym (none_at planned place) ∙ at in absurd cc)
    (λ j n is. let same : j ≡ n = omega (arith, is) in ap (λ (i : ℕ). latest_of (λ (i : ℕ). first + i) 0 None (take i hooks)) same)
