-- The row of a message changes the open steps in `watch` as its content changes them in `view`.
use Rattle.std.proofs.Common.{◌≡◌, ◌∙◌, ℕ, ◌∷◌, ◌++◌, [], Bool, List, Option, None, Some, true, false, ⊎_elim, ap, codes, refl, sym}
use Rattle.std.specs.Prelude.{ℤ, ◌&&◌, if◌then◌else◌, option_map}
use Rattle.std.specs.Option.{option_map_or}
use Rattle.std.specs.Str.{bytes_eq}
use Rattle.std.proofs.Math.Bool.{and-false}
use Rattle.std.proofs.lemmas.Bool.{cases_Bool}
use Rattle.serde_json.specs.Data.{Data}
use Rattle.apply_json.specs.Tree.{◌>>=◌, member_of, non_empty_text_of, text_of}
use Rattle.apply_json_tree.specs.Trimmed.{trimmed}
use Rattle.stream_message.specs.Members.{address_of, hook_text, text_or_empty}
use Rattle.stream_message.specs.declared.kind.Kind.{Kind}
use Rattle.stream_message.specs.declared.kind.Kind.TheVariants as kind
use Rattle.stream_message.specs.declared.stage.Stage.{Stage}
use Rattle.stream_message.specs.declared.stage.Stage.TheVariants as stage
use Rattle.stream_timeline.specs.Messages.{Content, begins, diagnostic_with, ends, no_totals, summary, summary_in, unusable}
use Rattle.stream_watch.specs.AfterRefreshes.{told_after_refreshes}
use Rattle.stream_watch.specs.Changes.{change_of, counting, drift_told, drift_words, planned_words}
use Rattle.stream_watch.specs.Marks.{planned_mark}
use Rattle.stream_watch.specs.Outputs.{outputs_of}
use Rattle.stream_watch.specs.declared.mark.Mark.TheVariants as mark
use Rattle.stream_watch.specs.DiagnosticRow.{severity_told, without_reads}
use Rattle.stream_watch.specs.Hooks.{Hook, hook_of, kind_of}
use Rattle.stream_watch.specs.OutputRows.{all_told, has_outputs}
use Rattle.stream_watch.specs.ProvisionerRows.{told_of_provisioner}
use Rattle.stream_watch.specs.RefreshRow.{noted_refresh, refresh_ended, refresh_state, reported_told}
use Rattle.stream_watch.specs.Shape.{message_selection}
use Rattle.stream_watch.specs.State.{State, Told, nothing}
use Rattle.stream_watch.specs.StepRows.{NamedStep, step_of, step_told, told_of_step}
use Rattle.stream_watch.specs.Steps.{Step, is_step, new_step, runs_at, without_first}
use Rattle.stream_watch.specs.SummaryRow.{summary_words}
use Rattle.stream_watch.specs.Telling.{kind_told, version_words}
use Rattle.stream_watch.specs.declared.looks.Looks.{Looks}
use Rattle.stream_watch.specs.declared.message.shape.MessageShape.TheVariants as shape
use Rattle.laws_watch.specs.Durations.{closes_read}
use Rattle.laws_watch.proofs.DrawnBegins.{after_content}
use Rattle.laws_watch.proofs.KindBegins.{kind_content, stage_content, step_effect}
use Rattle.laws_watch.proofs.WatchedBegins.{before-steps, begins-begun, begins-ended, begins-provisioner, begins-read, begins-refresh, begins-refreshed, noted-steps, reported-steps, watched_begins}

-- the steps after what is told, or where nothing is told
abbrev pub steps_after : Option Told → List Step → List Step
steps_after told steps = option_map_or (λ (told : Told). told.state.steps) told steps

-- the key has a name, and is no refresh
pub record IsKey (address action : List ℕ) : Type 0 where
  pub named : bytes_eq [] address ≡ false
  pub no_refresh : bytes_eq (codes "refresh") action ≡ false

module _ (address action : List ℕ) (key : IsKey address action) where
  abbrev watched : List Step → List ℤ
  watched steps = watched_begins address action steps

  abbrev after : Content → ℤ → List ℤ → List ℤ
  after content moment before = after_content address action content moment before

  -- ---- contents that change nothing here

  same-mapped : {X : Type 0} (told : X → Told) (state : State) (o : Option X) → ((x : X) → watched (told x).state.steps ≡ watched state.steps)
      → watched (steps_after (option_map told o) state.steps) ≡ watched state.steps
  same-mapped told state None same = refl
  same-mapped told state (Some x) same = same x

  nothing-content : (contents : List ℕ → Content) (o : Option (List ℕ)) (moment : ℤ) (before : List ℤ) → ((x : List ℕ) → after (contents x) moment before ≡ before)
      → after (option_map_or contents o unusable) moment before ≡ before
  nothing-content contents None moment before same = refl
  nothing-content contents (Some x) moment before same = same x

  -- ---- steps

  stage-steps : (looks : Looks) (state : State) (stage : Stage) (moment : ℤ) (step : NamedStep)
      → watched (told_of_step looks state stage moment step).state.steps ≡ after (stage_content stage step.address step.action) moment (watched state.steps)
  stage-steps looks state stage.Start moment step =
      ap (λ steps. watched (steps ++ new_step step.address step.action (kind_of step.hook) false moment ∷ [])) (before-steps looks state step.action)
      ∙ begins-begun address action step.address step.action (kind_of step.hook) moment state.steps
  stage-steps looks state stage.Progress moment step = refl
  stage-steps looks state stage.Complete moment step =
      ap (λ steps. watched (without_first (is_step step.address step.action false) steps)) (noted-steps (is_step step.address step.action false) moment state)
      ∙ begins-ended address action step.address step.action state.steps
  stage-steps looks state stage.Errored moment step = begins-ended address action step.address step.action state.steps

  abbrev staged : Stage → ℤ → List ℤ → (other_address other_action : List ℕ) → List ℤ
  staged stage moment before other_address other_action = after (stage_content stage other_address other_action) moment before

  step-cases : (looks : Looks) (state : State) (stage : Stage) (moment : ℤ) (step : Option NamedStep)
      → watched (steps_after (option_map (told_of_step looks state stage moment) step) state.steps)
      ≡ option_map_or (λ (s : NamedStep). staged stage moment (watched state.steps) s.address s.action) step (watched state.steps)
  step-cases looks state stage moment None = refl
  step-cases looks state stage moment (Some step) = stage-steps looks state stage moment step

  nameless : (stage : Stage) (moment : ℤ) (before : List ℤ) (other_action : List ℕ) → staged stage moment before [] other_action ≡ before
  nameless stage.Start moment before other_action = rw key.named refl
  nameless stage.Progress moment before other_action = refl
  nameless stage.Complete moment before other_action = rw key.named refl
  nameless stage.Errored moment before other_action = rw key.named refl

  -- the content by the address and the action that are stated
  abbrev stated : Stage → ℤ → List ℤ → (other_address other_action : Option (List ℕ)) → List ℤ
  stated stage moment before other_address other_action =
      option_map_or (λ address. option_map_or (λ action. staged stage moment before address action) other_action before) other_address before

  begin-content : (moment : ℤ) (before : List ℤ) (other_address other_action : Option (List ℕ))
      → stated stage.Start moment before other_address other_action
      ≡ after (option_map_or (λ address. option_map_or (λ action. begins address action) other_action unusable) other_address unusable) moment before
  begin-content moment before None other_action = refl
  begin-content moment before (Some other_address) None = refl
  begin-content moment before (Some other_address) (Some other_action) = refl

  end-content : (failed : Bool) (moment : ℤ) (before : List ℤ) (other_address other_action : Option (List ℕ))
      → option_map_or (λ address. option_map_or (λ action. after (ends address action failed) moment before) other_action before) other_address before
      ≡ after (option_map_or (λ address. option_map_or (λ action. ends address action failed) other_action unusable) other_address unusable) moment before
  end-content failed moment before None other_action = refl
  end-content failed moment before (Some other_address) None = refl
  end-content failed moment before (Some other_address) (Some other_action) = refl

  progress-content : (moment : ℤ) (before : List ℤ) (other_address other_action : Option (List ℕ)) → stated stage.Progress moment before other_address other_action ≡ before
  progress-content moment before None other_action = refl
  progress-content moment before (Some other_address) None = refl
  progress-content moment before (Some other_address) (Some other_action) = refl

  stated-content : (stage : Stage) (moment : ℤ) (before : List ℤ) (d : Data) (kind_of_stage : Kind) → kind_of_stage ≡ kind.Apply stage
      → stated stage moment before (address_of d) (hook_text (codes "action") d) ≡ after (kind_content (kind.Apply stage) d) moment before
  stated-content stage.Start moment before d given is = begin-content moment before (address_of d) (hook_text (codes "action") d)
  stated-content stage.Progress moment before d given is = progress-content moment before (address_of d) (hook_text (codes "action") d)
  stated-content stage.Complete moment before d given is = end-content false moment before (address_of d) (hook_text (codes "action") d)
  stated-content stage.Errored moment before d given is = end-content true moment before (address_of d) (hook_text (codes "action") d)

  step-row : (looks : Looks) (state : State) (stage : Stage) (d : Data) (moment : ℤ)
      → watched (steps_after (step_told looks state stage (trimmed message_selection shape.Message d) moment) state.steps)
      ≡ after (kind_content (kind.Apply stage) d) moment (watched state.steps)
  step-row looks state stage d moment =
      step-cases looks state stage moment (step_of (trimmed message_selection shape.Message d))
      ∙ step_effect (staged stage moment (watched state.steps)) (watched state.steps) (nameless stage moment (watched state.steps)) d
      ∙ stated-content stage moment (watched state.steps) d (kind.Apply stage) refl

  -- ---- refreshes

  refresh-ended : (other_address : List ℕ) (moment : ℤ) (state : State) → watched (refresh_ended other_address moment state).steps ≡ watched state.steps
  refresh-ended other_address moment state = begins-refreshed address action other_address (codes "refresh") state.steps

  refresh-steps : (state : State) (stage : Stage) (moment : ℤ) (named : Hook) → watched (refresh_state state stage moment named).steps ≡ watched state.steps
  refresh-steps state stage.Start moment named = begins-refresh address action named.address (kind_of named.hook) moment state.steps
  refresh-steps state stage.Progress moment named = refresh-ended named.address moment state
  refresh-steps state stage.Complete moment named =
      refresh-ended named.address moment (noted_refresh named.address moment state)
      ∙ ap watched (noted-steps (is_step named.address (codes "refresh") true) moment state)
  refresh-steps state stage.Errored moment named = refresh-ended named.address moment state

  refresh-content : (stage : Stage) (d : Data) (moment : ℤ) (before : List ℤ) → after (kind_content (kind.Refresh stage) d) moment before ≡ before
  refresh-content stage.Start d moment before =
      nothing-content (λ other_address. begins other_address (codes "refresh")) (address_of d) moment before
      (λ other_address. rw (key.no_refresh, and-false (bytes_eq other_address address)) refl)
  refresh-content stage.Progress d moment before = refl
  refresh-content stage.Complete d moment before =
      nothing-content (λ other_address. ends other_address (codes "refresh") false) (address_of d) moment before
      (λ other_address. rw (key.no_refresh, and-false (bytes_eq other_address address)) refl)
  refresh-content stage.Errored d moment before = refl

  -- ---- provisioners

  provisioner-steps : (looks : Looks) (state : State) (stage : Stage) (moment : ℤ) (named : Hook)
      → watched (steps_after (told_of_provisioner looks state stage moment named) state.steps) ≡ watched state.steps
  provisioner-steps looks state stage.Start moment named = begins-provisioner address action (runs_at named.address) _ state.steps
  provisioner-steps looks state stage.Progress moment named = same-mapped _ state (text_of (codes "output") named.hook) (λ output. refl)
  provisioner-steps looks state stage.Complete moment named = begins-provisioner address action (runs_at named.address) None state.steps
  provisioner-steps looks state stage.Errored moment named = begins-provisioner address action (runs_at named.address) None state.steps

  provisioner-cases : (looks : Looks) (state : State) (stage : Stage) (moment : ℤ) (named : Option Hook)
      → watched (steps_after (named >>= told_of_provisioner looks state stage moment) state.steps) ≡ watched state.steps
  provisioner-cases looks state stage moment None = refl
  provisioner-cases looks state stage moment (Some named) = provisioner-steps looks state stage moment named

  provisioner-content : (stage : Stage) (d : Data) (moment : ℤ) (before : List ℤ) → after (kind_content (kind.Provision stage) d) moment before ≡ before
  provisioner-content stage.Start d moment before = nothing-content _ (address_of d) moment before (λ other_address. refl)
  provisioner-content stage.Progress d moment before = refl
  provisioner-content stage.Complete d moment before = nothing-content _ (address_of d) moment before (λ other_address. refl)
  provisioner-content stage.Errored d moment before = nothing-content _ (address_of d) moment before (λ other_address. refl)

  -- ---- diagnostics

  reads-steps : (named : Option (List ℕ)) (state : State) → (bytes_eq action (codes "read") && option_map_or (λ n. bytes_eq address n) named false) ≡ false
      → watched (without_reads named state).steps ≡ watched state.steps
  reads-steps None state open_still = refl
  reads-steps (Some named) state open_still = begins-read address action named state.steps (swapped (bytes_eq action (codes "read")) (bytes_eq address named) open_still)
    where
      swapped : (a b : Bool) → (a && b) ≡ false → (b && a) ≡ false
      swapped true true bad = bad
      swapped true false none = refl
      swapped false b none = and-false b

  severity-cases : (looks : Looks) (state : State) (found : Data) (severity : Option (List ℕ))
      → (bytes_eq action (codes "read") && option_map_or (λ n. bytes_eq address n) (non_empty_text_of (codes "address") found) false) ≡ false
      → watched (steps_after (option_map (λ severity. severity_told looks state severity found) severity) state.steps) ≡ watched state.steps
  severity-cases looks state found None open_still = refl
  severity-cases looks state found (Some severity) open_still =
      reads-steps (non_empty_text_of (codes "address") found) (reported_told looks state).state open_still ∙ ap watched (reported-steps looks state)

  diagnostic-cases : (looks : Looks) (state : State) (found : Option Data)
      → (bytes_eq action (codes "read") && option_map_or (λ n. bytes_eq address n) (found >>= non_empty_text_of (codes "address")) false) ≡ false
      → watched (steps_after (found >>= λ found. option_map (λ severity. severity_told looks state severity found) (text_of (codes "severity") found)) state.steps) ≡ watched state.steps
  diagnostic-cases looks state None open_still = refl
  diagnostic-cases looks state (Some found) open_still = severity-cases looks state found (text_of (codes "severity") found) open_still

  severity-content : (severity : List ℕ) (members : Data) (moment : ℤ) (before : List ℤ) → after (diagnostic_with severity members) moment before ≡ before
  severity-content severity members moment before =
      ⊎_elim (λ (error : bytes_eq severity (codes "error") ≡ true). rw error refl)
      (λ (no_error : bytes_eq severity (codes "error") ≡ false).
      rw no_error
      (⊎_elim (λ (warning : bytes_eq severity (codes "warning") ≡ true). rw warning refl) (λ (none : bytes_eq severity (codes "warning") ≡ false). rw none refl)
      (cases_Bool (bytes_eq severity (codes "warning")))))
      (cases_Bool (bytes_eq severity (codes "error")))

  diagnostic-content : (members : Option Data) (moment : ℤ) (before : List ℤ)
      → after (option_map_or (λ members. diagnostic_with (text_or_empty (codes "severity") members) members) members unusable) moment before ≡ before
  diagnostic-content None moment before = refl
  diagnostic-content (Some members) moment before = severity-content (text_or_empty (codes "severity") members) members moment before

  -- ---- sums

  summary-content : (changes : Option Data) (moment : ℤ) (before : List ℤ) → after (option_map_or summary_in changes (summary no_totals)) moment before ≡ before
  summary-content None moment before = refl
  summary-content (Some changes) moment before =
      ⊎_elim (λ (plan : bytes_eq (text_or_empty (codes "operation") changes) (codes "plan") ≡ true). rw plan refl)
      (λ (none : bytes_eq (text_or_empty (codes "operation") changes) (codes "plan") ≡ false). rw none refl)
      (cases_Bool (bytes_eq (text_or_empty (codes "operation") changes) (codes "plan")))

  -- ---- rows

  either-told : (test : Bool) (told : Option Told) (state : State) → watched (steps_after told state.steps) ≡ watched state.steps
      → watched (steps_after (if test then told else None) state.steps) ≡ watched state.steps
  either-told true told state same = same
  either-told false told state same = refl

  pub row-steps : (looks : Looks) (state : State) (line name : List ℕ) (d : Data) (moment : ℤ) (kind : Kind)
      → closes_read address action (trimmed message_selection shape.Message d) ≡ false
      → watched (steps_after (kind_told looks state false line name (trimmed message_selection shape.Message d) moment kind) state.steps)
      ≡ after (kind_content kind d) moment (watched state.steps)
  row-steps looks state line name d moment kind.Version open_still =
      let tree = trimmed message_selection shape.Message d in
      same-mapped (λ version. told_after_refreshes looks mark.Sum (version_words version) state) state (text_of (codes "terraform") tree)
      (λ version. ap watched (reported-steps looks state))
  row-steps looks state line name d moment kind.Planned open_still =
      let tree = trimmed message_selection shape.Message d in
      same-mapped (λ change. told_after_refreshes looks (planned_mark change.action) (planned_words change) (counting change.action state)) state (change_of tree)
      (λ change. ap watched (reported-steps looks (counting change.action state)))
  row-steps looks state line name d moment (kind.Apply stage) open_still = step-row looks state stage d moment
  row-steps looks state line name d moment (kind.Ephemeral stage) open_still = step-row looks state stage d moment
  row-steps looks state line name d moment (kind.Refresh stage) open_still =
      let tree = trimmed message_selection shape.Message d in
      same-mapped (λ named. nothing (refresh_state state stage moment named)) state (hook_of tree) (λ named. refresh-steps state stage moment named)
      ∙ sym (refresh-content stage d moment (watched state.steps))
  row-steps looks state line name d moment (kind.Provision stage) open_still =
      provisioner-cases looks state stage moment (hook_of (trimmed message_selection shape.Message d)) ∙ sym (provisioner-content stage d moment (watched state.steps))
  row-steps looks state line name d moment kind.Diagnostic open_still =
      diagnostic-cases looks state (member_of (codes "diagnostic") (trimmed message_selection shape.Message d)) open_still
      ∙ sym (diagnostic-content (member_of (codes "diagnostic") d) moment (watched state.steps))
  row-steps looks state line name d moment kind.Summary open_still =
      let tree = trimmed message_selection shape.Message d in
      same-mapped (λ words. told_after_refreshes looks mark.Sum words state) state (summary_words tree) (λ words. ap watched (reported-steps looks state))
      ∙ sym (summary-content (member_of (codes "changes") d) moment (watched state.steps))
  row-steps looks state line name d moment kind.Outputs open_still =
      let tree = trimmed message_selection shape.Message d in
      either-told (has_outputs tree) (Some (all_told looks state (outputs_of false line))) state (ap watched (reported-steps looks state))
  row-steps looks state line name d moment kind.Other open_still =
      let tree = trimmed message_selection shape.Message d in
      either-told (bytes_eq name (codes "resource_drift")) (drift_told looks tree state) state
      (same-mapped (λ change. told_after_refreshes looks mark.Drift (drift_words change) state) state (change_of tree) (λ change. ap watched (reported-steps looks state)))
