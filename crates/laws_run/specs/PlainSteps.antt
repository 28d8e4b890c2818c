-- The events of a step with none of the newer members of a script. No provisioner may fail or has
-- output before its end, a failed provider does not only warn, and a delete has no provisioners.
use Rattle.std.specs.Prelude.{◌≡◌, ◌+◌, ◌||◌, ℕ, List, [], ◌∷◌, ◌++◌, Bool, false, is_some, if◌then◌else◌, map}
use Rattle.std.specs.List.{AllByRecursion, list_any}
use Rattle.apply_model.specs.declared.plan.step_kind.StepKind.{StepKind}
use Rattle.apply_model.specs.declared.plan.step_kind.StepKind.TheVariants.{Delete}
use Rattle.apply_model.specs.declared.script.outcome.Outcome.{Outcome}
use Rattle.apply_model.specs.declared.script.provisioner.Provisioner.{Provisioner}
use Rattle.apply_model.specs.declared.script.timed_text.TimedText.{TimedText}
use Rattle.apply_model.specs.Script.Outcome.{has_failed, is_failed, is_warned, seconds_of_all}
use Rattle.apply_hooks.specs.declared.phase.Phase.TheVariants.{Pre}
use Rattle.apply_events.specs.declared.event.Event.{Event}
use Rattle.apply_events.specs.declared.what.What.{What}
use Rattle.apply_events.specs.declared.what.What.TheVariants.{Start, ProvisionOutput, ProvisionStart}
use Rattle.apply_events.specs.Provisions.{progress, provision_end}
use Rattle.apply_events.specs.Step.{Step, has_warning}
use Rattle.apply_events.specs.StepEvents.{end_of, event, halts, notes, phase_after}

-- the provisioner may not fail, and all its output comes at its end
pub record IsPlainProvisioner (provisioner : Provisioner) : Type 0 where
  pub strict : provisioner.may_fail ≡ false
  pub at_end : AllByRecursion (λ (text : TimedText). text.after ≡ provisioner.seconds) provisioner.output

-- the outcome of a step of this kind has none of the newer members
pub record IsPlain (kind : StepKind) (outcome : Outcome) : Type 0 where
  pub provisioners : AllByRecursion IsPlainProvisioner outcome.provisioners
  pub not_warned : is_warned outcome.result ≡ false
  pub none_of_delete : kind ≡ Delete → outcome.provisioners ≡ []

-- ---- what happens then

-- the provisioners that run: all of them up to the first that fails, and that one too
abbrev pub plain_ran : List Provisioner → List Provisioner
plain_ran [] = []
plain_ran (provisioner ∷ others) = provisioner ∷ (if has_failed provisioner then [] else plain_ran others)

-- the events at the end of a provisioner: its outputs, numbered from j, and its end
abbrev pub results : (i j : ℕ) → Provisioner → List TimedText → List What
results i j provisioner [] = provision_end i provisioner ∷ []
results i j provisioner (text ∷ texts) = ProvisionOutput i j ∷ results i (j + 1) provisioner texts

-- the events of provisioners one after another, in a step of d seconds; the first one, number i,
-- starts after `since` seconds
abbrev pub provisions : (d i since : ℕ) → List Provisioner → List (ℕ × What)
provisions d i since [] = []
provisions d i since (provisioner ∷ others) =
    (since, ProvisionStart i)
    ∷ (progress d since (since + provisioner.seconds)
    ++ (map (λ what. (since + provisioner.seconds, what)) (results i 0 provisioner provisioner.output)
    ++ provisions d (i + 1) (since + provisioner.seconds) others))

-- the seconds of the step: those of the provider, then those of the provisioners that run
abbrev pub plain_time : Outcome → ℕ
plain_time outcome = outcome.seconds + seconds_of_all (plain_ran outcome.provisioners)

-- the step fails: its provider failed, or a provisioner did
abbrev pub plain_fails : Outcome → Bool
plain_fails outcome = is_failed outcome.result || list_any has_failed outcome.provisioners

-- the events of a step that starts at the time `at`
abbrev pub plain_started : (worker : ℕ) → Step → Outcome → (at : ℕ) → List Event
plain_started worker step outcome at =
    event worker step at Start
    ∷ (map (λ p. event worker step (at + p.0) p.1)
    (progress (plain_time outcome) 0 outcome.seconds
    ++ provisions (plain_time outcome) 0 outcome.seconds (plain_ran outcome.provisioners))
    ++ (map (λ what. event worker step (at + plain_time outcome) what)
    (end_of (plain_fails outcome) (plain_time outcome) ∷ notes (plain_fails outcome) (has_warning outcome.result))
    ++ halts worker step (phase_after (plain_fails outcome)) (at + plain_time outcome)))

-- the events of a step: those of the hook that halts it before its start, if there is one, or else
-- those of the step as it starts
abbrev pub plain_events : (worker : ℕ) → Step → Outcome → (at : ℕ) → List Event
plain_events worker step outcome at =
    if is_some (step.halts Pre) then halts worker step Pre at else plain_started worker step outcome at
