-- How far a step is between its start and its end, as contracts see it: the events still to come
-- before its end.
use Rattle.std.specs.Prelude.{ℕ, ◌+◌, List, [], ◌∷◌, ◌++◌, drop, take, Option, Some, None}
use Rattle.apply_model.specs.declared.script.provisioner.Provisioner.{Provisioner}
use Rattle.apply_model.specs.declared.script.timed_text.TimedText.{TimedText}
use Rattle.apply_model.specs.Script.Outcome.{seconds_of_all}
use Rattle.apply_events.specs.declared.mid_step.MidStep.{MidStep}
use Rattle.apply_events.specs.declared.what.What.{What}
use Rattle.apply_events.specs.Provisions.{along, output_at, provision_end, emitted_by}

-- After how many seconds provisioner i begins, if the provider takes `before` seconds before all
-- provisioners.
abbrev pub since : (before : ℕ) → List Provisioner → (i : ℕ) → ℕ
since before ran i = before + seconds_of_all (take i ran)

-- When the first of these outputs comes, or the end of the provisioner where none is left.
abbrev pub due : (after since until : ℕ) → List TimedText → ℕ
due after since until [] = until
due after since until (output ∷ outputs) = output_at after since until output

-- The events still to come of a step of d seconds, while the first of these provisioners runs and
-- has printed some of its outputs.
abbrev pub within_provisioner : (d emitted i line since : ℕ) → List Provisioner → List (ℕ × What)
within_provisioner d emitted i line since [] = []
within_provisioner d emitted i line since (provisioner ∷ others) =
    emitted_by d emitted i line since (since + provisioner.seconds) (provision_end i provisioner) (drop line provisioner.output)
    ++ along d (since + provisioner.seconds) (i + 1) (since + provisioner.seconds) others

-- The events still to come of a step before provisioner i begins (`None`), or while it runs.
abbrev pub left_at : (d before : ℕ) → List Provisioner → (emitted i : ℕ) → (outputs : Option ℕ) → List (ℕ × What)
left_at d before ran emitted i None = along d emitted i (since before ran i) (drop i ran)
left_at d before ran emitted i (Some line) = within_provisioner d emitted i line (since before ran i) (drop i ran)

-- The events still to come of a step of d seconds before its end. The provider takes `before`
-- seconds before the provisioners.
abbrev pub left_of : (d before : ℕ) → List Provisioner → MidStep → List (ℕ × What)
left_of d before ran mid = left_at d before ran mid.emitted mid.provisioner mid.outputs
