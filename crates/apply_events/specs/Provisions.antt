-- The events of a step between its start and its end, and after how many seconds each comes
-- (Machine-Readable UI, "Operation Messages"). They are `apply_progress`, `provision_start`,
-- `provision_progress`, `provision_complete` and `provision_errored`.
use Rattle.std.specs.Prelude.{ℕ, ◌+◌, List, [], ◌∷◌, ◌++◌, filter, map, max, min, nat_le, nat_lt, ◌&&◌, if◌then◌else◌}
use Rattle.apply_model.specs.declared.script.provisioner.Provisioner.{Provisioner}
use Rattle.apply_model.specs.declared.script.timed_text.TimedText.{TimedText}
use Rattle.apply_model.specs.Script.Outcome.{has_failed}
use Rattle.apply_events.specs.declared.what.What.{What}
use Rattle.apply_events.specs.declared.what.What.TheVariants.{Progress, ProvisionStart, ProvisionOutput, ProvisionComplete, ProvisionErrored}
use Rattle.apply_events.specs.ProgressTimes.{progress_times}

-- The progress times of a step of d seconds that are greater than `after`, and at most `until`.
abbrev pub times_within : (d after until : ℕ) → List ℕ
times_within d after until = filter (λ p. nat_lt after p && nat_le p until) (progress_times d)

-- The progress events at those times.
abbrev pub progress : (d after until : ℕ) → List (ℕ × What)
progress d after until = map (λ p. (p, Progress p)) (times_within d after until)

-- The event with which provisioner i ends.
abbrev pub provision_end : (i : ℕ) → Provisioner → What
provision_end i provisioner = if has_failed provisioner then ProvisionErrored i else ProvisionComplete i

-- When an output comes, in seconds. The provisioner runs from `since` to `until`, and all events up
-- to `after` were emitted. The output comes at its own second after `since`, but not before `after`
-- and not after `until`. All outputs of a script come at their own seconds.
abbrev pub output_at : (after since until : ℕ) → TimedText → ℕ
output_at after since until output = min (max after (since + output.after)) until

-- The events of provisioner i, where output j is the first of these outputs. Each output comes
-- after the progress up to then. The progress up to the end and the end itself come last.
abbrev pub emitted_by : (d after i j since until : ℕ) → (end : What) → List TimedText → List (ℕ × What)
emitted_by d after i j since until end [] = progress d after until ++ (until, end) ∷ []
emitted_by d after i j since until end (output ∷ outputs) =
    progress d after (output_at after since until output)
    ++ (output_at after since until output, ProvisionOutput i j)
    ∷ emitted_by d (output_at after since until output) i (j + 1) since until end outputs

-- The events of provisioners one after another, in a step of d seconds. The first is number i and
-- begins after `since` seconds. Before each provisioner comes progress later than `after`, then its
-- start and its own events. Progress up to the end of the step comes last.
abbrev pub along : (d after i since : ℕ) → List Provisioner → List (ℕ × What)
along d after i since [] = progress d after d
along d after i since (provisioner ∷ others) =
    progress d after since
    ++ (since, ProvisionStart i)
    ∷ (emitted_by d since i 0 since (since + provisioner.seconds) (provision_end i provisioner) provisioner.output
    ++ along d (since + provisioner.seconds) (i + 1) (since + provisioner.seconds) others)
