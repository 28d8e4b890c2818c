use Rattle.std.proofs.Common.{ap, ◌∙◌}
use Rattle.apply_plan_terraform.specs.Changes.{changes_of}
use Rattle.apply_plan_terraform.specs.Plan.{note_of}
use Rattle.apply_plan_terraform.proofs.Trimmed.{same_changes, same_note}
use Rattle.apply_plan_terraform.proofs.changes.read_plan_details.Goals as goal

pub returns-in-Ok-clause-ok : goal.returns-in-Ok-clause-ok
returns-in-Ok-clause-ok c =
    let read = c.in_ok-tree.ensures.ok in
    let collected = read.1 in
    let details = c.in-Ok.ensures in
    (read.0, collected.0, collected.1, details.changes ∙ ap changes_of collected.2 ∙ same_changes collected.0, details.note ∙ ap note_of collected.2 ∙ same_note collected.0)
