-- The note about a whole plan (JSON Output Format, "Plan Representation", `errored` and
-- `complete`).
use Rattle.std.specs.Prelude.{codes, Bool, true, false, if◌then◌else◌, Option, Some, None}
use Rattle.serde_json.specs.Data.{Data}
use Rattle.apply_json.specs.Tree.{member_of}
use Rattle.apply_plan_terraform.specs.declared.plan_notes.PlanNote.{PlanNote}
use Rattle.apply_plan_terraform.specs.declared.plan_notes.PlanNote.TheVariants.{Partial, Unfinished}
use Rattle.apply_plan_terraform.specs.Details.{is_flag}

-- planning ended with an error
abbrev pub is_errored : Data → Bool
is_errored d = is_flag true (member_of (codes "errored") d)

-- the plan covers a part of the configuration, or leaves something to do for another reason
abbrev pub is_partial : Data → Bool
is_partial d = if is_errored d then false else is_flag false (member_of (codes "complete") d)

-- the note about the plan; an error of planning hides that it is partial
abbrev pub note_of : Data → Option PlanNote
note_of d = if is_errored d then Some Unfinished else if is_partial d then Some Partial else None
