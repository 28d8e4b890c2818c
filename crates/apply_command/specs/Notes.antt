-- The diagnostics of no step that a command prints, and whether its plan is applied.
use Rattle.std.specs.Prelude.{List, [], ◌∷◌, ◌++◌, Bool, false, true, not, ◌&&◌, ◌||◌, if◌then◌else◌, Option, Some, None}
use Rattle.std.specs.List.{list_any}
use Rattle.apply_model.specs.declared.details.note.Note.{Note}
use Rattle.apply_text_terraform.specs.declared.command.Command.{Command}
use Rattle.apply_text_terraform.specs.declared.command.Command.TheVariants.{Saved, Plan, Apply, Destroy}
use Rattle.apply_plan_terraform.specs.declared.plan_notes.PlanNote.{PlanNote}
use Rattle.apply_plan_terraform.specs.declared.plan_notes.PlanNote.TheVariants.{Partial, Unfinished}
use Rattle.apply_plan_terraform.specs.Notes.{note_of_plan}
use Rattle.apply_run.specs.Read.{is_unfinished}
use Rattle.apply_text_planning.specs.Notes.{targeting_note, unfinished_note}
use Rattle.apply_writer.specs.Stream.Terraform.{is_error}

-- ---- what becomes of the plan

-- the planning failed: the plan says so, or a refresh or a read failed with an error
abbrev pub has_failed : Option PlanNote → (planning : List Note) → Bool
has_failed note planning = is_unfinished note || list_any is_error planning

-- a plan is applied by each command but `plan`, unless the planning failed
abbrev pub applies : Command → (failed : Bool) → Bool
applies Saved failed = not failed
applies Plan failed = false
applies Apply failed = not failed
applies Destroy failed = not failed

-- the plan is told, but not by `apply` and `destroy` where the planning failed and there is nothing
-- in it, and not by `destroy` where a refresh or a read failed with an error
abbrev pub tells_plan : Command → (failed : Bool) → (planning : List Note) → (is_bare : Bool) → Bool
tells_plan Saved failed planning is_bare = not (failed && is_bare)
tells_plan Plan failed planning is_bare = true
tells_plan Apply failed planning is_bare = not (failed && is_bare)
tells_plan Destroy failed planning is_bare = not (failed && is_bare) && not (list_any is_error planning)

-- ---- diagnostics

abbrev pub note_if : Bool → Note → List Note
note_if said note = if said then note ∷ [] else []

abbrev pub option_list : Option Note → List Note
option_list None = []
option_list (Some note) = note ∷ []

abbrev pub is_partial : Option PlanNote → Bool
is_partial None = false
is_partial (Some Partial) = true
is_partial (Some Unfinished) = false

-- those of the script, and what the plan itself warns of: -target, and objects that it forgets
abbrev pub plan_notes : Option PlanNote → (forgotten : Option Note) → (script : List Note) → List Note
plan_notes note forgotten script = script ++ note_if (is_partial note) targeting_note ++ option_list forgotten

-- an error, where the plan ended with one that no other diagnostic tells
abbrev pub with_unfinished : Option PlanNote → List Note → List Note
with_unfinished note notes = notes ++ note_if (is_unfinished note && not (list_any is_error notes)) unfinished_note

-- the diagnostics of no step: where the plan is not applied, those of the planning come first; else
-- they are as of a saved plan, and those of the planning are not told again
abbrev pub command_notes : (applies : Bool) → Option PlanNote → (forgotten : Option Note) → (planning script : List Note) → List Note
command_notes applies note forgotten planning script =
    if applies then plan_notes note forgotten script ++ note_if (is_partial note) (note_of_plan Partial)
    else with_unfinished note (planning ++ plan_notes note forgotten script)
