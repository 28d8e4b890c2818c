use Rattle.apply_plan_terraform.proofs.plan_notes.PlanNote.note.Goals as goal

pub returns-in-Partial : goal.returns-in-Partial
returns-in-Partial c = rw c.in-Partial.is c.note_of.ensures
