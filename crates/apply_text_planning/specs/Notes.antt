-- Diagnostics of a plan that is made in the run (Machine-Readable UI, "Diagnostic").
use Rattle.std.specs.Prelude.{ℕ, List, [], ◌∷◌, ◌++◌, codes, flat_map, if◌then◌else◌, Option, Some, None}
use Rattle.apply_model.specs.declared.details.change_details.ChangeDetails.{ChangeDetails}
use Rattle.apply_model.specs.declared.details.note.Note.{Note}
use Rattle.apply_model.specs.declared.details.note.Severity.{Severity}
use Rattle.apply_model.specs.declared.details.note.Severity.TheVariants.{Error, Warning}
use Rattle.apply_model.specs.Plan.ResourceChange.{ResourceChange}

-- a diagnostic without an address, a range and a snippet
abbrev pub note_of_text : Severity → (summary detail : List ℕ) → Note
note_of_text severity summary detail = record {
  severity = severity;
  diag = record { summary = summary; detail = detail; range = None; snippet = None };
  address = None;
}

-- the plan covers a part of the configuration only
abbrev pub targeting_note : Note
targeting_note = note_of_text Warning
    (codes "Resource targeting is in effect")
    (codes "You are creating a plan with the -target option, which means that the result of this plan may not represent all of the changes requested by the current configuration.\n\nThe -target option is not for routine use, and is provided only for exceptional situations such as recovering from errors or mistakes, or when Terraform specifically suggests to use it as part of an error message.")

-- the plan ended with an error, and no other diagnostic says with which
abbrev pub unfinished_note : Note
unfinished_note = note_of_text Error
    (codes "The plan ended with an error")
    (codes "The plan's JSON says that its making ended with an error, and not with which; a script can tell it.")

-- ---- objects that Terraform stops tracking

-- the address of a change with these details, where Terraform stops tracking its object
abbrev pub forgotten_at : ResourceChange → Option ChangeDetails → List (List ℕ)
forgotten_at change None = []
forgotten_at change (Some details) = if details.forgets then change.address ∷ [] else []

-- the addresses of the objects that Terraform stops tracking, in the plan's order
abbrev pub forgotten_in : List ResourceChange → List ChangeDetails → List (List ℕ)
forgotten_in [] details = []
forgotten_in (change ∷ changes) [] = []
forgotten_in (change ∷ changes) (d ∷ details) = forgotten_at change (Some d) ++ forgotten_in changes details

-- the line of an address
abbrev pub forgotten_line : (address : List ℕ) → List ℕ
forgotten_line address = codes " - " ++ (address ++ codes "\n")

-- a line for each address
abbrev pub forgotten_lines : List (List ℕ) → List ℕ
forgotten_lines addresses = flat_map forgotten_line addresses

-- the diagnostic with the lines of these objects
abbrev pub note_of_lines : (lines : List ℕ) → Note
note_of_lines lines = note_of_text Warning
    (codes "Some objects will no longer be managed by Terraform")
    (codes "If you apply this plan, Terraform will discard its tracking information for the following objects, but it will not delete them:\n"
    ++ (lines
    ++ codes "\nAfter applying this plan, Terraform will no longer manage these objects. You will need to import them into Terraform to manage them again."))

-- the diagnostic that names the objects with these addresses
abbrev pub forgotten_note : List (List ℕ) → Note
forgotten_note addresses = note_of_lines (forgotten_lines addresses)

-- the diagnostic, unless there is no such object
abbrev pub forgotten_note_of : List (List ℕ) → Option Note
forgotten_note_of [] = None
forgotten_note_of (address ∷ addresses) = Some (forgotten_note (address ∷ addresses))
