-- Members of a script that no run in a form reads.
use Rattle.std.specs.Prelude.{◌≡◌, ℕ, List, [], ◌∷◌, true}
use Rattle.input_validate.specs.declared.findings.name.Name.{Name}
use Rattle.input_validate.specs.declared.findings.name.Name.TheVariants as name
use Rattle.input_validate.specs.declared.findings.path.Segment.{Segment}
use Rattle.input_validate.specs.declared.findings.path.Segment.TheVariants.{Item, Member, Other}
use Rattle.input_validate.specs.declared.form.Form.{Form}
use Rattle.input_validate.specs.Extras.{note_names, plan_output_names}
use Rattle.input_validate.specs.Planning.{planned_names}
use Rattle.input_validate.specs.ScriptFindings.{failure_names}
use Rattle.laws_validate.specs.IgnoredMembers.{IsRead}
use Rattle.laws_validate.specs.Laws.{reads_extras, reads_planning}

-- a run in this form reads the members with these names of the object that such a path leads to
pub data IsReadIn : Form → List Segment → List Name → Type 0 where
  always : {form : Form} {front : List Segment} {names : List Name} → IsRead front names → IsReadIn form front names
  plan_output : {form : Form} → reads_extras form ≡ true → (n : ℕ) → IsReadIn form (Member name.Outputs ∷ Other n ∷ []) plan_output_names
  note : {form : Form} → reads_extras form ≡ true → (n : ℕ) → IsReadIn form (Member name.Diagnostics ∷ Item n ∷ []) note_names
  planned : {form : Form} → reads_planning form ≡ true → (n : ℕ) → IsReadIn form (Member name.Planning ∷ Item n ∷ []) planned_names
  failure : {form : Form} → reads_planning form ≡ true → (n : ℕ) → IsReadIn form (Member name.Planning ∷ Item n ∷ Member name.Failed ∷ []) failure_names
