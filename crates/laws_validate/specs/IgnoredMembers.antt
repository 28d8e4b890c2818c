-- Members of a script that no run reads.
use Rattle.std.specs.Prelude.{◌≡◌, ℕ, List, [], ◌∷◌, ◌++◌, false, slice_get, Some}
use Rattle.serde_json.specs.Data.{Data}
use Rattle.apply_json.specs.ShallowView.{members_in}
use Rattle.input_validate.specs.declared.findings.finding.Finding.{Finding}
use Rattle.input_validate.specs.declared.findings.name.Name.{Name}
use Rattle.input_validate.specs.declared.findings.name.Name.TheVariants as name
use Rattle.input_validate.specs.declared.findings.path.Segment.{Segment}
use Rattle.input_validate.specs.declared.findings.path.Segment.TheVariants.{Item, Member, Other}
use Rattle.input_validate.specs.declared.findings.problem.Problem.TheVariants.{NotRead}
use Rattle.input_validate.specs.ScriptFindings.{diagnostic_names, entry_names, failure_names, output_names, provisioner_names, script_names, step_names, wait_names}
use Rattle.input_validate.specs.Rules.{is_known, texts_in}
use Rattle.laws_validate.specs.Paths.{value_at}

-- the path to a step of an entry, and on from there
abbrev pub in_step_at : (entry step : ℕ) → List Segment → List Segment
in_step_at entry step path = Member name.Changes ∷ Item entry ∷ Member name.Steps ∷ Item step ∷ path

-- the path to a provisioner of a step, and on from there
abbrev pub in_provisioner_at : (entry step provisioner : ℕ) → List Segment → List Segment
in_provisioner_at entry step provisioner path = in_step_at entry step (Member name.Provisioners ∷ Item provisioner ∷ path)

-- a run reads the members with these names of the object that such a path leads to
pub data IsRead : List Segment → List Name → Type 0 where
  top : IsRead [] script_names
  entry : (e : ℕ) → IsRead (Member name.Changes ∷ Item e ∷ []) entry_names
  step : (e s : ℕ) → IsRead (in_step_at e s []) step_names
  warning : (e s : ℕ) → IsRead (in_step_at e s (Member name.Warning ∷ [])) diagnostic_names
  failure : (e s : ℕ) → IsRead (in_step_at e s (Member name.Failed ∷ [])) failure_names
  provisioner : (e s p : ℕ) → IsRead (in_provisioner_at e s p []) provisioner_names
  failure_of_provisioner : (e s p : ℕ) → IsRead (in_provisioner_at e s p (Member name.Failed ∷ [])) diagnostic_names
  output : (e s p n : ℕ) → IsRead (in_provisioner_at e s p (Member name.Output ∷ Item n ∷ [])) output_names
  wait : (e s n : ℕ) → IsRead (in_step_at e s (Member name.After ∷ Item n ∷ [])) wait_names

-- The path leads to a member with an unknown name, of an object whose other members a run reads.
-- The last segment is the number of the member in its object.
pub record IsIgnored (Reads : List Segment → List Name → Type 0) (tree : Data) (path : List Segment) : Type 0 where
  pub front : List Segment
  pub number : ℕ
  pub names : List Name
  pub value : Data
  pub text : List ℕ
  pub reads : Reads front names
  pub path_is : path ≡ front ++ Other number ∷ []
  pub value_is : value_at front tree ≡ Some value
  pub text_is : slice_get (texts_in (members_in value)) number ≡ Some text
  pub unknown : is_known names text ≡ false

-- the warning that no run reads what stands at this path
abbrev pub warning_at : List Segment → Finding
warning_at path = record { path = path; problem = NotRead }
