-- Plans and scripts that differ only in what no stream depends on: the values of sensitive outputs
-- are part of that.
use Rattle.std.specs.Prelude.{◌≡◌, ◌⊎◌, ℕ, List, [], ◌∷◌, codes, Bool, false, ⊤}
use Rattle.json.specs.Json as json
use Rattle.serde_json.specs.Data.{Data, Members, no_members, member}
use Rattle.apply_events.specs.declared.event.Event.{Event}
use Rattle.apply_text.specs.declared.operation.Operation.{Operation}
use Rattle.apply_text_terraform.specs.declared.form.Form.TheVariants.{Terraform}
use Rattle.apply_plan_terraform.specs.Outputs.{OutputsOfPlan, change_of, is_deleted, equals_word, is_unknown, text_at}
use Rattle.apply_plan_terraform.specs.Texts.{json_of}
use Rattle.apply_run.specs.Bytes.{Inputs}
use Rattle.apply_run.specs.FromBytes.{form_for}
use Rattle.apply_run.specs.Read.{StatedInputs, applied_plan, applied_script, extras_of}
use Rattle.apply_writer.specs.Stream.Form.{lines_in, stream_in}
use Rattle.laws_run.specs.LastMembers.{HaveAlike, HaveSame, is_true, last_of}
use Rattle.laws_run.specs.Plans.{AreAlike}
use Rattle.laws_run.specs.SensitiveChanges.{ElementsAgree}

-- ---- outputs

-- an output is sensitive if its own member `sensitive` is `true`
abbrev pub is_sensitive : json.Json → Bool
is_sensitive output = is_true (last_of (codes "sensitive") output)

-- two outputs have the same `sensitive` and `type`, and the same `value` unless they are sensitive
abbrev pub OutputAgrees : json.Json → json.Json → Type 0
OutputAgrees one other =
    HaveSame (codes "sensitive" ∷ codes "type" ∷ []) one other
    × (is_sensitive one ≡ false → HaveSame (codes "value" ∷ []) one other)

-- the names of the outputs are the same, in the same order, and the outputs agree one by one
abbrev pub EachOutputAgrees : json.Members → json.Members → Type 0
EachOutputAgrees json.no_members json.no_members = ⊤
EachOutputAgrees json.no_members (json.member name other others) = ⊥
EachOutputAgrees (json.member name one ones) json.no_members = ⊥
EachOutputAgrees (json.member name one ones) (json.member same other others) =
    (name ≡ same) × OutputAgrees one other × EachOutputAgrees ones others

-- two objects of outputs agree, or the two values are equal
abbrev pub OutputsAgree : json.Json → json.Json → Type 0
OutputsAgree one other =
    (one ≡ other)
    ⊎ ((ones : json.Members) × (others : json.Members)
    × (one ≡ json.object ones) × (other ≡ json.object others) × EachOutputAgrees ones others)

-- For each name the actions on the output are the same, and so is whether its value is unknown. The
-- values before and after may differ.
abbrev pub OutputChangesAgree : json.Json → json.Json → Type 0
OutputChangesAgree one other =
    (name : List ℕ) → HaveAlike name (HaveSame (codes "actions" ∷ codes "after_unknown" ∷ [])) one other

-- ---- plans and scripts

-- Two plans agree on what Terraform's form reads. All members that are not named here may differ.
abbrev pub PlansAgreeForTerraform : json.Json → json.Json → Type 0
PlansAgreeForTerraform one other =
    HaveSame (codes "format_version" ∷ codes "terraform_version" ∷ codes "errored" ∷ codes "complete" ∷ []) one other
    × HaveAlike (codes "resource_changes") ElementsAgree one other
    × HaveAlike (codes "prior_state") (HaveAlike (codes "values") (HaveAlike (codes "outputs") OutputsAgree)) one other
    × HaveAlike (codes "output_changes") OutputChangesAgree one other

-- Two scripts agree on what Terraform's form reads. All members that are not named here may differ.
abbrev pub ScriptsAgreeForTerraform : json.Json → json.Json → Type 0
ScriptsAgreeForTerraform one other =
    HaveSame (codes "changes" ∷ codes "diagnostics" ∷ []) one other × HaveAlike (codes "outputs") OutputsAgree one other

-- The inputs of two runs differ only in what no stream in Terraform's form depends on. Bytes that
-- are no JSON count as alike.
pub record DifferInSecrets (one other : Inputs) : Type 0 where
  pub plan : AreAlike PlansAgreeForTerraform (json_of one.plan) (json_of other.plan)
  pub script : AreAlike (λ a b. AreAlike ScriptsAgreeForTerraform (json_of a) (json_of b)) one.script other.script
  pub hooks : one.hooks ≡ other.hooks

-- ---- what was read

-- two outputs that were read are equal but for the value, and their values too unless they are
-- sensitive
pub record IsSameButSecret (one other : Data) : Type 0 where
  pub sensitive : text_at (codes "sensitive") one ≡ text_at (codes "sensitive") other
  pub kind : text_at (codes "type") one ≡ text_at (codes "type") other
  pub value : equals_word (codes "true") (text_at (codes "sensitive") one) ≡ false
      → text_at (codes "value") one ≡ text_at (codes "value") other

-- two objects of outputs that were read have the same names in the same order, and differ only in
-- sensitive values
abbrev pub AreSameButSecrets : Members → Members → Type 0
AreSameButSecrets no_members no_members = ⊤
AreSameButSecrets no_members (member name other others) = ⊥
AreSameButSecrets (member name one ones) no_members = ⊥
AreSameButSecrets (member name one ones) (member same other others) =
    (name ≡ same) × IsSameButSecret one other × AreSameButSecrets ones others

-- the same outputs are known, unknown and gone; the values of known outputs differ only if they are
-- sensitive
pub record KnowSameOutputs (one other : OutputsOfPlan) : Type 0 where
  pub known : AreSameButSecrets one.known other.known
  pub unknown : (name : List ℕ) → is_unknown (change_of one.changes name) ≡ is_unknown (change_of other.changes name)
  pub gone : (name : List ℕ) → is_deleted (change_of one.changes name) ≡ is_deleted (change_of other.changes name)

-- what was read differs only in the values of sensitive outputs
pub record AreReadAlike (one other : StatedInputs) : Type 0 where
  pub plan : one.plan ≡ other.plan
  pub script : one.script ≡ other.script
  pub changes : one.details.changes ≡ other.details.changes
  pub note : one.details.note ≡ other.details.note
  pub outputs : KnowSameOutputs one.details.outputs other.details.outputs
  pub script_outputs : AreSameButSecrets one.extras.outputs other.extras.outputs
  pub notes : one.extras.notes ≡ other.extras.notes

-- ---- what follows

-- The same plan and script are applied, and the diagnostics of no step are the same. The stream of
-- any events has the same bytes, and so have the lines of any events.
pub record HaveSameStream (one other : StatedInputs) : Type 0 where
  pub plan : applied_plan one ≡ applied_plan other
  pub script : applied_script one ≡ applied_script other
  pub notes : (extras_of one).notes ≡ (extras_of other).notes
  pub stream : (start : ℕ) (operation : Operation) (taken : List Event)
      → stream_in (form_for Terraform one start operation) taken ≡ stream_in (form_for Terraform other start operation) taken
  pub lines : (start : ℕ) (operation : Operation) (written : List Event)
      → lines_in (form_for Terraform one start operation) written ≡ lines_in (form_for Terraform other start operation) written
