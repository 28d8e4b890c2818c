-- The texts of inputs that a stream in Terraform's form contains, and the lines of such a stream.
use Rattle.std.specs.Prelude.{◌≡◌, ℕ, ◌<◌, ◌^◌, List, false, IsUtf8, Option}
use Rattle.std.specs.List.{AllByRecursion, concat}
use Rattle.serde_json.specs.Data.{Data}
use Rattle.apply_model.specs.declared.details.output.Output.{Output}
use Rattle.apply_model.specs.declared.script.diag.Diag.{Diag}
use Rattle.apply_model.specs.declared.script.outcome.Outcome.{Outcome}
use Rattle.apply_model.specs.Plan.SavedPlan.{SavedPlan}
use Rattle.apply_model.specs.Script.OutcomeMap.{OutcomeMap, outcome_of}
use Rattle.stream_check.specs.Message.{Message}
use Rattle.apply_text.specs.Message.{failure_diag, warning_of}
use Rattle.apply_writer.specs.Stream.Terraform.{StreamExtras, imported_in}
use Rattle.laws_check.specs.Forms.{AreVerbatim, IsVerbatim}
use Rattle.laws_check.specs.Texts.{HasTexts}
use Rattle.laws_check.specs.ReadBackInForm.{AreReadBackAs, HasDetailTexts, HasNoteTexts}

-- ---- verbatim texts

-- the text is the text of some value
abbrev pub IsValueText : List ℕ → Type 0
IsValueText text = (value : Data) × IsVerbatim text value

-- the range and the snippet of a diagnostic are such texts, if there are any
abbrev pub HasVerbatimTexts : Diag → Type 0
HasVerbatimTexts diag = (range : Option Data) × (snippet : Option Data) × AreVerbatim diag range snippet

-- the diagnostics of a step with this outcome have such texts
pub record HasVerbatimDiagnostics (outcome : Outcome) : Type 0 where
  pub failure : HasVerbatimTexts (failure_diag outcome)
  pub warning : HasVerbatimTexts (warning_of outcome.result)

-- an output: its type is such a text, and so is its value if it is written
pub record HasOutputTexts (output : Output) : Type 0 where
  pub name : IsUtf8 output.name
  pub kind : IsValueText output.kind
  pub value : output.sensitive ≡ false → IsValueText output.value

-- ---- all of it

-- the plan, the script and the extras of Terraform's form have texts that can be read back
pub record HasFormTexts (plan : SavedPlan) (script : OutcomeMap) (extras : StreamExtras) : Type 0 where
  pub texts : HasTexts plan script
  pub raw_texts : (c k : ℕ) → HasVerbatimDiagnostics (outcome_of script c k)
  pub details : AllByRecursion HasDetailTexts extras.details
  pub notes : AllByRecursion HasNoteTexts extras.notes
  pub outputs : AllByRecursion HasOutputTexts extras.outputs
  pub few_imports : imported_in extras.details < 2 ^ 64

-- the bytes are lines, and each line is read back as one of the messages
pub record StreamIsReadBackAs (bytes : List ℕ) (messages : List Message) : Type 0 where
  pub lines : List (List ℕ)
  pub joined : bytes ≡ concat lines
  pub say : AreReadBackAs lines messages
