-- Steps and outputs as messages name them.
use Rattle.std.specs.Prelude.{ℕ, List, [], ◌++◌, codes, Option, None, Some}
use Rattle.apply_model.specs.declared.plan.step_kind.StepKind.{StepKind}
use Rattle.apply_model.specs.declared.plan.step_kind.StepKind.TheVariants.{Create, Update, Delete, Read}
use Rattle.stream_record_steps.specs.Steps.{PlannedStep}
use Rattle.term_text.specs.Shown.{shown_text}

abbrev pub kind_word : StepKind → List ℕ
kind_word Create = codes "create"
kind_word Update = codes "update"
kind_word Delete = codes "delete"
kind_word Read = codes "read"

-- A kind and an address.
abbrev pub kind_at : StepKind → (address : List ℕ) → List ℕ
kind_at kind address = kind_word kind ++ (codes " of " ++ shown_text address)

-- The key of a deposed object.
abbrev pub deposed_words : Option (List ℕ) → List ℕ
deposed_words None = []
deposed_words (Some key) = codes " (deposed " ++ (shown_text key ++ codes ")")

-- The name of a step.
abbrev pub step_words : PlannedStep → List ℕ
step_words step = kind_at step.kind step.change.address ++ deposed_words step.change.deposed
