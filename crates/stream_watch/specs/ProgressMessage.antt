-- Messages of progress of a step.
use Rattle.std.specs.Prelude.{◌≡◌, ℕ, ℤ, List, codes, Bool, true, false, not, Option, Some, is_some}
use Rattle.std.specs.Option.{option_map_or}
use Rattle.serde_json.specs.Data.{Data}
use Rattle.apply_json.specs.Tree.{is_empty, tree_of}
use Rattle.stream_message.specs.Members.{address_of, hook_text, kind_of, message_time}
use Rattle.stream_message.specs.declared.kind.Kind.{Kind}
use Rattle.stream_message.specs.declared.kind.Kind.TheVariants as kind
use Rattle.stream_message.specs.declared.stage.Stage.{Stage}
use Rattle.stream_message.specs.declared.stage.Stage.TheVariants as stage

abbrev pub is_progress_stage : Stage → Bool
is_progress_stage stage.Start = false
is_progress_stage stage.Progress = true
is_progress_stage stage.Complete = false
is_progress_stage stage.Errored = false

-- progress of a step
abbrev pub is_progress_kind : Kind → Bool
is_progress_kind kind.Version = false
is_progress_kind (kind.Apply stage) = is_progress_stage stage
is_progress_kind (kind.Refresh stage) = false
is_progress_kind (kind.Provision stage) = false
is_progress_kind (kind.Ephemeral stage) = is_progress_stage stage
is_progress_kind kind.Planned = false
is_progress_kind kind.Summary = false
is_progress_kind kind.Diagnostic = false
is_progress_kind kind.Outputs = false
is_progress_kind kind.Other = false

-- a text that is not empty
abbrev pub is_named : Option (List ℕ) → Bool
is_named name = option_map_or (λ text. not (is_empty text)) name false

-- a message of progress that names its action and its address, with this moment or with none
pub record IsProgress (tree : Data) (moment : Option ℤ) : Type 0 where
  pub kind : option_map_or is_progress_kind (kind_of tree) false ≡ true
  pub address : is_named (address_of tree) ≡ true
  pub action : is_some (hook_text (codes "action") tree) ≡ true
  pub time : message_time tree ≡ moment

-- the text has such a message
abbrev pub HasProgress : (text : List ℕ) → (moment : Option ℤ) → Type 0
HasProgress text moment = (tree : Data) × (tree_of text ≡ Some tree) × IsProgress tree moment
