-- Where the time line of a stream agrees with what `check` counts.
use Rattle.std.specs.Prelude.{◌≡◌, All, ℕ, List, codes, Bool, true, false, ◌&&◌, ◌||◌, Option, is_none, is_some}
use Rattle.std.specs.Option.{option_map_or}
use Rattle.std.specs.Str.{bytes_eq}
use Rattle.apply_json.specs.Tree.{◌>>=◌, text_of, tree_of}
use Rattle.stream_check.specs.declared.messages.totals.Totals.{Totals}
use Rattle.laws_timeline.specs.Messages.{message_in}
use Rattle.stream_message.specs.Members.{hook_text}
use Rattle.stream_timeline.specs.Numbers.{completed_of}
use Rattle.stream_timeline.specs.Steps.{StepRead}

-- the type of the message in a line
abbrev pub type_of : List ℕ → Option (List ℕ)
type_of text = tree_of text >>= text_of (codes "type")

-- Types of messages about an ephemeral operation. Its action may be any word.
abbrev pub is_ephemeral : List ℕ → Bool
is_ephemeral name =
    bytes_eq name (codes "ephemeral_op_start")
    || (bytes_eq name (codes "ephemeral_op_complete") || bytes_eq name (codes "ephemeral_op_errored"))

-- the action of the message in a line
abbrev pub action_of : List ℕ → Option (List ℕ)
action_of text = tree_of text >>= hook_text (codes "action")

abbrev pub is_change : List ℕ → Bool
is_change word = bytes_eq word (codes "create") || (bytes_eq word (codes "update") || bytes_eq word (codes "delete"))

-- The line is a message with a timestamp. If it is about an ephemeral operation, the action is no
-- create, update or delete.
pub record IsTimed (text : List ℕ) : Type 0 where
  pub message : is_some (message_in text) ≡ true
  pub lasting : option_map_or is_ephemeral (type_of text) false ≡ true
      → option_map_or is_change (action_of text) false ≡ false

-- no step with this action is without an end
abbrev pub AllEnded : (action : List ℕ) → List StepRead → Type 0
AllEnded action steps = All (λ (step : StepRead). (is_none step.end && bytes_eq step.action action) ≡ false) steps

-- The completed creates, updates and deletes are the totals, and none of these steps is without an
-- end.
pub record AreCounted (totals : Totals) (steps : List StepRead) : Type 0 where
  pub created : completed_of (codes "create") steps ≡ totals.added
  pub updated : completed_of (codes "update") steps ≡ totals.changed
  pub deleted : completed_of (codes "delete") steps ≡ totals.removed
  pub creates : AllEnded (codes "create") steps
  pub updates : AllEnded (codes "update") steps
  pub deletes : AllEnded (codes "delete") steps
