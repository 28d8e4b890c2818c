-- When the duration of a step is the same in the lines of `watch` and in the picture of `view`.
use Rattle.std.specs.Prelude.{◌≡◌, ◌&&◌, ◌||◌, ℕ, ℤ, Bool, List, Option, Some, codes, false, is_some, true}
use Rattle.std.specs.Option.{option_map_or}
use Rattle.std.specs.Str.{bytes_eq}
use Rattle.serde_json.specs.Data.{Data}
use Rattle.apply_json.specs.Tree.{◌>>=◌, member_of, non_empty_text_of, text_of}
use Rattle.stream_timeline.specs.Steps.{first_of, is_open_with, places}
use Rattle.stream_timeline.specs.TimelineRead.{timeline_of}
use Rattle.stream_watch.specs.Reading.{message_of}
use Rattle.stream_watch.specs.State.{beginning}
use Rattle.stream_watch.specs.StepRows.{NamedStep, step_length, step_of}
use Rattle.stream_watch.specs.Stream.{lines_told}
use Rattle.stream_watch.specs.Telling.{moment_of}
use Rattle.stream_watch.specs.declared.looks.Looks.{Looks}

-- a diagnostic names the address of a read: the read is open no longer
abbrev pub closes_read : (address action : List ℕ) → (tree : Data) → Bool
closes_read address action tree =
    bytes_eq action (codes "read")
    && option_map_or (λ named. bytes_eq address named) (member_of (codes "diagnostic") tree >>= non_empty_text_of (codes "address")) false

-- if the line has a message, this has a moment, and it is no diagnostic that closes a read of this
-- address
pub record IsTimed (address action line : List ℕ) : Type 0 where
  pub timed : (tree : Data) → message_of false line ≡ Some tree → is_some (moment_of tree) ≡ true
  pub keeps : (tree : Data) → message_of false line ≡ Some tree → closes_read address action tree ≡ false

-- ---- ends

-- the types of messages of ends of steps
abbrev pub is_end_type : (name : List ℕ) → Bool
is_end_type name =
    bytes_eq name (codes "apply_complete") || bytes_eq name (codes "apply_errored")
    || bytes_eq name (codes "ephemeral_op_complete") || bytes_eq name (codes "ephemeral_op_errored")

-- the line is an end of this step at that moment
pub record IsEndOf (step : NamedStep) (moment : ℤ) (line : List ℕ) : Type 0 where
  pub tree : Data
  pub name : List ℕ
  pub message : message_of false line ≡ Some tree
  pub is_named : text_of (codes "type") tree ≡ Some name
  pub is_end : is_end_type name ≡ true
  pub names : step_of tree ≡ Some step
  pub moment_is : moment_of tree ≡ Some moment

-- the duration that is told of that end behind these lines
abbrev pub told_length : Looks → (lines : List (List ℕ)) → NamedStep → (moment : ℤ) → Option ℕ
told_length looks lines step moment = step_length (lines_told looks false lines beginning).state.steps step moment

-- the place of the step that the end ends in the picture of these lines; none where none is open
abbrev pub ended_place : (lines : List (List ℕ)) → NamedStep → Option ℕ
ended_place lines step = first_of (places (is_open_with step.address step.action) (timeline_of lines).steps)
