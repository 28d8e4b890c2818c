-- Texts that stay the same from line to line, for private clauses.
use Rattle.std.specs.Prelude.{ℕ, List, ◌++◌, codes, Some, None}
use Rattle.serde_json.specs.Written.{compact_text}
use Rattle.apply_model.specs.declared.plan.step_kind.StepKind.{StepKind}
use Rattle.apply_model.specs.Plan.ResourceChange.{ResourceChange}
use Rattle.apply_text.specs.CachedParts.{ShownStep, LinePieces, front_text}
use Rattle.apply_text.specs.Lines.{message_object, typed}
use Rattle.apply_text.specs.Message.{progress_message}
use Rattle.apply_text.specs.Words.{action_word}
use Rattle.apply_text_terraform.specs.Escapes.{escaped}
use Rattle.apply_text_terraform.specs.UtcTimestamp.{precise_timestamp_text}
use Rattle.apply_text_terraform.specs.Objects.{hook_object, resource_object}

-- a progress line from after the second of its timestamp to its seconds, before escaping
unfoldable pub middle_text : ResourceChange → StepKind → List ℕ
middle_text change step =
    codes ".000000Z\",\"hook\":{" ++ ((codes "\"resource\":" ++ compact_text (resource_object change)) ++ (codes ",\"action\":\"" ++ (action_word step ++ codes "\",\"elapsed_seconds\":")))

-- the fixed texts of a progress line, with escapes
abbrev pub form_pieces : ShownStep → LinePieces
form_pieces shown = record {
  front = escaped (front_text shown.change.address shown.step);
  middle = escaped (middle_text shown.change shown.step);
  back = codes "},\"type\":\"apply_progress\"}\n";
}

-- a progress message, before escaping
abbrev pub progress_text : (timestamp : ℕ) → ResourceChange → StepKind → (seconds : ℕ) → List ℕ
progress_text timestamp change step seconds =
    let message = progress_message change step seconds in
    compact_text (message_object message.level message.text (precise_timestamp_text timestamp)
    (typed message.name (hook_object change step (Some seconds) None) message.type_name))
