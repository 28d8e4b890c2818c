-- Start and end lines of a step, joined from fixed texts, for private clauses.
use Rattle.std.specs.Prelude.{◌≡◌, ℕ, List, ◌++◌, codes, Bool, true, not, ◌&&◌, nat_lt, Option, Some, None, ⊤}
use Rattle.std.specs.List.{list_all}
use Rattle.serde_json.specs.Written.{compact_text}
use Rattle.apply_model.specs.declared.plan.step_kind.StepKind.{StepKind}
use Rattle.apply_model.specs.Plan.ResourceChange.{ResourceChange}
use Rattle.apply_text.specs.CachedParts.{ShownStep, LinePieces}
use Rattle.apply_text.specs.HookLines as default
use Rattle.apply_text.specs.HookLines.{HookFieldsView, hook_front, point_type, fields_message}
use Rattle.apply_text.specs.Lines.{message_object, typed}
use Rattle.apply_text.specs.Words.{action_word}
use Rattle.apply_text_terraform.specs.Escapes.{escaped, is_special}
use Rattle.apply_text_terraform.specs.UtcTimestamp.{precise_timestamp_text}
use Rattle.apply_text_terraform.specs.Objects.{hook_object, resource_object}

-- the byte needs no escape, neither in JSON nor in a line of this form
abbrev pub is_plain : ℕ → Bool
is_plain byte = default.is_plain byte && (nat_lt byte 128 && not (is_special byte))

abbrev pub IsPlainId : Option (List ℕ) → Type 0
IsPlainId None = ⊤
IsPlainId (Some id) = list_all is_plain id ≡ true

-- a line from after the second of its timestamp to the member `action`, before escaping
unfoldable pub hook_middle : ResourceChange → StepKind → List ℕ
hook_middle change step =
    codes ".000000Z\",\"hook\":{" ++ ((codes "\"resource\":" ++ compact_text (resource_object change)) ++ (codes ",\"action\":\"" ++ (action_word step ++ codes "\"")))

-- the fixed texts of a start or end line, with escapes
abbrev pub hook_pieces : ShownStep → LinePieces
hook_pieces shown = record {
  front = escaped (hook_front shown.change.address);
  middle = escaped (hook_middle shown.change shown.step);
  back = codes "},\"type\":\"";
}

-- the message with these fields, before escaping
abbrev pub hook_text : (timestamp : ℕ) → ResourceChange → StepKind → HookFieldsView → List ℕ
hook_text timestamp change step fields =
    compact_text (message_object (codes "info") (fields_message change step fields).text (precise_timestamp_text timestamp)
    (typed (codes "hook") (hook_object change step fields.seconds fields.id) (point_type fields.point)))
