-- Start and end lines of a step, joined from fixed texts, for private clauses.
use Rattle.std.specs.Prelude.{◌≡◌, ℕ, ◌/◌, ◌%◌, List, [], ◌++◌, codes, decimal, Bool, not, ◌&&◌, ◌==◌, nat_le, if◌then◌else◌, Option, Some, None, ⊤}
use Rattle.std.specs.Option.{option_copied}
use Rattle.json.specs.Print.{escape}
use Rattle.serde_json.specs.Written.{compact_text}
use Rattle.apply_model.specs.declared.plan.step_kind.StepKind.{StepKind}
use Rattle.apply_model.specs.Plan.ResourceChange.{ResourceChange}
use Rattle.apply_text.specs.declared.cached_parts.step_point.StepPoint.{StepPoint}
use Rattle.apply_text.specs.declared.cached_parts.step_point.StepPoint.TheVariants.{Start, Complete, Errored}
use Rattle.apply_text.specs.declared.cached_parts.hook_fields.HookFields.{HookFields}
use Rattle.apply_text.specs.CachedParts.{ShownStep, LinePieces, unterminated_date, unterminated, time_of_day}
use Rattle.apply_text.specs.Elapsed.{elapsed_of}
use Rattle.apply_text.specs.Message.{Message, id_suffix}
use Rattle.apply_text.specs.Objects.{hook_object, resource_object}
use Rattle.apply_text.specs.Words.{action_word, noun_word, start_word}

-- ---- the fields of a message

-- the fields that differ from message to message: the point of the step, the elapsed seconds, the
-- object's id, and whether the id comes before the seconds among the members
pub record HookFieldsView : Type 0 where
  pub point : StepPoint
  pub seconds : Option ℕ
  pub id : Option (List ℕ)
  pub id_first : Bool

abbrev pub hook_fields_view : HookFields → HookFieldsView
hook_fields_view fields = record { point = fields.point; seconds = fields.seconds; id = option_copied fields.id; id_first = fields.id_first }

-- the part of a message between the address and the seconds
abbrev pub lead_text : StepPoint → StepKind → List ℕ
lead_text Start step = codes ": " ++ (start_word step ++ codes "...")
lead_text Complete step = codes ": " ++ (noun_word step ++ codes " complete after ")
lead_text Errored step = codes ": " ++ (noun_word step ++ codes " errored after ")

-- the type of a message
abbrev pub point_type : StepPoint → List ℕ
point_type Start = codes "apply_start"
point_type Complete = codes "apply_complete"
point_type Errored = codes "apply_errored"

-- the elapsed time in words; nothing where there is none
abbrev pub seconds_words : Option ℕ → List ℕ
seconds_words None = []
seconds_words (Some seconds) = elapsed_of seconds

-- the message with these fields
abbrev pub fields_message : ResourceChange → StepKind → HookFieldsView → Message
fields_message change step fields = record {
  level = codes "info";
  text = change.address ++ (lead_text fields.point step ++ (seconds_words fields.seconds ++ id_suffix fields.id));
  name = codes "hook";
  body = hook_object change step fields.seconds fields.id;
  type_name = point_type fields.point;
}

-- ---- ids that JSON writes without escapes

abbrev pub is_plain : ℕ → Bool
is_plain byte = nat_le 32 byte && (not (byte == 34) && not (byte == 92))

abbrev pub IsPlainId : Option (List ℕ) → Type 0
IsPlainId None = ⊤
IsPlainId (Some id) = escape id ≡ id

-- ---- the line

-- a line up to and with the address in its message
unfoldable pub hook_front : (address : List ℕ) → List ℕ
hook_front address = codes "{\"@level\":\"info\",\"@message\":" ++ unterminated address

-- a line from after the second of its timestamp to the member `action`
unfoldable pub hook_middle : StepKind → List ℕ
hook_middle step = codes "Z\",\"hook\":{\"action\":\"" ++ (action_word step ++ codes "\"")

-- a line from after the seconds and the id to its type
unfoldable pub hook_back : ResourceChange → List ℕ
hook_back change = codes "," ++ ((codes "\"resource\":" ++ compact_text (resource_object change)) ++ codes "},\"type\":\"")

-- the fixed texts of a start or end line in the default form
abbrev pub hook_pieces : ShownStep → LinePieces
hook_pieces shown = record {
  front = hook_front shown.change.address;
  middle = hook_middle shown.step;
  back = hook_back shown.change;
}

abbrev pub seconds_text : Option ℕ → List ℕ
seconds_text None = []
seconds_text (Some seconds) = codes ",\"elapsed_seconds\":" ++ decimal seconds

abbrev pub id_text : Option (List ℕ) → List ℕ
id_text None = []
id_text (Some id) = codes ",\"id_key\":\"id\",\"id_value\":\"" ++ (id ++ codes "\"")

-- the members for the seconds and the id
abbrev pub seconds_and_id_text : HookFieldsView → List ℕ
seconds_and_id_text fields =
    if fields.id_first then id_text fields.id ++ seconds_text fields.seconds else (seconds_text fields.seconds ++ id_text fields.id)

-- a start or end line joined from its fixed texts; the timestamp counts seconds from the start of
-- 1970
abbrev pub hook_line : LinePieces → StepKind → (timestamp : ℕ) → HookFieldsView → List ℕ
hook_line pieces step timestamp fields =
    (pieces.front ++ (lead_text fields.point step ++ (seconds_words fields.seconds ++ (id_suffix fields.id ++ codes "\",\"@module\":\"terraform.ui\",\"@timestamp\":"))))
    ++ (unterminated_date (timestamp / 86400) ++ time_of_day (timestamp % 86400))
    ++ (pieces.middle ++ (seconds_and_id_text fields ++ (pieces.back ++ (point_type fields.point ++ codes "\"}\n"))))
