-- Texts that stay the same from line to line, for private clauses.
use Rattle.std.specs.Prelude.{ℕ, ◌/◌, ◌%◌, List, [], ◌∷◌, ◌++◌, codes, decimal, None}
use Rattle.std.specs.Option.{option_map_or}
use Rattle.json.specs.Print.{escape}
use Rattle.serde_json.specs.Written.{compact_text}
use Rattle.apply_model.specs.declared.plan.key.Key.{Key}
use Rattle.apply_model.specs.declared.plan.mode.Mode.TheVariants.{Managed}
use Rattle.apply_model.specs.declared.plan.step_kind.StepKind.{StepKind}
use Rattle.apply_model.specs.Plan.ResourceChange.{ResourceChange}
use Rattle.apply_text.specs.Calendar.{date_of_day}
use Rattle.apply_text.specs.Elapsed.{elapsed_of}
use Rattle.apply_text.specs.UtcTimestamp.{date_text, two_digits}
use Rattle.apply_text.specs.Objects.{resource_object}
use Rattle.apply_text.specs.Words.{action_word, still_word}

-- a text as a JSON string, without the closing quote
abbrev pub unterminated : List ℕ → List ℕ
unterminated text = 34 ∷ escape text

-- the date of a day as a JSON string, without the closing quote; 1 January 1970 is day 0
unfoldable pub unterminated_date : ℕ → List ℕ
unterminated_date day = unterminated (option_map_or date_text (date_of_day day) [])

-- the rest of a timestamp after its date, up to the second: `T23:59:59`
abbrev pub time_of_day : ℕ → List ℕ
time_of_day second =
    codes "T" ++ (two_digits (second / 3600) ++ (codes ":" ++ (two_digits (second / 60 % 60) ++ (codes ":" ++ two_digits (second % 60)))))

-- ---- what the progress lines of a step have in common

-- the fields of a change that the messages of its hooks show
abbrev pub shown_change : (address module_address kind_name name : List ℕ) → Key → ResourceChange
shown_change address module_address kind_name name key = record {
  address = address;
  module_address = module_address;
  mode = Managed;
  kind_name = kind_name;
  name = name;
  key = key;
  deposed = None;
  prior_id = None;
  steps = [];
}

-- a step, with the fields of its change that messages show
pub record ShownStep : Type 0 where
  pub change : ResourceChange
  pub step : StepKind

abbrev pub shown_step : ResourceChange → StepKind → ShownStep
shown_step change step = record {
  change = shown_change change.address change.module_address change.kind_name change.name change.key;
  step = step;
}

-- a progress line up to the elapsed time in its message
unfoldable pub front_text : (address : List ℕ) → StepKind → List ℕ
front_text address step =
    codes "{\"@level\":\"info\",\"@message\":" ++ unterminated (address ++ (codes ": Still " ++ (still_word step ++ codes "... [")))

-- a progress line from after the second of its timestamp to its seconds
unfoldable pub middle_text : StepKind → List ℕ
middle_text step = codes "Z\",\"hook\":{\"action\":\"" ++ (action_word step ++ codes "\",\"elapsed_seconds\":")

-- a progress line from after its seconds to its end
unfoldable pub back_text : ResourceChange → List ℕ
back_text change =
    codes "," ++ ((codes "\"resource\":" ++ compact_text (resource_object change)) ++ codes "},\"type\":\"apply_progress\"}\n")

-- the three fixed texts of a line; what differs from line to line stands between them
pub record LinePieces : Type 0 where
  -- of a progress line: up to the elapsed time in the message
  pub front : List ℕ
  -- of a progress line: from after the second of the timestamp to the seconds
  pub middle : List ℕ
  -- of a progress line: from after the seconds to the end
  pub back : List ℕ

-- a step, with the fixed texts of its lines in one form
pub record CachedPieces : Type 0 where
  pub step : ShownStep
  pub pieces : LinePieces

-- the fixed texts of a progress line in the default form
abbrev pub line_pieces : ShownStep → LinePieces
line_pieces shown = record {
  front = front_text shown.change.address shown.step;
  middle = middle_text shown.step;
  back = back_text shown.change;
}

-- a progress line joined from its fixed texts; the timestamp counts seconds from the start of 1970
abbrev pub progress_line : LinePieces → (timestamp seconds : ℕ) → List ℕ
progress_line pieces timestamp seconds =
    (pieces.front ++ (elapsed_of seconds ++ codes " elapsed]\",\"@module\":\"terraform.ui\",\"@timestamp\":"))
    ++ (unterminated_date (timestamp / 86400) ++ time_of_day (timestamp % 86400))
    ++ (pieces.middle ++ (decimal seconds ++ pieces.back))
