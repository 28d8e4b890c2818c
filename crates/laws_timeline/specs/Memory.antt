-- How many bytes may be stored of a stream, and for which lines none are.
use Rattle.std.specs.Prelude.{ℕ, ◌+◌, ◌*◌, List, [], Bool, true, false, ◌||◌, codes, unwrap_or}
use Rattle.std.specs.List.{sum_by}
use Rattle.std.specs.Option.{option_map_or}
use Rattle.std.specs.Str.{bytes_eq}
use Rattle.serde_json.specs.Data.{Data}
use Rattle.apply_json.specs.Tree.{text_of, tree_of}
use Rattle.stream_timeline.specs.Details.{back_bytes, detail_lines, front_bytes}
use Rattle.stream_timeline.specs.Memory.{step_bytes}
use Rattle.stream_timeline.specs.Messages.{Message, Content, begins, ends, begins_provisioner, ends_provisioner, error, warning, version, plan_summary, summary, other, unusable}
use Rattle.stream_timeline.specs.OpenPlaces.{index_bytes, text_bytes}
use Rattle.stream_timeline.specs.TimelineRead.{TimelineRead, max_stored}
use Rattle.laws_timeline.specs.Messages.{message_in}

-- ---- limits

-- the summary, the address, the file and ten lines of detail, each shortened, and 64 bytes
abbrev pub max_diagnostic_bytes : ℕ
max_diagnostic_bytes = (3 + detail_lines) * (front_bytes + back_bytes + 24) + 64

-- the bytes that may be stored: for the steps, for the version, and for 20 errors and 20 warnings
abbrev pub allowed_bytes : TimelineRead → ℕ
allowed_bytes t =
    sum_by step_bytes t.steps + index_bytes t.steps + text_bytes (unwrap_or t.version [])
    + 2 * max_stored * max_diagnostic_bytes

-- ---- lines of which nothing is stored

abbrev pub is_stored : Content → Bool
is_stored (begins address action) = true
is_stored (ends address action failed) = false
is_stored (begins_provisioner address name) = true
is_stored (ends_provisioner address failed) = false
is_stored (error address d) = true
is_stored (warning d) = true
is_stored (version text) = true
is_stored (plan_summary totals) = false
is_stored (summary totals) = false
is_stored other = false
is_stored unusable = false

-- the line is a message of which something is stored
abbrev pub is_stored_line : List ℕ → Bool
is_stored_line line = option_map_or (λ (message : Message). is_stored message.content) (message_in line) false

abbrev pub is_progress_type : List ℕ → Bool
is_progress_type name = bytes_eq name (codes "apply_progress") || bytes_eq name (codes "provision_progress")

abbrev pub is_progress : Data → Bool
is_progress d = option_map_or is_progress_type (text_of (codes "type") d) false

-- the line is an object with a type of progress
abbrev pub is_progress_line : List ℕ → Bool
is_progress_line line = option_map_or is_progress (tree_of line) false
