-- Timestamps with six decimals, as Terraform writes them (RFC 3339, section 5.6).
use Rattle.std.specs.Prelude.{ℕ, ◌/◌, ◌%◌, List, [], ◌++◌, codes}
use Rattle.std.specs.Option.{option_map_or}
use Rattle.apply_text.specs.Calendar.{date_of_day}
use Rattle.apply_text.specs.UtcTimestamp.{date_text, time_text}

-- the timestamp in UTC of a second, counted from the start of 1970
unfoldable pub precise_timestamp_text : ℕ → List ℕ
precise_timestamp_text seconds =
    option_map_or date_text (date_of_day (seconds / 86400)) []
    ++ codes "T" ++ time_text (seconds % 86400) ++ codes ".000000Z"
