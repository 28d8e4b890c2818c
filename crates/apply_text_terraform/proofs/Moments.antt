-- `jiff` prints the text of a timestamp, but for its six decimals.
use Rattle.std.proofs.Common.{◌≡◌, ℕ, ◌*◌, ◌/◌, ◌%◌, List, [], ◌++◌, codes, pos, ap}
use Rattle.std.specs.Option.{option_map_or}
use Rattle.std.proofs.lemmas.List.{append_cancel_right}
use Rattle.jiff.specs.Words.{iso_datetime_text}
use Rattle.jiff_core.specs.declared.civil.datetime.DateTime.{DateTime}
use Rattle.jiff_core.specs.DateTime.{civil_nanos}
use Rattle.apply_text.specs.Calendar.{date_of_day}
use Rattle.apply_text.specs.UtcTimestamp.{date_text, timestamp_text, time_text}
use Rattle.apply_text.proofs.Moments as moments
use Rattle.apply_text_terraform.specs.UtcTimestamp.{precise_timestamp_text}

-- a timestamp up to its second
abbrev second_text : ℕ → List ℕ
second_text seconds = option_map_or date_text (date_of_day (seconds / 86400)) [] ++ codes "T" ++ time_text (seconds % 86400)

whole : (dt : DateTime) (seconds : ℕ) → civil_nanos dt ≡ pos (seconds * 1000000000) → iso_datetime_text dt ++ codes "Z" ≡ second_text seconds ++ codes "Z"
unfolding timestamp_text
whole dt seconds is = moments.text_is dt seconds is

pub text_is : (dt : DateTime) (seconds : ℕ) → civil_nanos dt ≡ pos (seconds * 1000000000) → iso_datetime_text dt ++ codes ".000000Z" ≡ precise_timestamp_text seconds
unfolding precise_timestamp_text
text_is dt seconds is = ap (λ t. t ++ codes ".000000Z") (append_cancel_right (iso_datetime_text dt) (second_text seconds) (codes "Z") (whole dt seconds is))
