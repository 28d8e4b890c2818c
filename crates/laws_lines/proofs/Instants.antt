-- What is read of a timestamp that a run writes.
use Rattle.std.proofs.Common.{◌≡◌, ℕ, ◌*◌, ◌/◌, ◌%◌, ◌≤◌, ◌==◌, ◌∷◌, ◌++◌, codes, pos, ◌-ℤ◌, true, false, None, Some, Ok, refl, sym, ap, ◌∙◌, arith, append_assoc}
use Rattle.std.specs.Prelude.{option_map}
use Rattle.std.proofs.lemmas.Bool.Decides.{nat_tests}
use Rattle.jiff.specs.Words.{iso_datetime_text}
use Rattle.jiff_core.specs.declared.civil.datetime.DateTime.{DateTime}
use Rattle.jiff_core.specs.declared.civil.time.Time.{Time}
use Rattle.jiff_core.specs.declared.error.Bound.TheVariants as Bound
use Rattle.jiff_core.specs.declared.error.Syntax.TheVariants as Syntax
use Rattle.jiff_core.specs.declared.timestamp.Timestamp.{Timestamp}
use Rattle.jiff_core.specs.DateTime.{civil_nanos}
use Rattle.jiff_core.specs.Timestamp.{nanos_of_seconds}
use Rattle.jiff_core.proofs.DateTimeLemmas.{civil_nanos-parts}
use Rattle.jiff_core.proofs.SignedLemmas.{signed_arith}
use Rattle.jiff_fmt.proofs.RoundTrip.{annotations-empty, date_spec-text, field-pad2, offset-zulu, parse_timestamp-text}
use Rattle.jiff_fmt.proofs.TemporalLemmas.{instant-ok}
use Rattle.jiff_fmt.specs.Reader.{fraction_value, nanoseconds, temporal_fraction}
use Rattle.jiff_fmt.specs.Temporal.{date_parts, parse_timestamp, parts_nanos, temporal_datetime, time_parts, time_spec}
use Rattle.jiff_fmt.specs.Text.{date_text, pad2, time_text}
use Rattle.apply_text.specs.Start.{last_second}
use Rattle.apply_text.specs.UtcTimestamp.{timestamp_text}
use Rattle.apply_text.proofs.Moments.{text_is}
use Rattle.apply_text_terraform.specs.UtcTimestamp.{precise_timestamp_text}
use Rattle.apply_text_terraform.proofs.Moments.{text_is as fine_text_is}
use Rattle.stream_message.specs.Timestamp.{instant_of, microseconds_of}
use Rattle.stream_record_lines.specs.Seconds.{nearest_second}
use Rattle.laws_lines.proofs.Dates.{date_of}

-- the date and the time of a second
civil_of : (seconds : ℕ) → seconds ≤ last_second → (dt : DateTime) × (civil_nanos dt ≡ pos (seconds * 1000000000)) × (dt.time.subsec_nanosecond ≡ 0)
civil_of seconds few =
    let date = date_of (seconds / 86400) (omega (arith, few)) in
    let dt : DateTime = record {
      date = date.0;
      time = record {
        hour = seconds % 86400 / 3600;
        minute = seconds % 86400 / 60 % 60;
        second = seconds % 86400 % 60;
        subsec_nanosecond = 0;
        hour_in = omega arith;
        minute_in = omega arith;
        second_in = omega arith;
        subsec_in = omega arith;
      };
    } in
    (dt, omega (arith, signed_arith, civil_nanos-parts dt, date.1), refl)

instant : (seconds : ℕ) → seconds ≤ last_second → Timestamp
instant seconds few = record { nanosecond = pos (seconds * 1000000000); in_range = (omega (arith, signed_arith), omega (arith, signed_arith, few)) }

parsed : (seconds : ℕ) → seconds ≤ last_second → parse_timestamp (timestamp_text seconds) ≡ Ok (pos (seconds * 1000000000))
unfolding instant
parsed seconds few =
    let dt = civil_of seconds few in
    ap parse_timestamp (sym (text_is dt.0 seconds dt.1)) ∙ parse_timestamp-text dt.0 (instant seconds few) dt.1

-- ---- with six decimals

-- the decimals and the `Z`
fine : temporal_fraction (codes ".000000Z") ≡ Ok (Some 0, codes "Z")
unfolding temporal_fraction nanoseconds fraction_value
fine = refl

fine_time : (t : Time) → t.subsec_nanosecond ≡ 0 → time_spec (time_text None t ++ codes ".000000Z") ≡ Ok ((time_parts t, true), codes "Z")
unfolding time_spec
fine_time t whole =
    let after_minute = 58 ∷ pad2 t.second ++ codes ".000000Z" in
    let after_hour = 58 ∷ pad2 t.minute ++ after_minute in
    let shape : time_text None t ++ codes ".000000Z" ≡ pad2 t.hour ++ after_hour = rw whole refl in
    let hour = field-pad2 Syntax.Hour 0 23 Bound.Hour t.hour after_hour (omega arith) (omega (arith, t.hour_in)) (omega (arith, t.hour_in)) in
    let minute = field-pad2 Syntax.Minute 0 59 Bound.Minute t.minute after_minute (omega arith) (omega (arith, t.minute_in)) (omega (arith, t.minute_in)) in
    let second = field-pad2 Syntax.Second 0 60 Bound.LeapSecond t.second (codes ".000000Z") (omega arith) (omega (arith, t.second_in)) (omega (arith, t.second_in)) in
    let no_leap : (t.second == 60) ≡ false = grind (arith, nat_tests, t.second_in) in
    rw (shape, hour, minute, second, no_leap, fine, whole)

fine_parsed : (dt : DateTime) (t : Timestamp) → civil_nanos dt ≡ t.nanosecond → dt.time.subsec_nanosecond ≡ 0 → parse_timestamp (iso_datetime_text dt ++ codes ".000000Z") ≡ Ok t.nanosecond
unfolding temporal_datetime civil_nanos
fine_parsed dt t e whole =
    let rest = 84 ∷ time_text None dt.time ++ codes ".000000Z" in
    let shape : iso_datetime_text dt ++ codes ".000000Z" ≡ date_text dt.date ++ rest = append_assoc (date_text dt.date) (84 ∷ time_text None dt.time) (codes ".000000Z") in
    let date = date_spec-text dt.date rest in
    let value : parts_nanos (date_parts dt.date) (time_parts dt.time) -ℤ nanos_of_seconds (pos 0) ≡ t.nanosecond = omega (arith, signed_arith, e) in
    rw (shape, date, fine_time dt.time whole, offset-zulu, annotations-empty, value, instant-ok t.nanosecond t.in_range)

precisely_parsed : (seconds : ℕ) → seconds ≤ last_second → parse_timestamp (precise_timestamp_text seconds) ≡ Ok (pos (seconds * 1000000000))
unfolding instant
precisely_parsed seconds few =
    let dt = civil_of seconds few in
    ap parse_timestamp (sym (fine_text_is dt.0 seconds dt.1)) ∙ fine_parsed dt.0 (instant seconds few) dt.1 dt.2

-- ---- the second

-- whole seconds in microseconds
nearest : (seconds : ℕ) → option_map nearest_second (microseconds_of (Ok (pos (seconds * 1000000000)))) ≡ Some (pos seconds)
nearest seconds =
    let whole : seconds * 1000000000 / 1000 ≡ seconds * 1000000 = omega arith in
    let rest : seconds * 1000000 % 1000000 ≡ 0 = omega arith in
    let count : seconds * 1000000 / 1000000 ≡ seconds = omega arith in
    rw (whole, rest, count) refl

pub second_of_text : (seconds : ℕ) → seconds ≤ last_second → option_map nearest_second (instant_of (timestamp_text seconds)) ≡ Some (pos seconds)
second_of_text seconds few = ap (λ r. option_map nearest_second (microseconds_of r)) (parsed seconds few) ∙ nearest seconds

pub second_of_precise_text : (seconds : ℕ) → seconds ≤ last_second → option_map nearest_second (instant_of (precise_timestamp_text seconds)) ≡ Some (pos seconds)
second_of_precise_text seconds few = ap (λ r. option_map nearest_second (microseconds_of r)) (precisely_parsed seconds few) ∙ nearest seconds
