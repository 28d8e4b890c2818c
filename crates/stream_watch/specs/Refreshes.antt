-- Refreshes that were not reported yet.
use Rattle.std.specs.Prelude.{ℕ, ℤ, negsuc, Option, Some, None, option_map}
use Rattle.std.specs.Int.{int_gap, int_max}
use Rattle.stream_watch.specs.Counts.{plus}
use Rattle.stream_watch.specs.declared.refreshes.Refreshes.{Refreshes}

abbrev pub none_after : (ended : ℕ) → Refreshes
none_after ended = record { ended = ended; unreported = 0; first_begin = None; last_end = negsuc 9223372036854775807 }

-- the moment of the first begin
abbrev pub first_of : Option ℤ → ℤ → ℤ
first_of None moment = moment
first_of (Some first) moment = first

abbrev pub with_begin : (moment : ℤ) → Refreshes → Refreshes
with_begin moment refreshes = record refreshes { first_begin = Some (first_of refreshes.first_begin moment) }

abbrev pub with_end : (moment : ℤ) → Refreshes → Refreshes
with_end moment refreshes = record refreshes {
  ended = plus refreshes.ended 1;
  unreported = plus refreshes.unreported 1;
  last_end = int_max refreshes.last_end moment;
}

-- how long the unreported ones took together; none where none began
abbrev pub length_of : Refreshes → Option ℕ
length_of refreshes = option_map (λ first. int_gap first refreshes.last_end) refreshes.first_begin
