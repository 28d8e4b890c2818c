-- What keeps every count of a writer in range.
use Rattle.std.specs.Prelude.{◌≡◌, ℕ, ◌+◌, ◌-◌, ◌*◌, ◌^◌, ◌<◌, ◌≤◌, [], All, length}
use Rattle.apply_model.specs.Plan.SavedPlan.{SavedPlan}
use Rattle.apply_events.specs.Fits.{latest_second}
use Rattle.apply_events.specs.declared.counts.Counts.{Counts}
use Rattle.apply_writer.specs.declared.stream.output.WriteState.TheVariants.{Open}
use Rattle.apply_events.specs.Fits.{IsOfPlan}
use Rattle.apply_writer.specs.Stream.WriterState.{WriterState}

-- the greatest number of events that a writer accepts
abbrev pub max_events : ℕ
max_events = 2 ^ 29

-- the greatest number of chunks of the head
abbrev pub max_head_chunks : ℕ
max_head_chunks = 2 ^ 32

-- no count is above n
pub record IsWithin (n : ℕ) (counts : Counts) : Type 0 where
  pub added : counts.added ≤ n
  pub changed : counts.changed ≤ n
  pub removed : counts.removed ≤ n
  pub failed : counts.failed ≤ n
  pub halted : counts.halted ≤ n

-- each event was counted at most once; the bytes written leave room for the longest line of each
-- stored diagnostic; and one more write may fail
pub record CountsFit (plan : SavedPlan) (writer : WriterState) : Type 0 where
  pub few : writer.taken ≤ max_events
  pub counts : IsWithin writer.taken writer.counts
  pub in_time : writer.latest ≤ latest_second
  pub notes : All (IsOfPlan plan) writer.notes
  pub written : writer.outlet.written + length writer.notes * 2 ^ 64 ≤ (writer.taken + max_head_chunks) * 2 ^ 64
  pub may_fail : writer.outlet.state ≡ Open → writer.outlet.failures < 2 ^ 64 - 1

-- what the writer needs before it writes one more line
pub record MayWrite (writer : WriterState) : Type 0 where
  pub in_time : writer.latest ≤ latest_second
  pub written : writer.outlet.written ≤ 2 ^ 127
  pub may_fail : writer.outlet.state ≡ Open → writer.outlet.failures < 2 ^ 64 - 1

-- nothing was accepted or written, and a write may fail
pub record IsNew (writer : WriterState) : Type 0 where
  pub counts : writer.counts ≡ record { added = 0; changed = 0; removed = 0; failed = 0; halted = 0 }
  pub taken : writer.taken ≡ 0
  pub latest : writer.latest ≡ 0
  pub notes : writer.notes ≡ []
  pub going : writer.outlet.state ≡ Open
  pub written : writer.outlet.written ≡ 0
  pub may_fail : writer.outlet.failures < 2 ^ 64 - 1
