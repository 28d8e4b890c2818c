-- How a stream has ended.
use Rattle.std.specs.Prelude.{◌≡◌, ℕ, ◌+◌, ◌⊎◌, List, Option}
use mathlib.Core.List.{IsPrefix}
use Rattle.apply_model.specs.Plan.SavedPlan.{SavedPlan}
use Rattle.apply_events.specs.declared.event.Event.{Event}
use Rattle.apply_text.specs.Order.{as_written}
use Rattle.apply_writer.specs.declared.fault.Fault.{Fault}
use Rattle.apply_writer.specs.declared.report.Report.{Report}
use Rattle.apply_writer.specs.declared.why.Why.TheVariants.{Memory, Write}
use Rattle.apply_writer.specs.Stream.Delivered.{IsDelivered}
use Rattle.apply_writer.specs.Stream.Form.{StreamForm, lines_in, stream_in}

-- all of the bytes were delivered, and no write has failed
pub record IsWhole (plan : SavedPlan) (events : List Event) (all : List ℕ) (report : Report)
    (before after : Option (List ℕ)) (failures failures' : ℕ) : Type 0 where
  pub delivered : IsDelivered plan events all report before after
  pub failed : failures' ≡ failures

-- a prefix of the bytes was delivered, and `failures` is the number of failed writes
pub record IsCutOff (plan : SavedPlan) (events : List Event) (all : List ℕ) (report : Report)
    (before after : Option (List ℕ)) (failures failures' : ℕ) : Type 0 where
  pub part : List ℕ
  pub is_prefix : IsPrefix part all
  pub delivered : IsDelivered plan events part report before after
  pub failed : failures' ≡ failures

-- a write failed; or memory was refused for a line, and then nothing of the tail was written
abbrev pub IsFaulted : (form : StreamForm) (events : List Event)
    → Fault → (before after : Option (List ℕ)) (failures failed : ℕ) → Type 0
IsFaulted form events fault before after failures failed =
    ((fault.why ≡ Write) × IsCutOff form.plan events (stream_in form events) fault.report
    before after (failures + 1) failed)
    ⊎ ((fault.why ≡ Memory) × IsCutOff form.plan events (lines_in form (as_written events)) fault.report
    before after failures failed)
