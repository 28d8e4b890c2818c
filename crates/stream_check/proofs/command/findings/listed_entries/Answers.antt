use Rattle.std.proofs.Common.{◌≡◌, List, []}
use Rattle.stream_check.specs.declared.rules.fault.Fault.{Fault}
use Rattle.stream_check.specs.declared.rules.fault.Fault.TheVariants.{Planned, Unended}
use Rattle.stream_check.specs.Message.{Message}
use Rattle.stream_check.specs.Reports.{AreListed}
use Rattle.stream_check.proofs.command.findings.listed_entries.Goals as goal

none_listed : (fault : Fault) (messages : List Message) → (fault ≡ Unended → ⊥) → (fault ≡ Planned → ⊥) → AreListed fault messages []
none_listed Unended messages unended planned = absurd (unended (λ i. Unended))
none_listed Planned messages unended planned = absurd (planned (λ i. Planned))
none_listed _ messages unended planned = tt

pub returns-in-Unended : goal.returns-in-Unended
returns-in-Unended c = rw c.in-Unended.is c.open_entries.ensures

pub returns-in-Planned : goal.returns-in-Planned
returns-in-Planned c = rw c.in-Planned.is c.unbegun_entries.ensures

pub returns-in_default : goal.returns-in_default
returns-in_default c = λ messages has_read. rw c.new.ensures.items (none_listed c.args.fault messages c.in_default.not-Unended c.in_default.not-Planned)
