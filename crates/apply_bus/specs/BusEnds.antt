-- What is known in the passes of the ends of a bus.
use Rattle.std.specs.Prelude.{◌≡◌, ℕ, ◌+◌, ◌<◌, ◌≤◌, ◌++◌, List, [], ◌∷◌, All, length, map, true}
use Rattle.crossbeam_channel.specs.Claims.{view, Pass}
use Rattle.apply_events.specs.declared.event.Event.{Event}
use Rattle.apply_bus.specs.declared.bus_rule.Known.{Known}
use Rattle.apply_bus.specs.declared.bus_rule.Knowledge.{Knowledge}
use Rattle.apply_bus.specs.declared.item.Item.{Item}
use Rattle.apply_bus.specs.declared.item.Item.TheVariants.{Event as EventItem, Close}
use Rattle.apply_bus.specs.Bus.{SentList}
use Rattle.apply_bus.specs.BusRule.{sending}
use Rattle.apply_bus.specs.Items.{closes, events, max_taken, worker_of}

abbrev pub first_sent : List Known → List Item
first_sent [] = []
first_sent (k ∷ ks) = k.sent

-- the events that a sender has sent
abbrev pub sent_by : Knowledge → List Event
sent_by v = events (first_sent v.senders)

-- the events as items
abbrev pub as_items : List Event → List Item
as_items [] = []
as_items (event ∷ rest) = EventItem event ∷ as_items rest

-- the view of an open sender: it has sent only events
abbrev pub IsOpen : ℕ → Knowledge → Type 0
IsOpen worker v = v ≡ sending worker (as_items (sent_by v))

-- the view of a closed sender: it has sent events, and then its close
abbrev pub IsClosed : ℕ → Knowledge → Type 0
IsClosed worker v = v ≡ sending worker (as_items (sent_by v) ++ Close worker ∷ [])

-- the view of a receiver that has not taken so many closes
pub record IsReceiving (left : ℕ) (v : Knowledge) : Type 0 where
  pub receives : v.receives ≡ true
  pub missing : left + closes v.taken ≡ v.workers
  pub named : All (λ item. worker_of item < v.workers) v.taken

-- the number of items taken is the count, and at most the maximum
pub record IsCounted (count : ℕ) (v : Knowledge) : Type 0 where
  pub counted : count ≡ length v.taken
  pub few : length v.taken ≤ max_taken

abbrev pub sent_list_from : Known → SentList
sent_list_from k = record { worker = k.worker; sent = events k.sent }

-- what each joined sender has sent
abbrev pub sent_lists_in : Knowledge → List SentList
sent_lists_in v = map sent_list_from v.senders

abbrev pub pass_sent : Pass Item Knowledge → List Event
pass_sent p = sent_by (view p)

abbrev pub IsOpenPass : ℕ → Pass Item Knowledge → Type 0
IsOpenPass worker p = IsOpen worker (view p)

abbrev pub IsClosedPass : ℕ → Pass Item Knowledge → Type 0
IsClosedPass worker p = IsClosed worker (view p)

abbrev pub IsReceivingPass : ℕ → Pass Item Knowledge → Type 0
IsReceivingPass left p = IsReceiving left (view p)

abbrev pub IsCountedPass : ℕ → Pass Item Knowledge → Type 0
IsCountedPass count p = IsCounted count (view p)

abbrev pub pass_taken : Pass Item Knowledge → List Item
pass_taken p = (view p).taken

abbrev pub pass_workers : Pass Item Knowledge → ℕ
pass_workers p = (view p).workers

abbrev pub pass_sent_lists : Pass Item Knowledge → List SentList
pass_sent_lists p = sent_lists_in (view p)
