-- The ends of a bus as contracts see them.
use Rattle.std.specs.Prelude.{◌≡◌, ℕ, ◌<◌, zero, suc, List, [], ◌∷◌, ◌++◌, All}
use mathlib.Core.List.{IsPrefix}
use Rattle.atomic_table.specs.Seated.{TableId}
use Rattle.atomic_table.specs.declared.badge.Badge.{Badge}
use Rattle.crossbeam_channel.specs.declared.flavors.array.Key.{Key}
use Rattle.apply_events.specs.declared.event.Event.{Event}
use Rattle.apply_events.specs.OfWorker.{of_worker}
use Rattle.apply_bus.specs.declared.item.Item.{Item}
use Rattle.apply_bus.specs.Items.{events}

-- the greatest number of workers of a bus, and of claims
abbrev pub max_workers : ℕ
max_workers = 8

-- the greatest number of items that a bus holds
abbrev pub max_capacity : ℕ
max_capacity = 1024

-- a bus, told from all others
pub record BusName : Type 0 where
  pub table : TableId
  pub key : Badge (Key Item)

-- a sender, open or closed: its bus, the capacity of that bus, its worker, and the events that it
-- has sent
pub record Sender : Type 0 where
  pub bus : BusName
  pub capacity : ℕ
  pub worker : ℕ
  pub sent : List Event

-- a receiver: its bus, whose workers are those below `workers`, and the items that it has taken
pub record Receiver : Type 0 where
  pub bus : BusName
  pub workers : ℕ
  pub taken : List Item

-- a worker, and the events that it has sent
pub record SentList : Type 0 where
  pub worker : ℕ
  pub sent : List Event

-- what a receiver had taken when it ended, and what each sender that was joined since has sent
pub record Account : Type 0 where
  pub bus : BusName
  pub workers : ℕ
  pub taken : List Item
  pub sent_lists : List SentList

abbrev pub sent_list_of : Sender → SentList
sent_list_of sender = record { worker = sender.worker; sent = sender.sent }

-- a receiver that ended, before any sender is joined
abbrev pub account_of : Receiver → Account
account_of receiver = record { bus = receiver.bus; workers = receiver.workers; taken = receiver.taken; sent_lists = [] }

-- the senders of the first n workers of a bus, before any send
abbrev pub new_senders : BusName → (capacity n : ℕ) → List Sender
new_senders bus capacity zero = []
new_senders bus capacity (suc n) =
    new_senders bus capacity n ++ record { bus = bus; capacity = capacity; worker = n; sent = [] } ∷ []

-- each of the senders is of this bus
abbrev pub AreOf : BusName → List Sender → Type 0
AreOf bus senders = All (λ sender. sender.bus ≡ bus) senders

-- the events taken from the worker are those that it sent
abbrev pub IsTakenWhole : List Item → SentList → Type 0
IsTakenWhole taken sent_list = of_worker sent_list.worker (events taken) ≡ sent_list.sent

-- the events taken from the worker are a prefix of those that it sent
abbrev pub IsTakenInPart : List Item → SentList → Type 0
IsTakenInPart taken sent_list = IsPrefix (of_worker sent_list.worker (events taken)) sent_list.sent

-- each event taken names a worker of the bus
abbrev pub NamesWorkersBelow : ℕ → List Item → Type 0
NamesWorkersBelow workers taken = All (λ (event : Event). event.worker < workers) (events taken)
