-- What goes through a bus.
use Rattle.std.specs.Prelude.{ℕ, ◌+◌, ◌^◌, ◌==◌, List, [], ◌∷◌, filter, Option, Some, None}
use Rattle.std.specs.List.{filter_map}
use Rattle.apply_events.specs.declared.event.Event.{Event}
use Rattle.apply_bus.specs.declared.item.Item.{Item}
use Rattle.apply_bus.specs.declared.item.Item.TheVariants.{Event as EventItem, Close}

-- the worker that sent the item
abbrev pub worker_of : Item → ℕ
worker_of (EventItem event) = event.worker
worker_of (Close worker) = worker

-- the event that the item is, if it is one
abbrev pub event_of : Item → Option Event
event_of (EventItem event) = Some event
event_of (Close worker) = None

-- 1 for a close, and 0 for an event
abbrev pub close_count : Item → ℕ
close_count (EventItem event) = 0
close_count (Close worker) = 1

-- how many of the items are closes
abbrev pub closes : List Item → ℕ
closes [] = 0
closes (item ∷ items) = close_count item + closes items

-- the items of a worker, in order
abbrev pub items_of : ℕ → List Item → List Item
items_of worker items = filter (λ item. worker_of item == worker) items

-- the events among the items, in order
abbrev pub events : List Item → List Event
events items = filter_map event_of items

-- the greatest number of items that a receiver takes
abbrev pub max_taken : ℕ
max_taken = 2 ^ 29
