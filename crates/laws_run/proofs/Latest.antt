-- The latest time so far never falls, and is the event's own time if times never fall.
use Rattle.std.proofs.Common.{◌≡◌, ℕ, zero, suc, ◌+◌, ◌<◌, ◌≤◌, List, [], ◌∷◌, ◌++◌, get_or, length, map, take, add-one, arith, not}
use Rattle.std.specs.Prelude.{IfSome, max, fold, slice_get}
use Rattle.std.specs.List.Sorted.{IsNonDecreasingBy}
use Rattle.std.proofs.lemmas.List.Kept.{IsNonDecreasingBy-filter}
use Rattle.apply_events.specs.declared.event.Event.{Event}
use Rattle.apply_events.specs.Diagnostics.{is_note}
use Rattle.apply_text.specs.Latest.{latest_of}
use Rattle.apply_text.specs.Order.{as_written, hook_messages_of, notes_of}

at_least : (a : ℕ) (moments : List ℕ) → a ≤ fold max a moments
at_least a [] = omega arith
at_least a (moment ∷ moments) = omega (arith, at_least (max a moment) moments)

from : (events : List Event) (a i j : ℕ) → i ≤ j → fold max a (map (λ (event : Event). event.at) (take i events)) ≤ fold max a (map (λ (event : Event). event.at) (take j events))
from events a zero j few = at_least a (map (λ (event : Event). event.at) (take j events))
from events a (suc i) zero few = absurd (omega (arith, few))
from [] a (suc i) (suc j) few = omega arith
from (event ∷ events) a (suc i) (suc j) few = from events (max a event.at) i j (omega (arith, few))

pub never_falls : (events : List Event) (i j : ℕ) → i ≤ j → latest_of events i ≤ latest_of events j
never_falls events i j few = from events 0 i j few

-- ---- an event's own

-- for events whose times never fall, the first no earlier than the latest time so far
own_from : (events after : List Event) (a i : ℕ) → IsNonDecreasingBy (λ (event : Event). event.at) events
    → ((d : Event) → 0 < length events → a ≤ (get_or events 0 d).at)
    → IfSome (slice_get events i) (λ event. fold max a (map (λ (event : Event). event.at) (take (suc i) (events ++ after))) ≡ event.at)
own_from [] after a i rise first = tt
own_from (event ∷ events) after a zero rise first = let low : a ≤ event.at = first event (omega arith) in omega arith
own_from (event ∷ events) after a (suc i) rise first =
    let low : a ≤ event.at = first event (omega arith) in
    own_from events after (max a event.at) i
    (λ j k d le lt. rise (suc j) (suc k) d (omega arith) (omega arith))
    (λ d some. let next : event.at ≤ (get_or events 0 d).at = rise 0 1 d (omega arith) (omega arith) in omega arith)

own_moment : (events after : List Event) (i : ℕ) → IsNonDecreasingBy (λ (event : Event). event.at) events
    → IfSome (slice_get events i) (λ event. latest_of (events ++ after) (i + 1) ≡ event.at)
own_moment events after i rise = rw (add-one i) (own_from events after 0 i rise (λ d some. omega arith))

pub own_of_hook_message : (taken : List Event) (i : ℕ) → IsNonDecreasingBy (λ (event : Event). event.at) taken
    → IfSome (slice_get (hook_messages_of taken) i) (λ event. latest_of (as_written taken) (i + 1) ≡ event.at)
own_of_hook_message taken i rise =
    own_moment (hook_messages_of taken) (notes_of taken) i
    (IsNonDecreasingBy-filter (λ (event : Event). event.at) (λ (event : Event). not (is_note event.what)) taken rise)
