-- The events among items, and one item more.
use Rattle.std.proofs.Common.{◌≡◌, ℕ, ◌+◌, ◌-◌, ◌<◌, ◌≤◌, List, [], ◌∷◌, ◌++◌, All, Option, length, length-append, sym, ap, ◌∙◌, subst, arith}
use Rattle.std.proofs.Math.Seq.{take-append_seam, drop-append_seam}
use Rattle.std.proofs.lemmas.List.Elements.{All-drop, All-take, filter_map-append}
use Rattle.apply_events.specs.declared.event.Event.{Event}
use Rattle.apply_bus.specs.declared.item.Item.{Item}
use Rattle.apply_bus.specs.Items.{event_of, events, max_taken}
use Rattle.apply_events.specs.Fits.{IsOfPlan}
use Rattle.apply_writer.specs.Stream.Counting.{max_events}
use Rattle.apply_writer.specs.Stream.Form.{StreamForm}
use Rattle.apply_writer.specs.Stream.WriterState.{HasAccepted, WriterState}

events_more : (taken new : List Item) (item : Item) → new ≡ taken ++ item ∷ [] → events new ≡ events taken ++ events (item ∷ [])
events_more taken new item is = ap events is ∙ filter_map-append event_of taken (item ∷ [])

front : (P : Event → Type 0) (xs ys : List Event) → All P (xs ++ ys) → All P xs
front P xs ys all = subst (All P) (take-append_seam xs ys) (All-take P (length xs) (xs ++ ys) all)

back : (P : Event → Type 0) (xs ys : List Event) → All P (xs ++ ys) → All P ys
back P xs ys all = subst (All P) (drop-append_seam xs ys) (All-drop P (length xs) (xs ++ ys) all)

-- no item was taken: nothing had to be accepted
pub accepted_no_items : (form : StreamForm) (before : Option (List ℕ)) (failures : ℕ) (taken : List Item) (now : WriterState)
    → taken ≡ [] → HasAccepted form before failures [] now
    → All (IsOfPlan form.plan) (events taken) → HasAccepted form before failures (events taken) now
accepted_no_items form before failures taken now none accepted all =
    subst (λ items. HasAccepted form before failures (events items) now) (sym none) accepted

-- the items were accepted, and so is one item more
pub accepted_more_items : (form form' : StreamForm) (before : Option (List ℕ)) (failures : ℕ) (taken new : List Item) (item : Item) (old now : WriterState)
    → form' ≡ form → new ≡ taken ++ item ∷ []
    → (All (IsOfPlan form.plan) (events taken) → HasAccepted form before failures (events taken) old)
    → (All (IsOfPlan form'.plan) (events (item ∷ [])) → HasAccepted form' before failures (events taken) old → HasAccepted form' before failures (events taken ++ events (item ∷ [])) now)
    → All (IsOfPlan form.plan) (events new) → HasAccepted form before failures (events new) now
accepted_more_items form form' before failures taken new item old now same is so_far step all =
    let one = events (item ∷ []) in
    let joined = events_more taken new item is in
    let both : All (IsOfPlan form.plan) (events taken ++ one) = subst (All (IsOfPlan form.plan)) joined all in
    let on = subst (λ f. All (IsOfPlan f.plan) one → HasAccepted f before failures (events taken) old → HasAccepted f before failures (events taken ++ one) now) same step in
    subst (λ es. HasAccepted form before failures es now) (sym joined)
    (on (back (IsOfPlan form.plan) (events taken) one both) (so_far (front (IsOfPlan form.plan) (events taken) one both)))

-- ---- counts

longer : (taken new : List Item) (item : Item) → new ≡ taken ++ item ∷ [] → length new ≡ length taken + 1
longer taken new item is = ap length is ∙ length-append taken (item ∷ [])

pub count_more : (count count' : ℕ) (taken new : List Item) (item : Item) → new ≡ taken ++ item ∷ [] → count' ≤ count + 1 → count ≤ length taken → count' ≤ length new
count_more count count' taken new item is more few = let long = longer taken new item is in omega arith

pub room_to_accept : (count : ℕ) (taken new : List Item) (item : Item) → new ≡ taken ++ item ∷ [] → length new ≤ max_taken → count ≤ length taken → count < max_events
room_to_accept count taken new item is few accepted = let long = longer taken new item is in omega arith

-- a take more is less to do, be it lost or not
pub fewer_to_take : (lost : ℕ) (taken new : List Item) (item : Item) → new ≡ taken ++ item ∷ [] → length new ≤ max_taken → (max_taken - length new) + (1000 - lost) < (max_taken - length taken) + (1000 - lost)
fewer_to_take lost taken new item is few = let long = longer taken new item is in omega arith

pub fewer_to_lose : (lost : ℕ) (taken new : List Item) → new ≡ taken → lost < 1000 → (max_taken - length new) + (1000 - (lost + 1)) < (max_taken - length taken) + (1000 - lost)
fewer_to_lose lost taken new is few = let same = ap length is in omega arith
