-- Facts about lists of items.
use Rattle.std.proofs.Common.{◌≡◌, ◌≢◌, ℕ, ◌+◌, ◌<◌, ◌≤◌, ◌==◌, Bool, true, false, List, [], ◌∷◌, ◌++◌, All, cond, sym, refl, ap, ◌∙◌, lt_of_not-le, arith}
use Rattle.std.proofs.lemmas.List.{append-nil}
use Rattle.std.proofs.lemmas.List.Elements.{All-cons, All-head, All-nil, All-tail, filter-append, filter_map-append}
use Rattle.std.proofs.lemmas.Bool.{eq-eqb, ne_eqb}
use Rattle.apply_events.specs.declared.event.Event.{Event}
use Rattle.apply_events.specs.OfWorker.{of_worker}
use Rattle.apply_bus.specs.declared.item.Item.{Item}
use Rattle.apply_bus.specs.declared.item.Item.TheVariants.{Event as EventItem, Close}
use Rattle.apply_bus.specs.BusState.{ClosesLast}
use Rattle.apply_bus.specs.Items.{worker_of, event_of, close_count, closes, items_of, events}

pub closes_append : (xs ys : List Item) → closes (xs ++ ys) ≡ closes xs + closes ys
closes_append [] ys = omega arith
closes_append (x ∷ xs) ys = omega (arith, closes_append xs ys)

pub close_le : (x : Item) → close_count x ≤ 1
close_le (EventItem e) = omega arith
close_le (Close w) = omega arith

pub of_append : (w : ℕ) (xs ys : List Item) → items_of w (xs ++ ys) ≡ items_of w xs ++ items_of w ys
of_append w xs ys = filter-append (λ (x : Item). worker_of x == w) xs ys

pub of_here : (w : ℕ) (x : Item) (xs : List Item) → worker_of x ≡ w → items_of w (x ∷ xs) ≡ x ∷ items_of w xs
of_here w x xs e = ap (λ b. cond b (x ∷ items_of w xs) (items_of w xs)) (eq-eqb (worker_of x) w e)

pub of_else : (w : ℕ) (x : Item) (xs : List Item) → worker_of x ≢ w → items_of w (x ∷ xs) ≡ items_of w xs
of_else w x xs n = ap (λ b. cond b (x ∷ items_of w xs) (items_of w xs)) (ne_eqb (worker_of x) w n)

pub grows_here : (w : ℕ) (x : Item) (all : List Item) → worker_of x ≡ w → items_of w (all ++ x ∷ []) ≡ items_of w all ++ x ∷ []
grows_here w x all e = of_append w all (x ∷ []) ∙ ap (λ l. items_of w all ++ l) (of_here w x [] e)

pub grows_else : (w : ℕ) (x : Item) (all : List Item) → worker_of x ≢ w → items_of w (all ++ x ∷ []) ≡ items_of w all
grows_else w x all n = of_append w all (x ∷ []) ∙ ap (λ l. items_of w all ++ l) (of_else w x [] n) ∙ append-nil (items_of w all)

pub nil_not : (fs rest : List Item) (y : Item) → [] ≢ fs ++ y ∷ rest
nil_not [] rest y e = cc
nil_not (f ∷ fs) rest y e = cc

front_closes : (l front rest : List Item) (x y : Item) → l ++ x ∷ [] ≡ front ++ y ∷ rest → closes front ≤ closes l
front_closes l [] rest x y e = omega arith
front_closes [] (f ∷ fs) rest x y e = absurd (nil_not fs rest y cc)
front_closes (z ∷ zs) (f ∷ fs) rest x y e =
    let same : z ≡ f = cc in let tails : zs ++ x ∷ [] ≡ fs ++ y ∷ rest = cc in
    let less = front_closes zs fs rest x y tails in let k : close_count z ≡ close_count f = ap close_count same in omega arith

pub closes_last : (l : List Item) (x : Item) → closes l ≡ 0 → ClosesLast (l ++ x ∷ [])
closes_last l x none front y rest e = let h = front_closes l front rest x y e in omega arith

-- ---- workers that are named

first_below : (n : ℕ) (x : Item) (xs : List Item) → ((w : ℕ) → n ≤ w → items_of w (x ∷ xs) ≡ []) → worker_of x < n
first_below n x xs h = lt_of_not-le (λ le. nil_not [] (items_of (worker_of x) xs) x (sym (h (worker_of x) le) ∙ of_here (worker_of x) x xs refl))

pub named_below : (n : ℕ) (xs : List Item) → ((w : ℕ) → n ≤ w → items_of w xs ≡ []) → All (λ x. worker_of x < n) xs
named_below n [] h = All-nil (λ (x : Item). worker_of x < n)
named_below n (x ∷ xs) h =
    let low = first_below n x xs h in
    All-cons (λ (y : Item). worker_of y < n) x xs low (named_below n xs (λ w le. sym (of_else w x xs (λ e. omega arith)) ∙ h w le))

pub none_above : (n : ℕ) (xs : List Item) → All (λ x. worker_of x < n) xs → (w : ℕ) → n ≤ w → items_of w xs ≡ []
none_above n [] h w le = refl
none_above n (x ∷ xs) h w le =
    let low : worker_of x < n = All-head (λ (y : Item). worker_of y < n) x xs h in
    of_else w x xs (λ e. omega arith) ∙ none_above n xs (All-tail (λ (y : Item). worker_of y < n) x xs h) w le

-- the events among items that name workers name them too
pub events_named : (n : ℕ) (xs : List Item) → All (λ x. worker_of x < n) xs → All (λ (e : Event). e.worker < n) (events xs)
events_named n [] h = All-nil (λ (e : Event). e.worker < n)
events_named n (EventItem e ∷ xs) h =
    All-cons (λ (y : Event). y.worker < n) e (events xs) (All-head (λ (y : Item). worker_of y < n) (EventItem e) xs h) (events_named n xs (All-tail (λ (y : Item). worker_of y < n) (EventItem e) xs h))
events_named n (Close w ∷ xs) h = events_named n xs (All-tail (λ (y : Item). worker_of y < n) (Close w) xs h)

-- ---- events

pub events_append : (xs ys : List Item) → events (xs ++ ys) ≡ events xs ++ events ys
events_append xs ys = filter_map-append event_of xs ys

events_if : (b : Bool) (e : Event) (xs : List Item) (es : List Event) → events xs ≡ es → events (cond b (EventItem e ∷ xs) xs) ≡ cond b (e ∷ es) es
events_if true e xs es h = ap (λ l. e ∷ l) h
events_if false e xs es h = h

close_if : (b : Bool) (w : ℕ) (xs : List Item) → events (cond b (Close w ∷ xs) xs) ≡ events xs
close_if true w xs = refl
close_if false w xs = refl

-- the events among a worker's items are the worker's events
pub events_of_worker : (w : ℕ) (xs : List Item) → events (items_of w xs) ≡ of_worker w (events xs)
events_of_worker w [] = refl
events_of_worker w (EventItem e ∷ xs) = events_if (e.worker == w) e (items_of w xs) (of_worker w (events xs)) (events_of_worker w xs)
events_of_worker w (Close v ∷ xs) = close_if (v == w) v (items_of w xs) ∙ events_of_worker w xs
