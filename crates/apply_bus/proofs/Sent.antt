-- What a send leaves of a sender's pass.
use Rattle.std.proofs.Common.{◌≡◌, ℕ, List, [], ◌∷◌, ◌++◌, refl, ap, ◌∙◌, sym, arith}
use Rattle.crossbeam_channel.specs.Fifo.{Pushes}
use Rattle.apply_events.specs.declared.event.Event.{Event}
use Rattle.apply_bus.specs.declared.bus_rule.Knowledge.{Knowledge}
use Rattle.apply_bus.specs.declared.item.Item.{Item}
use Rattle.apply_bus.specs.declared.item.Item.TheVariants.{Event as EventItem, Close}
use Rattle.apply_bus.specs.BusEnds.{as_items, sent_by, IsOpen, IsClosed}
use Rattle.apply_bus.specs.BusRule.{sending, after_send, IsLawful}
use Rattle.apply_bus.specs.Items.{worker_of, closes, events}
use Rattle.apply_bus.proofs.BusSteps.{sends}

no_close : (es : List Event) → closes (as_items es) ≡ 0
no_close [] = refl
no_close (e ∷ es) = omega (arith, no_close es)

as_items_more : (es : List Event) (e : Event) → as_items es ++ EventItem e ∷ [] ≡ as_items (es ++ e ∷ [])
as_items_more [] e = refl
as_items_more (x ∷ xs) e = ap (λ l. EventItem x ∷ l) (as_items_more xs e)

pub events_as_items : (es : List Event) → events (as_items es) ≡ es
events_as_items [] = refl
events_as_items (e ∷ es) = ap (λ l. e ∷ l) (events_as_items es)

pub events_closed : (es : List Event) (w : ℕ) → events (as_items es ++ Close w ∷ []) ≡ es
events_closed [] w = refl
events_closed (e ∷ es) w = ap (λ l. e ∷ l) (events_closed es w)

open_from : (w : ℕ) (u : Knowledge) (es : List Event) → u ≡ sending w (as_items es) → IsOpen w u × (sent_by u ≡ es)
open_from w u es is = let same : sent_by u ≡ es = ap sent_by is ∙ events_as_items es in (is ∙ ap (λ l. sending w (as_items l)) (sym same), same)

closed_from : (w : ℕ) (u : Knowledge) (es : List Event) → u ≡ sending w (as_items es ++ Close w ∷ []) → IsClosed w u × (sent_by u ≡ es)
closed_from w u es is = let same : sent_by u ≡ es = ap sent_by is ∙ events_closed es w in (is ∙ ap (λ l. sending w (as_items l ++ Close w ∷ [])) (sym same), same)

pub new_open : (w : ℕ) (u : Knowledge) → u ≡ sending w [] → IsOpen w u × (sent_by u ≡ [])
new_open w u is = open_from w u [] is

-- a sender that is open may send any item of its worker
pub sends_item : (n pass : ℕ) (v : Knowledge) (x : Item) → IsOpen (worker_of x) v → Pushes IsLawful n pass v x (λ u. u ≡ after_send v x)
sends_item n pass v x was = sends n pass v x (worker_of x) (as_items (sent_by v)) was refl (no_close (sent_by v))

pub after_event : (w : ℕ) (v u : Knowledge) (e : Event) → IsOpen w v → u ≡ after_send v (EventItem e) → IsOpen w u × (sent_by u ≡ sent_by v ++ e ∷ [])
after_event w v u e was is = open_from w u (sent_by v ++ e ∷ []) (is ∙ ap (λ x. after_send x (EventItem e)) was ∙ ap (sending w) (as_items_more (sent_by v) e))

pub after_close : (w : ℕ) (v u : Knowledge) → IsOpen w v → u ≡ after_send v (Close w) → IsClosed w u × (sent_by u ≡ sent_by v)
after_close w v u was is = closed_from w u (sent_by v) (is ∙ ap (λ x. after_send x (Close w)) was)
