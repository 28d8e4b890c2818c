-- What a worker has sent of a change, or of its changes.
use Rattle.std.proofs.Common.{◌≡◌, List, [], ◌∷◌, ◌++◌, All, refl, sym, ap, ◌∙◌, append_assoc}
use Rattle.std.proofs.lemmas.List.{append-nil}
use Rattle.std.proofs.lemmas.List.Elements.{All-append, All-cons, All-nil}
use mathlib.Core.List.{IsPrefix}
use Rattle.apply_plan.specs.Plan.SavedPlan.{SavedPlan}
use Rattle.apply_events.specs.declared.event.Event.{Event}
use Rattle.apply_events.specs.Fits.{IsOfPlan}

-- after what was sent before, a part was sent, of events of the plan; with the rest it is all
pub record IsSentBefore (plan : SavedPlan) (before sent rest all : List Event) : Type 0 where
  pub part : List Event
  pub sent_is : sent ≡ before ++ part
  pub whole : part ++ rest ≡ all
  pub fits : All (IsOfPlan plan) part

pub nothing_sent : (plan : SavedPlan) (before all : List Event) → IsSentBefore plan before before all all
nothing_sent plan before all = record { part = []; sent_is = sym (append-nil before); whole = refl; fits = All-nil (IsOfPlan plan) }

-- the next was sent
pub sent_next : (plan : SavedPlan) (before sent sent' rest rest' all : List Event) (event : Event)
    → IsSentBefore plan before sent rest all → rest ≡ event ∷ rest' → sent' ≡ sent ++ event ∷ [] → IsOfPlan plan event → IsSentBefore plan before sent' rest' all
sent_next plan before sent sent' rest rest' all event h next is of =
    record {
      part = h.part ++ event ∷ [];
      sent_is = is ∙ ap (λ l. l ++ event ∷ []) h.sent_is ∙ append_assoc before h.part (event ∷ []);
      whole = append_assoc h.part (event ∷ []) rest' ∙ ap (λ l. h.part ++ l) (sym next) ∙ h.whole;
      fits = All-append (IsOfPlan plan) h.part (event ∷ []) h.fits (All-cons (IsOfPlan plan) event [] of (All-nil (IsOfPlan plan)));
    }

-- a part was sent
pub sent_part : (plan : SavedPlan) (before sent rest all : List Event) → IsSentBefore plan before sent rest all → (part : List Event) × (sent ≡ before ++ part) × IsPrefix part all × All (IsOfPlan plan) part
sent_part plan before sent rest all h = (h.part, h.sent_is, (rest, h.whole), h.fits)

-- all was sent
pub sent_all : (plan : SavedPlan) (before sent rest all : List Event) → IsSentBefore plan before sent rest all → rest ≡ [] → sent ≡ before ++ all
sent_all plan before sent rest all h none = h.sent_is ∙ ap (λ l. before ++ l) (sym (append-nil h.part) ∙ ap (λ l. h.part ++ l) (sym none) ∙ h.whole)
