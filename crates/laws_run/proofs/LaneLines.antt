-- Lines with the times of their events come so many seconds after the step's start as they name.
use Rattle.std.proofs.Common.{◌≡◌, ℕ, zero, suc, ◌+◌, true, not, List, [], ◌∷◌, ◌++◌, All, Option, None, Some, arith, ◌∙◌}
use Rattle.std.specs.Prelude.{IfSome, slice_get}
use Rattle.std.proofs.lemmas.List.Elements.{All-filter, All-weaker, filter_passes}
use Rattle.apply_events.specs.declared.event.Event.{Event}
use Rattle.apply_events.specs.declared.what.What.{What}
use Rattle.apply_events.specs.declared.what.What.TheVariants.{ErrorNote, WarnNote, Halted}
use Rattle.apply_events.specs.Diagnostics.{is_note}
use Rattle.laws_run.specs.StepTimes.{ComesAfterItsSeconds, HasOneBegin, seconds_run}
use Rattle.apply_text.specs.Latest.{latest_of}
use Rattle.apply_text.specs.Order.{as_written, hook_messages_of, notes_of}
use Rattle.laws_run.specs.StepTimes.{LinesHaveOneBegin, LineComesAfterItsSeconds}

-- from the time of an event to the time of its line
as_elapsed : (elapsed : Option ℕ) (begin at stands : ℕ) → stands ≡ at → IfSome elapsed (λ seconds. at ≡ begin + seconds) → IfSome elapsed (λ seconds. stands ≡ begin + seconds)
as_elapsed None begin at stands own h = tt
as_elapsed (Some seconds) begin at stands own h = own ∙ h

-- a diagnostic names no elapsed seconds
note_states_nothing : (what : What) (P : ℕ → Type 0) → is_note what ≡ true → IfSome (seconds_run what) P
note_states_nothing ErrorNote P is = tt
note_states_nothing WarnNote P is = tt
note_states_nothing (Halted phase hook) P is = tt
note_states_nothing _ P is = absurd cc

-- what holds of all events holds of the one at a place
at_place : (P : Event → Type 0) (events : List Event) (i : ℕ) → All P events → IfSome (slice_get events i) P
at_place P [] i all = tt
at_place P (event ∷ events) zero all = all 0 event (omega arith)
at_place P (event ∷ events) (suc i) all = at_place P events i (λ k d lt. all (suc k) d (omega arith))

-- what holds at each place of some events, and of others at any, holds at each place of both
joined : (R : ℕ → Event → Type 0) (first later : List Event) → ((i : ℕ) → IfSome (slice_get first i) (R i)) → All (λ event. (i : ℕ) → R i event) later
    → (i : ℕ) → IfSome (slice_get (first ++ later) i) (R i)
joined R [] later at any i = at_place (R i) later i (λ k d lt. any k d lt i)
joined R (event ∷ first) later at any zero = at 0
joined R (event ∷ first) later at any (suc i) = joined (λ j. R (suc j)) first later (λ j. at (suc j)) (λ k d lt j. any k d lt (suc j)) i

both : (P Q R : Event → Type 0) (located : Option Event) → ((event : Event) → P event → Q event → R event) → IfSome located P → IfSome located Q → IfSome located R
both P Q R None f p q = tt
both P Q R (Some event) f p q = f event p q

-- what was shown of the event of a step
abbrev IsInTimeOf : (c k begin : ℕ) → Event → Type 0
IsInTimeOf c k begin event = event.change ≡ c → event.step ≡ k → ComesAfterItsSeconds begin event

-- what is to be shown of the line of event i
abbrev StandsFor : (c k begin : ℕ) → List Event → (i : ℕ) → Event → Type 0
StandsFor c k begin written i event = event.change ≡ c → event.step ≡ k → LineComesAfterItsSeconds begin written i event

pub have_one_begin : (c k : ℕ) (taken : List Event) → HasOneBegin c k taken
    → ((i : ℕ) → IfSome (slice_get (hook_messages_of taken) i) (λ event. latest_of (as_written taken) (i + 1) ≡ event.at)) → LinesHaveOneBegin c k (as_written taken)
have_one_begin c k taken one own =
    let written : List Event = as_written taken in
    record {
      begin = one.begin;
      in_time = joined (StandsFor c k one.begin written) (hook_messages_of taken) (notes_of taken)
          (λ i. both (IsInTimeOf c k one.begin) (λ event. latest_of written (i + 1) ≡ event.at) (StandsFor c k one.begin written i) (slice_get (hook_messages_of taken) i)
          (λ event elapsed moment change step. as_elapsed (seconds_run event.what) one.begin event.at (latest_of written (i + 1)) moment (elapsed change step))
          (at_place (IsInTimeOf c k one.begin) (hook_messages_of taken) i (All-filter (λ (event : Event). not (is_note event.what)) (IsInTimeOf c k one.begin) taken one.in_time))
          (own i))
          (All-weaker (λ (event : Event). is_note event.what ≡ true) (λ event. (i : ℕ) → StandsFor c k one.begin written i event)
          (λ event is i change step. note_states_nothing event.what (λ seconds. latest_of written (i + 1) ≡ one.begin + seconds) is)
          (notes_of taken) (filter_passes (λ (event : Event). is_note event.what) taken));
    }
