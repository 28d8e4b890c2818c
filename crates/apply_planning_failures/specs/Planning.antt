-- The planning of a command: what is refreshed and read before anything is applied.
use Rattle.std.specs.Prelude.{◌≡◌, ◌<◌, ℕ, ◌==◌, List, [], ◌∷◌, Bool, true, false, not, ◌&&◌, ◌||◌, if◌then◌else◌, flat_map, length, slice_get, slice_index_or, Option}
use Rattle.std.specs.List.{enumerate_from, list_any}
use Rattle.std.specs.Option.{option_map_or}
use Rattle.apply_model.specs.declared.details.note.Note.{Note}
use Rattle.apply_resolve.specs.ObjectName.{name_one_object}
use Rattle.apply_events.specs.declared.event.Event.{Event}
use Rattle.apply_events.specs.declared.what.What.{What}
use Rattle.apply_events.specs.declared.what.What.TheVariants.{Start, Progress, Complete, Errored, ErrorNote, WarnNote, Halted, ProvisionStart, ProvisionOutput, ProvisionComplete, ProvisionErrored}
use Rattle.apply_planning.specs.declared.told.Told.{Told}
use Rattle.apply_writer.specs.Stream.Terraform.{is_error}

-- the objects that are told, and the events of their refreshes and reads; event number `change` is
-- of the told object with that number
pub record Planning : Type 0 where
  pub told : List Told
  pub events : List Event

-- ---- what failed

-- the event is of a failure that is told as a diagnostic
abbrev pub is_note : What → Bool
is_note ErrorNote = true
is_note WarnNote = true
is_note Start = false
is_note (Progress seconds) = false
is_note (Complete seconds) = false
is_note (Errored seconds) = false
is_note (Halted phase hook) = false
is_note (ProvisionStart i) = false
is_note (ProvisionOutput i line) = false
is_note (ProvisionComplete i) = false
is_note (ProvisionErrored i) = false

-- the diagnostic of a failure; nothing where the object did not fail
abbrev pub failure_of : Option Told → List Note
failure_of one = option_map_or (λ (t : Told). option_map_or (λ note. note ∷ []) t.failure []) one []

-- the diagnostics of failures, in the order in which they come up
abbrev pub planning_notes : Planning → List Note
planning_notes planning =
    flat_map (λ (e : Event). if is_note e.what then failure_of (slice_get planning.told e.change) else []) planning.events

-- each told object of a planning is flagged if it has an event
abbrev pub AreBegun : Planning → (flags : List Bool) → Type 0
AreBegun planning flags = (length flags ≡ length planning.told) × ((number : ℕ) → number < length planning.told
    → slice_index_or flags number false ≡ list_any (λ (e : Event). e.change == number) planning.events)

-- the told object with that number failed with an error, or waited in vain for one that did
abbrev pub is_never_done : Planning → ℕ × Told → Bool
is_never_done planning p =
    option_map_or is_error p.1.failure false || not (list_any (λ (e : Event). e.change == p.0) planning.events)

-- the object with that address and deposed key is told, and was never done
abbrev pub is_lost : Planning → (address : List ℕ) (deposed : Option (List ℕ)) → Bool
is_lost planning address deposed =
    list_any (λ p. is_never_done planning p && name_one_object p.1.object.address p.1.object.deposed address deposed)
    (enumerate_from 0 planning.told)
