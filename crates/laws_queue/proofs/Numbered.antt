-- Events of a step among numbered hook messages: the number states the place.
use Rattle.std.proofs.Common.{◌≡◌, ◌∙◌, ◌+◌, ℕ, Bool, true, List, [], ◌∷◌, Some, filter, sym, ap, arith, ⊎_elim}
use Rattle.std.specs.Prelude.{slice_get}
use Rattle.std.specs.List.{Contains, enumerate_from}
use Rattle.apply_events.specs.declared.event.Event.{Event}
use Rattle.apply_events.specs.declared.what.What.{What}
use Rattle.apply_events.proofs.Waits.Members.{filter_in, in_cases, not_in_none}
use Rattle.laws_queue.specs.OfRun.{StandsAt, is_of_step}

pub record IsPlaced (first : ℕ) (hooks : List Event) (line : ℕ × Event) : Type 0 where
  pub place : ℕ
  pub number : line.0 ≡ first + place
  pub there : slice_get hooks place ≡ Some line.1

pub placed : (first : ℕ) (hooks : List Event) (line : ℕ × Event) → Contains (enumerate_from first hooks) line → IsPlaced first hooks line
placed first [] line among = absurd (not_in_none line among)
placed first (event ∷ hooks) line among = ⊎_elim
    (λ (here : (first, event) ≡ line). record {
      place = 0;
      number = sym (ap (λ (l : ℕ × Event). l.0) here) ∙ omega arith;
      there = ap (λ (l : ℕ × Event). Some l.1) here;
    })
    (λ (later : Contains (enumerate_from (first + 1) hooks) line).
    let rest = placed (first + 1) hooks line later in
    let is = rest.number in
    let next : line.0 ≡ first + (rest.place + 1) = omega arith in
    record { place = ℕ.suc rest.place; number = next ∙ omega arith; there = rest.there })
    (in_cases (first, event) (enumerate_from (first + 1) hooks) line among)

-- a line of a step, and where it stands
pub stands_at : (first : ℕ) (hooks : List Event) (c k : ℕ) (is_sort : What → Bool) (line : ℕ × Event)
    → Contains (filter (λ (l : ℕ × Event). is_of_step c k l.1) (enumerate_from first hooks)) line → is_sort line.1.what ≡ true
    → (place : ℕ) × (line.0 ≡ first + place) × StandsAt hooks place c k is_sort
stands_at first hooks c k is_sort line among sort =
    let its = filter_in (λ (l : ℕ × Event). is_of_step c k l.1) (enumerate_from first hooks) line among in
    let at = placed first hooks line its.0 in
    (at.place, at.number, record { event = line.1; is = at.there; of = its.1; sort = sort })
