-- What a planning met so far, and what comes.
use Rattle.std.proofs.Common.{◌≡◌, ◌≢◌, ◌<◌, ◌+◌, ◌++◌, ◌||◌, ◌==◌, ℕ, zero, suc, Bool, true, false, if◌then◌else◌, List, [], ◌∷◌, Option, get_or, length, replicate, set, refl, sym, ap, ◌∙◌, ⊎_elim, arith, eq-eqb, ne_eqb, append_assoc, append-nil}
use Rattle.std.specs.Prelude.{slice_get}
use Rattle.std.specs.List.{list_any}
use Rattle.std.proofs.lemmas.Bool.{cases_eq}
use Rattle.std.proofs.lemmas.List.{get_or-set_other, get_or-set_same, length-set}
use Rattle.apply_events.specs.declared.event.Event.{Event}
use Rattle.apply_model.specs.declared.details.note.Note.{Note}
use Rattle.apply_planning.specs.declared.told.Told.{Told}
use Rattle.apply_planning_failures.specs.Planning.{AreBegun, failure_of, is_note, planning_notes}

abbrev notes_in : List Told → List Event → List Note
notes_in told events = planning_notes (record { told = told; events = events })

-- the object with that number has an event among these
abbrev is_begun : List Event → ℕ → Bool
is_begun events number = list_any (λ (e : Event). e.change == number) events

-- what was met of all events, where these are still to come
pub record IsMidway (told : List Told) (all left : List Event) (notes : List Note) (flags : List Bool) (count : ℕ) : Type 0 where
  pub noted : notes ++ notes_in told left ≡ notes_in told all
  pub size : length flags ≡ length told
  pub begun : (number : ℕ) → number < length told → (get_or flags number false || is_begun left number) ≡ is_begun all number
  pub counted : count + length left ≡ length all

none_flagged : (n k : ℕ) → get_or (replicate n false) k false ≡ false
none_flagged zero k = refl
none_flagged (suc n) zero = refl
none_flagged (suc n) (suc k) = none_flagged n k

-- at first
pub none_met : (told : List Told) (all left : List Event) (noted : List Note) (flags : List Bool) → left ≡ all → noted ≡ [] → flags ≡ replicate (length told) false
    → length flags ≡ length told → IsMidway told all left noted flags 0
none_met told all left noted flags is none unset size = record {
  noted = rw (is, none) refl;
  size = size;
  begun = λ number few. ap (λ l. get_or l number false || is_begun left number) unset
      ∙ ap (λ b. b || is_begun left number) (none_flagged (length told) number) ∙ ap (λ es. is_begun es number) is;
  counted = let same : length left ≡ length all = ap length is in omega (arith, same);
}

or_true : (b : Bool) → (b || true) ≡ true
or_true true = refl
or_true false = refl

-- one event more
pub one_met : (told : List Told) (all left rest : List Event) (event : Event) (noted more : List Note) (flags : List Bool) (count : ℕ) (is : Bool) (one : Option Told)
    → left ≡ event ∷ rest → event.change < length told → is ≡ is_note event.what → one ≡ slice_get told event.change
    → more ≡ noted ++ (if is then failure_of one else [])
    → IsMidway told all left noted flags count → IsMidway told all rest more (set flags event.change true) (count + 1)
one_met told all left rest event noted more flags count is one begins known what which grown so_far =
    let own : List Note = if is_note event.what then failure_of (slice_get told event.change) else [] in
    let within : event.change < length flags = omega (arith, known, so_far.size) in
    record {
      noted = ap (λ (ns : List Note). ns ++ notes_in told rest) (grown ∙ rw (what, which) refl)
          ∙ append_assoc noted own (notes_in told rest)
          ∙ ap (λ es. noted ++ notes_in told es) (sym begins)
          ∙ so_far.noted;
      size = length-set flags event.change true ∙ so_far.size;
      begun = λ number few. ⊎_elim
          (λ (same : event.change ≡ number).
          ap (λ k. get_or (set flags event.change true) k false || is_begun rest number) (sym same)
          ∙ ap (λ b. b || is_begun rest number) (get_or-set_same flags event.change true false within)
          ∙ sym (or_true (get_or flags number false))
          ∙ ap (λ b. get_or flags number false || (b || is_begun rest number)) (sym (eq-eqb event.change number same))
          ∙ ap (λ es. get_or flags number false || is_begun es number) (sym begins)
          ∙ so_far.begun number few)
          (λ (other : event.change ≢ number).
          ap (λ b. b || is_begun rest number) (get_or-set_other flags event.change number true false (λ same. other (sym same)))
          ∙ ap (λ b. get_or flags number false || (b || is_begun rest number)) (sym (ne_eqb event.change number other))
          ∙ ap (λ es. get_or flags number false || is_begun es number) (sym begins)
          ∙ so_far.begun number few)
          (cases_eq event.change number);
      counted = let left_is : length left ≡ length rest + 1 = ap length begins ∙ omega arith in omega (arith, left_is, so_far.counted);
    }

or_false : (b : Bool) → (b || false) ≡ b
or_false true = refl
or_false false = refl

module _ (told : List Told) (all left : List Event) (noted : List Note) (flags : List Bool) (count : ℕ) (none : left ≡ []) (met : IsMidway told all left noted flags count) where
  -- at the end
  pub notes_are : noted ≡ notes_in told all
  notes_are = sym (append-nil noted) ∙ ap (λ es. noted ++ notes_in told es) (sym none) ∙ met.noted

  pub begun_are : AreBegun (record { told = told; events = all }) flags
  begun_are = (met.size, λ number few. sym (or_false (get_or flags number false)) ∙ ap (λ es. get_or flags number false || is_begun es number) (sym none) ∙ met.begun number few)

  pub count_is : count ≡ length all
  count_is = let no_more : length left ≡ 0 = ap length none in omega (arith, no_more, met.counted)
