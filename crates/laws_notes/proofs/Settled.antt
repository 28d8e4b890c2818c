-- If each step ended, and each failed step has a diagnostic, no step takes another one.
use Rattle.std.proofs.Common.{◌≡◌, ◌∙◌, ℕ, List, [], ◌∷◌, All, Contains, Bool, true, false, ◌&&◌, cond, filter, find, is_none, not, slice_get, Option, None, Some, IfSome, option_map, refl, sym, ap}
use Rattle.std.specs.Prelude.{option_and_then}
use Rattle.std.specs.List.{AllByRecursion, cons_option, filter_map}
use Rattle.std.specs.Option.{option_map_or}
use Rattle.std.proofs.lemmas.List.Elements.{All-contains, All-from_recursion, recursion_from_All}
use Rattle.apply_model.specs.declared.details.note.Note.{Note}
use Rattle.apply_model.specs.declared.plan.step_kind.StepKind.TheVariants.{Read}
use Rattle.apply_model.specs.Plan.StepKind.{is_kind}
use Rattle.stream_record_steps.specs.declared.begun_step.BegunStep.{BegunStep}
use Rattle.stream_record_steps.specs.declared.begun_step.EndResult.{EndResult}
use Rattle.stream_record_steps.specs.declared.begun_step.EndResult.TheVariants.{Completed, Failed}
use Rattle.stream_record_steps.specs.declared.begun_step.StepEnd.{StepEnd}
use Rattle.stream_record_steps.specs.Begun.{Begun, begun_at}
use Rattle.stream_record_steps.specs.Steps.{PlannedStep}
use Rattle.stream_record_outcomes.specs.declared.turn.Turn.TheVariants as turn
use Rattle.stream_record_outcomes.specs.Assignment.{Assignment, Fit, Taker, choice, fit_of, fits, give, has_none, is_failed_end, is_in_turn, note_number, note_of_step, share_left, taker_at, taker_with, takers_of, takes_read}
use Rattle.laws_notes.specs.Told.{FitsStep, HasNote, HaveNotes}
use Rattle.laws_notes.proofs.Fitting.{taker_is}

-- ---- the place of a taker

at_place : (place : ℕ) (step : PlannedStep) (known : BegunStep) (fit : Option Fit) → IfSome (option_map (taker_with place step known) fit) (λ taker. taker.place ≡ place)
at_place place step known None = tt
at_place place step known (Some fit) = refl

module _ (is_default_form : Bool) (begun : Begun) where
  known_at_place : (place : ℕ) (step : PlannedStep) (known : Option BegunStep)
      → IfSome (option_and_then (λ found. option_map (taker_with place step found) (fit_of is_default_form step found)) known) (λ taker. taker.place ≡ place)
  known_at_place place step None = tt
  known_at_place place step (Some known) = at_place place step known (fit_of is_default_form step known)

  step_at_place : (place : ℕ) (step : Option PlannedStep)
      → IfSome
      (option_and_then (λ step. option_and_then (λ found. option_map (taker_with place step found) (fit_of is_default_form step found)) (begun_at begun.by_step place)) step)
      (λ taker. taker.place ≡ place)
  step_at_place place None = tt
  step_at_place place (Some step) = known_at_place place step (begun_at begun.by_step place)

  pub taker_at_place : (place : ℕ) → IfSome (taker_at is_default_form begun place) (λ taker. taker.place ≡ place)
  taker_at_place place = step_at_place place (slice_get begun.planned place)

-- ---- each step that began ended

abbrev pub HasEnd : Option Taker → Type 0
HasEnd taker = IfSome taker (λ taker. taker.has_end ≡ true)

has_end : (place : ℕ) (step : PlannedStep) (known : BegunStep) (fit : Option Fit) (end : StepEnd) → known.end ≡ Some end → HasEnd (option_map (taker_with place step known) fit)
has_end place step known None end is = tt
has_end place step known (Some fit) end is = ap (λ (e : Option StepEnd). not (is_none e)) is

module _ (is_default_form : Bool) (begun : Begun) where
  ends_have : (places : List ℕ) (told : List (Option Note)) → HaveNotes is_default_form begun places told
      → AllByRecursion (λ place. HasEnd (taker_at is_default_form begun place)) places
  ends_have [] told have = tt
  ends_have (place ∷ places) [] have = absurd have
  ends_have (place ∷ places) (own ∷ told) have =
      let first = have.0 in (
        rw (taker_is is_default_form begun place own first) (has_end place first.step first.known (fit_of is_default_form first.step first.known) first.end first.ended),
        ends_have places told have.1,
      )

  pub begins_have : (ends begins : List ℕ) (told : List (Option Note)) → HaveNotes is_default_form begun ends told
      → All (λ place. Contains ends place) begins
      → AllByRecursion (λ place. HasEnd (taker_at is_default_form begun place)) begins
  begins_have ends begins told have ended =
      let Has : ℕ → Type 0 = λ place. HasEnd (taker_at is_default_form begun place) in
      let all = All-from_recursion Has ends (ends_have ends told have) in
      recursion_from_All Has begins (λ k d below. All-contains Has ends _ all (ended k d below))

module _ (test : Taker → Bool) (unfit : (taker : Taker) → taker.has_end ≡ true → test taker ≡ false) (taker : ℕ → Option Taker) where
  none_first : (first : Option Taker) (takers : List Taker) → HasEnd first → filter test (cons_option first takers) ≡ filter test takers
  none_first None takers is = refl
  none_first (Some one) takers is = ap (λ (b : Bool). cond b (one ∷ filter test takers) (filter test takers)) (unfit one is)

  pub none_open : (places : List ℕ) → AllByRecursion (λ place. HasEnd (taker place)) places → filter test (filter_map taker places) ≡ []
  none_open [] have = refl
  none_open (place ∷ places) have = none_first (taker place) (filter_map taker places) have.0 ∙ none_open places have.1

  not_found_first : (first : Option Taker) (takers : List Taker) → HasEnd first → find test (cons_option first takers) ≡ find test takers
  not_found_first None takers is = refl
  not_found_first (Some one) takers is = ap (λ (b : Bool). cond b (Some one) (find test takers)) (unfit one is)

  pub not_found : (places : List ℕ) → AllByRecursion (λ place. HasEnd (taker place)) places → find test (filter_map taker places) ≡ None
  not_found [] have = refl
  not_found (place ∷ places) have = not_found_first (taker place) (filter_map taker places) have.0 ∙ not_found places have.1

-- no step is open
pub takes_no_read : (before : Assignment) (note : Note) (taker : Taker) → taker.has_end ≡ true → takes_read before note taker ≡ false
takes_no_read before note taker is = ap (λ (b : Bool). (not b && is_kind Read taker.kind) && has_none before taker && fits taker.fit note) is

pub no_open_read : (taker : Taker) → taker.has_end ≡ true → is_in_turn turn.OpenReads taker ≡ false
no_open_read taker is = ap (λ (b : Bool). not b && is_kind Read taker.kind) is

pub no_other_open : (taker : Taker) → taker.has_end ≡ true → is_in_turn turn.OtherOpen taker ≡ false
no_other_open taker is = ap (λ (b : Bool). not b && not (is_kind Read taker.kind)) is

-- ---- each step that failed has a diagnostic

module _ (notes : List Note) (after : Assignment) where
  -- a step that failed has a diagnostic
  abbrev HasOwn : Option Taker → Type 0
  HasOwn taker = IfSome taker (λ taker. taker.has_failed ≡ true → has_none after taker ≡ false)

  has_own : (number : Option ℕ) (fit : Option Fit) (result : EndResult) → FitsStep fit result (option_and_then (λ n. slice_get notes n) number)
      → is_failed_end result ≡ true → is_none number ≡ false
  has_own None fit (Completed id_key id) has failed = absurd cc
  has_own None fit Failed has failed = absurd has
  has_own (Some number) fit result has failed = refl

  own_for : (place : ℕ) (step : PlannedStep) (known : BegunStep) (fit : Option Fit) (end : StepEnd) → known.end ≡ Some end
      → (is_failed_end end.result ≡ true → is_none (note_number after place) ≡ false)
      → HasOwn (option_map (taker_with place step known) fit)
  own_for place step known None end is own = tt
  own_for place step known (Some fit) end is own = λ failed.
      own (sym (ap (λ (e : Option StepEnd). option_map_or (λ end. is_failed_end end.result) e false) is) ∙ failed)

  passes_first : (first : Option Taker) (takers : List Taker) → HasOwn first
      → share_left notes (filter (is_in_turn turn.Failed) (cons_option first takers)) after ≡ share_left notes (filter (is_in_turn turn.Failed) takers) after
  passes_first None takers own = refl
  passes_first (Some one) takers own =
      (elim (one.has_failed) as (λ b.
      one.has_failed ≡ b
      → share_left notes (cond b (one ∷ filter (is_in_turn turn.Failed) takers) (filter (is_in_turn turn.Failed) takers)) after
      ≡ share_left notes (filter (is_in_turn turn.Failed) takers) after) [
        | true ↦ λ failed.
            ap
            (λ (none : Bool).
            share_left notes (filter (is_in_turn turn.Failed) takers)
            (cond none (option_map_or (λ number. give one.place number after) (choice notes after one) after) after))
            (own failed)
        | false ↦ λ completed. refl
      ]) refl

  module _ (is_default_form : Bool) (begun : Begun) where
    pub shares_nothing : (places : List ℕ) → AllByRecursion (λ place. HasNote is_default_form begun place (note_of_step notes after place)) places
        → share_left notes (filter (is_in_turn turn.Failed) (takers_of is_default_form begun places)) after ≡ after
    shares_nothing [] has = refl
    shares_nothing (place ∷ places) has =
        let first = has.0 in
        let fit = fit_of is_default_form first.step first.known in
        let own : HasOwn (taker_at is_default_form begun place) =
        rw (taker_is is_default_form begun place (note_of_step notes after place) first)
        (own_for place first.step first.known fit first.end first.ended (has_own (note_number after place) fit first.end.result first.fits_step)) in
        passes_first (taker_at is_default_form begun place) (takers_of is_default_form begun places) own ∙ shares_nothing places has.1
