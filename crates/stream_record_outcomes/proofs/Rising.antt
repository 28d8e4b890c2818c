-- Facts come in order.
use Rattle.std.proofs.Common.{◌≡◌, ℕ, ℤ, zero, suc, ◌-◌, ◌≤◌, List, [], ◌∷◌, Option, None, Some, true, refl, arith, take}
use Rattle.std.specs.Prelude.{min, max, option_map}
use Rattle.std.specs.Int.{int_gap}
use Rattle.std.specs.List.{cons_option, filter_map}
use Rattle.std.specs.Option.{option_map_or}
use Rattle.std.proofs.lemmas.Bool.{le-leb}
use Rattle.apply_model.specs.declared.script.timed_text.TimedText.{TimedText}
use Rattle.apply_model.specs.Script.Outcome.{are_in_time}
use Rattle.stream_record_steps.specs.declared.begun_step.BegunStep.{BegunStep}
use Rattle.stream_record_steps.specs.declared.step_facts.StepFact.{StepFact}
use Rattle.stream_record_outcomes.specs.Provisioners.{output_of, timed_output}
use Rattle.stream_record_outcomes.specs.Times.{TimedFact, bounded, latest_before, rising, timed_facts}
use Rattle.stream_record_outcomes.specs.Took.{progress_of}

-- The facts come in order, none before `low` and none after the whole.
abbrev pub Rises : (low whole : ℕ) → List TimedFact → Type 0
Rises low whole [] = Unit {0}
Rises low whole (fact ∷ facts) = (low ≤ fact.second) × (fact.second ≤ whole) × Rises fact.second whole facts

-- No fact comes after the whole.
abbrev pub AreWithin : (whole : ℕ) → List TimedFact → Type 0
AreWithin whole [] = Unit {0}
AreWithin whole (fact ∷ facts) = (fact.second ≤ whole) × AreWithin whole facts

-- ---- from the last to the first

capped_latest : (whole latest : ℕ) (o : Option ℕ) → latest ≤ whole → option_map_or (λ seconds. min (seconds - 1) whole) o latest ≤ whole
capped_latest whole latest None within = within
capped_latest whole latest (Some seconds) within = omega arith

latest_within : (whole : ℕ) (facts : List StepFact) → latest_before whole facts ≤ whole
latest_within whole [] = omega arith
latest_within whole (fact ∷ facts) = capped_latest whole (latest_before whole facts) (progress_of fact.stated) (latest_within whole facts)

capped_own : (whole gap latest : ℕ) (o : Option ℕ) → latest ≤ whole → option_map_or (λ seconds. min seconds whole) o (min gap latest) ≤ whole
capped_own whole gap latest None within = omega arith
capped_own whole gap latest (Some seconds) within = omega arith

bounded_within : (begin : ℤ) (whole : ℕ) (facts : List StepFact) → AreWithin whole (bounded begin whole facts)
bounded_within begin whole [] = tt
bounded_within begin whole (fact ∷ facts) = (
  capped_own whole (int_gap begin fact.second) (latest_before whole facts) (progress_of fact.stated) (latest_within whole facts),
  bounded_within begin whole facts,
)

-- ---- from the first to the last

rising_rises : (low whole : ℕ) (facts : List TimedFact) → low ≤ whole → AreWithin whole facts → Rises low whole (rising low facts)
rising_rises low whole [] below within = tt
rising_rises low whole (fact ∷ facts) below within =
    let first : fact.second ≤ whole = within.0 in
    let capped : max low fact.second ≤ whole = omega arith in
    (omega arith, capped, rising_rises (max low fact.second) whole facts capped within.1)

pub timed_rise : (whole : ℕ) (begun : BegunStep) → Rises 0 whole (timed_facts whole begun)
timed_rise whole begun = rising_rises 0 whole (bounded begun.second whole begun.facts) (omega arith) (bounded_within begun.second whole begun.facts)

-- ---- parts

pub rises_below : (low lower whole : ℕ) (facts : List TimedFact) → lower ≤ low → Rises low whole facts → Rises lower whole facts
rises_below low lower whole [] below rises = tt
rises_below low lower whole (fact ∷ facts) below rises =
    let first : low ≤ fact.second = rises.0 in (omega arith, rises.1, rises.2)

pub rises_front : (low whole n : ℕ) (facts : List TimedFact) → Rises low whole facts → Rises low whole (take n facts)
rises_front low whole zero facts rises = tt
rises_front low whole (suc n) [] rises = tt
rises_front low whole (suc n) (fact ∷ facts) rises = (rises.0, rises.1, rises_front fact.second whole n facts rises.2)

-- ---- outputs

-- The outputs come in order, none before `low` and none after the seconds.
abbrev pub InTime : (low seconds : ℕ) → List TimedText → Type 0
InTime low seconds [] = Unit {0}
InTime low seconds (text ∷ texts) = (low ≤ text.after) × (text.after ≤ seconds) × InTime text.after seconds texts

in_time_is : (low seconds : ℕ) (texts : List TimedText) → InTime low seconds texts → are_in_time low seconds texts ≡ true
in_time_is low seconds [] in_time = refl
in_time_is low seconds (text ∷ texts) in_time =
    rw (le-leb low text.after in_time.0, le-leb text.after seconds in_time.1) (in_time_is text.after seconds texts in_time.2)

in_time_below : (low lower seconds : ℕ) (texts : List TimedText) → lower ≤ low → InTime low seconds texts → InTime lower seconds texts
in_time_below low lower seconds [] below in_time = tt
in_time_below low lower seconds (text ∷ texts) below in_time =
    let first : low ≤ text.after = in_time.0 in (omega arith, in_time.1, in_time.2)

in_time_front : (low seconds n : ℕ) (texts : List TimedText) → InTime low seconds texts → InTime low seconds (take n texts)
in_time_front low seconds zero texts in_time = tt
in_time_front low seconds (suc n) [] in_time = tt
in_time_front low seconds (suc n) (text ∷ texts) in_time =
    (in_time.0, in_time.1, in_time_front text.after seconds n texts in_time.2)

in_time_more : (low begin seconds second : ℕ) (o : Option (List ℕ)) (texts : List TimedText) → low ≤ second
    → InTime (min (second - begin) seconds) seconds texts
    → InTime (min (low - begin) seconds) seconds (cons_option (option_map (λ text. record { after = min (second - begin) seconds; text = text }) o) texts)
in_time_more low begin seconds second None texts below in_time =
    in_time_below (min (second - begin) seconds) (min (low - begin) seconds) seconds texts (omega arith) in_time
in_time_more low begin seconds second (Some text) texts below in_time = (omega arith, omega arith, in_time)

outputs_rise : (low whole begin seconds : ℕ) (facts : List TimedFact) → Rises low whole facts
    → InTime (min (low - begin) seconds) seconds (filter_map (timed_output begin seconds) facts)
outputs_rise low whole begin seconds [] rises = tt
outputs_rise low whole begin seconds (fact ∷ facts) rises =
    in_time_more low begin seconds fact.second (output_of fact.stated) (filter_map (timed_output begin seconds) facts) rises.0
    (outputs_rise fact.second whole begin seconds facts rises.2)

-- The first outputs of a provisioner come in time.
pub outputs_in_time : (low whole begin seconds n : ℕ) (facts : List TimedFact) → Rises low whole facts
    → are_in_time 0 seconds (take n (filter_map (timed_output begin seconds) facts)) ≡ true
outputs_in_time low whole begin seconds n facts rises =
    let texts = filter_map (timed_output begin seconds) facts in
    in_time_is 0 seconds (take n texts)
    (in_time_front 0 seconds n texts
    (in_time_below (min (low - begin) seconds) 0 seconds texts (omega arith) (outputs_rise low whole begin seconds facts rises)))
