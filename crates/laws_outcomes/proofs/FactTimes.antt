-- Facts that come in order have, as they are recorded, the seconds at which they came.
use Rattle.std.proofs.Common.{◌≡◌, ◌∙◌, ℕ, ℤ, pos, negsuc, suc, ◌+◌, ◌-◌, ◌<◌, ◌≤◌, ◌+ℤ◌, List, [], ◌∷◌, ◌++◌, Option, None, Some, Bool, ap, arith, cond, le-ltb, lt-ltb, map, refl, ⊎_elim}
use Rattle.std.specs.Prelude.{max, min}
use Rattle.std.specs.Int.{int_gap}
use Rattle.std.specs.Option.{option_map_or}
use Rattle.std.proofs.lemmas.Bool.{cases_lt}
use Rattle.stream_record_steps.specs.declared.begun_step.BegunStep.{BegunStep}
use Rattle.stream_record_steps.specs.declared.step_facts.StepFact.{StepFact}
use Rattle.stream_record_outcomes.specs.Times.{TimedFact, bounded, latest_before, own_fact, rising, timed_facts}
use Rattle.stream_record_outcomes.specs.Took.{progress_of}

-- Progress states its own second, and comes later than all before it. Any other fact comes no
-- earlier.
abbrev pub IsDueAt : (low second : ℕ) → Option ℕ → Type 0
IsDueAt low second None = low ≤ second
IsDueAt low second (Some seconds) = (seconds ≡ second) × (low < second)

-- The facts come in order, none before `low` and none after the whole.
abbrev pub InOrder : (low whole : ℕ) → List TimedFact → Type 0
InOrder low whole [] = low ≤ whole
InOrder low whole (fact ∷ facts) = IsDueAt low fact.second (progress_of fact.stated) × InOrder fact.second whole facts

-- A fact of a step that began at this second.
abbrev pub as_fact : (begin : ℤ) → TimedFact → StepFact
as_fact begin fact = record { second = begin +ℤ pos fact.second; stated = fact.stated }

-- ---- parts

due_low : (low second : ℕ) (o : Option ℕ) → IsDueAt low second o → low ≤ second
due_low low second None due = due
due_low low second (Some seconds) due = let later : low < second = due.1 in omega arith

due_below : (low lower second : ℕ) (o : Option ℕ) → lower ≤ low → IsDueAt low second o → IsDueAt lower second o
due_below low lower second None below due = omega arith
due_below low lower second (Some seconds) below due = let later : low < second = due.1 in (due.0, omega arith)

pub order_low : (low whole : ℕ) (facts : List TimedFact) → InOrder low whole facts → low ≤ whole
order_low low whole [] order = order
order_low low whole (fact ∷ facts) order =
    let first : low ≤ fact.second = due_low low fact.second (progress_of fact.stated) order.0 in
    let rest : fact.second ≤ whole = order_low fact.second whole facts order.1 in omega arith

order_below : (low lower whole : ℕ) (facts : List TimedFact) → lower ≤ low → InOrder low whole facts → InOrder lower whole facts
order_below low lower whole [] below order = omega arith
order_below low lower whole (fact ∷ facts) below order =
    (due_below low lower fact.second (progress_of fact.stated) below order.0, order.1)

pub order_append : (low middle whole : ℕ) (facts others : List TimedFact) → InOrder low middle facts → InOrder middle whole others
    → InOrder low whole (facts ++ others)
order_append low middle whole [] others first second = order_below middle low whole others first second
order_append low middle whole (fact ∷ facts) others first second =
    (first.0, order_append fact.second middle whole facts others first.1 second)

-- ---- seconds

gap_after : (begin : ℤ) (t : ℕ) → int_gap begin (begin +ℤ pos t) ≡ t
gap_after (pos a) t = omega arith
gap_after (negsuc a) t =
    ⊎_elim
    (λ (below : t < suc a).
    let e : a - (suc a - suc t) ≡ t = omega arith in
    ap (λ (b : Bool). int_gap (negsuc a) (cond b (negsuc (suc a - suc t)) (pos (t - suc a)))) (lt-ltb t (suc a) below) ∙ e)
    (λ (above : suc a ≤ t).
    let e : a + 1 + (t - suc a) ≡ t = omega arith in
    ap (λ (b : Bool). int_gap (negsuc a) (cond b (negsuc (suc a - suc t)) (pos (t - suc a)))) (le-ltb t (suc a) above) ∙ e)
    (cases_lt t (suc a))

-- What comes before a fact may come up to its second, or before it.
latest_by : (low whole latest second : ℕ) (o : Option ℕ) → IsDueAt low second o → second ≤ whole → second ≤ latest
    → low ≤ option_map_or (λ seconds. min (seconds - 1) whole) o latest
latest_by low whole latest second None due within later = omega arith
latest_by low whole latest second (Some seconds) due within later =
    let same : seconds ≡ second = due.0 in let after : low < second = due.1 in omega arith

latest_after : (begin : ℤ) (low whole : ℕ) (facts : List TimedFact) → InOrder low whole facts
    → low ≤ latest_before whole (map (as_fact begin) facts)
latest_after begin low whole [] order = order
latest_after begin low whole (fact ∷ facts) order =
    latest_by low whole (latest_before whole (map (as_fact begin) facts)) fact.second (progress_of fact.stated) order.0
    (order_low fact.second whole facts order.1) (latest_after begin fact.second whole facts order.1)

second_by : (low whole latest second gap : ℕ) (o : Option ℕ) → IsDueAt low second o → second ≤ whole → second ≤ latest → gap ≡ second
    → option_map_or (λ seconds. min seconds whole) o (min gap latest) ≡ second
second_by low whole latest second gap None due within later is = omega arith
second_by low whole latest second gap (Some seconds) due within later is =
    let same : seconds ≡ second = due.0 in omega arith

is_bounded : (begin : ℤ) (low whole : ℕ) (facts : List TimedFact) → InOrder low whole facts
    → bounded begin whole (map (as_fact begin) facts) ≡ facts
is_bounded begin low whole [] order = refl
is_bounded begin low whole (fact ∷ facts) order =
    let latest = latest_before whole (map (as_fact begin) facts) in
    let own : (own_fact begin whole latest (as_fact begin fact)).second ≡ fact.second =
    second_by low whole latest fact.second (int_gap begin (begin +ℤ pos fact.second)) (progress_of fact.stated) order.0
    (order_low fact.second whole facts order.1) (latest_after begin fact.second whole facts order.1) (gap_after begin fact.second) in
    ap (λ (n : ℕ). let first : TimedFact = record { second = n; stated = fact.stated } in first ∷ bounded begin whole (map (as_fact begin) facts)) own
    ∙ ap (λ (fs : List TimedFact). fact ∷ fs) (is_bounded begin fact.second whole facts order.1)

is_rising : (low whole : ℕ) (facts : List TimedFact) → InOrder low whole facts → rising low facts ≡ facts
is_rising low whole [] order = refl
is_rising low whole (fact ∷ facts) order =
    let first : low ≤ fact.second = due_low low fact.second (progress_of fact.stated) order.0 in
    let same : max low fact.second ≡ fact.second = omega arith in
    ap (λ (n : ℕ). let first : TimedFact = record { second = n; stated = fact.stated } in first ∷ rising n facts) same
    ∙ ap (λ (fs : List TimedFact). fact ∷ fs) (is_rising fact.second whole facts order.1)

-- Facts in order come, as recorded, when they came.
pub own_times : (whole : ℕ) (begun : BegunStep) (facts : List TimedFact) → InOrder 0 whole facts
    → begun.facts ≡ map (as_fact begun.second) facts → timed_facts whole begun ≡ facts
own_times whole begun facts order are =
    ap (λ (fs : List StepFact). rising 0 (bounded begun.second whole fs)) are
    ∙ ap (rising 0) (is_bounded begun.second 0 whole facts order)
    ∙ is_rising 0 whole facts order
