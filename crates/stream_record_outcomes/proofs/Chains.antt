-- Provisioners run one after another.
use Rattle.std.proofs.Common.{◌≡◌, ℕ, zero, suc, ◌+◌, ◌-◌, ◌≤◌, ◌++◌, List, [], ◌∷◌, Option, None, Some, Bool, true, false, ap, arith, length, reverse, subst, sym}
use Rattle.std.specs.Prelude.{All, if◌then◌else◌, slice_get, sum_by}
use Rattle.std.specs.List.{before_first, find, position_or_len}
use Rattle.std.specs.Option.{option_map_or}
use Rattle.std.proofs.lemmas.Grind.{reverse_onto}
use Rattle.std.proofs.lemmas.List.Elements.{All-cons}
use Rattle.std.proofs.lemmas.List.Sums.{sum_by-cons}
use Rattle.stream_record_steps.specs.declared.step_facts.Stated.{Stated}
use Rattle.stream_record_steps.specs.declared.step_facts.Stated.TheVariants.{Progress, ProvisionerBegan, Wrote, ProvisionerEnded, ProvisionerFailed}
use Rattle.stream_record_outcomes.specs.Outcome.{last_until}
use Rattle.stream_record_outcomes.specs.Provisioners.{ProvisionerRun, begins, end_second, ends_one, runs_in, seconds_of_run, until_of}
use Rattle.stream_record_outcomes.specs.Times.{TimedFact}
use Rattle.stream_record_outcomes.proofs.Rising.{Rises, rises_below, rises_front}

-- Each provisioner begins no earlier than the one before it ended, the first not before `low`, and
-- none runs longer than the whole.
abbrev pub Chain : (low whole : ℕ) → List ProvisionerRun → Type 0
Chain low whole [] = Unit {0}
Chain low whole (run ∷ runs) = (low ≤ run.begin) × (run.begin ≤ run.until) × (run.until ≤ whole) × Chain run.until whole runs

chain_below : (low lower whole : ℕ) (runs : List ProvisionerRun) → lower ≤ low → Chain low whole runs → Chain lower whole runs
chain_below low lower whole [] below chain = tt
chain_below low lower whole (run ∷ runs) below chain =
    let first : low ≤ run.begin = chain.0 in (omega arith, chain.1, chain.2, chain.3)

-- The seconds of all provisioners lie before the end of the last one.
pub chain_sum : (low whole : ℕ) (runs : List ProvisionerRun) → Chain low whole runs → low + sum_by seconds_of_run runs ≤ last_until low runs
chain_sum low whole [] chain = omega arith
chain_sum low whole (run ∷ runs) chain =
    let first : low ≤ run.begin = chain.0 in
    let later : run.begin ≤ run.until = chain.1 in
    let rest : run.until + sum_by seconds_of_run runs ≤ last_until run.until runs = chain_sum run.until whole runs chain.3 in
    omega (arith, sum_by-cons seconds_of_run run runs)

pub chain_last : (low whole : ℕ) (runs : List ProvisionerRun) → low ≤ whole → Chain low whole runs → last_until low runs ≤ whole
chain_last low whole [] below chain = below
chain_last low whole (run ∷ runs) below chain = chain_last run.until whole runs chain.2 chain.3

last_until_nth : (before : ℕ) (runs : List ProvisionerRun) (n : ℕ) (run : ProvisionerRun) → suc n ≡ length runs → Some run ≡ slice_get runs n
    → last_until before runs ≡ run.until
last_until_nth before [] n run last is = absurd (omega arith)
last_until_nth before (first ∷ []) zero run last is = let e : run ≡ first = cc in ap (λ (r : ProvisionerRun). r.until) (sym e)
last_until_nth before (first ∷ next ∷ runs) zero run last is = absurd (omega arith)
last_until_nth before (first ∷ rest) (suc n) run last is = last_until_nth first.until rest n run (omega arith) is

-- The last provisioner ended last.
pub last_until_at : (before : ℕ) (runs : List ProvisionerRun) (run : ProvisionerRun) → Some run ≡ slice_get runs (length runs - 1) → last_until before runs ≡ run.until
last_until_at before [] run is = cc
last_until_at before (first ∷ rest) run is = last_until_nth before (first ∷ rest) (length (first ∷ rest) - 1) run (omega arith) is

-- ---- facts between two seconds

abbrev AreBetween : (low whole : ℕ) → List TimedFact → Type 0
AreBetween low whole [] = Unit {0}
AreBetween low whole (fact ∷ facts) = (low ≤ fact.second) × (fact.second ≤ whole) × AreBetween low whole facts

rise_between : (low lower whole : ℕ) (facts : List TimedFact) → lower ≤ low → Rises low whole facts → AreBetween lower whole facts
rise_between low lower whole [] below rises = tt
rise_between low lower whole (fact ∷ facts) below rises =
    let first : low ≤ fact.second = rises.0 in
    (omega arith, rises.1, rise_between fact.second lower whole facts (omega arith) rises.2)

between_append : (low whole : ℕ) (facts others : List TimedFact) → AreBetween low whole facts → AreBetween low whole others
    → AreBetween low whole (facts ++ others)
between_append low whole [] others between rest = rest
between_append low whole (fact ∷ facts) others between rest =
    (between.0, between.1, between_append low whole facts others between.2 rest)

between_reverse : (low whole : ℕ) (facts : List TimedFact) → AreBetween low whole facts → AreBetween low whole (reverse facts)
between_reverse low whole [] between = tt
between_reverse low whole (fact ∷ facts) between =
    subst (λ (fs : List TimedFact). AreBetween low whole fs) (sym (reverse_onto facts fact []))
    (between_append low whole (reverse facts) (fact ∷ []) (between_reverse low whole facts between.2) (between.0, between.1, tt))

between_found : (low whole : ℕ) (p : TimedFact → Bool) (facts : List TimedFact) → low ≤ whole → AreBetween low whole facts
    → (low ≤ option_map_or (λ found. found.second) (find p facts) whole) × (option_map_or (λ found. found.second) (find p facts) whole ≤ whole)
between_found low whole p [] below between = (below, omega arith)
between_found low whole p (fact ∷ facts) below between =
    elim (p fact) as (λ (b : Bool). let o : Option TimedFact = if b then Some fact else find p facts in
    (low ≤ option_map_or (λ found. found.second) o whole) × (option_map_or (λ found. found.second) o whole ≤ whole)) [
      | true ↦ (between.0, between.1)
      | false ↦ between_found low whole p facts below between.2
    ]

-- ---- provisioners among facts

-- When the first provisioner begins.
abbrev first_begin : (whole : ℕ) → List TimedFact → ℕ
first_begin whole facts = option_map_or (λ next. next.second) (find begins facts) whole

until_between : (low whole end : ℕ) (to_own_end : Bool) (o : Option TimedFact) → low ≤ whole → low ≤ end → end ≤ whole
    → low ≤ option_map_or (λ next. next.second) o whole
    → (low ≤ option_map_or (λ next. next.second) o (if to_own_end then end else whole))
    × (option_map_or (λ next. next.second) o (if to_own_end then end else whole) ≤ option_map_or (λ next. next.second) o whole)
until_between low whole end true None below after before first = (after, before)
until_between low whole end false None below after before first = (below, omega arith)
until_between low whole end to_own_end (Some next) below after before first = (first, omega arith)

until_within : (low whole : ℕ) (to_own_end : Bool) (facts : List TimedFact) → low ≤ whole → Rises low whole facts
    → (low ≤ until_of to_own_end whole facts) × (until_of to_own_end whole facts ≤ first_begin whole facts)
until_within low whole to_own_end facts below rises =
    let between : AreBetween low whole facts = rise_between low low whole facts (omega arith) rises in
    let end = between_found low whole (λ fact. ends_one fact.stated) (reverse facts) below (between_reverse low whole facts between) in
    until_between low whole (end_second whole facts) to_own_end (find begins facts) below end.0 end.1
    (between_found low whole begins facts below between).0

chain_more : (to_own_end : Bool) (whole second : ℕ) (stated : Stated) (facts : List TimedFact) → second ≤ whole → Rises second whole facts
    → Chain (first_begin whole facts) whole (runs_in to_own_end whole facts)
    → let all : List TimedFact = record { second = second; stated = stated } ∷ facts in Chain (first_begin whole all) whole (runs_in to_own_end whole all)
chain_more to_own_end whole second (Progress seconds) facts below rises chain = chain
chain_more to_own_end whole second (ProvisionerBegan name) facts below rises chain =
    let until = until_within second whole to_own_end facts below rises in
    let last = between_found second whole begins facts below (rise_between second second whole facts (omega arith) rises) in
    let before : until_of to_own_end whole facts ≤ first_begin whole facts = until.1 in
    let within : first_begin whole facts ≤ whole = last.1 in (
      omega arith,
      until.0,
      omega arith,
      chain_below (first_begin whole facts) (until_of to_own_end whole facts) whole (runs_in to_own_end whole facts) before chain,
    )
chain_more to_own_end whole second (Wrote output) facts below rises chain = chain
chain_more to_own_end whole second ProvisionerEnded facts below rises chain = chain
chain_more to_own_end whole second ProvisionerFailed facts below rises chain = chain

runs_chain : (to_own_end : Bool) (low whole : ℕ) (facts : List TimedFact) → Rises low whole facts
    → Chain (first_begin whole facts) whole (runs_in to_own_end whole facts)
runs_chain to_own_end low whole [] rises = tt
runs_chain to_own_end low whole (fact ∷ facts) rises =
    chain_more to_own_end whole fact.second fact.stated facts rises.1 rises.2 (runs_chain to_own_end fact.second whole facts rises.2)

pub runs_in_chain : (to_own_end : Bool) (whole : ℕ) (facts : List TimedFact) → Rises 0 whole facts → Chain 0 whole (runs_in to_own_end whole facts)
runs_in_chain to_own_end whole facts rises =
    chain_below (first_begin whole facts) 0 whole (runs_in to_own_end whole facts) (omega arith) (runs_chain to_own_end 0 whole facts rises)

-- ---- the facts of each provisioner

-- The facts of the provisioner come in order.
abbrev pub HasRising : (whole : ℕ) → ProvisionerRun → Type 0
HasRising whole run = Rises 0 whole run.facts

rising_more : (to_own_end : Bool) (whole second : ℕ) (stated : Stated) (facts : List TimedFact) → Rises second whole facts
    → All (HasRising whole) (runs_in to_own_end whole facts)
    → let all : List TimedFact = record { second = second; stated = stated } ∷ facts in All (HasRising whole) (runs_in to_own_end whole all)
rising_more to_own_end whole second (Progress seconds) facts rises all = all
rising_more to_own_end whole second (ProvisionerBegan name) facts rises all =
    All-cons (HasRising whole)
    (record { name = name; begin = second; until = until_of to_own_end whole facts; facts = before_first begins facts })
    (runs_in to_own_end whole facts)
    (rises_front 0 whole (position_or_len begins facts) facts (rises_below second 0 whole facts (omega arith) rises)) all
rising_more to_own_end whole second (Wrote output) facts rises all = all
rising_more to_own_end whole second ProvisionerEnded facts rises all = all
rising_more to_own_end whole second ProvisionerFailed facts rises all = all

pub runs_rising : (to_own_end : Bool) (low whole : ℕ) (facts : List TimedFact) → Rises low whole facts
    → All (HasRising whole) (runs_in to_own_end whole facts)
runs_rising to_own_end low whole [] rises = λ k d below. absurd (omega arith)
runs_rising to_own_end low whole (fact ∷ facts) rises =
    rising_more to_own_end whole fact.second fact.stated facts rises.2 (runs_rising to_own_end fact.second whole facts rises.2)
