-- The waits of all steps of a recorded script.
use Rattle.std.specs.Prelude.{◌≡◌, ◌<◌, ◌≤◌, ◌+◌, ℕ, List, [], All, Bool, true, length, option_map, replicate, Option, Some, None, if◌then◌else◌}
use Rattle.std.specs.Borrow.{Bor}
use Rattle.std.specs.declared.alloc.Global.{Global}
use Rattle.std.specs.declared.vec.Vec.{Vec}
use Rattle.stream_record_waits.specs.declared.choices.Choices.{Choices}
use Rattle.stream_record_waits.specs.declared.step_of_plan.StepOfPlan.{StepOfPlan}
use Rattle.stream_record_waits.specs.declared.step_of_plan.StepRun.{StepRun}
use Rattle.stream_record_waits.specs.Behind.{AreBehind}
use Rattle.stream_record_waits.specs.Course.{Basis, pinned_waits}
use Rattle.stream_record_waits.specs.Graph.{AreFirstWaits, AreWaitsOf, count_of, waits_at}
use Rattle.stream_record_waits.specs.Guess.{waits_without_graph}
use Rattle.stream_record_waits.specs.Joined.{joined_by_graph, joined_by_lines}
use Rattle.stream_record_waits.specs.Steps.{is_done_before, lists_in, step_at}

-- The most waits of a recorded script.
abbrev pub max_waits : ℕ
max_waits = 1000000

-- The waits of each step in a graph, where there is one.
abbrev pub graph_in : Option (Bor (List (Vec ℕ Global))) → Option (List (List ℕ))
graph_in graph = option_map (λ lists. lists_in lists.now) graph

-- ---- the waits that are found

-- No wait for so many steps.
abbrev pub no_waits : (count : ℕ) → List (List ℕ)
no_waits count = replicate count []

-- The waits that a graph states, or those that are found without one.
abbrev pub AreFound : (steps : List StepOfPlan) → (graph : Option (List (List ℕ))) → (behind : List (Option ℕ)) → (guesses : Bool) → (after early : List (List ℕ)) → Type 0
AreFound steps None behind guesses after early = (after ≡ waits_without_graph steps behind guesses) × (early ≡ no_waits (length steps))
AreFound steps (Some graph) behind guesses after early = AreFirstWaits steps graph (length steps) after early

-- ---- the waits of steps that a schedule puts back

-- Which steps run in one turn with the step before them.
abbrev pub joined_steps : (steps : List StepOfPlan) → (graph : Option (List (List ℕ))) → (found : List (List ℕ)) → List Bool
joined_steps steps None found = joined_by_lines steps (length steps)
joined_steps steps (Some graph) found = joined_by_graph steps found (length steps)

-- With a graph, steps are put back only where this was chosen.
abbrev pub puts_back : (graph : Option (List (List ℕ))) → Choices → Bool
puts_back None choices = true
puts_back (Some graph) choices = choices.begins

abbrev pub found_basis : (steps : List StepOfPlan) → (graph : Option (List (List ℕ))) → (behind : List (Option ℕ)) → (found : List (List ℕ)) → Basis
found_basis steps graph behind found = record { steps = steps; after = found; joined = joined_steps steps graph found; behind = behind }

-- What each step waits for, and for which steps each began too early.
pub record AreRecordedWaits (steps : List StepOfPlan) (graph : Option (List (List ℕ))) (choices : Choices) (after early : List (List ℕ)) : Type 0 where
  pub behind : List (Option ℕ)
  pub found : List (List ℕ)
  pub are_behind : AreBehind steps behind
  pub are_found : AreFound steps graph behind choices.guesses found early
  pub after_is : after ≡ (if puts_back graph choices then pinned_waits (found_basis steps graph behind found) choices.lanes else found)
  pub one_more : (step : ℕ) → length (waits_at after step) ≤ length (waits_at found step) + 1

-- ---- what holds of all waits

-- Each wait of a step that began was done before it began.
abbrev pub AreDoneBefore : (steps : List StepOfPlan) → (after : List (List ℕ)) → Type 0
AreDoneBefore steps after = (step : ℕ) (run : StepRun) → step < length steps → (step_at steps step).run ≡ Some run
    → All (λ other. is_done_before steps other run.line ≡ true) (waits_at after step)

-- The waits of each step are in order, of steps that there are, and were done before the step
-- began.
pub record AreSoundWaits (steps : List StepOfPlan) (after : List (List ℕ)) : Type 0 where
  pub of_steps : AreWaitsOf (length steps) after
  pub done : AreDoneBefore steps after

-- ---- too many waits

-- The first steps alone have too many waits in the graph.
pub record HasTooManyWaits (steps : List StepOfPlan) (graph : List (List ℕ)) : Type 0 where
  pub count : ℕ
  pub after : List (List ℕ)
  pub early : List (List ℕ)
  pub known : count ≤ length steps
  pub are : AreFirstWaits steps graph count after early
  pub many : max_waits < count_of after early

-- The first steps have too many waits in the graph, or all steps have too many with the waits of
-- those that are put back.
pub data HasTooMany (steps : List StepOfPlan) (graph : Option (List (List ℕ))) (choices : Choices) : Type 0 where
  in_graph : (lists : List (List ℕ)) → graph ≡ Some lists → HasTooManyWaits steps lists → HasTooMany steps graph choices
  in_all : (after early : List (List ℕ)) → AreRecordedWaits steps graph choices after early → max_waits < count_of after early → HasTooMany steps graph choices
