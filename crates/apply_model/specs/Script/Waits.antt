-- The steps that each step waits for (the script's own format).
use Rattle.std.specs.Prelude.{ℕ, zero, suc, ◌*◌, List, [], ◌∷◌, Bool, false, length, nat_lt, Option}
use Rattle.std.specs.List.{list_all, list_any}
use Rattle.std.specs.Option.{option_map_or}
use Rattle.apply_model.specs.declared.script.outcome.Outcome.{Outcome}
use Rattle.apply_model.specs.declared.script.script_step.ScriptStep.{ScriptStep}
use Rattle.apply_model.specs.declared.script.wait.Wait.{Wait}
use Rattle.apply_model.specs.Script.OutcomeMap.{OutcomeMap, stated_step, outcome_of}
use Rattle.apply_model.specs.Script.Step.{after_of, answer_to}

-- ---- what steps wait for

-- The steps that step k of change c waits for: the step before it in its change, and the steps that
-- its outcome names. A skipped step has no outcome, so the steps that it names have no effect here.
abbrev pub waits_of : OutcomeMap → (c k : ℕ) → List Wait
waits_of script c zero = (outcome_of script c zero).after
waits_of script c (suc k) = record { change = c; step = k } ∷ (outcome_of script c (suc k)).after

-- The steps that the script names in `after` of step k of change c, whether or not that step is
-- skipped.
abbrev pub named_for : OutcomeMap → (c k : ℕ) → List Wait
named_for script c k = option_map_or after_of (stated_step script c k) []

-- The steps that step k of change c waits for by the text of the script, whether or not it is
-- skipped: the step before it in its change, and the steps named in `after`.
abbrev pub stated_waits : OutcomeMap → (c k : ℕ) → List Wait
stated_waits script c zero = named_for script c zero
stated_waits script c (suc k) = record { change = c; step = k } ∷ named_for script c (suc k)

-- ---- what could begin

-- Step k of change c begins within so many rounds. No step begins within 0 rounds. A step begins
-- within one round more if each step of its `stated_waits` begins within the rounds before.
unfoldable pub begins_within : OutcomeMap → (rounds c k : ℕ) → Bool
begins_within script zero c k = false
begins_within script (suc rounds) c k =
    list_all (λ wait. begins_within script rounds wait.change wait.step) (stated_waits script c k)

-- Step k of change c could begin. These steps form the least set that contains each step whose
-- `stated_waits` all lie in the set. A search needs no more rounds than there are steps, and a
-- change has at most two.
abbrev pub could_begin : OutcomeMap → (c k : ℕ) → Bool
could_begin script c k = begins_within script (2 * length script) c k

-- ---- whether a script has waits

-- The outcome names a step to wait for.
abbrev pub names_a_wait : Outcome → Bool
names_a_wait outcome = nat_lt 0 (length outcome.after)

-- The step is not skipped, and its outcome names a step to wait for.
abbrev pub has_a_wait : ScriptStep → Bool
has_a_wait step = option_map_or names_a_wait (answer_to step) false

-- One of the stated steps of a change is not skipped and names a step to wait for.
abbrev pub states_a_wait : Option (List ScriptStep) → Bool
states_a_wait stated = option_map_or (list_any has_a_wait) stated false

-- The outcome of some step names a step to wait for.
abbrev pub has_waits : OutcomeMap → Bool
has_waits script = list_any states_a_wait script
