-- What a reader has stored of the entries, for private types.
use Rattle.std.specs.Prelude.{◌≡◌, ◌≢◌, ℕ, ◌+◌, ◌<◌, ◌≤◌, ◌==◌, List, [], ◌∷◌, ◌++◌, All, codes, count_by, find, get_or, length, map, set, true, is_some, IfSome, Option, Some, None, option_map}
use Rattle.std.specs.List.{enumerate_from, list_any}
use Rattle.serde_json.specs.Data.{Data, Members}
use Rattle.serde_json.specs.Find.{get_member}
use Rattle.apply_json.specs.declared.array_presence.ArrayPresence.{ArrayPresence}
use Rattle.apply_json.specs.declared.array_presence.ArrayPresence.TheVariants.{Absent}
use Rattle.apply_json.specs.ShallowView.{items_in, array_presence}
use Rattle.apply_json.specs.Tree.{list_of}
use Rattle.apply_model.specs.declared.script.script_step.ScriptStep.{ScriptStep}
use Rattle.apply_model.specs.Plan.ResourceChange.{ResourceChange}
use Rattle.apply_model.specs.Plan.SavedPlan.{max_changes}
use Rattle.apply_model.specs.Script.Limits.{max_waits}
use Rattle.apply_model.specs.Script.Outcome.{IsBounded}
use Rattle.apply_model.specs.Script.OutcomeMap.{OutcomeMap}
use Rattle.apply_model.specs.Script.Step.{answer_to}
use Rattle.apply_resolve.specs.declared.object_id.ObjectId.{ObjectId}
use Rattle.apply_resolve.specs.declared.change_numbers.ChangeNumbers.{ChangeNumbers}
use Rattle.apply_plan.specs.declared.script.entries.Entries.{Entries}
use Rattle.apply_plan.specs.declared.script.script_error.ScriptError.TheVariants.{Memory}
use Rattle.apply_plan.specs.declared.script.script_slots.ScriptSlots.{ScriptSlots}
use Rattle.apply_plan.specs.ListReading.{items_of, made_after}
use Rattle.apply_resolve.specs.ObjectIds.{is_of}
use Rattle.apply_plan.specs.Results.{unless_refused}
use Rattle.apply_resolve.specs.ChangeNumbers.{number_of}
use Rattle.apply_plan.specs.Script.NextEntry.{count_waits, entry_after}
use Rattle.apply_plan.specs.Script.OutcomeMap.{ResolvedEntry, by_number, outcomes_of}
use Rattle.apply_resolve.specs.Placed.{ArePlaced}

-- the outcomes of each change have a property
abbrev pub AllResolved : (List ScriptStep → Type 0) → List ResolvedEntry → Type 0
AllResolved P made = (number : ℕ) → IfSome (outcomes_of made number) P

-- the outcome of a step is within the limits
abbrev pub IsWithin : ScriptStep → Type 0
IsWithin step = IfSome (answer_to step) IsBounded

-- the outcomes after n entries are those of the resolved entries
pub record HasResolved (changes : List ResourceChange) (outcomes : OutcomeMap) (waits n : ℕ) (made : List ResolvedEntry) : Type 0 where
  pub count : length made ≡ n
  pub waits_are : count_waits made ≡ waits
  pub outcomes_are : outcomes ≡ by_number (length changes) made
  pub counted : count_by is_some outcomes ≡ n
  pub in_range : AllResolved (All IsWithin) made
  pub placed : AllResolved (ArePlaced (length changes)) made

-- an entry as its reader stores it: its change, and how many steps it states
abbrev pub step_count_of : ResolvedEntry → ℕ × ℕ
step_count_of entry = (entry.change, length entry.steps)

-- the stored entries are those that were resolved
pub record HasStepCounts (n : ℕ) (step_counts : List (ℕ × ℕ)) (made : List ResolvedEntry) : Type 0 where
  pub counts_are : step_counts ≡ map step_count_of made
  pub within : All (λ entry. (entry.0 < n) × (entry.1 ≤ 2)) step_counts

-- the numbers are those of the changes, by their objects
abbrev pub AreNumbersOf : ChangeNumbers → List ResourceChange → Type 0
AreNumbersOf numbers changes =
    (id : ObjectId) → number_of numbers id ≡ option_map (λ p. p.0) (find (λ p. is_of id p.1) (enumerate_from 0 changes))

-- `entries` has the outcomes of these elements, up to the first fault; after `Memory` nothing is
-- stated of them
pub record HoldsEntries (entries : Entries) (ds : List Data) : Type 0 where
  pub made : List ResolvedEntry
  pub few_changes : length entries.plan.now.changes ≤ max_changes
  pub numbered : AreNumbersOf entries.numbers entries.plan.now.changes
  pub outcomes : HasResolved entries.plan.now.changes entries.outcomes.items entries.waits (length entries.step_counts.items) made
  pub step_counts : HasStepCounts (length entries.plan.now.changes) entries.step_counts.items made
  pub few : entries.waits ≤ max_waits
  pub so_far : entries.fault ≢ Some Memory → made_after (entry_after entries.plan.now.changes) [] (items_of ds) ≡ unless_refused entries.fault made

-- `new` is `old` with one entry more
pub record StoresOneMore (old : Entries) (change : ℕ) (steps : List ScriptStep) (more : ℕ) (new : Entries) : Type 0 where
  pub plan : new.plan ≡ old.plan
  pub numbers : new.numbers ≡ old.numbers
  pub outcomes : new.outcomes.items ≡ set old.outcomes.items change (Some steps)
  pub step_counts : new.step_counts.items ≡ old.step_counts.items ++ (change, length steps) ∷ []
  pub waits : new.waits ≡ old.waits + more
  pub fault : new.fault ≡ old.fault

-- each change with outcomes has a stored entry
pub record AreCovered (outcomes : OutcomeMap) (step_counts : List (ℕ × ℕ)) : Type 0 where
  pub within : All (λ entry. (entry.0 < length outcomes) × (entry.1 ≤ 2)) step_counts
  pub covered : (number : ℕ) → number < length outcomes → is_some (get_or outcomes number None) ≡ true → list_any (λ entry. entry.0 == number) step_counts ≡ true

-- whether the member `changes` is an array
abbrev pub kind_of : Option Data → ArrayPresence
kind_of None = Absent
kind_of (Some d) = array_presence d

abbrev pub entries_in : Option Data → List Data
entries_in None = []
entries_in (Some d) = list_of (items_in d)

-- the slots of the top level hold what the members state
pub record HoldsScript (slots : ScriptSlots) (ms : Members) : Type 0 where
  pub kind : slots.changes ≡ kind_of (get_member (codes "changes") ms)
  pub entries : HoldsEntries slots.entries (entries_in (get_member (codes "changes") ms))
