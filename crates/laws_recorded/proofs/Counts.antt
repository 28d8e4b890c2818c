-- The script of a recording has no more waits than the recording.
use Rattle.std.proofs.Common.{◌≡◌, ◌∙◌, ◌+◌, ◌≤◌, ℕ, zero, suc, List, [], ◌∷◌, drop, length, map, Option, None, Some, refl, sym, ap, arith}
use Rattle.std.specs.Prelude.{option_and_then, slice_get, sum_by}
use Rattle.std.specs.List.{range_with_len}
use Rattle.std.specs.Option.{option_map_or}
use Rattle.std.proofs.lemmas.List.Sums.{sum_by-cons}
use Rattle.apply_model.specs.declared.plan.step_kind.StepKind.{StepKind}
use Rattle.apply_model.specs.declared.script.script_step.ScriptStep.{ScriptStep}
use Rattle.apply_model.specs.declared.script.wait.Wait.{Wait}
use Rattle.apply_model.specs.Plan.ResourceChange.{ResourceChange}
use Rattle.apply_model.specs.Script.OutcomeMap.{OutcomeMap}
use Rattle.apply_model.specs.Script.Step.{after_of}
use Rattle.stream_record.specs.EvenScript.{steps_at, waits_at}
use Rattle.stream_record.specs.ScriptText.{entry_steps, unless_no_steps}
use Rattle.stream_record_outcomes.specs.declared.recorded_step.RecordedStep.{RecordedStep}
use Rattle.stream_record_waits.specs.declared.step_state.StepState.{StepState}
use Rattle.stream_record_waits.specs.declared.step_state.StepState.TheVariants as state
use Rattle.stream_record_script.specs.Steps.{by_change, first_steps, other_steps, script_step, script_steps}
use Rattle.laws_record.specs.Writable.{waits_in, waits_in_steps, written}

-- ---- the waits of an item

abbrev waits_of : Option ScriptStep → ℕ
waits_of item = option_map_or (λ step. length (after_of step)) item 0

abbrev all_waits : List (Option ScriptStep) → ℕ
all_waits items = sum_by waits_of items

first_item : (item : Option ScriptStep) (items : List (Option ScriptStep)) → all_waits (item ∷ items) ≡ waits_of item + all_waits items
first_item item items = sum_by-cons waits_of item items

item_waits : (state : StepState) (found : Option RecordedStep) (after : List Wait) → waits_of (script_step state found after) ≤ length after
item_waits state.Began None after = omega arith
item_waits state.Began (Some step) after = omega arith
item_waits state.Answered found after = omega arith
item_waits state.Skipped found after = omega arith
item_waits state.Absent found after = omega arith

-- ---- the waits of all items

few_by : (planned : List Wait) (n : ℕ) (ns : List ℕ) (step : Option Wait) → slice_get planned n ≡ step → length (steps_at planned ns) ≤ length ns → length (steps_at planned (n ∷ ns)) ≤ length (n ∷ ns)
few_by planned n ns None is few = rw is (omega (arith, few))
few_by planned n ns (Some wait) is few = rw is (omega (arith, few))

pub few_found : (planned : List Wait) (numbers : List ℕ) → length (steps_at planned numbers) ≤ length numbers
few_found planned [] = omega arith
few_found planned (n ∷ ns) = few_by planned n ns (slice_get planned n) refl (few_found planned ns)

none_left : (n : ℕ) → drop {A = List ℕ} n [] ≡ []
none_left zero = refl
none_left (suc n) = refl

left_at : (waits : List (List ℕ)) (place : ℕ) → length (waits_at waits place) + sum_by length (drop (place + 1) waits) ≡ sum_by length (drop place waits)
left_at [] place = omega (arith, ap (sum_by (length {A = ℕ})) (none_left (place + 1)), ap (sum_by (length {A = ℕ})) (none_left place))
left_at (ns ∷ waits) zero =
    let same : sum_by length (drop (0 + 1) (ns ∷ waits)) ≡ sum_by length waits = refl in
    omega (arith, same, sum_by-cons length ns waits)
left_at (ns ∷ waits) (suc place) =
    let same : suc place + 1 ≡ suc (place + 1) = omega arith in
    ap (λ (n : ℕ). length (waits_at waits place) + sum_by length (drop n (ns ∷ waits))) same ∙ left_at waits place

few_items : (planned : List Wait) (waits : List (List ℕ)) (place : ℕ) (recorded : List (Option RecordedStep)) (states : List StepState)
    → all_waits (script_steps planned waits place recorded states) ≤ sum_by length (drop place waits)
few_items planned waits place [] states = omega arith
few_items planned waits place (found ∷ recorded) [] = omega arith
few_items planned waits place (found ∷ recorded) (now ∷ states) =
    let item = script_step now found (steps_at planned (waits_at waits place)) in
    let items = script_steps planned waits (place + 1) recorded states in
    omega (
      arith,
      first_item item items,
      item_waits now found (steps_at planned (waits_at waits place)),
      few_found planned (waits_at waits place),
      few_items planned waits (place + 1) recorded states,
      left_at waits place,
    )

-- ---- change by change

first_step : (step : ScriptStep) (steps : List ScriptStep) → waits_in_steps (step ∷ steps) ≡ length (after_of step) + waits_in_steps steps
first_step step steps = sum_by-cons (λ (s : ScriptStep). length (after_of s)) step steps

one_change : (kinds : List StepKind) (items : List (Option ScriptStep)) → waits_in_steps (first_steps kinds items) + all_waits (other_steps kinds items) ≡ all_waits items
one_change [] items = let none : waits_in_steps [] ≡ 0 = refl in omega (arith, none)
one_change (kind ∷ kinds) [] = refl
one_change (kind ∷ kinds) (None ∷ items) = omega (arith, one_change kinds items, first_item None items)
one_change (kind ∷ kinds) (Some step ∷ items) =
    omega (arith, one_change kinds items, first_item (Some step) items, first_step step (first_steps kinds items))

few_changes : (changes : List ResourceChange) (items : List (Option ScriptStep)) → sum_by waits_in (by_change changes items) ≤ all_waits items
few_changes [] items = omega arith
few_changes (change ∷ changes) items =
    let first = first_steps change.steps items in
    omega (
      arith,
      one_change change.steps items,
      few_changes changes (other_steps change.steps items),
      sum_by-cons waits_in (Some first) (by_change changes (other_steps change.steps items)),
    )

-- ---- what the text states

unless_none : (o : Option (List ScriptStep)) → waits_in (option_and_then unless_no_steps o) ≡ waits_in o
unless_none None = refl
unless_none (Some []) = refl
unless_none (Some (step ∷ steps)) = refl

abbrev entry_at : Option (Option (List ScriptStep)) → Option (List ScriptStep)
entry_at o = option_and_then unless_no_steps (option_and_then (λ stated. stated) o)

same_waits : (f : ℕ → Option (List ScriptStep)) (first : ℕ) (script : OutcomeMap) → ((k : ℕ) → f (first + k) ≡ entry_at (slice_get script k))
    → sum_by waits_in (map f (range_with_len first (length script))) ≡ sum_by waits_in script
same_waits f first [] is = refl
same_waits f first (stated ∷ script) is =
    let here : first ≡ first + 0 = omega arith in
    let rest = same_waits f (first + 1) script (λ k. let place : first + 1 + k ≡ first + suc k = omega arith in ap f place ∙ is (suc k)) in
    let one : waits_in (f first) ≡ waits_in stated = ap (λ (n : ℕ). waits_in (f n)) here ∙ ap waits_in (is 0) ∙ unless_none stated in
    omega (
      arith,
      rest,
      one,
      sum_by-cons waits_in (f first) (map f (range_with_len (first + 1) (length script))),
      sum_by-cons waits_in stated script,
    )

-- the text of the script states no more waits than were recorded
pub few_waits : (changes : List ResourceChange) (planned : List Wait) (waits : List (List ℕ)) (recorded : List (Option RecordedStep)) (states : List StepState)
    → length (by_change changes (script_steps planned waits 0 recorded states)) ≡ length changes
    → sum_by waits_in (written changes (by_change changes (script_steps planned waits 0 recorded states))) ≤ sum_by length waits
few_waits changes planned waits recorded states many =
    let items = script_steps planned waits 0 recorded states in
    let script = by_change changes items in
    let same = same_waits (entry_steps script) 0 script (λ k. let place : 0 + k ≡ k = omega arith in ap (entry_steps script) place) in
    let text : sum_by waits_in (written changes script) ≡ sum_by waits_in script = ap (λ (n : ℕ). sum_by waits_in (map (entry_steps script) (range_with_len 0 n))) (sym many) ∙ same in
    omega (arith, text, few_changes changes items, few_items planned waits 0 recorded states)

pub few_at : (waits : List (List ℕ)) (n : ℕ) → length (waits_at waits n) ≤ sum_by length waits
few_at [] n = omega arith
few_at (ns ∷ waits) zero = omega (arith, sum_by-cons length ns waits)
few_at (ns ∷ waits) (suc n) = omega (arith, sum_by-cons length ns waits, few_at waits n)
