-- A script may be written if its waits are ranked, and the first step of each change is stated.
use Rattle.std.proofs.Common.{◌≡◌, ◌∙◌, ◌+◌, ◌-◌, ◌<◌, ◌≤◌, ℕ, suc, Bool, true, false, cond, List, [], drop, length, Option, None, Some, refl, sym, ap, arith, subst, ◌⊎◌, inl, inr, ⊎_elim}
use Rattle.std.specs.Prelude.{IfSome, is_some, option_and_then, option_map, slice_get, sum_by}
use Rattle.std.specs.List.{AllByRecursion, Contains}
use Rattle.std.proofs.lemmas.Bool.{lt-ltb, ne_eqb}
use Rattle.std.proofs.lemmas.List.{length-map}
use Rattle.std.proofs.lemmas.List.FromFn.{length-map-range_with_len}
use Rattle.std.proofs.lemmas.Option.{slice_get_within, unwrap_or-slice_get}
use Rattle.apply_model.specs.declared.plan.step_kind.StepKind.{StepKind}
use Rattle.apply_model.specs.declared.script.script_step.ScriptStep.{ScriptStep}
use Rattle.apply_model.specs.declared.script.script_step.ScriptStep.TheVariants.{Answered, Skipped}
use Rattle.apply_model.specs.declared.script.wait.Wait.{Wait}
use Rattle.apply_model.specs.Plan.ResourceChange.{ResourceChange}
use Rattle.apply_model.specs.Script.Limits.{max_waits}
use Rattle.apply_model.specs.Script.OutcomeMap.{stated_step}
use Rattle.apply_model.specs.Script.Step.{after_of, answer_to}
use Rattle.apply_model.specs.Script.Waits.{could_begin, named_for}
use Rattle.apply_plan.specs.Script.Refusals.{misplaces_provisioners, warns_not_a_read}
use Rattle.stream_record.specs.EvenScript as even
use Rattle.stream_record.specs.EvenScript.{even_step, steps_at}
use Rattle.stream_record.specs.ScriptText.{entry_steps, unless_no_steps, waited_change, with_step}
use Rattle.stream_record_outcomes.specs.declared.recorded_step.RecordedStep.{RecordedStep}
use Rattle.stream_record_outcomes.specs.Recording.{AreAllowed}
use Rattle.stream_record_steps.specs.Steps.{PlannedStep, planned_steps}
use Rattle.stream_record_waits.specs.declared.step_state.StepState.{StepState}
use Rattle.stream_record_waits.specs.declared.step_state.StepState.TheVariants as state
use Rattle.stream_record_waits.specs.Graph.{waits_at}
use Rattle.stream_record_script.specs.Steps.{first_steps, script_of, script_step, script_steps}
use Rattle.laws_recorded.specs.Graphs.{IsRankedGraph}
use Rattle.laws_recorded.specs.Texts.{IsWritableRecording}
use Rattle.laws_record.proofs.Whole.{same_step}
use Rattle.laws_record.specs.Writable.{HasStep, IsWritable, IsWritableChange, IsWritableEntry, IsWritableStep, NamesEachObjectOnce, written}
use Rattle.laws_recorded.proofs.Counts.{few_at, few_found, few_waits}
use Rattle.laws_recorded.proofs.Items.{as_many_changes, change_steps, few_steps, item_in, step_item}
use Rattle.laws_recorded.proofs.Outcomes.{only_reads, outcome_at, outcome_is, well_placed}
use Rattle.laws_recorded.proofs.Places.{IsOfChange, at_most_two, base, planned_at, stands_from}
use Rattle.laws_recorded.proofs.Planned.{of_number, same_planned, wait_at, wait_of, waited}
use Rattle.laws_recorded.proofs.Ranked.{WaitsLower, could}
use Rattle.laws_recorded.proofs.Stated.{all_pointwise, at_all, entries_from, item_there, named_in, none_passes, stated_in, unless_none_is}

-- ---- what an item is

-- how the step of a state is stated
abbrev IsStatedAs : Option RecordedStep → List Wait → ScriptStep → Type 0
IsStatedAs found after step =
    ((one : RecordedStep) × (found ≡ Some one) × (step ≡ Answered (record one.outcome { after = after })))
    ⊎ ((step ≡ even_step after) ⊎ (step ≡ Skipped after))

stated_as : (now : StepState) (found : Option RecordedStep) (after : List Wait) (step : ScriptStep) → Some step ≡ script_step now found after → IsStatedAs found after step
stated_as state.Began None after step is = absurd cc
stated_as state.Began (Some one) after step is = let same : step ≡ Answered (record one.outcome { after = after }) = cc in inl (one, refl, same)
stated_as state.Answered found after step is = let same : step ≡ even_step after = cc in inr (inl same)
stated_as state.Skipped found after step is = let same : step ≡ Skipped after = cc in inr (inr same)
stated_as state.Absent found after step is = absurd cc

even_is_writable : (after : List Wait) → length after ≤ max_waits → IsWritableStep (even_step after)
even_is_writable after few = record {
  bounded = record { short = omega arith; few_provisioners = omega arith; little_output = λ k d less. absurd (omega arith); few_waits = few };
  ending = (tt, tt);
  provisioners = tt;
  alone = λ fails. refl;
}

-- ---- the script

-- the waits of the step at a place
abbrev pub waits_for : List ResourceChange → (after : List (List ℕ)) → (place : ℕ) → List Wait
waits_for changes after place = steps_at (even.planned_steps changes) (even.waits_at after place)

-- an item for each step of the plan
abbrev pub items_of : List ResourceChange → List (Option RecordedStep) → List StepState → (after : List (List ℕ)) → List (Option ScriptStep)
items_of changes recorded states after = script_steps (even.planned_steps changes) after 0 recorded states

-- the first step of each change is stated
abbrev pub AreFirstStated : List ResourceChange → List (Option ScriptStep) → Type 0
AreFirstStated changes items =
    (c : ℕ) (change : ResourceChange) → slice_get changes c ≡ Some change → 0 < length change.steps → slice_get items (base changes c) ≡ Some None → ⊥

module _ (changes : List ResourceChange) (each : AllByRecursion IsWritableChange changes) (once : NamesEachObjectOnce changes)
    (recorded : List (Option RecordedStep)) (states : List StepState) (allowed : AreAllowed (planned_steps changes) recorded) (writable : AllByRecursion IsWritableRecording recorded)
    (after : List (List ℕ)) (few : sum_by length after ≤ max_waits) (ranks : IsRankedGraph (planned_steps changes) after)
    (first_there : AreFirstStated changes (items_of changes recorded states after)) where
  few_for : (place : ℕ) → length (waits_for changes after place) ≤ max_waits
  few_for place = omega (arith, few_found (even.planned_steps changes) (even.waits_at after place), few_at after place, few)

  few_kinds : (c : ℕ) (change : ResourceChange) → slice_get changes c ≡ Some change → length change.steps ≤ 2
  few_kinds c change at = (at_all IsWritableChange changes c change each at).few

  -- ---- items

  -- the step of a change at k is the item at its place
  pub record IsStep (c k : ℕ) (change : ResourceChange) (step : ScriptStep) : Type 0 where
    pub less : k < length change.steps
    pub own : PlannedStep
    pub own_at : slice_get (planned_steps changes) (base changes c + k) ≡ Some own
    pub of : IsOfChange change c 0 (base changes c) change.steps k own
    pub found : Option RecordedStep
    pub found_at : slice_get recorded (base changes c + k) ≡ Some found
    pub stated : IsStatedAs found (waits_for changes after (base changes c + k)) step

  step_of : (c k : ℕ) (change : ResourceChange) (step : ScriptStep) → slice_get changes c ≡ Some change
      → slice_get (first_steps change.steps (drop (base changes c) (items_of changes recorded states after))) k ≡ Some step
      → IsStep c k change step
  step_of c k change step at has =
      let here = step_item changes (items_of changes recorded states after) c k change step
      (few_kinds c change at) (first_there c change at) has in
      let item = item_in (even.planned_steps changes) after 0 recorded states (base changes c + k) (Some step) here.1 in
      let kind = item_there change.steps k here.0 in
      let own = planned_at changes 0 0 c k change kind.0 at kind.1 in
      let numbered : 0 + c ≡ c = omega arith in
      let placed : 0 + base changes c ≡ base changes c = omega arith in
      let item_place : 0 + (base changes c + k) ≡ base changes c + k = omega arith in record {
        less = here.0;
        own = own.0;
        own_at = own.1;
        of = subst (λ (p : ℕ). IsOfChange change c 0 p change.steps k own.0) placed (subst (λ (n : ℕ). IsOfChange change n 0 (0 + base changes c) change.steps k own.0) numbered own.2);
        found = item.found;
        found_at = item.found_at;
        stated =
            stated_as item.state item.found (waits_for changes after (base changes c + k)) step
            (item.is ∙ ap (λ (p : ℕ). script_step item.state item.found (waits_for changes after p)) item_place);
      }

  -- ---- one step

  same_after : (c k : ℕ) (change : ResourceChange) (step : ScriptStep) → IsStep c k change step → after_of step ≡ waits_for changes after (base changes c + k)
  same_after c k change step is = ⊎_elim
      (λ (answer : (one : RecordedStep) × (is.found ≡ Some one) × (step ≡ Answered (record one.outcome { after = waits_for changes after (base changes c + k) }))).
      ap after_of answer.2)
      (λ (other : (step ≡ even_step (waits_for changes after (base changes c + k))) ⊎ (step ≡ Skipped (waits_for changes after (base changes c + k)))). ⊎_elim
      (λ (plain : step ≡ even_step (waits_for changes after (base changes c + k))). ap after_of plain)
      (λ (skipped : step ≡ Skipped (waits_for changes after (base changes c + k))). ap after_of skipped)
      other)
      is.stated

  -- what holds of a step, by how it is stated
  by_state : (P : ScriptStep → Type 0) (c k : ℕ) (change : ResourceChange) (step : ScriptStep) (is : IsStep c k change step)
      → ((one : RecordedStep) → slice_get recorded (base changes c + k) ≡ Some (Some one) → P (Answered (record one.outcome { after = waits_for changes after (base changes c + k) })))
      → P (even_step (waits_for changes after (base changes c + k)))
      → P (Skipped (waits_for changes after (base changes c + k))) → P step
  by_state P c k change step is on_answer on_plain on_skipped = ⊎_elim
      (λ (answer : (one : RecordedStep) × (is.found ≡ Some one) × (step ≡ Answered (record one.outcome { after = waits_for changes after (base changes c + k) }))).
      subst P (sym answer.2) (on_answer answer.0 (is.found_at ∙ ap (λ (o : Option RecordedStep). Some o) answer.1)))
      (λ (other : (step ≡ even_step (waits_for changes after (base changes c + k))) ⊎ (step ≡ Skipped (waits_for changes after (base changes c + k)))). ⊎_elim
      (λ (plain : step ≡ even_step (waits_for changes after (base changes c + k))). subst P (sym plain) on_plain)
      (λ (skipped : step ≡ Skipped (waits_for changes after (base changes c + k))). subst P (sym skipped) on_skipped)
      other)
      is.stated

  step_is_writable : (c k : ℕ) (change : ResourceChange) (step : ScriptStep) → IsStep c k change step → IsWritableStep step
  step_is_writable c k change step is =
      let place = base changes c + k in
      by_state IsWritableStep c k change step is
      (λ one at. outcome_is one.outcome (waits_for changes after place) (few_for place) (outcome_at recorded place one writable at))
      (even_is_writable (waits_for changes after place) (few_for place))
      tt

  -- the kind of the step
  kind_is : (c k : ℕ) (change : ResourceChange) (step : ScriptStep) (kind : StepKind) (is : IsStep c k change step) → slice_get change.steps k ≡ Some kind → is.own.kind ≡ kind
  kind_is c k change step kind is at = let both : Some is.own.kind ≡ Some kind = sym is.of.kind_at ∙ at in cc

  is_well_placed : (c k : ℕ) (change : ResourceChange) (step : ScriptStep) (kind : StepKind) → IsStep c k change step → slice_get change.steps k ≡ Some kind
      → misplaces_provisioners (is_some change.deposed) ((0 + k, kind), answer_to step) ≡ false
  is_well_placed c k change step kind is at =
      let place = base changes c + k in
      by_state (λ (s : ScriptStep). misplaces_provisioners (is_some change.deposed) ((0 + k, kind), answer_to s) ≡ false) c k change step is
      (λ one has.
      let here = waits_for changes after place in
      let well = well_placed is.own one.outcome (allowed place is.own one is.own_at has) (0 + k) here is.of.number_is in
      ap (λ (ki : StepKind). misplaces_provisioners (is_some change.deposed) ((0 + k, ki), Some (record one.outcome { after = here }))) (sym (kind_is c k change step kind is at))
      ∙ ap (λ (ch : ResourceChange). misplaces_provisioners (is_some ch.deposed) ((0 + k, is.own.kind), Some (record one.outcome { after = here }))) (sym is.of.change_is)
      ∙ well)
      refl refl

  only_reads_warn : (c k : ℕ) (change : ResourceChange) (step : ScriptStep) (kind : StepKind) → IsStep c k change step → slice_get change.steps k ≡ Some kind
      → warns_not_a_read ((0 + k, kind), answer_to step) ≡ false
  only_reads_warn c k change step kind is at =
      let place = base changes c + k in
      by_state (λ (s : ScriptStep). warns_not_a_read ((0 + k, kind), answer_to s) ≡ false) c k change step is
      (λ one has.
      let here = waits_for changes after place in
      ap (λ (ki : StepKind). warns_not_a_read ((0 + k, ki), Some (record one.outcome { after = here }))) (sym (kind_is c k change step kind is at))
      ∙ only_reads is.own one.outcome (allowed place is.own one is.own_at has) (0 + k) here)
      refl refl

  -- ---- the steps that are waited for

  -- the plan has each planned step
  has_planned : (place : ℕ) (wait : Wait) → slice_get (even.planned_steps changes) place ≡ Some wait → HasStep changes wait
  has_planned place wait at =
      let step = waited changes place wait at in
      let stands = stands_from changes 0 0 place step.0 step.1 in
      let number : wait.change ≡ stands.c = let one = stands.change_number_is in let two : wait.change ≡ step.0.change_number = ap (λ (w : Wait). w.change) step.2 in omega (arith, one, two) in
      let numbered : wait.step ≡ stands.k = ap (λ (w : Wait). w.step) step.2 ∙ stands.number_is in
      let less = slice_get_within step.0.change.steps stands.k step.0.kind stands.kind_at in
      let below : wait.step < length step.0.change.steps = omega (arith, less, numbered) in
      let there : waited_change changes wait ≡ Some step.0.change =
      ap (option_and_then (with_step wait.step)) (ap (slice_get changes) number ∙ stands.change_at)
      ∙ ap (λ (b : Bool). cond b (Some step.0.change) None) (lt-ltb wait.step (length step.0.change.steps) below) in
      ap is_some there

  has_waits : (place : ℕ) → AllByRecursion (HasStep changes) (waits_for changes after place)
  has_waits place = all_pointwise (HasStep changes) (waits_for changes after place) (λ m wait at.
      let one = of_number (even.planned_steps changes) (even.waits_at after place) m wait at in has_planned one.0 wait one.2)

  -- ---- each step could begin

  stated_at : (c k : ℕ) (change : ResourceChange) (step : ScriptStep) → slice_get changes c ≡ Some change
      → stated_step (script_of changes recorded states after) c k ≡ Some step → IsStep c k change step
  stated_at c k change step at has =
      let its = items_of changes recorded states after in
      step_of c k change step at
      (sym (ap (λ (o : Option (Option (List ScriptStep))). option_and_then (λ ss. slice_get ss k) (option_and_then (λ stated. stated) o)) (change_steps changes its c change at)) ∙ has)

  waits_lower : (place : ℕ) (step : Wait) → slice_get (even.planned_steps changes) place ≡ Some step
      → WaitsLower (written changes (script_of changes recorded states after)) (even.planned_steps changes) ranks.rank place step
  waits_lower place step at i wait has =
      let own = waited changes place step at in
      let stands = stands_from changes 0 0 place own.0 own.1 in
      let change_is : step.change ≡ stands.c = let one = stands.change_number_is in let two : step.change ≡ own.0.change_number = ap (λ (w : Wait). w.change) own.2 in omega (arith, one, two) in
      let number_is : step.step ≡ stands.k = ap (λ (w : Wait). w.step) own.2 ∙ stands.number_is in
      let change_at : slice_get changes step.change ≡ Some own.0.change = ap (slice_get changes) change_is ∙ stands.change_at in
      let less = slice_get_within changes step.change own.0.change change_at in
      let spot : base changes step.change + step.step ≡ place = let index = stands.index_is in
      let one : base changes step.change ≡ base changes stands.c = ap (base changes) change_is in omega (arith, index, one, number_is) in
      let inside = slice_get_within (planned_steps changes) place own.0 own.1 in
      let own_script = script_of changes recorded states after in
      ⊎_elim
      (λ (before : (j : ℕ) × (step.step ≡ suc j) × (wait ≡ record { change = step.change; step = j })).
      let j = before.0 in
      let k_is = before.1 in
      let k_less = slice_get_within own.0.change.steps stands.k own.0.kind stands.kind_at in
      let kind = item_there own.0.change.steps j (omega (arith, k_less, number_is, k_is)) in
      let other = planned_at changes 0 0 step.change j own.0.change kind.0 change_at kind.1 in
      let there : base changes step.change + j ≡ place - 1 = omega (arith, spot, k_is) in
      let other_at : slice_get (planned_steps changes) (place - 1) ≡ Some other.0 = ap (slice_get (planned_steps changes)) (sym there) ∙ other.1 in
      let c_is : other.0.change_number ≡ step.change = let n = other.2.change_number_is in omega (arith, n) in
      let j_is : other.0.number ≡ j = let n = other.2.number_is in omega (arith, n) in
      let named : wait_of other.0 ≡ wait =
      ap (λ (n : ℕ). record { change = n; step = other.0.number }) c_is ∙ ap (λ (n : ℕ). record { change = step.change; step = n }) j_is ∙ sym before.2 in
      let found : slice_get (even.planned_steps changes) (place - 1) ≡ Some wait = wait_at changes (place - 1) ∙ ap (option_map wait_of) other_at ∙ ap Some named in
      let numbered : own.0.number ≡ suc j = sym (ap (λ (w : Wait). w.step) own.2) ∙ k_is in (
        place - 1,
        found,
        slice_get_within (even.planned_steps changes) (place - 1) wait found,
        ranks.before place own.0 own.1 (ne_eqb own.0.number 0 (λ zeroth. omega (arith, numbered, zeroth))),
      ))
      (λ (named : (m : ℕ) × (slice_get (named_for (written changes own_script) step.change step.step) m ≡ Some wait)).
      let one = named_in (stated_step (written changes own_script) step.change step.step) named.0 wait named.1 in
      let stated = stated_at step.change step.step own.0.change one.0 change_at (sym (same_step changes own_script step.change step.step less) ∙ one.1) in
      let waits = same_after step.change step.step own.0.change one.0 stated in
      let listed : slice_get (waits_for changes after place) named.0 ≡ Some wait =
      ap (λ (p : ℕ). slice_get (waits_for changes after p) named.0) (sym spot)
      ∙ ap (λ (ws : List Wait). slice_get ws named.0) (sym waits) ∙ one.2 in
      let number = of_number (even.planned_steps changes) (even.waits_at after place) named.0 wait listed in
      let has_number : Contains (waits_at after place) number.0 = subst (λ (ns : List ℕ). Contains ns number.0) (unwrap_or-slice_get after place []) number.1 in
      (number.0, number.2, slice_get_within (even.planned_steps changes) number.0 wait number.2, ranks.waits place number.0 inside has_number))
      (stated_in (written changes own_script) step.change step.step i wait has)

  planned_many : length (even.planned_steps changes) ≡ length (planned_steps changes)
  planned_many = ap length (same_planned changes 0 0) ∙ rw length-map refl

  begins : (c k : ℕ) (change : ResourceChange) → slice_get changes c ≡ Some change → k < length change.steps
      → could_begin (written changes (script_of changes recorded states after)) c k ≡ true
  begins c k change at less =
      let own_script = script_of changes recorded states after in
      let kind = item_there change.steps k less in
      let own = planned_at changes 0 0 c k change kind.0 at kind.1 in
      let place = base changes c + k in
      let c_is : own.0.change_number ≡ c = let n = own.2.change_number_is in omega (arith, n) in
      let k_is : own.0.number ≡ k = let n = own.2.number_is in omega (arith, n) in
      let named : wait_of own.0 ≡ record { change = c; step = k } =
      ap (λ (n : ℕ). record { change = n; step = own.0.number }) c_is ∙ ap (λ (n : ℕ). record { change = c; step = n }) k_is in
      let found : slice_get (even.planned_steps changes) place ≡ Some (record { change = c; step = k }) =
      wait_at changes place ∙ ap (option_map wait_of) own.1 ∙ ap Some named in
      let inside = slice_get_within (even.planned_steps changes) place (record { change = c; step = k }) found in
      let most = at_most_two changes 0 0 (all_pointwise (λ (ch : ResourceChange). length ch.steps ≤ 2) changes few_kinds) in
      let size : length (written changes own_script) ≡ length changes = length-map-range_with_len (entry_steps own_script) 0 (length changes) in
      could (written changes own_script) (even.planned_steps changes) ranks.rank waits_lower place (record { change = c; step = k }) found inside (omega (arith, most, size, planned_many))

  -- ---- the entries

  entry_is : (c : ℕ) (change : ResourceChange) → slice_get changes c ≡ Some change
      → IfSome (entry_steps (script_of changes recorded states after) c)
      (IsWritableEntry changes (script_of changes recorded states after) c change)
  entry_is c change at =
      let own_script = script_of changes recorded states after in
      let its = items_of changes recorded states after in
      let own = first_steps change.steps (drop (base changes c) its) in
      let stated : entry_steps own_script c ≡ unless_no_steps own =
      ap (λ (o : Option (Option (List ScriptStep))). option_and_then unless_no_steps (option_and_then (λ stated. stated) o)) (change_steps changes its c change at) in
      let small = few_steps change.steps (drop (base changes c) its) in
      subst (λ (o : Option (List ScriptStep)). IfSome o (IsWritableEntry changes own_script c change)) (sym stated)
      (unless_none_is (IsWritableEntry changes own_script c change) own
      (record {
        few = small;
        each = all_pointwise IsWritableStep own (λ k step has. step_is_writable c k change step (step_of c k change step at has));
        provisioned =
            none_passes (misplaces_provisioners (is_some change.deposed)) change.steps own 0
            (λ k kind step kind_at has. is_well_placed c k change step kind (step_of c k change step at has) kind_at);
        warned = none_passes warns_not_a_read change.steps own 0 (λ k kind step kind_at has. only_reads_warn c k change step kind (step_of c k change step at has) kind_at);
        waits = all_pointwise (λ (step : ScriptStep). AllByRecursion (HasStep changes) (after_of step)) own (λ k step has.
            subst (AllByRecursion (HasStep changes)) (sym (same_after c k change step (step_of c k change step at has))) (has_waits (base changes c + k)));
        begins = λ k less. begins c k change at (omega (arith, small, less));
      }))

  pub steps_are_writable : IsWritable changes (script_of changes recorded states after)
  steps_are_writable =
      let its = items_of changes recorded states after in
      let own_script = script_of changes recorded states after in
      let waits = few_waits changes (even.planned_steps changes) after recorded states (as_many_changes changes its) in
      record {
        each = each;
        once = once;
        entries = entries_from changes own_script 0 changes (λ c change at.
            let zeroth : c ≡ 0 + c = omega arith in
            subst (λ (n : ℕ). IfSome (entry_steps own_script n) (IsWritableEntry changes own_script n change)) zeroth (entry_is c change at));
        few_waits = omega (arith, waits, few);
      }
