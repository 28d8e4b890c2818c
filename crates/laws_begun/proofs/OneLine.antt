-- What one line of a step changes.
use Rattle.std.proofs.Common.{◌≡◌, ◌∙◌, ◌-◌, ◌+ℤ◌, ◌<◌, ℕ, ℤ, pos, zero, suc, Bool, true, false, cond, List, [], ◌∷◌, ◌++◌, length, set, Option, Some, None, refl, sym, ap, arith, append-nil, subst, ◌⊎◌, inl, inr, ⊎_elim}
use Rattle.std.specs.Prelude.{◌&&◌, is_none, not, option_map, slice_get}
use Rattle.std.specs.List.{Contains, find}
use Rattle.std.specs.Option.{option_map_or, option_or}
use Rattle.std.specs.Str.{bytes_eq}
use Rattle.std.proofs.lemmas.Bool.{and_from, and_parts, cases_eq, eq-eqb, or_cases, or_left, or_right}
use Rattle.std.proofs.lemmas.List.{length-set}
use Rattle.std.proofs.lemmas.Slice.Eq.{bytes_eq-Decides}
use Rattle.apply_model.specs.declared.plan.step_kind.StepKind.{StepKind}
use Rattle.apply_model.specs.declared.plan.step_kind.StepKind.TheVariants.{Create, Delete}
use Rattle.apply_model.specs.Plan.StepKind.{is_kind}
use Rattle.apply_events.specs.declared.what.What.{What}
use Rattle.apply_events.specs.declared.what.What.TheVariants.{Start, Progress, Complete, Errored, ErrorNote, WarnNote, Halted, ProvisionStart, ProvisionOutput, ProvisionComplete, ProvisionErrored}
use Rattle.apply_events.proofs.Waits.Members.{filter_in, in_filter}
use Rattle.apply_text.specs.Message.{start_id}
use Rattle.stream_record_steps.specs.declared.begun_step.BegunStep.{BegunStep}
use Rattle.stream_record_steps.specs.declared.begun_step.EndResult.{EndResult}
use Rattle.stream_record_steps.specs.declared.begun_step.EndResult.TheVariants as end_result
use Rattle.stream_record_steps.specs.declared.begun_step.StepEnd.{StepEnd}
use Rattle.stream_record_steps.specs.declared.sought.Sought.{Sought}
use Rattle.stream_record_steps.specs.declared.sought.Sought.TheVariants.{Kind, Timely, ProvisionedDelete}
use Rattle.stream_record_steps.specs.declared.step_facts.StepFact.{StepFact}
use Rattle.stream_record_steps.specs.Begun.{Begun, begun_at, is_left}
use Rattle.stream_record_steps.specs.Starts.{after_start_of, first_known, goes_well, had_id, is_failed, is_free, may_begin, taken_place}
use Rattle.stream_record_steps.specs.Steps.{PlannedStep, is_first_step, planned_steps, steps_at}
use Rattle.stream_record_steps.specs.UnderWay.{after_end, after_fact, ended, is_sought, meets, plus_fact, provisioned_place, sought_place, timed_place}
use Rattle.laws_begun.specs.Followed.{AreApart, is_end, is_of_provisioner, is_start, may_be_provisioned}
use Rattle.laws_begun.specs.Telling.{Telling, after_stated, line_of}
use Rattle.laws_begun.proofs.Goes.{CanComeAt, CanStart, IsAlone, IsReady, phase_at}
use Rattle.laws_begun.proofs.Meant.{below_two, kinds_are, kinds_at, one_change, one_step, same_kind}
use Rattle.laws_begun.proofs.OwnLines.{bare, bare_end, bare_fact, own_after, own_end, own_fact}
use Rattle.laws_begun.proofs.Phases.{Phase, HasCompleted, UnderWay, is_under_way, not_begun, phase_ended, phase_of, phase_of_end, under_way}
use Rattle.laws_begun.proofs.Places.{IsNumbered, IsPlanned, base, is_planned, numbered_step, same_place}
use Rattle.laws_begun.proofs.Sought.{IsFound, LeadTo, either_place, finds, finds_some, leads_to, none_or_place}

-- ---- what is known at one place changes

pub set_here : (xs : List (Option BegunStep)) (place : ℕ) (item : Option BegunStep) → place < length xs → begun_at (set xs place item) place ≡ item
set_here [] place item less = absurd (omega (arith, less))
set_here (x ∷ xs) zero item less = refl
set_here (x ∷ xs) (suc place) item less = set_here xs place item (omega (arith, less))

pub set_other : (xs : List (Option BegunStep)) (place : ℕ) (item : Option BegunStep) (other : ℕ) → (other ≡ place → ⊥) → begun_at (set xs place item) other ≡ begun_at xs other
set_other [] place item other apart = refl
set_other (x ∷ xs) zero item zero apart = absurd (apart refl)
set_other (x ∷ xs) zero item (suc other) apart = refl
set_other (x ∷ xs) (suc place) item zero apart = refl
set_other (x ∷ xs) (suc place) item (suc other) apart = set_other xs place item other (λ same. apart (ap suc same))

pub left_at : (xs : List (Option BegunStep)) (place : ℕ) → place < length xs → begun_at xs place ≡ None → is_left xs place ≡ true
left_at [] place less none = absurd (omega (arith, less))
left_at (x ∷ xs) zero less none = ap is_none none
left_at (x ∷ xs) (suc place) less none = left_at xs place (omega (arith, less)) none

-- what a line of the step at the place makes of the steps that began
pub record Changes (old new : Begun) (place : ℕ) (made : Option BegunStep) (begins_now ends_now : Bool) : Type 0 where
  pub planned : new.planned ≡ old.planned
  pub each : length new.by_step ≡ length old.by_step
  pub here : bare (begun_at new.by_step place) ≡ made
  pub others : (other : ℕ) → (other ≡ place → ⊥) → begun_at new.by_step other ≡ begun_at old.by_step other
  pub begins : new.begins ≡ old.begins ++ cond begins_now (place ∷ []) []
  pub ends : new.ends ≡ old.ends ++ cond ends_now (place ∷ []) []
  pub strays : new.strays ≡ old.strays
  pub odd : new.odd ≡ old.odd

with_latest : (old new : Begun) (place : ℕ) (made : Option BegunStep) (begins_now ends_now : Bool) (latest : Option ℕ) → Changes old new place made begins_now ends_now
    → Changes old (record new { latest = latest }) place made begins_now ends_now
with_latest old new place made begins_now ends_now latest it = record {
  planned = it.planned;
  each = it.each;
  here = it.here;
  others = it.others;
  begins = it.begins;
  ends = it.ends;
  strays = it.strays;
  odd = it.odd;
}

module _ (begun : Begun) (place : ℕ) (within : place < length begun.by_step) where
  abbrev known : Option BegunStep
  known = bare (begun_at begun.by_step place)

  fact_changes : (line : ℕ) (fact : StepFact) (found : Option ℕ) → found ≡ Some place
      → Changes begun (after_fact line fact found begun) place (option_map (plus_fact fact) (bare (begun_at begun.by_step place))) false false
  fact_changes line fact found is =
      subst (λ o. Changes begun (after_fact line fact o begun) place (option_map (plus_fact fact) known) false false) (sym is)
      (record {
        planned = refl;
        each = length-set begun.by_step place _;
        here = ap bare (set_here begun.by_step place _ within) ∙ bare_fact fact (begun_at begun.by_step place);
        others = λ other apart. set_other begun.by_step place _ other apart;
        begins = sym (append-nil begun.begins);
        ends = sym (append-nil begun.ends);
        strays = refl;
        odd = refl;
      })

  end_changes : (end : StepEnd) (found : Option ℕ) → found ≡ Some place
      → Changes begun (after_end end found begun) place (option_map (ended end) (bare (begun_at begun.by_step place))) false true
  end_changes end found is =
      subst (λ o. Changes begun (after_end end o begun) place (option_map (ended end) known) false true) (sym is)
      (record {
        planned = refl;
        each = length-set begun.by_step place _;
        here = ap bare (set_here begun.by_step place _ within) ∙ bare_end end (begun_at begun.by_step place);
        others = λ other apart. set_other begun.by_step place _ other apart;
        begins = sym (append-nil begun.begins);
        ends = refl;
        strays = refl;
        odd = refl;
      })

  start_changes : (line : ℕ) (second : ℤ) (kind : StepKind) (address : List ℕ) (found : Option ℕ) → found ≡ Some place
      → Changes begun (after_start_of line second kind address found (record begun { has_starts = true })) place (Some (first_known line second kind None)) true false
  start_changes line second kind address found is =
      subst (λ o. Changes begun (after_start_of line second kind address o (record begun { has_starts = true })) place (Some (first_known line second kind None)) true false) (sym is)
      (record {
        planned = refl;
        each = length-set begun.by_step place _;
        here = ap bare (set_here begun.by_step place _ within);
        others = λ other apart. set_other begun.by_step place _ other apart;
        begins = refl;
        ends = sym (append-nil begun.ends);
        strays = refl;
        odd = refl;
      })

-- ---- which steps are sought

pub sought_parts : (by_step : List (Option BegunStep)) (sought : Sought) (step : PlannedStep) → is_sought by_step sought step ≡ true
    → (known : BegunStep) × (begun_at by_step step.place ≡ Some known) × (is_none known.end ≡ true) × (meets sought step known ≡ true)
sought_parts by_step sought step is = of (begun_at by_step step.place) refl is
  where
    of : (o : Option BegunStep) → begun_at by_step step.place ≡ o → option_map_or (λ (begun : BegunStep). is_none begun.end && meets sought step begun) o false ≡ true
        → (known : BegunStep) × (begun_at by_step step.place ≡ Some known) × (is_none known.end ≡ true) × (meets sought step known ≡ true)
    of None at both = absurd cc
    of (Some known) at both = let parts = and_parts (is_none known.end) (meets sought step known) both in (known, at, parts.0, parts.1)

sought_from : (by_step : List (Option BegunStep)) (sought : Sought) (step : PlannedStep) (known : BegunStep) → begun_at by_step step.place ≡ Some known → is_none known.end ≡ true
    → meets sought step known ≡ true → is_sought by_step sought step ≡ true
sought_from by_step sought step known at none met =
    ap (λ o. option_map_or (λ (begun : BegunStep). is_none begun.end && meets sought step begun) o false) at ∙ and_from (is_none known.end) (meets sought step known) none met

-- of two steps of a change, one has the phase of the other number
other_phase : (first second : Phase) (k n : ℕ) → k < 2 → n < 2 → (n ≡ k) ⊎ (phase_at first second n ≡ phase_at second first k)
other_phase first second zero zero few less = inl refl
other_phase first second zero (suc n) few less = inr refl
other_phase first second (suc k) zero few less = inr refl
other_phase first second (suc k) (suc n) few less = inl (omega (arith, few, less))

first_item : {X : Type 0} (xs : List X) (n : ℕ) (x : X) → slice_get xs n ≡ Some x → (y : X) × (slice_get xs 0 ≡ Some y)
first_item [] n x at = absurd cc
first_item (y ∷ xs) n x at = (y, refl)

completed_well : (known : Option BegunStep) → phase_of known ≡ HasCompleted → option_map_or goes_well known false ≡ true
completed_well None is = absurd cc
completed_well (Some step) is = ends step.end is
  where
    results : (result : EndResult) → phase_ended result ≡ HasCompleted → not (is_failed result) ≡ true
    results (end_result.Completed id_key id) is = refl
    results end_result.Failed is = absurd cc

    ends : (end : Option StepEnd) → phase_of_end end ≡ HasCompleted → not (option_map_or (λ (e : StepEnd). is_failed e.result) end false) ≡ true
    ends None is = absurd cc
    ends (Some end) is = results end.result is

-- ---- a line of a step

-- what is known of the steps of a change is as far as the phases say
abbrev pub HavePhases : List PlannedStep → (by_step : List (Option BegunStep)) → (c : ℕ) → (first second : Phase) → Type 0
HavePhases planned by_step c first second = (step : PlannedStep) → Contains planned step → step.change_number ≡ c
    → phase_of (begun_at by_step step.place) ≡ phase_at first second step.number

module _ (telling : Telling) (start : ℤ) (begun : Begun) (own : PlannedStep) (c k line at : ℕ) (apart : AreApart telling.plan)
    (planned_is : begun.planned ≡ planned_steps telling.plan.changes) (each : length begun.by_step ≡ length (planned_steps telling.plan.changes))
    (numbered : IsNumbered telling.plan.changes c k own) (first second : Phase)
    (phases : HavePhases (planned_steps telling.plan.changes) begun.by_step c first second) where
  here : IsPlanned telling.plan.changes own
  here = is_planned telling.plan.changes own numbered.stands

  within : own.place < length begun.by_step
  within = let less = (is_planned telling.plan.changes own numbered.stands).within in omega (arith, less, each)

  abbrev all : List PlannedStep
  all = steps_at begun.planned own.change.address

  among : (step : PlannedStep) → Contains (steps_at begun.planned own.change.address) step
      → Contains (planned_steps telling.plan.changes) step × (own.change.address ≡ step.change.address)
  among step has =
      let parts = filter_in (λ (one : PlannedStep). bytes_eq own.change.address one.change.address) begun.planned step has in
      (subst (λ ps. Contains ps step) planned_is parts.0, (bytes_eq-Decides own.change.address step.change.address).0 parts.1)

  own_among : Contains (steps_at begun.planned own.change.address) own
  own_among = in_filter (λ (one : PlannedStep). bytes_eq own.change.address one.change.address) begun.planned own
      (subst (λ ps. Contains ps own) (sym planned_is) numbered.stands) ((bytes_eq-Decides own.change.address own.change.address).1 refl)

  own_phase_is : phase_of (begun_at begun.by_step own.place) ≡ phase_at first second k
  own_phase_is = phases own numbered.stands numbered.of_change ∙ ap (phase_at first second) numbered.of_number

  -- a test that only steps of the kind pass
  kind_leads : (test : PlannedStep → Bool) → ((step : PlannedStep) → test step ≡ true → is_kind own.kind step.kind ≡ true)
      → LeadTo test own.place (steps_at begun.planned own.change.address)
  kind_leads test tells step has passes =
      let there = among step has in
      one_step telling.plan apart own step here (is_planned telling.plan.changes step there.0) there.1 (kinds_are own.kind step.kind (tells step passes))

  timed : (seconds : ℕ) (moment : ℤ) → phase_at first second k ≡ UnderWay → timed_place begun.by_step own.kind seconds moment (steps_at begun.planned own.change.address) ≡ Some own.place
  timed seconds moment is =
      let known = under_way (begun_at begun.by_step own.place) (own_phase_is ∙ is) in
      either_place own.place (sought_place begun.by_step (Timely own.kind seconds moment) all) (sought_place begun.by_step (Kind own.kind) all)
      (none_or_place begun.by_step (is_sought begun.by_step (Timely own.kind seconds moment)) own.place all
      (kind_leads (is_sought begun.by_step (Timely own.kind seconds moment)) (λ step sought.
      (and_parts _ _ (sought_parts begun.by_step (Timely own.kind seconds moment) step sought).3).0)))
      (leads_to begun.by_step (is_sought begun.by_step (Kind own.kind)) own.place all own
      (kind_leads (is_sought begun.by_step (Kind own.kind)) (λ step sought. (sought_parts begun.by_step (Kind own.kind) step sought).3))
      own_among (sought_from begun.by_step (Kind own.kind) own known.0 known.1 known.2 (same_kind own.kind)))

  -- no other step at the address is under way
  alone_leads : (sought : Sought) → IsAlone first second k → LeadTo (is_sought begun.by_step sought) own.place (steps_at begun.planned own.change.address)
  alone_leads sought alone step has passes =
      let there = among step has in
      let other = is_planned telling.plan.changes step there.0 in
      let change = one_change telling.plan apart own step here other there.1 in
      let known = sought_parts begun.by_step sought step passes in
      let phase : phase_at first second step.number ≡ UnderWay =
      sym (phases step there.0 (sym change ∙ numbered.of_change)) ∙ ap phase_of known.1 ∙ is_under_way known.0 known.2 in ⊎_elim
      (λ (same : step.number ≡ k). sym (same_place telling.plan.changes own step here other change (numbered.of_number ∙ sym same)))
      (λ (turned : phase_at first second step.number ≡ phase_at second first k). absurd (alone.1 (sym turned ∙ phase)))
      (other_phase first second k step.number (subst (λ n. n < 2) numbered.of_number (below_two telling.plan apart own here)) (below_two telling.plan apart step other))

  alone_sought : (sought : Sought) → IsAlone first second k → ((known : BegunStep) → meets sought own known ≡ true)
      → sought_place begun.by_step sought (steps_at begun.planned own.change.address) ≡ Some own.place
  alone_sought sought alone met =
      let known = under_way (begun_at begun.by_step own.place) (own_phase_is ∙ alone.0) in
      leads_to begun.by_step (is_sought begun.by_step sought) own.place all own (alone_leads sought alone) own_among
      (sought_from begun.by_step sought own known.0 known.1 known.2 (met known.0))

  none_or_own : (sought : Sought) → IsAlone first second k
      → (sought_place begun.by_step sought (steps_at begun.planned own.change.address) ≡ None) ⊎ (sought_place begun.by_step sought (steps_at begun.planned own.change.address) ≡ Some own.place)
  none_or_own sought alone = none_or_place begun.by_step (is_sought begun.by_step sought) own.place all (alone_leads sought alone)

  provisioned : IsAlone first second k → may_be_provisioned own.kind ≡ true → provisioned_place begun.by_step (steps_at begun.planned own.change.address) ≡ Some own.place
  provisioned alone may = ⊎_elim
      (λ (create : is_kind Create own.kind ≡ true).
      ap (λ o. option_or o (option_or (sought_place begun.by_step ProvisionedDelete all) (sought_place begun.by_step (Kind Delete) all))) (alone_sought (Kind Create) alone (λ known. create)))
      (λ (delete : is_kind Delete own.kind ≡ true).
      either_place own.place (sought_place begun.by_step (Kind Create) all) _ (none_or_own (Kind Create) alone)
      (either_place own.place (sought_place begun.by_step ProvisionedDelete all) _ (none_or_own ProvisionedDelete alone)
      (alone_sought (Kind Delete) alone (λ known. delete))))
      (or_cases (is_kind Create own.kind) (is_kind Delete own.kind) may)

  provisioned_if : (what : What) → is_of_provisioner what ≡ true → IsAlone first second k → CanComeAt telling.plan c k what
      → provisioned_place begun.by_step (steps_at begun.planned own.change.address) ≡ Some own.place
  provisioned_if what of_provisioner alone can =
      let change = ap (slice_get telling.plan.changes) (sym numbered.of_change) ∙ here.change_at in
      provisioned alone (can of_provisioner own.kind
      (ap (λ kinds. slice_get kinds k) (kinds_at telling.plan c own.change change) ∙ ap (slice_get own.change.steps) (sym numbered.of_number) ∙ here.kind_at))

  -- ---- a start

  -- the step before it completed
  after_first : first ≡ HasCompleted → own.number ≡ 1 → option_map_or goes_well (begun_at begun.by_step (own.place - 1)) false ≡ true
  after_first well number =
      let kind = first_item own.change.steps own.number own.kind here.kind_at in
      let before = numbered_step telling.plan.changes c 0 own.change kind.0 (ap (slice_get telling.plan.changes) (sym numbered.of_change) ∙ here.change_at) kind.1 in
      let there = is_planned telling.plan.changes before.0 before.1.stands in
      let stands = here.place_is in
      let stood = there.place_is in
      let zeroth = before.1.of_number in
      let bases : base telling.plan.changes own.change_number ≡ base telling.plan.changes before.0.change_number =
      ap (base telling.plan.changes) (numbered.of_change ∙ sym before.1.of_change) in
      let spot : own.place - 1 ≡ before.0.place = omega (arith, stands, stood, zeroth, bases, number) in
      ap (λ n. option_map_or goes_well (begun_at begun.by_step n) false) spot
      ∙ completed_well (begun_at begun.by_step before.0.place) (phases before.0 before.1.stands before.1.of_change ∙ ap (phase_at first second) zeroth ∙ well)

  ready : CanStart first second k → may_begin begun.by_step own ≡ true
  ready can = ⊎_elim
      (λ (zeroth : own.number ≡ 0). or_left (is_first_step own) _ (eq-eqb own.number 0 zeroth))
      (λ (later : own.number ≡ 0 → ⊥).
      let less = below_two telling.plan apart own here in
      or_right (is_first_step own) _ (after_first (⊎_elim (λ (zeroth : k ≡ 0). absurd (later (numbered.of_number ∙ zeroth))) (λ (well : first ≡ HasCompleted). well) can.1) (omega (arith, less, later))))
      (cases_eq own.number 0)

  free : CanStart first second k → is_free begun.by_step own.kind own ≡ true
  free can = and_from (is_kind own.kind own.kind) _ (same_kind own.kind)
      (and_from (is_left begun.by_step own.place) (may_begin begun.by_step own)
      (left_at begun.by_step own.place within (not_begun (begun_at begun.by_step own.place) (own_phase_is ∙ can.0))) (ready can))

  taken : CanStart first second k → (id : Option (List ℕ)) → taken_place begun.by_step own.kind id (steps_at begun.planned own.change.address) ≡ Some own.place
  taken can id =
      let leads = kind_leads (is_free begun.by_step own.kind) (λ step passes. (and_parts (is_kind own.kind step.kind) _ passes).0) in
      let found = finds (is_free begun.by_step own.kind) all own own_among (free can) in ⊎_elim
      (λ (none : find (λ step. is_free begun.by_step own.kind step && had_id id step) all ≡ None).
      ap (λ o. option_map (λ (step : PlannedStep). step.place) (option_or o (find (is_free begun.by_step own.kind) all))) none
      ∙ ap (option_map (λ (step : PlannedStep). step.place)) found.1 ∙ ap Some (leads found.0 found.2.0 found.2.1))
      (λ (some : (x : PlannedStep) × (find (λ step. is_free begun.by_step own.kind step && had_id id step) all ≡ Some x) × IsFound (λ step. is_free begun.by_step own.kind step && had_id id step) all x).
      ap (λ o. option_map (λ (step : PlannedStep). step.place) (option_or o (find (is_free begun.by_step own.kind) all))) some.1
      ∙ ap Some (leads some.0 some.2.0 (and_parts (is_free begun.by_step own.kind some.0) (had_id id some.0) some.2.1).0))
      (finds_some (λ step. is_free begun.by_step own.kind step && had_id id step) all)

  -- ---- any line

  pub line_changes : (what : What) → IsReady telling.plan c first second k what
      → Changes begun (after_stated line (start +ℤ pos at) (line_of telling own.change own.kind c k what) begun) own.place
      (own_after telling start own.kind c k line at what (bare (begun_at begun.by_step own.place))) (is_start what) (is_end what)
  line_changes Start can = with_latest begun _ own.place _ true false (Some line)
      (start_changes begun own.place within line (start +ℤ pos at) own.kind own.change.address _ (taken can (start_id own.kind own.change)))
  line_changes (Progress seconds) is = with_latest begun _ own.place _ false false (Some line)
      (fact_changes begun own.place within line (own_fact telling start c k at (Progress seconds)) _ (timed seconds (start +ℤ pos at) is))
  line_changes (Complete seconds) is = with_latest begun _ own.place _ false true (Some line)
      (end_changes begun own.place within (own_end telling start c k line (Complete seconds)) _ (timed seconds (start +ℤ pos at) is))
  line_changes (Errored seconds) is = with_latest begun _ own.place _ false true (Some line)
      (end_changes begun own.place within (own_end telling start c k line (Errored seconds)) _ (timed seconds (start +ℤ pos at) is))
  line_changes ErrorNote is = absurd is
  line_changes WarnNote is = absurd is
  line_changes (Halted phase hook) is = absurd is
  line_changes (ProvisionStart i) is =
      fact_changes begun own.place within line (own_fact telling start c k at (ProvisionStart i)) _ (provisioned_if (ProvisionStart i) refl is.0 is.1)
  line_changes (ProvisionOutput i output) is =
      fact_changes begun own.place within line (own_fact telling start c k at (ProvisionOutput i output)) _ (provisioned_if (ProvisionOutput i output) refl is.0 is.1)
  line_changes (ProvisionComplete i) is =
      fact_changes begun own.place within line (own_fact telling start c k at (ProvisionComplete i)) _ (provisioned_if (ProvisionComplete i) refl is.0 is.1)
  line_changes (ProvisionErrored i) is =
      fact_changes begun own.place within line (own_fact telling start c k at (ProvisionErrored i)) _ (provisioned_if (ProvisionErrored i) refl is.0 is.1)
