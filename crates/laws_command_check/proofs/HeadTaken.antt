-- The checker accepts the messages before an apply, and passes over them then.
use Rattle.std.proofs.Common.{◌≡◌, ℕ, zero, suc, ◌+◌, List, [], ◌∷◌, ◌++◌, codes, length, map, flat_map, Bool, true, false, cond, Option, Some, None, Result, Ok, Err, refl, sym, ap, ap₂, ◌∙◌, subst, ⊎_elim, inl, inr, is_some, count_by, option_map, arith, bytes_eq, eq-eqb, slice_get}
use Rattle.std.specs.Prelude.{◌&&◌, ◌==◌, option_and_then}
use Rattle.std.specs.List.{cons_option, enumerate_from, filter_map}
use Rattle.std.specs.Option.{option_map_or, option_or}
use Rattle.std.proofs.lemmas.List.Sums.{sum_by-append, sum_by-cons}
use Rattle.std.proofs.lemmas.Option.{slice_get-map}
use Rattle.apply_model.specs.declared.details.change_details.ChangeDetails.{ChangeDetails}
use Rattle.apply_model.specs.declared.plan.mode.Mode.{Mode}
use Rattle.apply_model.specs.declared.plan.mode.Mode.TheVariants.{Managed, DataSource}
use Rattle.apply_model.specs.declared.plan.step_kind.StepKind.{StepKind}
use Rattle.apply_model.specs.declared.plan.step_kind.StepKind.TheVariants as kind
use Rattle.apply_model.specs.Plan.ResourceChange.{ResourceChange}
use Rattle.apply_model.specs.Plan.StepKind.{is_kind}
use Rattle.stream_check.specs.declared.messages.action.Action.{Action}
use Rattle.stream_check.specs.declared.messages.action.Action.TheVariants.{Create, Update, Delete, Read, Refresh}
use Rattle.stream_check.specs.declared.messages.intent.Intent.{Intent}
use Rattle.stream_check.specs.declared.messages.intent.Intent.TheVariants.{Nothing}
use Rattle.stream_check.specs.declared.messages.timed_stage.TimedStage.{TimedStage}
use Rattle.stream_check.specs.declared.messages.timed_stage.TimedStage.TheVariants as stage
use Rattle.stream_check.specs.declared.messages.totals.Totals.{Totals}
use Rattle.stream_check.specs.declared.rules.address_state.Failures.{Failures}
use Rattle.stream_check.specs.declared.rules.fault.Fault.{Fault}
use Rattle.stream_check.specs.declared.rules.fault.Fault.TheVariants.{AfterSummary, PlanAgain, WrongPlanTotals}
use Rattle.stream_check.specs.declared.rules.pending.Pending.{Pending}
use Rattle.stream_check.specs.AddressState.{may_fail, pending_at, state_of}
use Rattle.stream_check.specs.Intents.{creates}
use Rattle.stream_check.specs.Lines.{next, plan_summed}
use Rattle.stream_check.specs.Message.{Message, version, step, provision, planned, plan_summary, summary, diagnostic, outputs, other, foreign, intent_named}
use Rattle.stream_check.specs.Results.{◌>>=◌}
use Rattle.stream_check.specs.Tally.{begun_totals, failures_left, is_plan_summary, is_summary, is_version, line_of, planned_totals, plans_create, plans_delete, plans_update, same_totals}
use Rattle.stream_check.specs.Unbegun.{one_begun, one_planned, starts_create, unbegun_at}
use Rattle.apply_events.specs.declared.event.Event.{Event}
use Rattle.apply_events.specs.declared.what.What.{What}
use Rattle.apply_events.specs.declared.what.What.TheVariants.{Start, Progress, Complete, Errored, ErrorNote, WarnNote, Halted, ProvisionStart, ProvisionOutput, ProvisionComplete, ProvisionErrored}
use Rattle.apply_planning.specs.declared.told.Told.{Told}
use Rattle.apply_planning_failures.specs.PlansPart.{details_at}
use Rattle.apply_text.specs.Words.{action_word}
use Rattle.apply_text_planning.specs.Totals.{steps_of_kind}
use Rattle.apply_text_planning.specs.Words.{bookkeeping_word, command_word}
use Rattle.apply_text_terraform.specs.Details.{planned_word}
use Rattle.laws_check.specs.Passing.{with_all}
use Rattle.laws_check.specs.Plans.{AreStepsOfOne}
use Rattle.laws_check.specs.ReadBackInForm.{planned_read_back, planned_read_back_at}
use Rattle.laws_check.proofs.FormPendings.{IsSame, Matches}
use Rattle.laws_check.proofs.Standings.{next_after}
use Rattle.laws_check.proofs.Turning.{followed_by, followed_by_both}
use Rattle.laws_command_check.specs.HeadReadBack.{command_read_back, planning_read_back, told_read_back}
use Rattle.laws_command_check.proofs.Behind.{Ignores, IsBehind, IsPassed, SameFailures, fewer_at, few_held, more_planned, one_less, planned_before}
use Rattle.laws_command_check.proofs.Planning.{Stands}

abbrev fine : {A : Type 0} → A → Result A Fault
fine x = Ok x

-- ---- the messages of a planning are passed over

abbrev pub ArePassed : List Message → Type 0
ArePassed [] = Unit {0}
ArePassed (m ∷ ms) = IsPassed m × ArePassed ms

passed_both : (xs ys : List Message) → ArePassed xs → ArePassed ys → ArePassed (xs ++ ys)
passed_both [] ys h k = k
passed_both (x ∷ xs) ys h k = (h.0, passed_both xs ys h.1 k)

told_passed : (m : Mode) (a : List ℕ) (w : What) → ArePassed (told_read_back m a w)
told_passed Managed a Start = (inr refl, tt)
told_passed Managed a (Progress s) = tt
told_passed Managed a (Complete s) = (inr refl, tt)
told_passed Managed a (Errored s) = tt
told_passed Managed a ErrorNote = tt
told_passed Managed a WarnNote = tt
told_passed Managed a (Halted phase hook) = tt
told_passed Managed a (ProvisionStart i) = tt
told_passed Managed a (ProvisionOutput i n) = tt
told_passed Managed a (ProvisionComplete i) = tt
told_passed Managed a (ProvisionErrored i) = tt
told_passed DataSource a Start = (inl refl, tt)
told_passed DataSource a (Progress s) = (inl refl, tt)
told_passed DataSource a (Complete s) = (inl refl, tt)
told_passed DataSource a (Errored s) = tt
told_passed DataSource a ErrorNote = tt
told_passed DataSource a WarnNote = tt
told_passed DataSource a (Halted phase hook) = tt
told_passed DataSource a (ProvisionStart i) = tt
told_passed DataSource a (ProvisionOutput i n) = tt
told_passed DataSource a (ProvisionComplete i) = tt
told_passed DataSource a (ProvisionErrored i) = tt

pub planning_passed : (told : List Told) (es : List Event) → ArePassed (flat_map (planning_read_back told) es)
planning_passed told [] = tt
planning_passed told (e ∷ es) = passed_both (planning_read_back told e) (flat_map (planning_read_back told) es) (of_found (slice_get told e.change)) (planning_passed told es)
  where
    of_found : (o : Option Told) → ArePassed (option_map_or (λ (t : Told). told_read_back t.object.mode t.object.address e.what) o [])
    of_found None = tt
    of_found (Some t) = told_passed t.object.mode t.object.address e.what

-- what they leave as it is
left_passed : (m : Message) (ms : List Message) → IsPassed m → failures_left (m ∷ ms) ≡ failures_left ms
unfolding failures_left
left_passed version ms h = refl
left_passed (step a k stage.Start) ms h = refl
left_passed (step a k (stage.Progress s)) ms h = refl
left_passed (step a k (stage.Complete s)) ms h = refl
left_passed (step a k (stage.Errored s)) ms h =
    ⊎_elim (λ (is : k ≡ Read). ap (λ (l : Action). cond (may_fail l) (failures_left ms + 1) (failures_left ms)) is) (λ (is : k ≡ Refresh). ap (λ (l : Action). cond (may_fail l) (failures_left ms + 1) (failures_left ms)) is) h
left_passed (provision a s) ms h = refl
left_passed (planned intent o) ms h = refl
left_passed (plan_summary t) ms h = refl
left_passed (summary t) ms h = refl
left_passed (diagnostic e o) ms h = absurd h
left_passed outputs ms h = refl
left_passed other ms h = refl
left_passed foreign ms h = refl

waits_passed : (a : List ℕ) (m : Message) (ms : List Message) → IsPassed m → unbegun_at a (m ∷ ms) ≡ unbegun_at a ms
unfolding unbegun_at
waits_passed a version ms h = refl
waits_passed a (step b k st) ms h = ⊎_elim (λ (is : k ≡ Read). of_action st Read (none_starts st) is) (λ (is : k ≡ Refresh). of_action st Refresh (none_starts_too st) is) h
  where
    none_starts : (st : TimedStage) → starts_create st Read ≡ false
    none_starts stage.Start = refl
    none_starts (stage.Progress s) = refl
    none_starts (stage.Complete s) = refl
    none_starts (stage.Errored s) = refl

    none_starts_too : (st : TimedStage) → starts_create st Refresh ≡ false
    none_starts_too stage.Start = refl
    none_starts_too (stage.Progress s) = refl
    none_starts_too (stage.Complete s) = refl
    none_starts_too (stage.Errored s) = refl

    of_action : (st : TimedStage) (l : Action) → starts_create st l ≡ false → k ≡ l → cond (starts_create st k && bytes_eq b a) (one_begun (unbegun_at a ms)) (unbegun_at a ms) ≡ unbegun_at a ms
    of_action st l none is = ap (λ (x : Action). cond (starts_create st x && bytes_eq b a) (one_begun (unbegun_at a ms)) (unbegun_at a ms)) is ∙ ap (λ (x : Bool). cond (x && bytes_eq b a) (one_begun (unbegun_at a ms)) (unbegun_at a ms)) none
waits_passed a (provision b s) ms h = refl
waits_passed a (planned intent None) ms h = refl
waits_passed a (planned intent (Some b)) ms h = ap (λ (i : Intent). cond ((creates i && (begun_totals ms).added == 0) && bytes_eq b a) (Some (one_planned (length ms + 1) (unbegun_at a ms))) (unbegun_at a ms)) h
waits_passed a (plan_summary t) ms h = refl
waits_passed a (summary t) ms h = refl
waits_passed a (diagnostic e o) ms h = refl
waits_passed a outputs ms h = refl
waits_passed a other ms h = refl
waits_passed a foreign ms h = refl

all_left : (xs ms : List Message) → ArePassed xs → failures_left (followed_by ms xs) ≡ failures_left ms
all_left [] ms h = refl
all_left (x ∷ xs) ms h = all_left xs (x ∷ ms) h.1 ∙ left_passed x ms h.0

all_wait : (a : List ℕ) (xs ms : List Message) → ArePassed xs → unbegun_at a (followed_by ms xs) ≡ unbegun_at a ms
all_wait a [] ms h = refl
all_wait a (x ∷ xs) ms h = all_wait a xs (x ∷ ms) h.1 ∙ waits_passed a x ms h.0

pub all_ignored : (q : Message → Bool) → Ignores q → (xs ms : List Message) → ArePassed xs → count_by q (followed_by ms xs) ≡ count_by q ms
all_ignored q ignores [] ms h = refl
all_ignored q ignores (x ∷ xs) ms h = all_ignored q ignores xs (x ∷ ms) h.1 ∙ one_less q x ms (ignores x h.0)

-- after a planning whose refreshes have all ended
pub after_planning : (told : List Told) (last : ℕ → Option ℕ) (xs : List Message) → ArePassed xs → Stands told last (followed_by (version ∷ []) xs) → ((a : List ℕ) → pending_at Refresh (state_of a (followed_by (version ∷ []) xs)) ≡ None)
    → IsBehind (version ∷ []) (followed_by (version ∷ []) xs)
unfolding state_of failures_left unbegun_at
after_planning told last xs passed stands closed =
    let c = followed_by (version ∷ []) xs in
    record {
      alike = record {
        begun = stands.amid.0;
        unsummed = stands.amid.1;
        state = λ a. record { pending = matched a; provisioner = sym (ap is_some (stands.quiet a).provisioner) };
        reads = λ a. let few = few_held a c in let fewer = fewer_at a c in omega arith;
      };
      failures = λ a. subst (λ (f : Option Failures). SameFailures None f) (sym (stands.quiet a).failures) tt;
      left = all_left xs (version ∷ []) passed;
      waiting = λ a. subst (λ (p : Option Pending). IsSame None p) (sym (all_wait a xs (version ∷ []) passed)) tt;
      counts = λ q ignores. all_ignored q ignores xs (version ∷ []) passed;
      foreseen = λ e. absurd (let bad : true ≡ false = sym e ∙ stands.amid.2 in cc);
    }
  where
    matched : (a : List ℕ) (k : Action) → Matches k (pending_at k (state_of a (version ∷ []))) (pending_at k (state_of a (followed_by (version ∷ []) xs)))
    matched a Create = subst (λ (p : Option Pending). IsSame None p) (sym (stands.quiet a).create) tt
    matched a Update = subst (λ (p : Option Pending). IsSame None p) (sym (stands.quiet a).update) tt
    matched a Delete = subst (λ (p : Option Pending). IsSame None p) (sym (stands.quiet a).delete) tt
    matched a Read = tt
    matched a Refresh = subst (λ (p : Option Pending). IsSame None p) (sym (closed a)) tt

-- ---- drifts and planned changes

-- the message is of a drift or of a planned change
abbrev pub IsPlain : Message → Type 0
IsPlain version = ⊥
IsPlain (step a k stage) = ⊥
IsPlain (provision a stage) = ⊥
IsPlain (planned intent o) = Unit {0}
IsPlain (plan_summary t) = ⊥
IsPlain (summary t) = ⊥
IsPlain (diagnostic e o) = ⊥
IsPlain outputs = ⊥
IsPlain other = Unit {0}
IsPlain foreign = ⊥

abbrev pub ArePlain : List Message → Type 0
ArePlain [] = Unit {0}
ArePlain (m ∷ ms) = IsPlain m × ArePlain ms

pub plain_both : (xs ys : List Message) → ArePlain xs → ArePlain ys → ArePlain (xs ++ ys)
plain_both [] ys h k = k
plain_both (x ∷ xs) ys h k = (h.0, plain_both xs ys h.1 k)

-- the version came, and no summary
pub record IsGoing (ms : List Message) : Type 0 where
  pub begun : is_some (line_of is_version ms) ≡ true
  pub unsummed : line_of is_summary ms ≡ None

one_plain : (m : Message) (ms : List Message) → IsPlain m → IsGoing ms → (next ms m ≡ Ok (m ∷ ms)) × IsGoing (m ∷ ms) × ((a : List ℕ) → state_of a (m ∷ ms) ≡ state_of a ms)
unfolding state_of
one_plain version ms h going = absurd h
one_plain (step a k stage) ms h going = absurd h
one_plain (provision a stage) ms h going = absurd h
one_plain (planned intent o) ms h going = (
  next_after ms (planned intent o) going.begun (λ first. ap (λ (n : Option ℕ). option_map_or (λ line. Err (AfterSummary line)) n (fine (planned intent o ∷ ms))) going.unsummed),
  record { begun = going.begun; unsummed = going.unsummed },
  λ a. refl,
)
one_plain (plan_summary t) ms h going = absurd h
one_plain (summary t) ms h going = absurd h
one_plain (diagnostic e o) ms h going = absurd h
one_plain outputs ms h going = absurd h
one_plain other ms h going = (next_after ms other going.begun (λ first. refl), record { begun = going.begun; unsummed = going.unsummed }, λ a. refl)
one_plain foreign ms h going = absurd h

pub all_plain : (xs ms : List Message) → ArePlain xs → IsGoing ms → (with_all ms xs ≡ Ok (followed_by ms xs)) × IsGoing (followed_by ms xs) × ((a : List ℕ) → state_of a (followed_by ms xs) ≡ state_of a ms)
all_plain [] ms h going = (refl, going, λ a. refl)
all_plain (x ∷ xs) ms h going =
    let one = one_plain x ms h.0 going in
    let rest = all_plain xs (x ∷ ms) h.1 one.1 in
    (ap (λ (r : Result (List Message) Fault). r >>= λ later. with_all later xs) one.0 ∙ rest.0, rest.1, λ a. rest.2 a ∙ one.2 a)

-- ---- the sums

agree : (t : Totals) → same_totals t t ≡ true
agree t = rw (eq-eqb t.added t.added refl, eq-eqb t.changed t.changed refl, eq-eqb t.removed t.removed refl) refl

pub sums_up : (t : Totals) (ms : List Message) → IsGoing ms → line_of is_plan_summary ms ≡ None → planned_totals ms ≡ t → (next ms (plan_summary t) ≡ Ok (plan_summary t ∷ ms)) × IsGoing (plan_summary t ∷ ms)
sums_up t ms going first_time same = (
  next_after ms (plan_summary t) going.begun (λ first.
      ap (λ (n : Option ℕ). option_map_or (λ line. Err (AfterSummary line)) n (plan_summed t ms)) going.unsummed
      ∙ ap (λ (n : Option ℕ). option_map_or (λ line. Err (PlanAgain line)) n (cond (same_totals t (planned_totals ms)) (fine (plan_summary t ∷ ms)) (Err (WrongPlanTotals t (planned_totals ms))))) first_time
      ∙ ap (λ (b : Bool). cond b (fine (plan_summary t ∷ ms)) (Err (WrongPlanTotals t (planned_totals ms)))) (ap (same_totals t) same ∙ agree t)),
  record { begun = going.begun; unsummed = going.unsummed },
)

pub puts_out : (t : Totals) (ms : List Message) → IsGoing (plan_summary t ∷ ms) → next (plan_summary t ∷ ms) outputs ≡ Ok (outputs ∷ plan_summary t ∷ ms)
puts_out t ms going = next_after (plan_summary t ∷ ms) outputs going.begun (λ first. refl)

-- ---- how much is planned

-- a planned change has a line that plans as many steps of each kind as it has
module _ (change : ResourceChange) (details : ChangeDetails) where
  abbrev messages_of : Option (List ℕ) → List Message
  messages_of o = option_map_or (λ word. planned (intent_named word) (Some change.address) ∷ []) o []

  -- a word that plans nothing
  abbrev PlansNone : (Message → Bool) → Type 0
  PlansNone q = count_by q (messages_of (bookkeeping_word details)) ≡ 0

  plans_none : (q : Message → Bool) → q (planned Nothing (Some change.address)) ≡ false → count_by q (messages_of (bookkeeping_word details)) ≡ 0
  plans_none q none = of_tests (is_some details.previous) (is_some details.importing)
    where
      alone : count_by q (planned Nothing (Some change.address) ∷ []) ≡ 0
      alone = one_less q (planned Nothing (Some change.address)) [] none

      of_tests : (x y : Bool) → count_by q (messages_of (cond x (Some (codes "move")) (cond y (Some (codes "import")) None))) ≡ 0
      of_tests true y = alone
      of_tests false true = alone
      of_tests false false = refl

  abbrev PlansNothing : Option (List ℕ) → Type 0
  PlansNothing o = (count_by plans_create (messages_of o) ≡ 0) × (count_by plans_update (messages_of o) ≡ 0) × (count_by plans_delete (messages_of o) ≡ 0)

  abbrev CountsAs : List StepKind → Type 0
  CountsAs steps = (count_by plans_create (messages_of (command_word steps details)) ≡ count_by (is_kind kind.Create) steps) × (count_by plans_update (messages_of (command_word steps details)) ≡ count_by (is_kind kind.Update) steps)
      × (count_by plans_delete (messages_of (command_word steps details)) ≡ count_by (is_kind kind.Delete) steps)

  pub counts_as : (steps : List StepKind) → AreStepsOfOne steps → CountsAs steps
  counts_as [] whole = of_forgets details.forgets
    where
      of_forgets : (b : Bool) → PlansNothing (option_or (cond b (Some (codes "remove")) None) (bookkeeping_word details))
      of_forgets true = (refl, refl, refl)
      of_forgets false = (plans_none plans_create refl, plans_none plans_update refl, plans_none plans_delete refl)
  counts_as (kind.Create ∷ []) whole = (refl, refl, refl)
  counts_as (kind.Update ∷ []) whole = (refl, refl, refl)
  counts_as (kind.Delete ∷ []) whole = (refl, refl, refl)
  counts_as (kind.Read ∷ []) whole = (refl, refl, refl)
  counts_as (kind.Create ∷ kind.Delete ∷ []) whole = (refl, refl, refl)
  counts_as (kind.Delete ∷ kind.Create ∷ []) whole = (refl, refl, refl)
  counts_as (kind.Create ∷ kind.Create ∷ ks) whole = absurd whole
  counts_as (kind.Create ∷ kind.Update ∷ ks) whole = absurd whole
  counts_as (kind.Create ∷ kind.Read ∷ ks) whole = absurd whole
  counts_as (kind.Create ∷ kind.Delete ∷ k ∷ ks) whole = absurd whole
  counts_as (kind.Delete ∷ kind.Create ∷ k ∷ ks) whole = absurd whole
  counts_as (kind.Delete ∷ kind.Update ∷ ks) whole = absurd whole
  counts_as (kind.Delete ∷ kind.Delete ∷ ks) whole = absurd whole
  counts_as (kind.Delete ∷ kind.Read ∷ ks) whole = absurd whole
  counts_as (kind.Update ∷ k ∷ ks) whole = absurd whole
  counts_as (kind.Read ∷ k ∷ ks) whole = absurd whole

-- the message of a planned change, by its number
abbrev pub message_at : List ResourceChange → List ChangeDetails → ℕ → List Message
message_at changes details number = option_map_or (λ change. option_map_or (λ d. command_read_back change d) (slice_get details number) []) (slice_get changes number) []

module _ (changes : List ResourceChange) (details : List ChangeDetails) (whole : (c : ℕ) (change : ResourceChange) → slice_get changes c ≡ Some change → AreStepsOfOne change.steps) where
  module _ (q : Message → Bool) (k : StepKind) (shares : (change : ResourceChange) (d : ChangeDetails) → AreStepsOfOne change.steps → count_by q (command_read_back change d) ≡ count_by (is_kind k) change.steps) where
    -- the steps of a change that has details
    abbrev share : Option (ResourceChange × ChangeDetails) → ℕ
    share o = option_map_or (λ (p : ResourceChange × ChangeDetails). count_by (is_kind k) p.0.steps) o 0

    one_planned_so : (number : ℕ) → count_by q (message_at changes details number) ≡ share (details_at changes details number)
    one_planned_so number = of_change (slice_get changes number) refl
      where
        of_details : (change : ResourceChange) → AreStepsOfOne change.steps → (o : Option ChangeDetails) → count_by q (option_map_or (λ d. command_read_back change d) o []) ≡ share (option_map (λ d. (change, d)) o)
        of_details change one None = refl
        of_details change one (Some d) = shares change d one

        of_change : (o : Option ResourceChange) → slice_get changes number ≡ o
            → count_by q (option_map_or (λ change. option_map_or (λ d. command_read_back change d) (slice_get details number) []) o []) ≡ share (option_and_then (λ change. option_map (λ d. (change, d)) (slice_get details number)) o)
        of_change None is = refl
        of_change (Some change) is = of_details change (whole number change is) (slice_get details number)

    pub all_planned_so : (numbers : List ℕ) → count_by q (flat_map (message_at changes details) numbers) ≡ steps_of_kind k (filter_map (details_at changes details) numbers)
    all_planned_so [] = refl
    all_planned_so (n ∷ ns) =
        let here = one_planned_so n in
        let rest = all_planned_so ns in
        let both = sum_by-append (λ m. cond (q m) 1 0) (message_at changes details n) (flat_map (message_at changes details) ns) in
        let sum = of_found (details_at changes details n) (filter_map (details_at changes details) ns) in
        omega arith
      where
        of_found : (o : Option (ResourceChange × ChangeDetails)) (ps : List (ResourceChange × ChangeDetails)) → steps_of_kind k (cons_option o ps) ≡ share o + steps_of_kind k ps
        of_found None ps = omega arith
        of_found (Some p) ps = sum_by-cons (λ (x : ResourceChange × ChangeDetails). count_by (is_kind k) x.0.steps) p ps

-- they are drifts or planned changes
pub plain_planned : (changes : List ResourceChange) (details : List ChangeDetails) (numbers : List ℕ) → ArePlain (flat_map (message_at changes details) numbers)
plain_planned changes details [] = tt
plain_planned changes details (n ∷ ns) = plain_both (message_at changes details n) (flat_map (message_at changes details) ns) (of_change (slice_get changes n) (slice_get details n)) (plain_planned changes details ns)
  where
    of_word : (change : ResourceChange) (o : Option (List ℕ)) → ArePlain (option_map_or (λ word. planned (intent_named word) (Some change.address) ∷ []) o [])
    of_word change None = tt
    of_word change (Some word) = (tt, tt)

    of_change : (o : Option ResourceChange) (p : Option ChangeDetails) → ArePlain (option_map_or (λ change. option_map_or (λ d. command_read_back change d) p []) o [])
    of_change None p = tt
    of_change (Some change) None = tt
    of_change (Some change) (Some d) = of_word change (command_word change.steps d)

-- ---- what is planned, next to what a saved plan tells of it

-- A saved plan whose changes are all told as forgotten names each change once, and the intents are
-- the same.
abbrev pub forgetting : ChangeDetails → ChangeDetails
forgetting d = record d { forgets = true }

module _ (change : ResourceChange) (d : ChangeDetails) (s c : List Message) (b : IsBehind s c) where
  abbrev told_as : Option (List ℕ) → List Message
  told_as o = option_map_or (λ word. planned (intent_named word) (Some change.address) ∷ []) o []

  of_tests : (x y : Bool) → IsBehind (planned Nothing (Some change.address) ∷ s) (followed_by c (told_as (cond x (Some (codes "move")) (cond y (Some (codes "import")) None))))
  of_tests true y = (more_planned Nothing (Some change.address) s c b).1
  of_tests false true = (more_planned Nothing (Some change.address) s c b).1
  of_tests false false = planned_before (Some change.address) s c b

  of_forgets : (f : Bool) → IsBehind (planned Nothing (Some change.address) ∷ s) (followed_by c (told_as (option_or (cond f (Some (codes "remove")) None) (bookkeeping_word d))))
  of_forgets true = (more_planned Nothing (Some change.address) s c b).1
  of_forgets false = of_tests (is_some d.previous) (is_some d.importing)

  of_steps : (steps : List StepKind) → IsBehind (followed_by s (told_as (planned_word steps true))) (followed_by c (told_as (command_word steps d)))
  of_steps [] = of_forgets d.forgets
  of_steps (k ∷ []) = (more_planned (intent_named (action_word k)) (Some change.address) s c b).1
  of_steps (k ∷ l ∷ ks) = (more_planned (intent_named (codes "replace")) (Some change.address) s c b).1

found_behind : (change : ResourceChange) (o : Option ChangeDetails) (s c : List Message) → IsBehind s c
    → IsBehind (followed_by s (option_map_or (planned_read_back change) (option_map forgetting o) [])) (followed_by c (option_map_or (λ d. command_read_back change d) o []))
found_behind change None s c b = b
found_behind change (Some d) s c b = of_steps change d s c b change.steps

abbrev pub command_at : List ChangeDetails → ℕ × ResourceChange → List Message
command_at details p = option_map_or (λ d. command_read_back p.1 d) (slice_get details p.0) []

pub all_behind : (details : List ChangeDetails) (ps : List (ℕ × ResourceChange)) (s c : List Message) → IsBehind s c
    → IsBehind (followed_by s (flat_map (planned_read_back_at (map forgetting details)) ps)) (followed_by c (flat_map (command_at details) ps))
all_behind details [] s c b = b
all_behind details (p ∷ ps) s c b =
    let xs = planned_read_back_at (map forgetting details) p in
    let ys = command_at details p in
    let here : IsBehind (followed_by s xs) (followed_by c ys) =
    subst (λ (o : Option ChangeDetails). IsBehind (followed_by s (option_map_or (planned_read_back p.1) o [])) (followed_by c ys)) (sym (slice_get-map forgetting details p.0)) (found_behind p.1 (slice_get details p.0) s c b) in
    subst (λ (l : List Message). IsBehind l (followed_by c (ys ++ flat_map (command_at details) ps))) (followed_by_both s xs (flat_map (planned_read_back_at (map forgetting details)) ps))
    (subst (λ (l : List Message). IsBehind (followed_by (followed_by s xs) (flat_map (planned_read_back_at (map forgetting details)) ps)) l) (followed_by_both c ys (flat_map (command_at details) ps)) (all_behind details ps (followed_by s xs) (followed_by c ys) here))

-- where all changes are told, their numbers are those of the plan
pub by_numbers : (changes : List ResourceChange) (details : List ChangeDetails) (n : ℕ) (xs : List ResourceChange) → ((i : ℕ) (x : ResourceChange) → slice_get xs i ≡ Some x → slice_get changes (n + i) ≡ Some x)
    → flat_map (message_at changes details) (map (λ (p : ℕ × ResourceChange). p.0) (enumerate_from n xs)) ≡ flat_map (command_at details) (enumerate_from n xs)
by_numbers changes details n [] at = refl
by_numbers changes details n (x ∷ xs) at =
    let same : n + 0 ≡ n = omega arith in
    let here : slice_get changes n ≡ Some x = subst (λ (k : ℕ). slice_get changes k ≡ Some x) same (at zero x refl) in
    ap₂ (λ (l m : List Message). l ++ m) (ap (λ (o : Option ResourceChange). option_map_or (λ change. option_map_or (λ d. command_read_back change d) (slice_get details n) []) o []) here)
    (by_numbers changes details (n + 1) xs (λ i y is. subst (λ (k : ℕ). slice_get changes k ≡ Some y) (let e : n + suc i ≡ n + 1 + i = omega arith in e) (at (suc i) y is)))

pub all_numbers : (xs : List (ℕ × ResourceChange)) → filter_map (λ (p : ℕ × ResourceChange). Some p.0) xs ≡ map (λ (p : ℕ × ResourceChange). p.0) xs
all_numbers [] = refl
all_numbers (p ∷ ps) = ap (λ (l : List ℕ). p.0 ∷ l) (all_numbers ps)
