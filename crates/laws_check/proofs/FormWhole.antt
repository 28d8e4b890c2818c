-- The whole stream in Terraform's form: version, planned changes, events, diagnostics of no step,
-- and end.
use Rattle.std.proofs.Common.{◌≡◌, ℕ, ◌<◌, ◌≤◌, List, [], ◌∷◌, ◌++◌, cond, count_by, flat_map, length, map, Bool, true, false, Option, Some, None, Result, Ok, Err, is_some, refl, sym, ap, ◌∙◌, subst, slice_get, arith}
use Rattle.std.specs.Prelude.{is_ok}
use Rattle.std.specs.List.{enumerate_from}
use Rattle.std.specs.Option.{option_map_or}
use Rattle.std.proofs.lemmas.List.Sums.{sum_by-cons}
use Rattle.apply_model.specs.declared.details.change_details.ChangeDetails.{ChangeDetails}
use Rattle.apply_model.specs.declared.details.note.Note.{Note}
use Rattle.apply_model.specs.Plan.ResourceChange.{ResourceChange}
use Rattle.stream_check.specs.declared.messages.action.Action.{Action}
use Rattle.stream_check.specs.declared.messages.action.Action.TheVariants.{Create, Update, Delete, Read, Refresh}
use Rattle.stream_check.specs.declared.messages.intent.Intent.{Intent}
use Rattle.stream_check.specs.declared.rules.fault.Fault.{Fault}
use Rattle.stream_check.specs.declared.rules.fault.Fault.TheVariants.{AfterSummary}
use Rattle.stream_check.specs.Course.{max_overlap}
use Rattle.stream_check.specs.Lines.{next}
use Rattle.stream_check.specs.Message.{Message, intent_named, planned, version}
use Rattle.stream_check.specs.Results.{◌>>=◌}
use Rattle.stream_check.specs.AddressState.{idle, pending_at, state_of}
use Rattle.stream_check.specs.Tally.{begins, is_version, line_of, plans_create, plans_delete, plans_update}
use Rattle.apply_events.specs.declared.event.Event.{Event}
use Rattle.apply_events.specs.Step.{Work, kinds_of}
use Rattle.apply_text.specs.Order.{as_written}
use Rattle.apply_text_terraform.specs.Details.{planned_word}
use Rattle.apply_writer.specs.Stream.Terraform.{StreamExtras}
use Rattle.laws_check.specs.Passing.{with_all}
use Rattle.laws_check.specs.Plans.{ChangesAreWhole, IsOrdinary, ProvisionsCreates, WarnsOfReads}
use Rattle.laws_check.specs.ReadBack.{events_read_back}
use Rattle.laws_check.specs.ReadBackInForm.{planned_read_back, planned_read_back_at, read_back_before_end, event_read_back_in_form, diagnostic_read_back}
use Rattle.laws_check.specs.WholeSteps.{IsOfWholeSteps, events_of_change}
use Rattle.laws_check.proofs.Errors.{AreParts, IsPlanned}
use Rattle.laws_check.proofs.FormCounts.{all_starts_read_back, change_starts, does_so, starts_as}
use Rattle.laws_check.proofs.FormMatches.{AreAlike}
use Rattle.laws_check.proofs.FormPendings.{Matches}
use Rattle.laws_check.proofs.FormPlans.{cap_of, creates_planned, deletes_planned, few_reads, updates_planned}
use Rattle.laws_check.proofs.FormRuns.{IsWithin, all_ran}
use Rattle.laws_check.proofs.ChangeSums.{by_changes, total_most}
use Rattle.laws_check.proofs.Parts.{Each, each_weaker}
use Rattle.laws_check.proofs.Standings.{next_after}
use Rattle.laws_check.proofs.Tallies.{are_planned, count_written, is_within as event_within, whole_steps_run}
use Rattle.laws_check.proofs.Turning.{followed_by, followed_by_both, joined}
use Rattle.laws_check.proofs.Whole.{counts_followed_by}

abbrev fine : List Message → Result (List Message) Fault
fine l = Ok l

-- ---- the begin

at_first : AreAlike (version ∷ []) (version ∷ [])
unfolding state_of
at_first = record { begun = refl; unsummed = refl; state = λ a. record { pending = none_open; provisioner = refl }; reads = λ a. omega arith }
  where
    none_open : (k : Action) → Matches k (pending_at k idle) (pending_at k idle)
    none_open Create = tt
    none_open Update = tt
    none_open Delete = tt
    none_open Read = tt
    none_open Refresh = tt

-- ---- what is planned

abbrev pub AreIntents : List Message → Type 0
AreIntents [] = Unit {0}
AreIntents (m ∷ ms) = ((intent : Intent) × (address : Option (List ℕ)) × (m ≡ planned intent address)) × AreIntents ms

intents_both : (xs ys : List Message) → AreIntents xs → AreIntents ys → AreIntents (xs ++ ys)
intents_both [] ys h k = k
intents_both (x ∷ xs) ys h k = (h.0, intents_both xs ys h.1 k)

planned_intents : (change : ResourceChange) (details : Option ChangeDetails) → AreIntents (option_map_or (planned_read_back change) details [])
planned_intents change None = tt
planned_intents change (Some details) = of_word (planned_word change.steps details.forgets)
  where
    of_word : (word : Option (List ℕ)) → AreIntents (option_map_or (λ word. planned (intent_named word) (Some change.address) ∷ []) word [])
    of_word None = tt
    of_word (Some word) = ((intent_named word, Some change.address, refl), tt)

pub all_intents : (details : List ChangeDetails) (ps : List (ℕ × ResourceChange)) → AreIntents (flat_map (planned_read_back_at details) ps)
all_intents details [] = tt
all_intents details (p ∷ ps) = intents_both (planned_read_back_at details p) (flat_map (planned_read_back_at details) ps) (planned_intents p.1 (slice_get details p.0)) (all_intents details ps)

one_planned : (intent : Intent) (address : Option (List ℕ)) (ms ns : List Message) → AreAlike ms ns → (next ns (planned intent address) ≡ Ok (planned intent address ∷ ns)) × AreAlike ms (planned intent address ∷ ns)
unfolding state_of
one_planned intent address ms ns alike = (
  next_after ns (planned intent address) alike.begun (λ first. ap (λ (o : Option ℕ). option_map_or (λ line. Err (AfterSummary line)) o (fine (planned intent address ∷ ns))) alike.unsummed),
  record {
    begun = alike.begun;
    unsummed = alike.unsummed;
    state = alike.state;
    reads = λ a. let before = alike.reads a in let all = sum_by-cons (λ m. cond (begins Read m) 1 0) (planned intent address) ns in omega arith;
  },
)

all_planned : (ps ms ns : List Message) → AreIntents ps → AreAlike ms ns → (with_all ns ps ≡ Ok (followed_by ns ps)) × AreAlike ms (followed_by ns ps)
all_planned [] ms ns intents alike = (refl, alike)
all_planned (p ∷ ps) ms ns intents alike =
    let here : (next ns p ≡ Ok (p ∷ ns)) × AreAlike ms (p ∷ ns) = subst (λ (m : Message). (next ns m ≡ Ok (m ∷ ns)) × AreAlike ms (m ∷ ns)) (sym intents.0.2) (one_planned intents.0.0 intents.0.1 ms ns alike) in
    let rest = all_planned ps ms (p ∷ ns) intents.1 here.1 in
    (ap (λ (r : Result (List Message) Fault). r >>= λ later. with_all later ps) here.0 ∙ rest.0, rest.1)

pub none_planned : (q : Message → Bool) → ((intent : Intent) (address : Option (List ℕ)) → q (planned intent address) ≡ false) → (ps : List Message) → AreIntents ps → count_by q ps ≡ 0
none_planned q none [] h = refl
none_planned q none (p ∷ ps) h =
    let first = sum_by-cons (λ m. cond (q m) 1 0) p ps in
    let here : cond {A = ℕ} (q p) 1 0 ≡ 0 = ap (λ (b : Bool). cond b 1 0) (ap q h.0.2 ∙ none h.0.0 h.0.1) in
    let rest = none_planned q none ps h.1 in
    omega arith

-- ---- diagnostics of no step

pub notes_taken : (notes : List Note) (ns : List Message) → is_some (line_of is_version ns) ≡ true → with_all ns (map diagnostic_read_back notes) ≡ Ok (followed_by ns (map diagnostic_read_back notes))
notes_taken [] ns begun = refl
notes_taken (note ∷ notes) ns begun =
    ap (λ (r : Result (List Message) Fault). r >>= λ later. with_all later (map diagnostic_read_back notes)) (next_after ns (diagnostic_read_back note) begun (λ first. refl))
    ∙ notes_taken notes (diagnostic_read_back note ∷ ns) begun

-- ---- up to the end

module _ (work : Work) (extras : StreamExtras) (events : List Event) (few : length work.plan.changes ≤ max_overlap) (whole : ChangesAreWhole work.plan) (as_many : length extras.details ≡ length work.plan.changes)
    (within : Each (λ e. e.change < length work.plan.changes) events) (parts : AreParts work (length work.plan.changes) events) where
  -- no more begins than the plan has
  begun_most : (k : Action) → count_by (begins k) (flat_map (event_read_back_in_form work.plan work.script) (as_written events)) ≤ cap_of work.plan k
  begun_most k =
      let starts = all_starts_read_back work.plan work.script k (as_written events) in
      let same = count_written (starts_as work.plan k) events in
      let split = by_changes (starts_as work.plan k) (length work.plan.changes) events within in
      let each = total_most 0 (length work.plan.changes) (λ c. count_by (starts_as work.plan k) (events_of_change c events)) (λ c. count_by (does_so k) (kinds_of work.plan c))
      (λ c above below. change_starts work k c (events_of_change c events) (parts c (omega arith))) in
      omega arith

  is_within : IsWithin (cap_of work.plan) (followed_by (version ∷ []) (flat_map (planned_read_back_at extras.details) (enumerate_from 0 work.plan.changes))) (flat_map (event_read_back_in_form work.plan work.script) (as_written events))
  is_within =
      let ps = flat_map (planned_read_back_at extras.details) (enumerate_from 0 work.plan.changes) in
      record {
        begun = λ k.
            let most = begun_most k in
            let now = counts_followed_by (begins k) (version ∷ []) ps in
            let none = none_planned (begins k) (λ intent address. refl) ps (all_intents extras.details (enumerate_from 0 work.plan.changes)) in
            let first : count_by (begins k) (version ∷ []) ≡ 0 = refl in
            omega arith;
        creates = let now = counts_followed_by plans_create (version ∷ []) ps in let first : count_by plans_create (version ∷ []) ≡ 0 = refl in let share = creates_planned work.plan extras.details whole as_many in omega arith;
        updates = let now = counts_followed_by plans_update (version ∷ []) ps in let first : count_by plans_update (version ∷ []) ≡ 0 = refl in let share = updates_planned work.plan extras.details whole as_many in omega arith;
        deletes = let now = counts_followed_by plans_delete (version ∷ []) ps in let first : count_by plans_delete (version ∷ []) ≡ 0 = refl in let share = deletes_planned work.plan extras.details whole as_many in omega arith;
        reads = let most = few_reads work.plan whole in omega arith;
      }

  -- all messages are accepted, and the open steps match those of the default form
  pub taken : (later : List Message) → with_all (version ∷ []) (events_read_back work.plan (as_written events)) ≡ Ok later
      → (with_all (version ∷ []) (read_back_before_end work.plan work.script extras events) ≡ Ok (followed_by (version ∷ []) (read_back_before_end work.plan work.script extras events)))
      × AreAlike (followed_by (version ∷ []) (events_read_back work.plan (as_written events))) (followed_by (followed_by (version ∷ []) (flat_map (planned_read_back_at extras.details) (enumerate_from 0 work.plan.changes))) (flat_map (event_read_back_in_form work.plan work.script) (as_written events)))
  taken later is =
      let ps = flat_map (planned_read_back_at extras.details) (enumerate_from 0 work.plan.changes) in
      let hs = flat_map (event_read_back_in_form work.plan work.script) (as_written events) in
      let ns = map diagnostic_read_back extras.notes in
      let first = all_planned ps (version ∷ []) (version ∷ []) (all_intents extras.details (enumerate_from 0 work.plan.changes)) at_first in
      let ran = all_ran work.script (cap_of work.plan) work.plan (as_written events) (version ∷ []) (followed_by (version ∷ []) ps) later first.1 is is_within in
      let last = notes_taken extras.notes (followed_by (followed_by (version ∷ []) ps) hs) ran.alike.begun in (
        joined (version ∷ []) (followed_by (version ∷ []) ps) ps (hs ++ ns) first.0 ∙ joined (followed_by (version ∷ []) ps) (followed_by (followed_by (version ∷ []) ps) hs) hs ns ran.accepted ∙ last
            ∙ ap (λ (l : List Message). fine l) (followed_by_both (followed_by (version ∷ []) ps) hs ns ∙ followed_by_both (version ∷ []) ps (hs ++ ns)),
        ran.alike,
      )

-- the messages before the end are taken
pub front_taken : (work : Work) (extras : StreamExtras) (events : List Event) → IsOrdinary work.plan → ChangesAreWhole work.plan → length extras.details ≡ length work.plan.changes → ProvisionsCreates work.plan work.script → WarnsOfReads work.plan work.script
    → IsOfWholeSteps work events → is_ok (with_all [] (version ∷ read_back_before_end work.plan work.script extras events)) ≡ true
front_taken work extras events ordinary whole as_many provisioned reads steps =
    let planned_events = are_planned work.plan events steps.planned in
    let runs = whole_steps_run work events ordinary provisioned reads steps in
    ap is_ok (taken work extras events (omega (arith, ordinary.few)) whole as_many (each_weaker (IsPlanned work.plan) (λ e. e.change < length work.plan.changes) (event_within work.plan) events planned_events) steps.whole
    (followed_by (version ∷ []) (events_read_back work.plan (as_written events))) runs.0).0
