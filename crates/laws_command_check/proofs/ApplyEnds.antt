-- The end of a stream of an apply that planned itself: as that of a saved plan.
use Rattle.std.proofs.Common.{◌≡◌, ℕ, List, [], ◌∷◌, ◌++◌, append_assoc, append-nil, length, map, flat_map, Bool, true, false, cond, Option, Some, None, Result, Ok, Err, refl, sym, ap, ap₂, ◌∙◌, subst, ⊎_elim, ◌⊎◌, is_some, count_by, nat_lt, slice_get}
use Rattle.std.specs.Prelude.{◌&&◌, ◌||◌, not}
use Rattle.std.specs.List.{enumerate_from, list_any}
use Rattle.std.specs.Option.{option_map_or}
use Rattle.std.proofs.Math.Bool.{and-false, or-true}
use Rattle.std.proofs.lemmas.Bool.{and_parts, cases_Bool}
use Rattle.apply_model.specs.declared.details.note.Note.{Note}
use Rattle.apply_model.specs.declared.plan.step_kind.StepKind.{StepKind}
use Rattle.apply_model.specs.declared.script.outcome.Outcome.{Outcome}
use Rattle.apply_model.specs.Plan.ResourceChange.{ResourceChange}
use Rattle.apply_model.specs.Plan.SavedPlan.{SavedPlan}
use Rattle.apply_model.specs.Script.OutcomeMap.{OutcomeMap, outcome_of}
use Rattle.stream_check.specs.declared.messages.action.Action.{Action}
use Rattle.stream_check.specs.declared.messages.action.Action.TheVariants.{Create, Update, Delete}
use Rattle.stream_check.specs.declared.messages.totals.Totals.{Totals}
use Rattle.stream_check.specs.declared.rules.fault.Fault.{Fault}
use Rattle.stream_check.specs.declared.rules.fault.Fault.TheVariants.{Planned}
use Rattle.stream_check.specs.declared.rules.pending.Pending.{Pending}
use Rattle.stream_check.specs.AddressState.{pending_at, state_of}
use Rattle.stream_check.specs.Lines.{apply_end, end_of, is_plan_stream, leaves_planned, next, no_end_of, whole_of, whole_plan_of}
use Rattle.stream_check.specs.Message.{Message, version, step, provision, planned, plan_summary, summary, diagnostic, outputs, other, foreign}
use Rattle.stream_check.specs.Open.{any_open}
use Rattle.stream_check.specs.Tally.{completed_totals, completes, is_completion, is_error, is_error_without_address, is_summary, planned_totals, plans_create, plans_delete, plans_update}
use Rattle.stream_check.specs.Unbegun.{any_unbegun, unbegun_at}
use Rattle.stream_check.proofs.Counting.{same_counts}
use Rattle.stream_check.proofs.Unbegun.{none_waits, some_waits}
use Rattle.stream_check.proofs.WholeStream.{bind_ok, one_next}
use Rattle.apply_events.specs.declared.counts.Counts.{Counts}
use Rattle.apply_events.specs.declared.event.Event.{Event}
use Rattle.apply_events.specs.declared.what.What.{What}
use Rattle.apply_events.specs.declared.what.What.TheVariants.{Start, Progress, Complete, Errored, ErrorNote, WarnNote, Halted, ProvisionStart, ProvisionOutput, ProvisionComplete, ProvisionErrored}
use Rattle.apply_events.specs.Step.{Work}
use Rattle.apply_events.specs.Totals.{totals_of}
use Rattle.apply_text.specs.declared.operation.Operation.{Operation}
use Rattle.apply_text.specs.declared.operation.Operation.TheVariants.{Apply, Destroy}
use Rattle.apply_text.specs.Order.{as_written}
use Rattle.apply_text_terraform.specs.Message.{is_silent}
use Rattle.apply_writer.specs.Stream.Terraform.{StreamExtras, contains_error}
use Rattle.laws_check.specs.Accepted.{totals_of_counts}
use Rattle.laws_check.specs.Passing.{plain, with_all}
use Rattle.laws_check.specs.Plans.{ChangesAreWhole, IsOrdinary, ProvisionsCreates, WarnsOfReads}
use Rattle.laws_check.specs.ReadBackInForm.{diagnostic_read_back, end_read_back, event_read_back_in_form, outputs_read_back, planned_read_back_at, read_back_in_form}
use Rattle.laws_check.specs.Unstarted.{EachStarts, FindsUnstarted}
use Rattle.laws_check.specs.WholeSteps.{IsOfWholeSteps}
use Rattle.laws_check.proofs.Errors.{any_counted}
use Rattle.laws_check.proofs.FormFailures.{first_accepted}
use Rattle.laws_check.proofs.FormParts.{none_too}
use Rattle.laws_check.proofs.FormPendings.{IsSame}
use Rattle.laws_check.proofs.FormVerdict.{MayEnd, all_taken, closes, errors_are, finds, sound, summed, totals_are}
use Rattle.laws_check.proofs.Turning.{followed_by, followed_by_both, joined}
use Rattle.laws_check.proofs.Whole.{planned_end, whole_end}
use Rattle.laws_command_check.specs.CommandAccepted.{IsApplyAnswered, whole_of_command}
use Rattle.laws_command_check.proofs.Behind.{AreCarried, HasRooms, Ignores, IsBehind, IsCarried, all_carried, ignores_steps, one_less}

abbrev fine : {A : Type 0} → A → Result A Fault
fine x = Ok x

-- ---- messages one after another

pub later_is : (xs ms later : List Message) → with_all ms xs ≡ Ok later → later ≡ followed_by ms xs
later_is [] ms later e = of_ok e
  where
    of_ok : (let r : Result (List Message) Fault = Ok ms in r) ≡ Ok later → later ≡ ms
    of_ok f = cc
later_is (x ∷ xs) ms later e =
    let first = bind_ok (next ms x) (λ now. with_all now xs) later e in
    later_is xs (x ∷ ms) later (subst (λ (l : List Message). with_all l xs ≡ Ok later) (sym (one_next ms x first.0 first.1)) first.2)

-- the first of some messages that are accepted, and the others
pub peeled : (xs ys ms later : List Message) → with_all ms (xs ++ ys) ≡ Ok later → (with_all ms xs ≡ Ok (followed_by ms xs)) × (with_all (followed_by ms xs) ys ≡ Ok later)
peeled xs ys ms later e =
    let first = first_accepted xs ys ms later e in
    let here : with_all ms xs ≡ Ok (followed_by ms xs) = first.1 ∙ ap (λ (l : List Message). fine l) (later_is xs ms first.0 first.1) in
    (here, sym (joined ms (followed_by ms xs) xs ys here) ∙ e)

-- ---- the messages of events and of diagnostics

-- a message of an event or a diagnostic
abbrev pub IsCalm : Message → Type 0
IsCalm version = ⊥
IsCalm (step a k stage) = Unit {0}
IsCalm (provision a stage) = Unit {0}
IsCalm (planned intent o) = ⊥
IsCalm (plan_summary t) = ⊥
IsCalm (summary t) = ⊥
IsCalm (diagnostic e o) = Unit {0}
IsCalm outputs = ⊥
IsCalm other = ⊥
IsCalm foreign = ⊥

abbrev pub AreCalm : List Message → Type 0
AreCalm [] = Unit {0}
AreCalm (m ∷ ms) = IsCalm m × AreCalm ms

calm_both : (xs ys : List Message) → AreCalm xs → AreCalm ys → AreCalm (xs ++ ys)
calm_both [] ys h k = k
calm_both (x ∷ xs) ys h k = (h.0, calm_both xs ys h.1 k)

one_carried : (m : Message) → IsCalm m → IsCarried m
one_carried version h = absurd h
one_carried (step a k stage) h = tt
one_carried (provision a stage) h = tt
one_carried (planned intent o) h = absurd h
one_carried (plan_summary t) h = absurd h
one_carried (summary t) h = absurd h
one_carried (diagnostic e o) h = tt
one_carried outputs h = absurd h
one_carried other h = absurd h
one_carried foreign h = absurd h

calm_carried : (ms : List Message) → AreCalm ms → AreCarried ms
calm_carried [] h = tt
calm_carried (m ∷ ms) h = (one_carried m h.0, calm_carried ms h.1)

-- a test that none of them passes
abbrev pub Skips : (Message → Bool) → Type 0
Skips q = (m : Message) → IsCalm m → q m ≡ false

calm_none : (q : Message → Bool) → Skips q → (ms : List Message) → AreCalm ms → count_by q ms ≡ 0
calm_none q skips [] h = refl
calm_none q skips (m ∷ ms) h = one_less q m ms (skips m h.0) ∙ calm_none q skips ms h.1

pub calm_after : (q : Message → Bool) → Skips q → (xs ms : List Message) → AreCalm xs → count_by q (followed_by ms xs) ≡ count_by q ms
calm_after q skips [] ms h = refl
calm_after q skips (x ∷ xs) ms h = calm_after q skips xs (x ∷ ms) h.1 ∙ one_less q x ms (skips x h.0)

skips_plans : (q : Message → Bool) → ((a : List ℕ) (k : Action) (stage : _) → q (step a k stage) ≡ false) → ((a : List ℕ) (stage : _) → q (provision a stage) ≡ false) → ((e : Bool) (o : Option (List ℕ)) → q (diagnostic e o) ≡ false) → Skips q
skips_plans q s p d version h = absurd h
skips_plans q s p d (step a k stage) h = s a k stage
skips_plans q s p d (provision a stage) h = p a stage
skips_plans q s p d (planned intent o) h = absurd h
skips_plans q s p d (plan_summary t) h = absurd h
skips_plans q s p d (summary t) h = absurd h
skips_plans q s p d (diagnostic e o) h = d e o
skips_plans q s p d outputs h = absurd h
skips_plans q s p d other h = absurd h
skips_plans q s p d foreign h = absurd h

pub planned_after : (xs ms : List Message) → AreCalm xs → planned_totals (followed_by ms xs) ≡ planned_totals ms
planned_after xs ms h = same_counts (calm_after plans_create (skips_plans plans_create (λ a k stage. refl) (λ a stage. refl) (λ e o. refl)) xs ms h)
    (calm_after plans_update (skips_plans plans_update (λ a k stage. refl) (λ a stage. refl) (λ e o. refl)) xs ms h)
    (calm_after plans_delete (skips_plans plans_delete (λ a k stage. refl) (λ a stage. refl) (λ e o. refl)) xs ms h)

pub notes_calm : (notes : List Note) → AreCalm (map diagnostic_read_back notes)
notes_calm [] = tt
notes_calm (note ∷ notes) = (tt, notes_calm notes)

pub events_calm : (plan : SavedPlan) (script : OutcomeMap) (es : List Event) → AreCalm (flat_map (event_read_back_in_form plan script) es)
events_calm plan script [] = tt
events_calm plan script (e ∷ es) = calm_both (event_read_back_in_form plan script e) (flat_map (event_read_back_in_form plan script) es) (of_change (slice_get plan.changes e.change)) (events_calm plan script es)
  where
    of_what : (change : ResourceChange) (does : StepKind) (outcome : Outcome) (what : What) → IsCalm (read_back_in_form change does outcome what)
    of_what change does outcome Start = tt
    of_what change does outcome (Progress s) = tt
    of_what change does outcome (Complete s) = tt
    of_what change does outcome (Errored s) = tt
    of_what change does outcome ErrorNote = tt
    of_what change does outcome WarnNote = tt
    of_what change does outcome (Halted phase hook) = tt
    of_what change does outcome (ProvisionStart i) = tt
    of_what change does outcome (ProvisionOutput i line) = tt
    of_what change does outcome (ProvisionComplete i) = tt
    of_what change does outcome (ProvisionErrored i) = tt

    of_test : (change : ResourceChange) (does : StepKind) (b : Bool) → AreCalm (cond b [] (read_back_in_form change does (outcome_of script e.change e.step) e.what ∷ []))
    of_test change does true = tt
    of_test change does false = (of_what change does (outcome_of script e.change e.step) e.what, tt)

    of_step : (change : ResourceChange) (o : Option StepKind) → AreCalm (option_map_or (λ does. cond (is_silent does e.what) [] (read_back_in_form change does (outcome_of script e.change e.step) e.what ∷ [])) o [])
    of_step change None = tt
    of_step change (Some does) = of_test change does (is_silent does e.what)

    of_change : (o : Option ResourceChange)
        → AreCalm (option_map_or (λ (change : ResourceChange). option_map_or (λ does. cond (is_silent does e.what) [] (read_back_in_form change does (outcome_of script e.change e.step) e.what ∷ [])) (slice_get change.steps e.step) []) o [])
    of_change None = tt
    of_change (Some change) = of_step change (slice_get change.steps e.step)

-- ---- all of it

pub record IsTakenBehind (plans : Bool) (work : Work) (extras : StreamExtras) (operation : Operation) (events : List Event) (before : List Message) : Type 0 where
  pub messages : List Message
  pub accepted : with_all before (flat_map (event_read_back_in_form work.plan work.script) (as_written events) ++ (map diagnostic_read_back extras.notes ++ end_read_back extras operation (totals_of work.plan events))) ≡ Ok messages
  pub found : FindsUnstarted work.plan events messages
  pub answer : IsApplyAnswered work.plan events plans (contains_error extras.notes (totals_of work.plan events)) (planned_totals before) (totals_of_counts (totals_of work.plan events)) (length messages) Fault Planned (end_of (plain plans) messages)

module _ (work : Work) (extras : StreamExtras) (events : List Event) (ordinary : IsOrdinary work.plan) (whole : ChangesAreWhole work.plan) (as_many : length extras.details ≡ length work.plan.changes)
    (provisioned : ProvisionsCreates work.plan work.script) (reads : WarnsOfReads work.plan work.script) (steps : IsOfWholeSteps work events) where
  abbrev ps : List Message
  ps = flat_map (planned_read_back_at extras.details) (enumerate_from 0 work.plan.changes)

  abbrev rest : List Message
  rest = flat_map (event_read_back_in_form work.plan work.script) (as_written events) ++ map diagnostic_read_back extras.notes

  abbrev counts : Counts
  counts = totals_of work.plan events

  calm : AreCalm rest
  calm = calm_both (flat_map (event_read_back_in_form work.plan work.script) (as_written events)) (map diagnostic_read_back extras.notes) (events_calm work.plan work.script (as_written events)) (notes_calm extras.notes)

  module _ (before : List Message) (behind : IsBehind (followed_by (version ∷ []) ps) before) (rooms : HasRooms before rest) where
    saved_accepted : with_all (followed_by (version ∷ []) ps) rest ≡ Ok (followed_by (version ∷ []) (ps ++ rest))
    saved_accepted = (peeled ps rest (version ∷ []) (followed_by (version ∷ []) (ps ++ rest)) (all_taken work extras events ordinary whole as_many provisioned reads steps).0).1

    carried : (with_all before rest ≡ Ok (followed_by before rest)) × IsBehind (followed_by (followed_by (version ∷ []) ps) rest) (followed_by before rest)
    carried = all_carried rest (followed_by (version ∷ []) ps) before (followed_by (version ∷ []) (ps ++ rest)) behind saved_accepted (calm_carried rest calm) rooms

    -- the messages of the saved plan, and these
    abbrev saved : List Message
    saved = followed_by (version ∷ []) (ps ++ rest)

    abbrev all : List Message
    all = followed_by before rest

    both : IsBehind (followed_by (version ∷ []) (ps ++ rest)) (followed_by before rest)
    both = subst (λ (l : List Message). IsBehind l (followed_by before rest)) (followed_by_both (version ∷ []) ps rest) carried.1

    may_end : MayEnd (followed_by before rest)
    may_end =
        let so = sound work extras events ordinary whole as_many provisioned reads steps in
        record {
          begun = both.alike.begun;
          unsummed = both.alike.unsummed;
          pending = λ k unlike a. none_too k unlike (pending_at k (state_of a saved)) (pending_at k (state_of a all)) ((both.alike.state a).pending k) (so.pending k unlike a);
          stand = ap₂ (λ (n m : ℕ). nat_lt n m) (both.counts is_error_without_address (ignores_errors is_error_without_address (λ m. refl))) both.left ∙ so.stand;
        }
      where
        ignores_errors : (q : Message → Bool) → ((m : Message) → q m ≡ q m) → Ignores is_error_without_address
        ignores_errors q same version h = refl
        ignores_errors q same (step a l stage) h = refl
        ignores_errors q same (provision a stage) h = refl
        ignores_errors q same (planned intent o) h = refl
        ignores_errors q same (plan_summary t) h = refl
        ignores_errors q same (summary t) h = refl
        ignores_errors q same (diagnostic e o) h = absurd h
        ignores_errors q same outputs h = refl
        ignores_errors q same other h = refl
        ignores_errors q same foreign h = refl

    ignores_error : Ignores is_error
    ignores_error version h = refl
    ignores_error (step a l stage) h = refl
    ignores_error (provision a stage) h = refl
    ignores_error (planned intent o) h = refl
    ignores_error (plan_summary t) h = refl
    ignores_error (summary t) h = refl
    ignores_error (diagnostic e o) h = absurd h
    ignores_error outputs h = refl
    ignores_error other h = refl
    ignores_error foreign h = refl

    errors : list_any is_error (followed_by before rest) ≡ contains_error extras.notes (totals_of work.plan events)
    errors =
        any_counted is_error all ∙ ap (nat_lt 0) (both.counts is_error ignores_error) ∙ sym (any_counted is_error saved)
        ∙ errors_are work extras events ordinary whole as_many provisioned reads steps

    totals : completed_totals (followed_by before rest) ≡ totals_of_counts (totals_of work.plan events)
    totals =
        same_counts (both.counts (completes Create) (ignores_steps Create is_completion refl refl)) (both.counts (completes Update) (ignores_steps Update is_completion refl refl)) (both.counts (completes Delete) (ignores_steps Delete is_completion refl refl))
        ∙ totals_are work extras events ordinary whole as_many provisioned reads steps

    -- ---- the creates that never begin

    abbrev end : Operation → List Message
    end operation = end_read_back extras operation (totals_of work.plan events)

    end_waits : (a : List ℕ) (operation : Operation) (ms : List Message) → unbegun_at a (followed_by ms (end_read_back extras operation (totals_of work.plan events))) ≡ unbegun_at a ms
    unfolding unbegun_at
    end_waits a operation ms = of_error (contains_error extras.notes (totals_of work.plan events)) operation
      where
        of_error : (b : Bool) (o : Operation) → unbegun_at a (followed_by ms (cond b [] (summary (totals_of_counts (totals_of work.plan events)) ∷ outputs_read_back o))) ≡ unbegun_at a ms
        of_error true o = refl
        of_error false Apply = refl
        of_error false Destroy = refl

    some_same : (p q : Option Pending) → IsSame p q → is_some q ≡ is_some p
    some_same None None h = refl
    some_same None (Some q) h = absurd h
    some_same (Some p) None h = absurd h
    some_same (Some p) (Some q) h = refl

    found_too : (operation : Operation) → FindsUnstarted work.plan events (followed_by (followed_by before rest) (end_read_back extras operation (totals_of work.plan events)))
    found_too operation a =
        let told = finds work extras events ordinary whole as_many provisioned reads steps operation a in
        let same : is_some (unbegun_at a (followed_by all (end operation))) ≡ is_some (unbegun_at a (followed_by saved (end operation))) =
        ap is_some (end_waits a operation all) ∙ some_same (unbegun_at a saved) (unbegun_at a all) (both.waiting a) ∙ sym (ap is_some (end_waits a operation saved)) in
        (λ some. told.0 (sym same ∙ some), λ never. same ∙ told.1 never)

    -- without a planned create that is left, or with an error
    none_left : (ms : List Message) (b : Bool) → list_any is_error ms ≡ b → (b ≡ true) ⊎ EachStarts work.plan events → FindsUnstarted work.plan events ms → leaves_planned ms ≡ false
    none_left ms b error told found =
        ⊎_elim
        (λ (fails : b ≡ true). ap (λ (e : Bool). (list_any is_summary ms && not e) && any_unbegun ms) (error ∙ fails) ∙ ap (λ (e : Bool). e && any_unbegun ms) (and-false (list_any is_summary ms)))
        (λ (each : EachStarts work.plan events).
        let none : any_unbegun ms ≡ false = none_waits ms (λ a. ⊎_elim (λ (some : is_some (unbegun_at a ms) ≡ true). absurd (each a ((found a).0 some))) (λ (none : is_some (unbegun_at a ms) ≡ false). none) (cases_Bool (is_some (unbegun_at a ms)))) in
        ap (λ (e : Bool). (list_any is_summary ms && not (list_any is_error ms)) && e) none ∙ and-false (list_any is_summary ms && not (list_any is_error ms)))
        told

    or_false : (b : Bool) → (b || false) ≡ b
    or_false true = refl
    or_false false = refl

    some_left : (ms : List Message) → (list_any is_summary ms || list_any is_error ms) ≡ true → list_any is_error ms ≡ false → (a : List ℕ) → is_some (unbegun_at a ms) ≡ true → leaves_planned ms ≡ true
    some_left ms ends none a some =
        let summed_up : list_any is_summary ms ≡ true = sym (or_false (list_any is_summary ms)) ∙ ap (λ (e : Bool). list_any is_summary ms || e) (sym none) ∙ ends in
        rw (summed_up, none, some_waits ms a some) refl

    -- ---- with an error

    module _ (plans : Bool) (failed : contains_error extras.notes (totals_of work.plan events) ≡ true) where
      told : list_any is_error (followed_by before rest) ≡ true
      told = errors ∙ failed

      closed : any_open (followed_by before rest) ≡ false
      closed = closes all may_end.pending may_end.stand

      as_plan : Ok (whole_plan_of (plain plans) (followed_by before rest)) ≡ fine (whole_of_command true (planned_totals before) (totals_of_counts (totals_of work.plan events)) true (length (followed_by before rest)))
      as_plan = ap₂ (λ (t : Totals) (b : Bool). fine (whole_of_command true t (totals_of_counts (totals_of work.plan events)) b (length all))) (planned_after rest before calm) told

      as_apply : apply_end (plain plans) (followed_by before rest) ≡ Ok (whole_of_command false (planned_totals before) (totals_of_counts (totals_of work.plan events)) true (length (followed_by before rest)))
      as_apply =
          let left : leaves_planned all ≡ false = ap (λ (e : Bool). (list_any is_summary all && not e) && any_unbegun all) told ∙ ap (λ (e : Bool). e && any_unbegun all) (and-false (list_any is_summary all)) in
          ap (λ (b : Bool). cond b (Err Planned) (cond (list_any is_summary all || list_any is_error all) (fine (whole_of (plain plans) all)) (Err (no_end_of all)))) left
          ∙ ap (λ (b : Bool). cond (list_any is_summary all || b) (fine (whole_of (plain plans) all)) (Err (no_end_of all))) told
          ∙ ap (λ (b : Bool). cond b (fine (whole_of (plain plans) all)) (Err (no_end_of all))) (or-true (list_any is_summary all))
          ∙ ap₂ (λ (t : Totals) (b : Bool). fine (whole_of_command false (planned_totals before) t b (length all))) totals told

      ends_so : (b : Bool) → (plans && is_plan_stream (followed_by before rest)) ≡ b → end_of (plain plans) (followed_by before rest) ≡ Ok (whole_of_command b (planned_totals before) (totals_of_counts (totals_of work.plan events)) true (length (followed_by before rest)))
      unfolding end_of
      ends_so true is = rw (closed, is) as_plan
      ends_so false is = rw (closed, is) as_apply

    taken_with_error : (plans : Bool) (operation : Operation) → contains_error extras.notes (totals_of work.plan events) ≡ true → IsTakenBehind plans work extras operation events before
    taken_with_error plans operation failed =
        let is : end operation ≡ [] = ap (λ (b : Bool). cond b [] (summary (totals_of_counts (totals_of work.plan events)) ∷ outputs_read_back operation)) failed in
        let happened = flat_map (event_read_back_in_form work.plan work.script) (as_written events) in
        let loose = map diagnostic_read_back extras.notes in
        record {
          messages = all;
          accepted = ap (λ (l : List Message). with_all before (happened ++ (loose ++ l))) is ∙ ap (λ (l : List Message). with_all before (happened ++ l)) (append-nil loose) ∙ carried.0;
          found = subst (λ (l : List Message). FindsUnstarted work.plan events (followed_by all l)) is (found_too operation);
          answer = subst (λ (b : Bool). IsApplyAnswered work.plan events plans b (planned_totals before) (totals_of_counts (totals_of work.plan events)) (length all) Fault Planned (end_of (plain plans) all)) (sym failed)
              (record {
                is_whole = λ which. (plans && is_plan_stream all, ends_so plans failed (plans && is_plan_stream all) refl, λ yes_plan. ((and_parts plans (is_plan_stream all) yes_plan).0, refl));
                leaves = λ fails. absurd (let bad : true ≡ false = fails in cc);
              });
        }

    -- ---- without one

    taken_without : (plans : Bool) (operation : Operation) → contains_error extras.notes (totals_of work.plan events) ≡ false → IsTakenBehind plans work extras operation events before
    taken_without plans operation fine_so =
        let t = totals_of_counts (totals_of work.plan events) in
        let last = summary t ∷ outputs_read_back operation in
        let is : end operation ≡ last = ap (λ (b : Bool). cond b [] last) fine_so in
        let so = summed operation t all may_end (sym totals) in
        let happened = flat_map (event_read_back_in_form work.plan work.script) (as_written events) in
        let loose = map diagnostic_read_back extras.notes in
        let ended = followed_by all last in
        let found = subst (λ (l : List Message). FindsUnstarted work.plan events (followed_by all l)) is (found_too operation) in
        let error : list_any is_error ended ≡ false = so.errors ∙ errors ∙ fine_so in
        record {
          messages = ended;
          accepted = ap (λ (l : List Message). with_all before (happened ++ (loose ++ l))) is ∙ ap (with_all before) (sym (append_assoc happened loose last)) ∙ joined before all rest last carried.0 ∙ so.accepted;
          found = found;
          answer = subst (λ (b : Bool). IsApplyAnswered work.plan events plans b (planned_totals before) (totals_of_counts (totals_of work.plan events)) (length ended) Fault Planned (end_of (plain plans) ended)) (sym fine_so)
              (record {
                is_whole = λ which. (
                  false,
                  whole_end plans ended so.closed so.no_plan (none_left ended false error which found) so.ends
                      ∙ ap₂ (λ (u : Totals) (b : Bool). fine (whole_of_command false (planned_totals before) u b (length ended))) (so.totals ∙ totals) error,
                  λ is_plan. absurd (let bad : false ≡ true = is_plan in cc),
                );
                leaves = λ none a never. planned_end plans ended so.closed so.no_plan (some_left ended so.ends error a ((found a).1 never));
              });
        }

    pub taken_behind : (plans : Bool) (operation : Operation) → IsTakenBehind plans work extras operation events before
    taken_behind plans operation =
        ⊎_elim (λ failed. taken_with_error plans operation failed) (λ fine_so. taken_without plans operation fine_so) (cases_Bool (contains_error extras.notes (totals_of work.plan events)))
