-- The verdict on a whole stream in Terraform's form.
use Rattle.std.proofs.Common.{◌≡◌, ◌≢◌, ℕ, ◌+◌, ◌<◌, ◌≤◌, List, [], ◌∷◌, ◌++◌, append_assoc, cond, count_by, flat_map, length, length-append, map, suc, Bool, true, false, Option, None, Result, Ok, is_some, refl, sym, ap, ap₂, ◌∙◌, subst, ⊎_elim, ◌-◌, arith, le-ltb}
use Rattle.std.specs.Prelude.{◌&&◌, ◌||◌, ◌⊎◌, nat_lt, not}
use Rattle.std.specs.List.{enumerate_from, list_any}
use Rattle.std.proofs.Math.Bool.{and-false, or-true}
use Rattle.std.proofs.lemmas.Bool.{cases_Bool, lt-ltb, ltb-true, or_parts}
use Rattle.std.proofs.lemmas.Grind.{flat_map-append}
use Rattle.std.proofs.lemmas.List.Sums.{sum_by-append, sum_by-cons}
use Rattle.stream_check.specs.declared.messages.action.Action.{Action}
use Rattle.stream_check.specs.declared.messages.action.Action.TheVariants.{Create, Update, Delete, Read, Refresh}
use Rattle.stream_check.specs.declared.messages.totals.Totals.{Totals}
use Rattle.stream_check.specs.declared.rules.fault.Fault.{Fault}
use Rattle.stream_check.specs.declared.verdict.whole.Whole.{Whole}
use Rattle.stream_check.specs.Lines.{is_plan_stream, leaves_planned, next}
use Rattle.stream_check.specs.Message.{Message, diagnostic, outputs, summary, version}
use Rattle.stream_check.specs.Open.{any_open, refreshes_matter, stands_open}
use Rattle.stream_check.specs.Results.{◌>>=◌}
use Rattle.stream_check.specs.AddressState.{pending_at, state_of}
use Rattle.stream_check.specs.Tally.{begun_totals, completed_totals, completes, failures_left, failures_stand, is_error, is_error_without_address, is_plan_summary, is_summary, is_version, line_of, no_totals, same_totals}
use Rattle.stream_check.proofs.Counting.{same_counts, uncounted}
use Rattle.stream_check.specs.Unbegun.{any_unbegun, unbegun_at}
use Rattle.stream_check.proofs.OpenSteps.{not_any_open}
use Rattle.stream_check.proofs.Unbegun.{none_waits, some_waits}
use Rattle.apply_events.specs.declared.event.Event.{Event}
use Rattle.apply_events.specs.Diagnostics.{is_note}
use Rattle.apply_events.specs.Step.{Work, address_of}
use Rattle.apply_events.specs.Totals.{is_errored, totals_of}
use Rattle.apply_text.specs.declared.operation.Operation.{Operation}
use Rattle.apply_text.specs.declared.operation.Operation.TheVariants.{Apply, Destroy}
use Rattle.apply_text.specs.Order.{as_written, hook_messages_of, notes_of}
use Rattle.apply_writer.specs.Stream.Terraform.{StreamExtras, contains_error}
use Rattle.laws_check.specs.Accepted.{totals_of_counts}
use Rattle.laws_check.specs.AcceptedInForm.{IsTakenInForm}
use Rattle.laws_check.specs.Passing.{with_all}
use Rattle.laws_check.specs.Plans.{ChangesAreWhole, IsOrdinary, ProvisionsCreates, WarnsOfReads}
use Rattle.laws_check.specs.ReadBack.{events_read_back}
use Rattle.laws_check.specs.ReadBackInForm.{stream_read_back_in_form, outputs_read_back, planned_read_back_at, end_read_back, read_back_before_end, event_read_back_in_form, diagnostic_read_back}
use Rattle.laws_check.specs.Unstarted.{EachStarts, FindsUnstarted}
use Rattle.laws_check.specs.WholeSteps.{IsOfWholeSteps}
use Rattle.laws_check.proofs.Errors.{IsPlanned, any_both, as_many_noted, errors_read_back, few_fail, is_error_note}
use Rattle.laws_check.proofs.FormFailures.{AllStand, AreDiagnostics, all_named, all_stand, anywhere, at_version, diagnostics_both, diagnostics_keep, fails_where, first_accepted, left_at_end, lines_keep, names, no_error_names, none_told, not_named, nowhere}
use Rattle.laws_check.proofs.FormMatches.{AreAlike}
use Rattle.laws_check.proofs.FormMessages.{all_alone, all_fail, completed_as_read_back, errors_as_read_back, hooks_are_fine, no_sums, notes_are_diagnostics}
use Rattle.laws_check.proofs.FormNothingPlanned.{happened_nothing, planned_few}
use Rattle.laws_check.proofs.FormUnbegun.{IsWaiting, PlanNothing, all_begin, all_wait, at_version_waits, diagnostics_nothing, diagnostics_start_none, plans_here, starts_here}
use Rattle.laws_check.proofs.FormUnstarted.{unstarted_waits, waits_unstarted}
use Rattle.laws_check.proofs.FormWhole.{AreIntents, all_intents, none_planned, taken}
use Rattle.laws_check.proofs.Ordinary.{Anywhere, Does, Provides}
use Rattle.laws_check.proofs.Parts.{Each, each_weaker, each_written}
use Rattle.laws_check.proofs.Standings.{next_after}
use Rattle.laws_check.proofs.Tallies.{are_planned, count_written, is_within, same_whole, totals_written, whole_steps_run}
use Rattle.laws_check.proofs.Turning.{Runs, followed_by, followed_by_both, joined}
use Rattle.laws_check.proofs.Whole.{any_followed_by, closed_but, counts_followed_by, length_followed_by, next_summary, none_stands, planned_end, summed_up, whole_end}
use Rattle.laws_check.proofs.FormParts.{each_verbatim, hooks_filtered, none_counted, none_on, none_too, not_true, notes_are_errors, notes_err}

-- ---- the end

-- where nothing but reads stands open, and no failure
pub closes : (ms : List Message) → ((k : Action) → k ≢ Read → (a : List ℕ) → pending_at k (state_of a ms) ≡ None) → failures_stand ms ≡ false → any_open ms ≡ false
closes ms none stand =
    not_any_open ms (λ a.
    ap (λ (f : Bool). stands_open (refreshes_matter ms) f (state_of a ms)) stand
    ∙ closed_but (refreshes_matter ms) (state_of a ms) (none Create (λ e. absurd cc) a) (none Update (λ e. absurd cc) a) (none Delete (λ e. absurd cc) a) (none Refresh (λ e. absurd cc) a))

-- a message that is no failure and no error
still_stand : (m : Message) (ms : List Message) → is_error_without_address m ≡ false → failures_left (m ∷ ms) ≡ failures_left ms → failures_stand (m ∷ ms) ≡ failures_stand ms
still_stand m ms fine same =
    let all = sum_by-cons (λ x. cond (is_error_without_address x) 1 0) m ms in
    let here : cond {A = ℕ} (is_error_without_address m) 1 0 ≡ 0 = ap (λ (b : Bool). cond b 1 0) fine in
    let count : count_by is_error_without_address (m ∷ ms) ≡ count_by is_error_without_address ms = omega arith in
    ap₂ (λ (a b : ℕ). nat_lt a b) count same

-- the end of a stream after other messages
pub record EndSo (ms end : List Message) : Type 0 where
  pub accepted : with_all ms end ≡ Ok (followed_by ms end)
  pub closed : any_open (followed_by ms end) ≡ false
  pub no_plan : is_plan_stream (followed_by ms end) ≡ false
  pub ends : (list_any is_summary (followed_by ms end) || list_any is_error (followed_by ms end)) ≡ true
  pub totals : completed_totals (followed_by ms end) ≡ completed_totals ms
  pub errors : list_any is_error (followed_by ms end) ≡ list_any is_error ms

-- what is open, and what was read back
pub record MayEnd (ms : List Message) : Type 0 where
  pub begun : is_some (line_of is_version ms) ≡ true
  pub unsummed : line_of is_summary ms ≡ None
  pub pending : (k : Action) → k ≢ Read → (a : List ℕ) → pending_at k (state_of a ms) ≡ None
  pub stand : failures_stand ms ≡ false

-- with an error alone
with_error : (ms : List Message) → MayEnd ms → line_of is_plan_summary ms ≡ None → list_any is_error ms ≡ true → EndSo ms []
with_error ms sound unforeseen error = record {
  accepted = refl;
  closed = closes ms sound.pending sound.stand;
  no_plan = ap (λ (o : Option ℕ). is_some o && (not (is_some (line_of is_summary ms)) && same_totals (begun_totals ms) no_totals)) unforeseen;
  ends = ap (λ (b : Bool). list_any is_summary ms || b) error ∙ or-true (list_any is_summary ms);
  totals = refl;
  errors = refl;
}

-- with the summary, and the outputs of an apply
pub summed : (operation : Operation) (t : Totals) (ms : List Message) → MayEnd ms → t ≡ completed_totals ms → EndSo ms (summary t ∷ outputs_read_back operation)
unfolding state_of failures_left
summed operation t ms sound same = of_operation operation
  where
    first : next ms (summary t) ≡ Ok (summary t ∷ ms)
    first = next_summary t ms sound.begun sound.unsummed (closes ms sound.pending sound.stand) same

    of_operation : (operation : Operation) → EndSo ms (summary t ∷ outputs_read_back operation)
    of_operation Destroy = record {
      accepted = ap (λ (r : Result (List Message) Fault). r >>= λ now. with_all now []) first;
      closed = closes (summary t ∷ ms) sound.pending (still_stand (summary t) ms refl refl ∙ sound.stand);
      no_plan = summed_up t ms;
      ends = refl;
      totals = sym (uncounted (summary t) ms refl refl refl);
      errors = refl;
    }
    of_operation Apply = record {
      accepted =
          ap (λ (r : Result (List Message) Fault). r >>= λ now. with_all now (outputs ∷ [])) first
          ∙ ap (λ (r : Result (List Message) Fault). r >>= λ now. with_all now []) (next_after (summary t ∷ ms) outputs sound.begun (λ line. refl));
      closed = closes (outputs ∷ summary t ∷ ms) sound.pending (still_stand outputs (summary t ∷ ms) refl refl ∙ still_stand (summary t) ms refl refl ∙ sound.stand);
      no_plan = and-false (is_some (line_of is_plan_summary ms));
      ends = refl;
      totals = sym (uncounted (summary t) ms refl refl refl ∙ uncounted outputs (summary t ∷ ms) refl refl refl);
      errors = refl;
    }

-- ---- all of it

module _ (work : Work) (extras : StreamExtras) (events : List Event) (ordinary : IsOrdinary work.plan) (whole : ChangesAreWhole work.plan) (as_many : length extras.details ≡ length work.plan.changes)
    (provisioned : ProvisionsCreates work.plan work.script) (reads : WarnsOfReads work.plan work.script) (steps : IsOfWholeSteps work events) where
  abbrev ps : List Message
  ps = flat_map (planned_read_back_at extras.details) (enumerate_from 0 work.plan.changes)

  abbrev hooks : List Message
  hooks = flat_map (event_read_back_in_form work.plan work.script) (hook_messages_of events)

  abbrev notes : List Message
  notes = flat_map (event_read_back_in_form work.plan work.script) (notes_of events)

  abbrev happened : List Message
  happened = flat_map (event_read_back_in_form work.plan work.script) (as_written events)

  abbrev loose : List Message
  loose = map diagnostic_read_back extras.notes

  abbrev front : List Message
  front = read_back_before_end work.plan work.script extras events

  planned_events : Each (IsPlanned work.plan) events
  planned_events = are_planned work.plan events steps.planned

  within : Each (λ e. e.change < length work.plan.changes) events
  within = each_weaker (IsPlanned work.plan) (λ e. e.change < length work.plan.changes) (is_within work.plan) events planned_events

  runs : Runs (length work.plan.changes) (address_of work.plan) Anywhere (Does work.plan) (Provides work.plan) (version ∷ []) (events_read_back work.plan (as_written events))
  runs = whole_steps_run work events ordinary provisioned reads steps

  pub all_taken : (with_all (version ∷ []) front ≡ Ok (followed_by (version ∷ []) front)) × AreAlike (followed_by (version ∷ []) (events_read_back work.plan (as_written events))) (followed_by (followed_by (version ∷ []) ps) happened)
  all_taken = taken work extras events (omega (arith, ordinary.few)) whole as_many within steps.whole (followed_by (version ∷ []) (events_read_back work.plan (as_written events))) runs.0

  intents : AreIntents ps
  intents = all_intents extras.details (enumerate_from 0 work.plan.changes)

  happened_is : happened ≡ hooks ++ notes
  happened_is = flat_map-append (event_read_back_in_form work.plan work.script) (hook_messages_of events) (notes_of events)

  front_is : front ≡ (ps ++ hooks) ++ (notes ++ loose)
  front_is = ap (λ (l : List Message). ps ++ (l ++ loose)) happened_is ∙ ap (λ (l : List Message). ps ++ l) (append_assoc hooks notes loose) ∙ sym (append_assoc ps hooks (notes ++ loose))

  after_first : followed_by (followed_by (version ∷ []) (ps ++ hooks)) (notes ++ loose) ≡ followed_by (version ∷ []) front
  after_first = followed_by_both (version ∷ []) (ps ++ hooks) (notes ++ loose) ∙ ap (λ (l : List Message). followed_by (version ∷ []) l) (sym front_is)

  -- ---- failures

  diagnostics : AreDiagnostics (notes ++ loose)
  diagnostics = diagnostics_both notes loose (notes_are_diagnostics work.plan work.script (notes_of events) (each_verbatim (λ e. is_note e.what) events)) (notes_are_errors extras.notes)

  fine_hooks : list_any is_error hooks ≡ false
  fine_hooks = hooks_are_fine work.plan work.script (hook_messages_of events) (hooks_filtered events)

  -- no more failures have a message than happen
  module _ (p : List ℕ → Bool) where
    read_back_fail : count_by (fails_where p) (ps ++ hooks) ≤ count_by (λ (e : Event). p (address_of work.plan e.change) && is_errored e.what) events
    read_back_fail =
        let both = sum_by-append (λ m. cond (fails_where p m) 1 0) ps hooks in
        let none = none_planned (fails_where p) (λ intent address. refl) ps intents in
        let most = all_fail work.plan work.script p (hook_messages_of events) in
        let preserved = sum_by-append (λ (e : Event). cond (p (address_of work.plan e.change) && is_errored e.what) 1 0) (hook_messages_of events) (notes_of events) in
        let same = count_written (λ (e : Event). p (address_of work.plan e.change) && is_errored e.what) events in
        omega arith

  all_stand_so : AllStand (followed_by (version ∷ []) (ps ++ hooks))
  all_stand_so =
      let accepted = first_accepted (ps ++ hooks) (notes ++ loose) (version ∷ []) (followed_by (version ∷ []) front) (ap (with_all (version ∷ [])) (sym front_is) ∙ all_taken.0) in
      let most = read_back_fail anywhere in
      let few = few_fail work (length work.plan.changes) events within steps.whole in
      let none : count_by (fails_where anywhere) (version ∷ []) ≡ 0 = refl in
      all_stand (ps ++ hooks) (version ∷ []) accepted.0 accepted.1
      (any_both is_error ps hooks ∙ ap₂ (λ (a b : Bool). a || b) (none_counted is_error ps (none_planned is_error (λ intent address. refl) ps intents)) fine_hooks)
      (omega (arith, ordinary.few)) at_version

  abbrev unnamed : List ℕ → Bool
  unnamed a = not (all_named nowhere (notes ++ loose) a)

  not_naming : (c : ℕ) → unnamed (address_of work.plan c) ≡ true → list_any (λ m. names m (address_of work.plan c)) happened ≡ false
  not_naming c is =
      let a = address_of work.plan c in
      let none = (not_named nowhere (notes ++ loose) a (not_true (all_named nowhere (notes ++ loose) a) is)).1 in
      let both = or_parts (list_any (λ m. names m a) notes) (list_any (λ m. names m a) loose) (sym (any_both (λ m. names m a) notes loose) ∙ none) in
      ap (list_any (λ m. names m a)) happened_is ∙ any_both (λ m. names m a) hooks notes ∙ ap₂ (λ (x y : Bool). x || y) (no_error_names a hooks fine_hooks) both.0

  few_left : failures_left (followed_by (version ∷ []) front) ≤ count_by is_error_without_address (followed_by (version ∷ []) front)
  few_left =
      let left : failures_left (followed_by (version ∷ []) front) ≤ count_by (fails_where unnamed) (followed_by (version ∷ []) (ps ++ hooks)) =
      subst (λ (l : List Message). failures_left l ≤ count_by (fails_where unnamed) (followed_by (version ∷ []) (ps ++ hooks))) after_first (left_at_end (followed_by (version ∷ []) (ps ++ hooks)) (notes ++ loose) all_stand_so diagnostics) in
      let counted = counts_followed_by (fails_where unnamed) (version ∷ []) (ps ++ hooks) in
      let first : count_by (fails_where unnamed) (version ∷ []) ≡ 0 = refl in
      let fail = read_back_fail unnamed in
      let noted = as_many_noted work (length work.plan.changes) events within steps.whole (λ c. unnamed (address_of work.plan c)) in
      let same = count_written (λ (e : Event). unnamed (address_of work.plan e.change) && is_error_note e.what) events in
      let alone = all_alone work.plan work.script unnamed (as_written events) (each_written (IsPlanned work.plan) events planned_events) not_naming in
      let all = counts_followed_by is_error_without_address (version ∷ []) front in
      let parts = sum_by-append (λ m. cond (is_error_without_address m) 1 0) ps (happened ++ loose) in
      let more = sum_by-append (λ m. cond (is_error_without_address m) 1 0) happened loose in
      omega arith

  -- ---- before the end

  after_all : followed_by (followed_by (followed_by (version ∷ []) ps) happened) loose ≡ followed_by (version ∷ []) front
  after_all = followed_by_both (followed_by (version ∷ []) ps) happened loose ∙ followed_by_both (version ∷ []) ps (happened ++ loose)

  pending_none : (k : Action) → k ≢ Read → (a : List ℕ) → pending_at k (state_of a (followed_by (version ∷ []) front)) ≡ None
  pending_none k other a =
      let alike = all_taken.1 in
      let before : pending_at k (state_of a (followed_by (followed_by (version ∷ []) ps) happened)) ≡ None =
      none_too k other (pending_at k (state_of a (followed_by (version ∷ []) (events_read_back work.plan (as_written events))))) (pending_at k (state_of a (followed_by (followed_by (version ∷ []) ps) happened))) ((alike.state a).pending k)
      (none_stands (length work.plan.changes) (address_of work.plan) (Does work.plan) (Provides work.plan) runs.1.0 (followed_by (version ∷ []) (events_read_back work.plan (as_written events))) runs.1.1 runs.1.2 k other a) in
      ap (λ (l : List Message). pending_at k (state_of a l)) (sym after_all) ∙ diagnostics_keep k a loose (followed_by (followed_by (version ∷ []) ps) happened) (notes_are_errors extras.notes) ∙ before

  unforeseen : line_of is_plan_summary (followed_by (version ∷ []) front) ≡ None
  unforeseen = none_on is_plan_summary (followed_by (version ∷ []) front) (
      let all = counts_followed_by is_plan_summary (version ∷ []) front in
      let first : count_by is_plan_summary (version ∷ []) ≡ 0 = refl in
      let parts = sum_by-append (λ m. cond (is_plan_summary m) 1 0) ps (happened ++ loose) in
      let more = sum_by-append (λ m. cond (is_plan_summary m) 1 0) happened loose in
      let none = none_planned is_plan_summary (λ intent address. refl) ps intents in
      let no_event = no_sums work.plan work.script (as_written events) in
      let no_more = none_told is_plan_summary (λ severe o. refl) loose (notes_are_errors extras.notes) in
      omega arith)

  pub sound : MayEnd (followed_by (version ∷ []) front)
  sound = record {
    begun = ap (λ (l : List Message). is_some (line_of is_version l)) (sym after_all) ∙ ap is_some (preserved is_version (λ severe o. refl)) ∙ all_taken.1.begun;
    unsummed = ap (line_of is_summary) (sym after_all) ∙ preserved is_summary (λ severe o. refl) ∙ all_taken.1.unsummed;
    pending = pending_none;
    stand = le-ltb (count_by is_error_without_address (followed_by (version ∷ []) front)) (failures_left (followed_by (version ∷ []) front)) few_left;
  }
    where
      preserved : (q : Message → Bool) → ((severe : Bool) (o : Option (List ℕ)) → q (diagnostic severe o) ≡ false)
          → line_of q (followed_by (followed_by (followed_by (version ∷ []) ps) happened) loose) ≡ line_of q (followed_by (followed_by (version ∷ []) ps) happened)
      preserved q none = lines_keep q none loose (followed_by (followed_by (version ∷ []) ps) happened) (notes_are_errors extras.notes)

  pub totals_are : completed_totals (followed_by (version ∷ []) front) ≡ totals_of_counts (totals_of work.plan events)
  totals_are = same_counts (counted Create) (counted Update) (counted Delete) ∙ sym (totals_written work.plan events)
    where
      counted : (k : Action) → count_by (completes k) (followed_by (version ∷ []) front) ≡ count_by (completes k) (followed_by (version ∷ []) (events_read_back work.plan (as_written events)))
      counted k =
          let one = counts_followed_by (completes k) (version ∷ []) front in
          let other = counts_followed_by (completes k) (version ∷ []) (events_read_back work.plan (as_written events)) in
          let parts = sum_by-append (λ m. cond (completes k m) 1 0) ps (happened ++ loose) in
          let more = sum_by-append (λ m. cond (completes k m) 1 0) happened loose in
          let none = none_planned (completes k) (λ intent address. refl) ps intents in
          let no_more = none_told (completes k) (λ severe o. refl) loose (notes_are_errors extras.notes) in
          let same = completed_as_read_back work.plan work.script k (as_written events) in
          omega arith

  pub errors_are : list_any is_error (followed_by (version ∷ []) front) ≡ contains_error extras.notes (totals_of work.plan events)
  errors_are =
      any_followed_by is_error (version ∷ []) front
      ∙ any_both is_error ps (happened ++ loose)
      ∙ ap (λ (b : Bool). b || list_any is_error (happened ++ loose)) (none_counted is_error ps (none_planned is_error (λ intent address. refl) ps intents))
      ∙ any_both is_error happened loose
      ∙ ap₂ (λ (a b : Bool). a || b)
      (errors_as_read_back work.plan work.script (as_written events) ∙ errors_read_back work (length work.plan.changes) events (each_written (IsPlanned work.plan) events planned_events) within steps.whole) (notes_err extras.notes)

  -- ---- the end

  ended : (operation : Operation) → EndSo (followed_by (version ∷ []) front) (end_read_back extras operation (totals_of work.plan events))
  ended operation = at (contains_error extras.notes (totals_of work.plan events)) refl
    where
      at : (b : Bool) → contains_error extras.notes (totals_of work.plan events) ≡ b → EndSo (followed_by (version ∷ []) front) (cond b [] (summary (totals_of_counts (totals_of work.plan events)) ∷ outputs_read_back operation))
      at true is = with_error (followed_by (version ∷ []) front) sound unforeseen (errors_are ∙ is)
      at false is = summed operation (totals_of_counts (totals_of work.plan events)) (followed_by (version ∷ []) front) sound (sym totals_are)

  -- ---- planned creates that never begin

  end_nothing : (a : List ℕ) (operation : Operation) → PlanNothing a (end_read_back extras operation (totals_of work.plan events))
  end_nothing a operation = of_error (contains_error extras.notes (totals_of work.plan events)) operation
    where
      of_error : (b : Bool) (operation : Operation) → PlanNothing a (cond b [] (summary (totals_of_counts (totals_of work.plan events)) ∷ outputs_read_back operation))
      of_error true operation = tt
      of_error false Apply = (λ line begun w. refl, (λ line begun w. refl, tt))
      of_error false Destroy = (λ line begun w. refl, tt)

  -- so many creates of an address wait in the end
  left_waiting : (a : List ℕ) (operation : Operation)
      → IsWaiting a (followed_by (followed_by (version ∷ []) front) (end_read_back extras operation (totals_of work.plan events))) (count_by (plans_here a) ps - count_by (starts_here a) happened)
  left_waiting a operation =
      let end = end_read_back extras operation (totals_of work.plan events) in
      let planned =
      subst (λ (n : ℕ). IsWaiting a (followed_by (version ∷ []) ps) n) (let e : 0 + count_by (plans_here a) ps ≡ count_by (plans_here a) ps = omega arith in e)
      (all_wait a ps (version ∷ []) 0 intents refl (omega (arith, few_planned)) (at_version_waits a)) in
      let begun = all_begin a happened (followed_by (version ∷ []) ps) (count_by (plans_here a) ps) (happened_nothing a work.plan work.script (as_written events)) planned in
      let noted = all_begin a loose (followed_by (followed_by (version ∷ []) ps) happened) (count_by (plans_here a) ps - count_by (starts_here a) happened) (diagnostics_nothing a loose (notes_are_errors extras.notes)) begun in
      let so = subst (λ (ms : List Message). IsWaiting a ms ((count_by (plans_here a) ps - count_by (starts_here a) happened) - count_by (starts_here a) loose)) after_all noted in
      let last = all_begin a end (followed_by (version ∷ []) front) ((count_by (plans_here a) ps - count_by (starts_here a) happened) - count_by (starts_here a) loose) (end_nothing a operation) so in
      let quiet = diagnostics_start_none a loose (notes_are_errors extras.notes) in
      let done = end_starts_none a operation in
      (last.0 ∙ (let e : ((count_by (plans_here a) ps - count_by (starts_here a) happened) - count_by (starts_here a) loose) - count_by (starts_here a) end ≡ count_by (plans_here a) ps - count_by (starts_here a) happened = omega arith in e), last.1)
    where
      few_planned : length ps ≤ length work.plan.changes
      few_planned = planned_few extras.details 0 work.plan.changes

      end_starts_none : (a : List ℕ) (operation : Operation) → count_by (starts_here a) (end_read_back extras operation (totals_of work.plan events)) ≡ 0
      end_starts_none a operation = of_error (contains_error extras.notes (totals_of work.plan events)) operation
        where
          of_error : (b : Bool) (operation : Operation) → count_by (starts_here a) (cond b [] (summary (totals_of_counts (totals_of work.plan events)) ∷ outputs_read_back operation)) ≡ 0
          of_error true operation = refl
          of_error false Apply = refl
          of_error false Destroy = refl

  pub finds : (operation : Operation) → FindsUnstarted work.plan events (followed_by (followed_by (version ∷ []) front) (end_read_back extras operation (totals_of work.plan events)))
  finds operation a =
      let waiting = left_waiting a operation in
      let counts = unstarted_waits work extras.details events whole as_many within steps.whole a in
      let none = waits_unstarted work extras.details events whole as_many within steps.whole a in (
        λ some. none (let more : 0 < count_by (plans_here a) ps - count_by (starts_here a) happened = ltb-true 0 _ (ap (nat_lt 0) (sym waiting.0) ∙ sym waiting.1 ∙ some) in omega arith),
        λ never. let less = counts never in waiting.1 ∙ ap (nat_lt 0) waiting.0 ∙ lt-ltb 0 (count_by (plans_here a) ps - count_by (starts_here a) happened) (omega arith),
      )

  -- ---- all of it

  pub taken_in_form : (plans : Bool) (operation : Operation) → IsTakenInForm plans work.plan work.script extras operation events
  taken_in_form plans operation =
      let end = end_read_back extras operation (totals_of work.plan events) in
      let so = ended operation in
      let later = followed_by (version ∷ []) front in
      let all = followed_by later end in
      let is : front ++ end ≡ ps ++ (happened ++ (loose ++ end)) = append_assoc ps (happened ++ loose) end ∙ ap (λ (l : List Message). ps ++ l) (append_assoc happened loose end) in
      let lines : length all ≡ length (stream_read_back_in_form work.plan work.script extras operation events) =
      (let one = length_followed_by later end in let other = length_followed_by (version ∷ []) front in let both = length-append front end in let same = ap length is in
      let more : length all ≡ suc (length (ps ++ (happened ++ (loose ++ end)))) = omega arith in more) in
      let error : list_any is_error all ≡ contains_error extras.notes (totals_of work.plan events) = so.errors ∙ errors_are in
      let found = finds operation in
      record {
        messages = all;
        accepted = ap (with_all (version ∷ [])) (sym is) ∙ joined (version ∷ []) later front end all_taken.0 ∙ so.accepted;
        finds = found;
        answer = record {
          is_whole = λ told.
              whole_end plans all so.closed so.no_plan (none_left all (contains_error extras.notes (totals_of work.plan events)) error told found) so.ends
              ∙ ap (λ (w : Whole). fine w) (same_whole (so.totals ∙ totals_are) error lines);
          leaves = λ none a never. planned_end plans all so.closed so.no_plan (some_left all so.ends (error ∙ none) a ((found a).1 never));
        };
        as_many = lines;
      }
    where
      fine : Whole → Result Whole Fault
      fine w = Ok w

      -- without a planned create that is left, or with an error
      none_left : (all : List Message) (b : Bool) → list_any is_error all ≡ b → (b ≡ true) ⊎ EachStarts work.plan events → FindsUnstarted work.plan events all → leaves_planned all ≡ false
      none_left all b error told found =
          ⊎_elim
          (λ (yes : b ≡ true). ap (λ (e : Bool). (list_any is_summary all && not e) && any_unbegun all) (error ∙ yes) ∙ ap (λ (e : Bool). e && any_unbegun all) (and-false (list_any is_summary all)))
          (λ (each : EachStarts work.plan events).
          let none : any_unbegun all ≡ false = none_waits all (λ a. ⊎_elim (λ (yes : is_some (unbegun_at a all) ≡ true). absurd (each a ((found a).0 yes))) (λ (no : is_some (unbegun_at a all) ≡ false). no) (cases_Bool (is_some (unbegun_at a all)))) in
          ap (λ (e : Bool). (list_any is_summary all && not (list_any is_error all)) && e) none ∙ and-false (list_any is_summary all && not (list_any is_error all)))
          told

      or_false : (b : Bool) → (b || false) ≡ b
      or_false true = refl
      or_false false = refl

      some_left : (all : List Message) → (list_any is_summary all || list_any is_error all) ≡ true → list_any is_error all ≡ false → (a : List ℕ) → is_some (unbegun_at a all) ≡ true → leaves_planned all ≡ true
      some_left all ends none a some =
          let summed_up : list_any is_summary all ≡ true = sym (or_false (list_any is_summary all)) ∙ ap (λ (e : Bool). list_any is_summary all || e) (sym none) ∙ ends in
          rw (summed_up, none, some_waits all a some) refl
