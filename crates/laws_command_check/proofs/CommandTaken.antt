-- The checker accepts all messages of a command.
use Rattle.std.proofs.Common.{All, ◌≡◌, ℕ, ◌<◌, List, [], ◌∷◌, ◌++◌, append-nil, length, map, flat_map, Bool, true, false, cond, Option, None, Result, Ok, refl, sym, ap, ◌∙◌, subst, ⊎_elim, ◌⊎◌, inl, inr, is_some, count_by, arith, nat_lt}
use Rattle.std.specs.Prelude.{◌&&◌, ◌||◌, not}
use Rattle.std.specs.List.{enumerate_from, filter_map, list_any}
use Rattle.std.proofs.lemmas.Bool.{or_parts}
use Rattle.std.proofs.lemmas.List.{length-map}
use Rattle.std.proofs.lemmas.List.Sums.{sum_by-append}
use Rattle.apply_model.specs.declared.details.note.Note.{Note}
use Rattle.apply_model.specs.Plan.ResourceChange.{ResourceChange}
use Rattle.apply_model.specs.Plan.SavedPlan.{SavedPlan}
use Rattle.apply_model.specs.Script.OutcomeMap.{OutcomeMap}
use Rattle.apply_hooks.specs.declared.rule.Rule.{Rule}
use Rattle.stream_check.specs.declared.messages.action.Action.TheVariants.{Create, Update, Delete, Refresh}
use Rattle.stream_check.specs.declared.messages.totals.Totals.{Totals}
use Rattle.stream_check.specs.declared.rules.address_state.AddressState.{AddressState}
use Rattle.stream_check.specs.declared.rules.fault.Fault.{Fault}
use Rattle.stream_check.specs.declared.rules.fault.Fault.TheVariants.{Planned}
use Rattle.stream_check.specs.declared.verdict.whole.Whole.{Whole}
use Rattle.stream_check.specs.AddressState.{pending_at, state_of}
use Rattle.stream_check.specs.Lines.{end_of}
use Rattle.stream_check.specs.Message.{Message, diagnostic, version}
use Rattle.stream_check.specs.Tally.{begins, begun_totals, completed_totals, completes, is_error, is_plan_summary, is_summary, line_of, no_totals, planned_totals, plans_create, plans_delete, plans_update}
use Rattle.stream_check.proofs.Counting.{same_counts}
use Rattle.apply_events.specs.declared.event.Event.{Event}
use Rattle.apply_events.specs.Step.{Work}
use Rattle.apply_events.specs.Fits.{HasStep}
use Rattle.apply_events.specs.Totals.{totals_of}
use Rattle.apply_text.specs.declared.operation.Operation.{Operation}
use Rattle.apply_text.specs.Order.{as_written}
use Rattle.apply_text_terraform.specs.declared.command.Command.{Command}
use Rattle.apply_text_terraform.specs.declared.command.Command.TheVariants as command_is
use Rattle.apply_plan_terraform.specs.declared.plan_notes.PlanNote.{PlanNote}
use Rattle.apply_planning.specs.PlanningWork.{planning_work}
use Rattle.apply_planning_failures.specs.PlansPart.{details_at}
use Rattle.apply_run.specs.Read.{is_unfinished}
use Rattle.apply_text_planning.specs.Notes.{unfinished_note}
use Rattle.apply_text_planning.specs.Totals as plan_sums
use Rattle.apply_command.specs.declared.head_line.HeadLine.{HeadLine}
use Rattle.apply_command.specs.Head.{HeadInputs, head_lines, plan_lines}
use Rattle.apply_command.specs.Notes.{applies, command_notes, has_failed, plan_notes, tells_plan}
use Rattle.apply_writer.specs.Stream.Terraform as form
use Rattle.apply_writer.specs.Stream.Terraform.{StreamExtras, contains_error}
use Rattle.laws_check.specs.Accepted.{totals_of_counts}
use Rattle.laws_check.specs.Passing.{plain, with_all}
use Rattle.laws_check.specs.Plans.{ChangesAreWhole, IsOrdinary, ProvisionsCreates, WarnsOfReads}
use Rattle.laws_check.specs.ReadBackInForm.{diagnostic_read_back, event_read_back_in_form}
use Rattle.laws_check.specs.WholeSteps.{IsOfWholeSteps}
use Rattle.laws_check.proofs.Errors.{IsPlanned, any_both, any_counted}
use Rattle.laws_check.proofs.FormFailures.{diagnostics_keep, none_told}
use Rattle.laws_check.proofs.FormParts.{notes_are_errors, notes_err}
use Rattle.laws_check.proofs.FormPendings.{held}
use Rattle.laws_check.proofs.Parts.{each_weaker}
use Rattle.laws_check.proofs.Tallies.{are_planned, is_within}
use Rattle.laws_check.proofs.Turning.{followed_by, joined}
use Rattle.laws_check.proofs.Whole.{any_followed_by, counts_followed_by, length_followed_by}
use Rattle.laws_command_check.specs.CommandAccepted.{IsApplyAnswered, IsCommandTaken, command_stream_read_back, whole_of_command}
use Rattle.laws_command_check.specs.FewTold.{FewShareAnAddress}
use Rattle.laws_command_check.specs.HeadReadBack.{head_read_back, planning_read_back, totals_of_plan}
use Rattle.laws_command_check.proofs.ApplyEnds.{later_is, taken_behind}
use Rattle.laws_command_check.proofs.Behind.{HasRooms, begins_at}
use Rattle.laws_command_check.proofs.CommandHead.{head_begins_none, head_behind, head_completes_none, head_has_no_error, head_is, head_taken, planning_held, planning_ran, plan_messages}
use Rattle.laws_command_check.proofs.HeadTaken.{forgetting}
use Rattle.laws_command_check.proofs.PlanEnds.{all_noted, on_line, plan_closed, plan_ends}
use Rattle.laws_command_check.proofs.Planning.{IsQuiet}
use Rattle.laws_command_check.proofs.ReadsOnce.{reads_once}

-- ---- what a command does with its plan

-- what is applied did not fail
pub none_failed : (command : Command) (failed : Bool) → applies command failed ≡ true → failed ≡ false
none_failed command_is.Saved true e = absurd cc
none_failed command_is.Saved false e = refl
none_failed command_is.Plan failed e = absurd cc
none_failed command_is.Apply true e = absurd cc
none_failed command_is.Apply false e = refl
none_failed command_is.Destroy true e = absurd cc
none_failed command_is.Destroy false e = refl

-- a plan that did not fail is told
pub tells : (command : Command) (planning : List Note) (is_bare : Bool) → list_any form.is_error planning ≡ false → tells_plan command false planning is_bare ≡ true
tells command_is.Saved planning is_bare none = refl
tells command_is.Plan planning is_bare none = refl
tells command_is.Apply planning is_bare none = refl
tells command_is.Destroy planning is_bare none = ap not none

-- where the planning failed, an error is told
pub error_told : (note : Option PlanNote) (forgotten : Option Note) (planning script : List Note) → has_failed note planning ≡ true → list_any form.is_error (command_notes false note forgotten planning script) ≡ true
error_told note forgotten planning script failed =
    let all = planning ++ plan_notes note forgotten script in
    any_both form.is_error all _ ∙ of_test (list_any form.is_error all) (is_unfinished note) refl failed
  where
    of_test : (b u : Bool) → list_any form.is_error (planning ++ plan_notes note forgotten script) ≡ b → (u || list_any form.is_error planning) ≡ true → (b || list_any form.is_error (cond (u && not b) (unfinished_note ∷ []) [])) ≡ true
    of_test true u is fails = refl
    of_test false true is fails = refl
    of_test false false is fails =
        let none = or_parts (list_any form.is_error planning) (list_any form.is_error (plan_notes note forgotten script)) (sym (any_both form.is_error planning (plan_notes note forgotten script)) ∙ is) in
        absurd (let bad : false ≡ true = sym none.0 ∙ fails in cc)

-- a plan without changes has no events
pub no_events : (plan : SavedPlan) → plan.changes ≡ [] → (events : List Event) → All (λ (event : Event). HasStep plan event.change event.step) events → events ≡ []
no_events plan none [] planned = refl
no_events plan none (e ∷ es) planned =
    let first = (are_planned plan (e ∷ es) planned).0 in
    let within : e.change < length plan.changes = is_within plan e first in
    let empty : e.change < 0 = subst (λ (changes : List ResourceChange). e.change < length changes) none within in
    absurd (omega arith)

untold : (plans : Bool) (p q counted : Totals) (errors : Bool) (lines : ℕ) → whole_of_command (plans && false) p counted errors lines ≡ whole_of_command (plans && false) q counted errors lines
untold true p q counted errors lines = refl
untold false p q counted errors lines = refl

module _ (plans : Bool) (inputs : HeadInputs) (drifts numbers : List ℕ) (planned_events : List Event) (is_told : Bool) (few : FewShareAnAddress inputs.told) (steps : IsOfWholeSteps (planning_work inputs.told) planned_events)
    (whole : ChangesAreWhole inputs.plan) (totals_are : inputs.totals ≡ plan_sums.planned_totals (filter_map (details_at inputs.plan.changes inputs.details) numbers)) where
  abbrev lines : List HeadLine
  lines = head_lines planned_events (plan_lines is_told drifts numbers inputs.outputs)

  -- the messages of the head behind the version
  abbrev head : List Message
  head = flat_map (planning_read_back inputs.told) planned_events ++ plan_messages inputs drifts numbers is_told

  abbrev before : List Message
  before = followed_by (version ∷ []) (flat_map (planning_read_back inputs.told) planned_events ++ plan_messages inputs drifts numbers is_told)

  -- the whole stream
  whole_stream : (xs : List Message) (messages : List Message) → with_all (followed_by (version ∷ []) (flat_map (planning_read_back inputs.told) planned_events ++ plan_messages inputs drifts numbers is_told)) xs ≡ Ok messages
      → (with_all [] (head_read_back inputs (head_lines planned_events (plan_lines is_told drifts numbers inputs.outputs)) ++ xs) ≡ Ok messages)
      × (length messages ≡ length (head_read_back inputs (head_lines planned_events (plan_lines is_told drifts numbers inputs.outputs)) ++ xs))
  whole_stream xs messages e =
      let is = head_is inputs drifts numbers planned_events is_told in
      let taken = head_taken inputs drifts numbers planned_events few steps whole totals_are is_told in
      let all : with_all [] (head_read_back inputs lines ++ xs) ≡ Ok messages = ap (λ (l : List Message). with_all [] (l ++ xs)) is ∙ joined (version ∷ []) before head xs taken.accepted ∙ e in
      let count = length_followed_by [] (head_read_back inputs lines ++ xs) in
      (all, ap length (later_is (head_read_back inputs lines ++ xs) [] messages all) ∙ (let none : length {A = Message} [] ≡ 0 = refl in omega arith))

  -- ---- nothing is applied

  module _ (plan : SavedPlan) (script : OutcomeMap) (extras : StreamExtras) (operation : Operation) (ends : (list_any form.is_error extras.notes ≡ true) ⊎ ((is_told ≡ true) × ((a : List ℕ) → pending_at Refresh (state_of a (followed_by (version ∷ []) (flat_map (planning_read_back inputs.told) planned_events))) ≡ None))) where
    abbrev noted : List Message
    noted = map diagnostic_read_back extras.notes

    abbrev all : List Message
    all = followed_by before noted

    pub plan_taken : IsCommandTaken plans is_told inputs (head_lines planned_events (plan_lines is_told drifts numbers inputs.outputs)) false plan script extras operation []
    plan_taken =
        let taken = head_taken inputs drifts numbers planned_events few steps whole totals_are is_told in
        let ran = planning_ran inputs.told planned_events few steps in
        let diagnostics = notes_are_errors extras.notes in
        let ended = all_noted noted before diagnostics taken.goes_on (λ a. subst IsQuiet (sym (taken.states a)) (ran.1.1.quiet a)) in
        let error : list_any is_error all ≡ list_any form.is_error extras.notes = any_followed_by is_error before noted ∙ ap (λ (b : Bool). b || list_any is_error noted) (head_has_no_error inputs drifts numbers planned_events few steps whole totals_are is_told) ∙ notes_err extras.notes in
        let closed = plan_closed all ended.2 (⊎_elim (λ fails. inl (error ∙ fails)) (λ fine. inr (λ a. diagnostics_keep Refresh a noted before diagnostics ∙ ap (pending_at Refresh) (taken.states a) ∙ fine.1 a)) ends) in
        let begun : begun_totals all ≡ no_totals = same_counts (still (begins Create) (λ e o. refl)) (still (begins Update) (λ e o. refl)) (still (begins Delete) (λ e o. refl)) ∙ head_begins_none inputs drifts numbers planned_events few steps whole totals_are is_told in
        let done : completed_totals all ≡ no_totals = same_counts (still (completes Create) (λ e o. refl)) (still (completes Update) (λ e o. refl)) (still (completes Delete) (λ e o. refl)) ∙ head_completes_none inputs drifts numbers planned_events few steps whole totals_are is_told in
        let sums : is_some (line_of is_plan_summary all) ≡ is_told = on_line is_plan_summary all ∙ ap (nat_lt 0) (still is_plan_summary (λ e o. refl) ∙ taken.summed) ∙ one_or_none is_told in
        let no_summary : list_any is_summary all ≡ false = no_line is_summary all ended.1.unsummed in
        let stream = whole_stream (noted ++ []) all (ap (with_all before) (append-nil noted) ∙ ended.0) in
        record {
          messages = all;
          accepted = stream.0;
          as_many = stream.1;
          answer = λ which.
              plan_ends plans is_told (list_any form.is_error extras.notes) (planned_totals all) all closed ended.1.unsummed begun done refl error sums no_summary which (⊎_elim (λ fails. inr fails) (λ fine. inl fine.0) ends)
              ∙ ap (λ (w : Whole). fine_whole w) (as_planned (λ told. planned_still ∙ taken.planned_as told) (length all) ∙ ap (whole_of_command (plans && is_told) (totals_of_plan inputs.totals) no_totals (list_any form.is_error extras.notes)) stream.1);
        }
      where
        fine_whole : Whole → Result Whole Fault
        fine_whole w = Ok w

        one_or_none : (b : Bool) → nat_lt 0 (cond b 1 0) ≡ b
        one_or_none true = refl
        one_or_none false = refl

        still : (q : Message → Bool) → ((e : Bool) (o : Option (List ℕ)) → q (diagnostic e o) ≡ false) → count_by q (followed_by before noted) ≡ count_by q before
        still q none = let counted = counts_followed_by q before noted in let nothing = none_told q none noted (notes_are_errors extras.notes) in omega arith

        planned_still : planned_totals (followed_by before noted) ≡ planned_totals before
        planned_still = same_counts (still plans_create (λ e o. refl)) (still plans_update (λ e o. refl)) (still plans_delete (λ e o. refl))

        no_line : (q : Message → Bool) (ms : List Message) → line_of q ms ≡ None → list_any q ms ≡ false
        no_line q ms none = of_count (count_by q ms) refl (on_line q ms)
          where
            of_count : (n : ℕ) → count_by q ms ≡ n → is_some (line_of q ms) ≡ nat_lt 0 (count_by q ms) → list_any q ms ≡ false
            of_count n is on = any_counted q ms ∙ sym on ∙ ap is_some none

        as_planned : (is_told ≡ true → planned_totals (followed_by before noted) ≡ totals_of_plan inputs.totals) → (n : ℕ)
            → whole_of_command (plans && is_told) (planned_totals (followed_by before noted)) no_totals (list_any form.is_error extras.notes) n ≡ whole_of_command (plans && is_told) (totals_of_plan inputs.totals) no_totals (list_any form.is_error extras.notes) n
        as_planned same n = of_told is_told same
          where
            of_told : (b : Bool) → (b ≡ true → planned_totals (followed_by before noted) ≡ totals_of_plan inputs.totals)
                → whole_of_command (plans && b) (planned_totals (followed_by before noted)) no_totals (list_any form.is_error extras.notes) n ≡ whole_of_command (plans && b) (totals_of_plan inputs.totals) no_totals (list_any form.is_error extras.notes) n
            of_told true so = ap (λ (t : Totals). whole_of_command (plans && true) t no_totals (list_any form.is_error extras.notes) n) (so refl)
            of_told false so = untold plans (planned_totals (followed_by before noted)) (totals_of_plan inputs.totals) no_totals (list_any form.is_error extras.notes) n

  -- ---- the plan is applied

  module _ (script : OutcomeMap) (hooks : List (List Rule)) (extras : StreamExtras) (operation : Operation) (events : List Event) (ordinary : IsOrdinary inputs.plan) (as_many : length extras.details ≡ length inputs.plan.changes) (same_details : extras.details ≡ inputs.details)
      (provisioned : ProvisionsCreates inputs.plan script) (reads : WarnsOfReads inputs.plan script) (run : IsOfWholeSteps (record { plan = inputs.plan; script = script; hooks = hooks }) events)
      (all_told : numbers ≡ map (λ (p : ℕ × ResourceChange). p.0) (enumerate_from 0 inputs.plan.changes)) (told : is_told ≡ true) (closed : (a : List ℕ) → pending_at Refresh (state_of a (followed_by (version ∷ []) (flat_map (planning_read_back inputs.told) planned_events))) ≡ None) where
    abbrev work : Work
    work = record { plan = inputs.plan; script = script; hooks = hooks }

    -- the extras, with changes that are all told as forgotten
    abbrev others : StreamExtras
    others = record { details = map forgetting inputs.details; notes = extras.notes; outputs = extras.outputs }

    abbrev rest : List Message
    rest = flat_map (event_read_back_in_form inputs.plan script) (as_written events) ++ map diagnostic_read_back extras.notes

    rooms : HasRooms (followed_by (version ∷ []) (flat_map (planning_read_back inputs.told) planned_events ++ plan_messages inputs drifts numbers is_told)) (flat_map (event_read_back_in_form inputs.plan script) (as_written events) ++ map diagnostic_read_back extras.notes)
    rooms a =
        let taken = head_taken inputs drifts numbers planned_events few steps whole totals_are is_told in
        let less = planning_held inputs.told planned_events few steps a in
        let same : held (state_of a before).read ≡ held (state_of a (followed_by (version ∷ []) (flat_map (planning_read_back inputs.told) planned_events))).read = ap (λ (s : AddressState). held s.read) (taken.states a) in
        let within = each_weaker (IsPlanned inputs.plan) (λ e. e.change < length inputs.plan.changes) (is_within inputs.plan) events (are_planned inputs.plan events run.planned) in
        let once = reads_once work a events ordinary whole within run.whole in
        let both = sum_by-append (λ m. cond (begins_at a m) 1 0) (flat_map (event_read_back_in_form inputs.plan script) (as_written events)) (map diagnostic_read_back extras.notes) in
        let none = none_told (begins_at a) (λ e o. refl) (map diagnostic_read_back extras.notes) (notes_are_errors extras.notes) in
        omega arith

    pub apply_taken : IsCommandTaken plans is_told inputs (head_lines planned_events (plan_lines is_told drifts numbers inputs.outputs)) true inputs.plan script extras operation events
    apply_taken =
        let taken = head_taken inputs drifts numbers planned_events few steps whole totals_are is_told in
        let behind = head_behind inputs drifts numbers planned_events few steps whole totals_are all_told closed is_told told in
        let many : length (map forgetting inputs.details) ≡ length inputs.plan.changes = length-map inputs.details forgetting ∙ ap length (sym same_details) ∙ as_many in
        let so = taken_behind work others events ordinary whole many provisioned reads run before behind rooms plans operation in
        let stream = whole_stream _ so.messages so.accepted in
        record {
          messages = so.messages;
          accepted = stream.0;
          as_many = stream.1;
          answer = subst (λ (t : Totals). IsApplyAnswered inputs.plan events plans (contains_error extras.notes (totals_of inputs.plan events)) t (totals_of_counts (totals_of inputs.plan events)) (length (command_stream_read_back inputs lines true inputs.plan script extras operation events)) Fault Planned (end_of (plain plans) so.messages)) (taken.planned_as told)
              (subst (λ (n : ℕ). IsApplyAnswered inputs.plan events plans (contains_error extras.notes (totals_of inputs.plan events)) (planned_totals before) (totals_of_counts (totals_of inputs.plan events)) n Fault Planned (end_of (plain plans) so.messages)) stream.1 so.answer);
        }
