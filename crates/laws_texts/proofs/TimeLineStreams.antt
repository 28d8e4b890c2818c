-- Streams of time lines of works without hooks.
use Rattle.std.proofs.Common.{◌≡◌, ℕ, Bool, true, false, cond, not, List, [], ◌∷◌, ◌++◌, All, Option, Some, None, refl, sym, ap, ◌∙◌, subst}
use Rattle.std.specs.Prelude.{filter_map, map, option_and_then, option_map, slice_get}
use Rattle.std.specs.List.{Contains, cons_option, list_any}
use Rattle.std.proofs.lemmas.List.Elements.{All-contains_itself, All-filter, All-weaker}
use Rattle.apply_model.specs.declared.details.note.Note.{Note}
use Rattle.apply_model.specs.declared.details.note.Severity.TheVariants.{Error, Warning}
use Rattle.apply_model.specs.declared.plan.step_kind.StepKind.{StepKind}
use Rattle.apply_model.specs.declared.script.ending.Ending.{Ending}
use Rattle.apply_model.specs.declared.script.outcome.Outcome.{Outcome}
use Rattle.apply_model.specs.Plan.ResourceChange.{ResourceChange}
use Rattle.apply_model.specs.Plan.SavedPlan.{SavedPlan}
use Rattle.apply_model.specs.Script.Outcome.{fails}
use Rattle.apply_model.specs.Script.OutcomeMap.{OutcomeMap, outcome_of}
use Rattle.apply_events.specs.declared.event.Event.{Event}
use Rattle.apply_events.specs.Diagnostics.{is_note}
use Rattle.apply_events.specs.Step.{Work, has_warning, kinds_of}
use Rattle.apply_events.specs.Totals.{is_complete, is_errored, totals_of}
use Rattle.apply_events.specs.Waits.TimeLine.{IsTimeLine}
use Rattle.apply_events.proofs.Waits.Members.{filter_in}
use Rattle.apply_text.specs.declared.operation.Operation.{Operation}
use Rattle.apply_text.specs.Lines.{stream_of}
use Rattle.apply_text.specs.Message.{failure_diag, warning_of}
use Rattle.apply_text.specs.Order.{hook_messages_of}
use Rattle.apply_text_terraform.specs.Message.{diagnostic_address}
use Rattle.apply_writer.specs.Stream.Form.{stream_in}
use Rattle.apply_writer.specs.Stream.Terraform.{StreamExtras, is_error, terraform_form}
use Rattle.laws_texts.specs.Alike.{ShowsTheSame}
use Rattle.laws_texts.specs.Notes.{HasAnEnd, ends_of, note_after, note_of}
use Rattle.laws_texts.specs.Streams.{AreNotHalted, AreSame, at_step, notes_told, plain_address, told_after, told_by, without_place}
use Rattle.laws_texts.specs.TimeLines.{AreSameMessages, AreSamePlain, AreSameTerraform, EndsAlike, notes_by_ends}
use Rattle.laws_texts.proofs.BegunEvents.{begins, kind_at, of_outcome}
use Rattle.laws_texts.proofs.NotesOfTimeLines.{in_time, not_halted, notes_follow}
use Rattle.laws_texts.proofs.PlainStreams as plain
use Rattle.laws_texts.proofs.Terraform.Streams as terraform
use Rattle.laws_texts.proofs.WarningsOfEnds.{Succeeds, any-append_mild, ends_succeed, none_from_count, none_severe}
use Rattle.laws_texts.proofs.Woven.{with_what}

-- ---- diagnostics by the ends of their steps

told_once : (f : Event → Option Note) (note : Option Event) (notes : List Event) → filter_map f (cons_option note notes) ≡ cons_option (option_and_then f note) (filter_map f notes)
told_once f None notes = refl
told_once f (Some note) notes = refl

no_kind : (kind : Option StepKind) → option_and_then {T = StepKind} {U = Note} (λ _. None) kind ≡ None
no_kind None = refl
no_kind (Some kind) = refl

no_change : (change : Option ResourceChange) (k : ℕ) → option_and_then {U = Note} (λ (c : ResourceChange). option_and_then {T = StepKind} {U = Note} (λ _. None) (slice_get c.steps k)) change ≡ None
no_change None k = refl
no_change (Some c) k = no_kind (slice_get c.steps k)

module _ (address : ResourceChange → StepKind → Outcome → Option (List ℕ)) (plan : SavedPlan) (script : OutcomeMap) where
  by_answer : (e : Event) (f w : Bool) → let outcome = outcome_of script e.change e.step in
      option_and_then (told_by address plan script) (option_map (with_what e) (note_of f w))
      ≡ at_step plan e (λ change kind.
      cond f (Some (record { severity = Error; diag = failure_diag outcome; address = address change kind outcome }))
      (cond w (Some (record { severity = Warning; diag = warning_of outcome.result; address = address change kind outcome })) None))
  by_answer e true w = refl
  by_answer e false true = refl
  by_answer e false false = sym (no_change (slice_get plan.changes e.change) e.step)

  by_end : (e : Event) → option_and_then (told_by address plan script) (note_after script e) ≡ told_after address plan script e
  by_end e = let outcome = outcome_of script e.change e.step in by_answer e (fails outcome) (has_warning outcome.result)

  by_ends : (es : List Event) → filter_map (told_by address plan script) (filter_map (note_after script) es) ≡ filter_map (told_after address plan script) es
  by_ends [] = refl
  by_ends (e ∷ es) =
      told_once (told_by address plan script) (note_after script e) (filter_map (note_after script) es)
      ∙ ap (λ note. cons_option note (filter_map (told_by address plan script) (filter_map (note_after script) es))) (by_end e)
      ∙ ap (cons_option (told_after address plan script e)) (by_ends es)

pub told_by_ends : (address : ResourceChange → StepKind → Outcome → Option (List ℕ)) (plan : SavedPlan) (work : Work) (n : ℕ) (events : List Event)
    → work.hooks ≡ [] → IsTimeLine work n events → All (HasAnEnd work.script) (hook_messages_of events)
    → notes_told address plan work.script events ≡ notes_by_ends address plan work.script events
told_by_ends address plan work n events none line ends =
    ap (filter_map (told_by address plan work.script)) (notes_follow work n events none line ends) ∙ by_ends address plan work.script (ends_of (hook_messages_of events))

-- ---- hook messages

module _ (id_of : (c : ℕ) → StepKind → Ending → Option (List ℕ)) (work other : Work) (n m : ℕ) (events others : List Event)
    (same : AreSameMessages id_of work other n m events others) where
  abbrev hooks : List Event
  hooks = hook_messages_of events

  -- what holds of each event holds of each hook message
  all_hooks : (P : Event → Type 0) → ((e : Event) → Contains events e → P e) → All P hooks
  all_hooks P holds =
      All-weaker (Contains hooks) P (λ e there. holds e (filter_in (λ (e : Event). not (is_note e.what)) events e there).0) hooks (All-contains_itself hooks)

  at_kind : (e : Event) → Contains events e → (kind : StepKind) → slice_get (kinds_of work.plan e.change) e.step ≡ Some kind
      → EndsAlike (id_of e.change kind) (outcome_of work.script e.change e.step) (outcome_of other.script e.change e.step)
  at_kind e there kind is = same.alike e.change e.step kind (begins work n events same.line e there) is

  pub ends : All (HasAnEnd work.script) hooks
  ends = all_hooks (HasAnEnd work.script) (λ e there. (let kind = kind_at work n events same.line e there in (at_kind e there kind.0 kind.1).ends))

  pub others_end : All (HasAnEnd other.script) (hook_messages_of others)
  others_end =
      subst (All (HasAnEnd other.script)) (sym same.hooks)
      (all_hooks (HasAnEnd other.script) (λ e there. (let kind = kind_at work n events same.line e there in (at_kind e there kind.0 kind.1).other_ends)))

  abbrev pub IsAlike : Event → Type 0
  IsAlike e =
      (kind : StepKind) → slice_get (kinds_of work.plan e.change) e.step ≡ Some kind
      → ShowsTheSame (id_of e.change kind) (outcome_of work.script e.change e.step) (outcome_of other.script e.change e.step) e.what

  is_alike : (e : Event) → Contains events e → IsAlike e
  is_alike e there kind is =
      let both = at_kind e there kind is in
      let of = of_outcome work n events same.line same.no_hooks e there in
      record { runs = both.runs; named = of.named; id = λ complete. both.id (of.succeeds complete) }

  pub are_same : AreSame IsAlike events others
  are_same = record {
    hooks = same.hooks;
    alike = all_hooks IsAlike is_alike;
    in_time = in_time work n events same.no_hooks same.line ends;
    others_in_time = in_time other m others same.others_no_hooks same.others_line others_end;
  }

  pub none_halted : AreNotHalted events
  none_halted = not_halted work n events same.no_hooks same.line ends

  pub others_not_halted : AreNotHalted others
  others_not_halted = not_halted other m others same.others_no_hooks same.others_line others_end

  -- ---- diagnostics

  module _ (address : ResourceChange → StepKind → Outcome → Option (List ℕ)) where
    pub told : notes_told address work.plan work.script events ≡ notes_by_ends address work.plan work.script events
    told = told_by_ends address work.plan work n events same.no_hooks same.line ends

    pub others_told : notes_told address work.plan other.script others ≡ notes_by_ends address work.plan other.script events
    others_told =
        told_by_ends address work.plan other m others same.others_no_hooks same.others_line others_end
        ∙ ap (λ h. filter_map (told_after address work.plan other.script) (ends_of h)) same.hooks

    -- without a failure they are warnings
    module _ (none : (totals_of work.plan events).failed ≡ 0) where
      not_errored : All (λ e. is_errored e.what ≡ false) hooks
      not_errored =
          All-filter (λ e. not (is_note e.what)) (λ e. is_errored e.what ≡ false) events (none_from_count (λ (e : Event). is_errored e.what) events none)

      succeed : All (λ e. is_complete e.what ≡ true → Succeeds work.script e) hooks
      succeed =
          all_hooks (λ e. is_complete e.what ≡ true → Succeeds work.script e)
          (λ e there. (of_outcome work n events same.line same.no_hooks e there).succeeds)

      others_succeed : All (λ e. is_complete e.what ≡ true → Succeeds other.script e) hooks
      others_succeed =
          subst (All (λ e. is_complete e.what ≡ true → Succeeds other.script e)) same.hooks
          (All-filter (λ (e : Event). not (is_note e.what)) (λ e. is_complete e.what ≡ true → Succeeds other.script e) others
          (All-weaker (Contains others) (λ e. is_complete e.what ≡ true → Succeeds other.script e)
          (λ e there. (of_outcome other m others same.others_line same.others_no_hooks e there).succeeds) others (All-contains_itself others)))

      pub same_errors : (loose other_loose : List Note)
          → notes_by_ends address work.plan other.script events ++ other_loose ≡ notes_by_ends address work.plan work.script events ++ loose
          → list_any is_error other_loose ≡ list_any is_error loose
      same_errors loose other_loose are =
          let own = notes_by_ends address work.plan work.script events in
          let others_own = notes_by_ends address work.plan other.script events in
          sym (any-append_mild others_own other_loose (none_severe address work.plan other.script (ends_of hooks) (ends_succeed other.script hooks not_errored others_succeed)))
          ∙ ap (list_any is_error) are
          ∙ any-append_mild own loose (none_severe address work.plan work.script (ends_of hooks) (ends_succeed work.script hooks not_errored succeed))

-- ---- streams

pub same_plain : (work other : Work) (start : ℕ) (operation : Operation) (n m : ℕ) (events others : List Event) → AreSamePlain work other n m events others
    → stream_of work.plan other.script start operation others ≡ stream_of work.plan work.script start operation events
same_plain work other start operation n m events others same =
    plain.same_stream work.plan work.script other.script start operation events others
    (are_same _ work other n m events others same.messages)
    (ap (map without_place) (others_told _ work other n m events others same.messages plain_address) ∙ same.notes
    ∙ ap (map without_place) (sym (told _ work other n m events others same.messages plain_address)))

pub same_terraform : (work other : Work) (extras other_extras : StreamExtras) (start : ℕ) (operation : Operation) (n m : ℕ) (events others : List Event)
    → AreSameTerraform work other extras other_extras n m events others
    → stream_in (terraform_form work.plan other.script other_extras start operation) others ≡ stream_in (terraform_form work.plan work.script extras start operation) events
same_terraform work other extras other_extras start operation n m events others same =
    terraform.same_stream work.plan work.script other.script extras other_extras start operation events others
    (record {
      beyond = same.beyond;
      messages = are_same _ work other n m events others same.messages;
      not_halted = none_halted _ work other n m events others same.messages;
      others_not_halted = others_not_halted _ work other n m events others same.messages;
      notes = ap (λ l. l ++ other_extras.notes) (others_told _ work other n m events others same.messages diagnostic_address)
          ∙ same.notes ∙ ap (λ l. l ++ extras.notes) (sym (told _ work other n m events others same.messages diagnostic_address));
      errors = λ none. same_errors _ work other n m events others same.messages diagnostic_address none extras.notes other_extras.notes same.notes;
    })
