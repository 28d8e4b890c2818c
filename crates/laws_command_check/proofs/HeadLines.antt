-- What a checker reads back from the lines before an apply.
use Rattle.std.proofs.Common.{◌≡◌, ℕ, ◌+◌, ◌<◌, ◌≤◌, ◌^◌, ◌==◌, List, [], ◌∷◌, ◌++◌, codes, cond, decimal, length, map, IsUtf8, Bool, true, false, Option, Some, None, Ok, inl, inr, refl, slice_get, arith}
use Rattle.std.specs.Prelude.{IfSome, is_some}
use Rattle.std.specs.List.{AllByRecursion}
use Rattle.std.specs.Option.{option_map_or}
use Rattle.std.proofs.lemmas.Str.{IsUtf8-nil}
use Rattle.json.specs.Tree as tree
use Rattle.json.proofs.Printed.Utf8.{IsUtf8-are_ascii}
use Rattle.serde_json.specs.Data.{Data, Members, boolean, member, no_members, object, put, string}
use Rattle.serde_json.specs.Read.{of_json, of_members}
use Rattle.serde_json.specs.Written.{members_outline, outline}
use Rattle.serde_json.proofs.Numbers.{number_of-decimal}
use Rattle.apply_model.specs.declared.details.change_details.ChangeDetails.{ChangeDetails}
use Rattle.apply_model.specs.declared.details.previous_resource.PreviousResource.{PreviousResource}
use Rattle.apply_model.specs.declared.plan.mode.Mode.{Mode}
use Rattle.apply_model.specs.declared.plan.mode.Mode.TheVariants.{Managed, DataSource}
use Rattle.apply_model.specs.declared.plan.step_kind.StepKind.{StepKind}
use Rattle.apply_model.specs.declared.plan.step_kind.StepKind.TheVariants as kind
use Rattle.apply_model.specs.Plan.ResourceChange.{ResourceChange}
use Rattle.apply_model.specs.Script.Outcome.{default_outcome}
use Rattle.stream_check.specs.declared.messages.action.Action.TheVariants.{Read, Refresh}
use Rattle.stream_check.specs.declared.messages.timed_stage.TimedStage.TheVariants as stage
use Rattle.stream_check.specs.declared.rules.fault.Fault.TheVariants.{NotJson}
use Rattle.stream_check.specs.Lines.{tree_message}
use Rattle.stream_check.specs.Message.{Message, intent_named, other, outputs, plan_summary, planned, refresh_of, step, summary_of, typed_message}
use Rattle.stream_check.specs.Results.{◌>>=◌, or_refuse}
use Rattle.apply_events.specs.declared.event.Event.{Event}
use Rattle.apply_events.specs.declared.what.What.{What}
use Rattle.apply_events.specs.declared.what.What.TheVariants.{Start, Progress, Complete, Errored, ErrorNote, WarnNote, Halted, ProvisionStart, ProvisionOutput, ProvisionComplete, ProvisionErrored}
use Rattle.apply_prior.specs.declared.drift.Drift.{Drift}
use Rattle.apply_prior.specs.declared.planned_output.OutputAction.{OutputAction}
use Rattle.apply_prior.specs.declared.planned_output.OutputAction.TheVariants as action
use Rattle.apply_prior.specs.declared.planned_output.PlannedOutput.{PlannedOutput}
use Rattle.apply_planning.specs.declared.told.Told.{Told}
use Rattle.apply_text.specs.Lines.{message_object, typed}
use Rattle.apply_text.specs.Message.{id_suffix}
use Rattle.apply_text.specs.Objects.{key_data, resource_object as plain_resource}
use Rattle.apply_text_terraform.specs.Details.{planned_word}
use Rattle.apply_text_terraform.specs.Lines.{message_line}
use Rattle.apply_text_terraform.specs.Message.{planned_message}
use Rattle.apply_text_terraform.specs.Objects.{hook_object, resource_object}
use Rattle.apply_text_terraform.specs.UtcTimestamp.{precise_timestamp_text}
use Rattle.apply_text_planning.specs.declared.plan_totals.PlanTotals.{PlanTotals}
use Rattle.apply_text_planning.specs.Lines.{command_text}
use Rattle.apply_text_planning.specs.Message.{drift_message, plan_outputs_message, plan_summary_message, read_complete_message, read_progress_message, read_start_message, refresh_complete_message, refresh_start_message, to_import_text}
use Rattle.apply_text_planning.specs.Objects.{drift_object, output_members, plan_changes_object, refresh_object}
use Rattle.apply_text_planning.specs.Words.{bookkeeping_word, command_word, drift_word, output_word}
use Rattle.apply_command.specs.declared.head_line.HeadLine.{HeadLine}
use Rattle.apply_command.specs.declared.head_line.HeadLine.TheVariants as line
use Rattle.apply_command.specs.Head.{HeadInputs, line_text, told_text}
use Rattle.laws_check.specs.Objects.{object_at}
use Rattle.laws_check.specs.ReadBackInForm.{AreReadBackAs, HasDetailTexts, HasPreviousTexts, IsReadBackAs}
use Rattle.laws_check.specs.Sound.{AreSoundMembers, IsSound}
use Rattle.laws_check.specs.Texts.{HasChangeTexts, HasOutcomeTexts, IsSmall}
use Rattle.laws_check.proofs.BareTexts.{decimal_utf8}
use Rattle.laws_check.proofs.FormEnds.{version_line_read_back}
use Rattle.laws_check.proofs.FormLines.{event_read}
use Rattle.laws_check.proofs.FormObjects.{key_of, resource_moved}
use Rattle.laws_check.proofs.FormPlanned.{key_of_previous, line_is_read_back, message_sound, previous_read, previous_sound}
use Rattle.laws_check.proofs.FormReadBack.{event_is_read_back, line_reads, says}
use Rattle.laws_check.proofs.Given.{first_of_two, held_at}
use Rattle.laws_check.proofs.LinesAccepted.{all_read_back_both}
use Rattle.laws_check.proofs.SoundParts.{action_utf8, note_utf8, resource_sound, two}
use Rattle.laws_check.proofs.Sounds.{fine_utf8, number_utf8}
use Rattle.laws_command_check.specs.HeadReadBack.{command_read_back, head_read_back, line_read_back, told_read_back, totals_of_plan}
use Rattle.laws_command_check.specs.HeadTexts.{AreSmallTotals, HasDriftTexts, HasHeadTexts, HasToldTexts, IsSmallLine}

one_line : (text : List ℕ) (message : Message) → IsReadBackAs text message → AreReadBackAs (text ∷ []) (message ∷ [])
one_line text message is = inr (message, [], refl, is, refl)

no_line : AreReadBackAs ([] ∷ []) []
no_line = inl (refl, refl)

-- ---- refreshes

refresh_sound : (change : ResourceChange) (id : Option (List ℕ)) → HasChangeTexts change → IfSome id IsUtf8 → IsSound (refresh_object change id)
unfolding refresh_object
refresh_sound change None has h = (IsUtf8-are_ascii (codes "resource") refl, resource_moved change (resource_sound change has), tt)
refresh_sound change (Some id) has h = (
  IsUtf8-are_ascii (codes "resource") refl,
  resource_moved change (resource_sound change has),
  (IsUtf8-are_ascii (codes "id_key") refl, IsUtf8-are_ascii (codes "id") refl, (IsUtf8-are_ascii (codes "id_value") refl, h, tt)),
)

-- the message is read back so, and is not deep
abbrev IsReadAs : Message → Data → Type 0
IsReadAs message d = ((or_refuse NotJson (of_json (outline d)) >>= tree_message false) ≡ Ok message) × (tree.depth (outline d) ≤ 3)

start_read : (change : ResourceChange) (id : Option (List ℕ)) (text moment : List ℕ) → IsSound (plain_resource change)
    → IsReadAs (step change.address Refresh stage.Start) (message_object (codes "info") text moment (typed (codes "hook") (refresh_object change id) (codes "refresh_start")))
unfolding message_object tree_message typed_message refresh_of refresh_object plain_resource
start_read change None text moment sound = let r = key_of change sound in (rw r.0 refl, omega (arith, r.1))
start_read change (Some id) text moment sound = let r = key_of change sound in (rw r.0 refl, omega (arith, r.1))

complete_read : (change : ResourceChange) (id : Option (List ℕ)) (text moment : List ℕ) → IsSound (plain_resource change)
    → IsReadAs (step change.address Refresh (stage.Complete 0)) (message_object (codes "info") text moment (typed (codes "hook") (refresh_object change id) (codes "refresh_complete")))
unfolding message_object tree_message typed_message refresh_of refresh_object plain_resource
complete_read change None text moment sound = let r = key_of change sound in (rw r.0 refl, omega (arith, r.1))
complete_read change (Some id) text moment sound = let r = key_of change sound in (rw r.0 refl, omega (arith, r.1))

refresh_words : (change : ResourceChange) (words : List ℕ) (id : Option (List ℕ)) → HasChangeTexts change → IsUtf8 words → IfSome id IsUtf8 → IsUtf8 (change.address ++ (codes ": " ++ (words ++ id_suffix id)))
refresh_words change words id has is h = two change.address (codes ": " ++ (words ++ id_suffix id)) has.address (two (codes ": ") (words ++ id_suffix id) (IsUtf8-are_ascii (codes ": ") refl) (two words (id_suffix id) is (note_utf8 id h)))

refresh_starts : (change : ResourceChange) (id : Option (List ℕ)) (seconds : ℕ) → HasChangeTexts change → IfSome id IsUtf8 → IsReadBackAs (message_line seconds (refresh_start_message change id)) (step change.address Refresh stage.Start)
refresh_starts change id seconds has h =
    let message = refresh_start_message change id in
    let read = start_read change id message.text (precise_timestamp_text seconds) (resource_sound change has) in
    line_reads (object_at (precise_timestamp_text seconds) message) (step change.address Refresh stage.Start)
    (message_sound (codes "info") message.text (precise_timestamp_text seconds) (codes "hook") (codes "refresh_start") (refresh_object change id) (IsUtf8-are_ascii (codes "info") refl)
    (refresh_words change (codes "Refreshing state...") id has (IsUtf8-are_ascii (codes "Refreshing state...") refl) h) (fine_utf8 seconds) (IsUtf8-are_ascii (codes "hook") refl) (refresh_sound change id has h) (IsUtf8-are_ascii (codes "refresh_start") refl))
    read.1 read.0

refresh_completes : (change : ResourceChange) (id : Option (List ℕ)) (seconds : ℕ) → HasChangeTexts change → IfSome id IsUtf8 → IsReadBackAs (message_line seconds (refresh_complete_message change id)) (step change.address Refresh (stage.Complete 0))
refresh_completes change id seconds has h =
    let message = refresh_complete_message change id in
    let read = complete_read change id message.text (precise_timestamp_text seconds) (resource_sound change has) in
    line_reads (object_at (precise_timestamp_text seconds) message) (step change.address Refresh (stage.Complete 0))
    (message_sound (codes "info") message.text (precise_timestamp_text seconds) (codes "hook") (codes "refresh_complete") (refresh_object change id) (IsUtf8-are_ascii (codes "info") refl)
    (refresh_words change (codes "Refresh complete") id has (IsUtf8-are_ascii (codes "Refresh complete") refl) h) (fine_utf8 seconds) (IsUtf8-are_ascii (codes "hook") refl) (refresh_sound change id has h) (IsUtf8-are_ascii (codes "refresh_complete") refl))
    read.1 read.0

-- ---- reads: the lines of a step that reads an object without an id

abbrev without_id : ResourceChange → ResourceChange
without_id change = record change { prior_id = None }

unnamed : (change : ResourceChange) → HasChangeTexts change → HasChangeTexts (without_id change)
unnamed change has = record {
  address = has.address;
  module_address = has.module_address;
  resource = has.resource;
  provider = has.provider;
  kind_name = has.kind_name;
  name = has.name;
  key = has.key;
  prior_id = tt;
}

plain_texts : HasOutcomeTexts default_outcome
plain_texts = record {
  id = tt;
  failure = record { summary = IsUtf8-nil; detail = IsUtf8-nil };
  warning = record { summary = IsUtf8-nil; detail = IsUtf8-nil };
  names = λ i. IsUtf8-nil;
  outputs = λ i n. IsUtf8-nil;
}

read_starts : (change : ResourceChange) (seconds : ℕ) → HasChangeTexts change → IsReadBackAs (message_line seconds (read_start_message change)) (step change.address Read stage.Start)
unfolding hook_object resource_object
read_starts change seconds has =
    says (message_line seconds (read_start_message change)) _ (step change.address Read stage.Start)
    (event_read (without_id change) kind.Read default_outcome None None None Start seconds (unnamed change has) plain_texts tt tt (record { range_is = tt; snippet_is = tt }))
    (event_is_read_back false (without_id change) kind.Read default_outcome None None None Start (precise_timestamp_text seconds))

read_goes_on : (change : ResourceChange) (s seconds : ℕ) → HasChangeTexts change → s < 2 ^ 64 → IsReadBackAs (message_line seconds (read_progress_message change s)) (step change.address Read (stage.Progress s))
read_goes_on change s seconds has small =
    says (message_line seconds (read_progress_message change s)) _ (step change.address Read (stage.Progress s))
    (event_read change kind.Read default_outcome None None None (Progress s) seconds has plain_texts small tt (record { range_is = tt; snippet_is = tt }))
    (event_is_read_back false change kind.Read default_outcome None None None (Progress s) (precise_timestamp_text seconds))

read_completes : (change : ResourceChange) (s : ℕ) (id : Option (List ℕ)) (seconds : ℕ) → HasChangeTexts change → s < 2 ^ 64 → IfSome id IsUtf8
    → IsReadBackAs (message_line seconds (read_complete_message change s id)) (step change.address Read (stage.Complete s))
read_completes change s id seconds has small h =
    says (message_line seconds (read_complete_message change s id)) _ (step change.address Read (stage.Complete s))
    (event_read change kind.Read default_outcome id None None (Complete s) seconds has plain_texts small h (record { range_is = tt; snippet_is = tt }))
    (event_is_read_back false change kind.Read default_outcome id None None (Complete s) (precise_timestamp_text seconds))

-- ---- an event of the planning

told_line : (told : Told) (mode : Mode) (what : What) (seconds : ℕ) → HasToldTexts told → IsSmall what
    → AreReadBackAs (told_text mode seconds told what ∷ []) (told_read_back mode told.object.address what)
told_line told Managed Start seconds has small = one_line _ _ (refresh_starts told.object told.id_before seconds has.object has.id_before)
told_line told Managed (Progress s) seconds has small = no_line
told_line told Managed (Complete s) seconds has small = one_line _ _ (refresh_completes told.object told.id_after seconds has.object has.id_after)
told_line told Managed (Errored s) seconds has small = no_line
told_line told Managed ErrorNote seconds has small = no_line
told_line told Managed WarnNote seconds has small = no_line
told_line told Managed (Halted phase hook) seconds has small = no_line
told_line told Managed (ProvisionStart i) seconds has small = no_line
told_line told Managed (ProvisionOutput i n) seconds has small = no_line
told_line told Managed (ProvisionComplete i) seconds has small = no_line
told_line told Managed (ProvisionErrored i) seconds has small = no_line
told_line told DataSource Start seconds has small = one_line _ _ (read_starts told.object seconds has.object)
told_line told DataSource (Progress s) seconds has small = one_line _ _ (read_goes_on told.object s seconds has.object small)
told_line told DataSource (Complete s) seconds has small = one_line _ _ (read_completes told.object s told.id_after seconds has.object small has.id_after)
told_line told DataSource (Errored s) seconds has small = no_line
told_line told DataSource ErrorNote seconds has small = no_line
told_line told DataSource WarnNote seconds has small = no_line
told_line told DataSource (Halted phase hook) seconds has small = no_line
told_line told DataSource (ProvisionStart i) seconds has small = no_line
told_line told DataSource (ProvisionOutput i n) seconds has small = no_line
told_line told DataSource (ProvisionComplete i) seconds has small = no_line
told_line told DataSource (ProvisionErrored i) seconds has small = no_line

event_line : (start : ℕ) (event : Event) → IsSmall event.what → (found : Option Told) → IfSome found HasToldTexts
    → AreReadBackAs (option_map_or (λ (t : Told). told_text t.object.mode (start + event.at) t event.what) found [] ∷ []) (option_map_or (λ (t : Told). told_read_back t.object.mode t.object.address event.what) found [])
event_line start event small None has = no_line
event_line start event small (Some told) has = told_line told told.object.mode event.what (start + event.at) has small

-- ---- drift

drift_sound : (change : ResourceChange) (word : List ℕ) (previous : Option PreviousResource) → HasChangeTexts change → IfSome previous HasPreviousTexts → IsUtf8 word → IsSound (drift_object change word previous)
unfolding drift_object
drift_sound change word previous has h is =
    (IsUtf8-are_ascii (codes "resource") refl, resource_moved change (resource_sound change has), previous_sound previous h _ (IsUtf8-are_ascii (codes "action") refl, is, tt))

drift_read : (change : ResourceChange) (word : List ℕ) (previous : Option PreviousResource) (text moment : List ℕ) → IsSound (plain_resource change) → IfSome previous (λ p. IsSound (key_data p.key))
    → IsReadAs other (message_object (codes "info") text moment (typed (codes "change") (drift_object change word previous) (codes "resource_drift")))
unfolding message_object tree_message typed_message drift_object
drift_read change word None text moment sound key = let r = key_of change sound in (rw r.0 refl, omega (arith, r.1))
drift_read change word (Some previous) text moment sound key = let r = key_of change sound in let p = previous_read previous key in (rw (r.0, p.0) refl, omega (arith, r.1, p.1))

word_utf8 : (steps : List StepKind) (forgets : Bool) → IfSome (planned_word steps forgets) IsUtf8
word_utf8 [] true = IsUtf8-are_ascii (codes "remove") refl
word_utf8 [] false = tt
word_utf8 (k ∷ []) forgets = action_utf8 k
word_utf8 (k ∷ l ∷ ks) forgets = IsUtf8-are_ascii (codes "replace") refl

drift_word_utf8 : (steps : List StepKind) (forgets : Bool) → IsUtf8 (drift_word steps forgets)
drift_word_utf8 [] true = IsUtf8-are_ascii (codes "remove") refl
drift_word_utf8 [] false = IsUtf8-are_ascii (codes "move") refl
drift_word_utf8 (k ∷ []) forgets = action_utf8 k
drift_word_utf8 (k ∷ l ∷ ks) forgets = IsUtf8-are_ascii (codes "replace") refl

drift_line : (drift : Drift) (seconds : ℕ) → HasDriftTexts drift → IsReadBackAs (message_line seconds (drift_message drift.change drift.details)) other
drift_line drift seconds has =
    let message = drift_message drift.change drift.details in
    let word = drift_word drift.change.steps drift.details.forgets in
    let fine = drift_word_utf8 drift.change.steps drift.details.forgets in
    let read = drift_read drift.change word drift.details.previous message.text (precise_timestamp_text seconds) (resource_sound drift.change has.change) (key_of_previous drift.details.previous has.details.previous) in
    line_reads (object_at (precise_timestamp_text seconds) message) other
    (message_sound (codes "info") message.text (precise_timestamp_text seconds) (codes "change") (codes "resource_drift") (drift_object drift.change word drift.details.previous) (IsUtf8-are_ascii (codes "info") refl)
    (two drift.change.address (codes ": Drift detected (" ++ (word ++ codes ")")) has.change.address
    (two (codes ": Drift detected (") (word ++ codes ")") (IsUtf8-are_ascii (codes ": Drift detected (") refl) (two word (codes ")") fine (IsUtf8-are_ascii (codes ")") refl))))
    (fine_utf8 seconds) (IsUtf8-are_ascii (codes "change") refl) (drift_sound drift.change word drift.details.previous has.change has.details.previous fine) (IsUtf8-are_ascii (codes "resource_drift") refl))
    read.1 read.0

found_drift : (seconds : ℕ) (found : Option Drift) → IfSome found HasDriftTexts
    → AreReadBackAs (option_map_or (λ (drift : Drift). message_line seconds (drift_message drift.change drift.details)) found [] ∷ []) (option_map_or (λ drift. other ∷ []) found [])
found_drift seconds None has = no_line
found_drift seconds (Some drift) has = one_line _ _ (drift_line drift seconds has)

-- ---- planned changes

bookkeeping_utf8 : (details : ChangeDetails) → IfSome (bookkeeping_word details) IsUtf8
bookkeeping_utf8 details = of_move (is_some details.previous) (is_some details.importing)
  where
    of_move : (moves imports : Bool) → IfSome (cond moves (Some (codes "move")) (cond imports (Some (codes "import")) None)) IsUtf8
    of_move true imports = IsUtf8-are_ascii (codes "move") refl
    of_move false true = IsUtf8-are_ascii (codes "import") refl
    of_move false false = tt

command_line : (change : ResourceChange) (details : ChangeDetails) (seconds : ℕ) → HasChangeTexts change → HasDetailTexts details → AreReadBackAs (command_text seconds change details ∷ []) (command_read_back change details)
command_line change details seconds has texts =
    of_word (command_word change.steps details) (first_of_two IsUtf8 (planned_word change.steps details.forgets) (bookkeeping_word details) (word_utf8 change.steps details.forgets) (bookkeeping_utf8 details))
  where
    of_word : (o : Option (List ℕ)) → IfSome o IsUtf8
        → AreReadBackAs (option_map_or (λ word. message_line seconds (planned_message change word details)) o [] ∷ []) (option_map_or (λ word. planned (intent_named word) (Some change.address) ∷ []) o [])
    of_word None h = no_line
    of_word (Some word) h = one_line _ _ (line_is_read_back change word details seconds has texts h)

found_planned : (seconds : ℕ) (change : Option ResourceChange) (details : Option ChangeDetails) → IfSome change HasChangeTexts → IfSome details HasDetailTexts
    → AreReadBackAs (option_map_or (λ change. option_map_or (λ details. command_text seconds change details) details []) change [] ∷ [])
    (option_map_or (λ change. option_map_or (λ details. command_read_back change details) details []) change [])
found_planned seconds None details has texts = no_line
found_planned seconds (Some change) None has texts = no_line
found_planned seconds (Some change) (Some details) has texts = command_line change details seconds has texts

-- ---- the sums

summary_sound : (totals : PlanTotals) → AreSmallTotals totals → IsSound (plan_changes_object totals)
unfolding plan_changes_object
summary_sound totals small = (
  IsUtf8-are_ascii (codes "add") refl,
  small.added,
  (
    IsUtf8-are_ascii (codes "change") refl,
    small.changed,
    (
      IsUtf8-are_ascii (codes "import") refl,
      small.imported,
      (IsUtf8-are_ascii (codes "remove") refl, small.removed, (IsUtf8-are_ascii (codes "operation") refl, IsUtf8-are_ascii (codes "plan") refl, tt)),
    ),
  ),
)

import_utf8 : (imported : ℕ) → imported < 2 ^ 64 → IsUtf8 (to_import_text imported)
import_utf8 imported few = either (imported == 0)
  where
    either : (b : Bool) → IsUtf8 (cond b [] (decimal imported ++ codes " to import, "))
    either true = IsUtf8-nil
    either false = two (decimal imported) (codes " to import, ") (number_utf8 imported few) (IsUtf8-are_ascii (codes " to import, ") refl)

-- a number, then more words
counted_utf8 : (n : ℕ) (words others : List ℕ) → n < 2 ^ 64 → IsUtf8 words → IsUtf8 others → IsUtf8 (decimal n ++ (words ++ others))
counted_utf8 n words others small is rest = two (decimal n) (words ++ others) (number_utf8 n small) (two words others is rest)

summary_utf8 : (totals : PlanTotals) → AreSmallTotals totals → IsUtf8 (plan_summary_message totals).text
summary_utf8 totals small =
    let last = decimal totals.removed ++ codes " to destroy." in
    let third = decimal totals.changed ++ (codes " to change, " ++ last) in
    let second = decimal totals.added ++ (codes " to add, " ++ third) in
    let is_last = two (decimal totals.removed) (codes " to destroy.") (number_utf8 totals.removed small.removed) (IsUtf8-are_ascii (codes " to destroy.") refl) in
    two (codes "Plan: ") (to_import_text totals.imported ++ second) (IsUtf8-are_ascii (codes "Plan: ") refl)
    (two (to_import_text totals.imported) second (import_utf8 totals.imported small.imported)
    (counted_utf8 totals.added (codes " to add, ") third small.added (IsUtf8-are_ascii (codes " to add, ") refl)
    (counted_utf8 totals.changed (codes " to change, ") last small.changed (IsUtf8-are_ascii (codes " to change, ") refl) is_last)))

summary_read : (totals : PlanTotals) (text moment : List ℕ) → AreSmallTotals totals
    → IsReadAs (plan_summary (totals_of_plan totals)) (message_object (codes "info") text moment (typed (codes "changes") (plan_changes_object totals) (codes "change_summary")))
unfolding message_object tree_message typed_message summary_of plan_changes_object
summary_read totals text moment small =
    (rw (number_of-decimal totals.added small.added, number_of-decimal totals.changed small.changed, number_of-decimal totals.imported small.imported, number_of-decimal totals.removed small.removed) refl, omega arith)

summary_line : (totals : PlanTotals) (seconds : ℕ) → AreSmallTotals totals → IsReadBackAs (message_line seconds (plan_summary_message totals)) (plan_summary (totals_of_plan totals))
summary_line totals seconds small =
    let message = plan_summary_message totals in
    let read = summary_read totals message.text (precise_timestamp_text seconds) small in
    line_reads (object_at (precise_timestamp_text seconds) message) (plan_summary (totals_of_plan totals))
    (message_sound (codes "info") message.text (precise_timestamp_text seconds) (codes "changes") (codes "change_summary") (plan_changes_object totals) (IsUtf8-are_ascii (codes "info") refl) (summary_utf8 totals small)
    (fine_utf8 seconds) (IsUtf8-are_ascii (codes "changes") refl) (summary_sound totals small) (IsUtf8-are_ascii (codes "change_summary") refl))
    read.1 read.0

-- ---- the outputs

action_is_utf8 : (does : OutputAction) → IsUtf8 (output_word does)
action_is_utf8 action.NoOp = IsUtf8-are_ascii (output_word action.NoOp) refl
action_is_utf8 action.Create = IsUtf8-are_ascii (output_word action.Create) refl
action_is_utf8 action.Read = IsUtf8-are_ascii (output_word action.Read) refl
action_is_utf8 action.Update = IsUtf8-are_ascii (output_word action.Update) refl
action_is_utf8 action.Delete = IsUtf8-are_ascii (output_word action.Delete) refl
action_is_utf8 action.Replace = IsUtf8-are_ascii (output_word action.Replace) refl

outputs_sound : (all : List PlannedOutput) → AllByRecursion (λ (output : PlannedOutput). IsUtf8 output.name) all → AreSoundMembers (output_members all)
outputs_sound [] has = tt
outputs_sound (output ∷ others) has = (
  has.0,
  (IsUtf8-are_ascii (codes "sensitive") refl, tt, (IsUtf8-are_ascii (codes "action") refl, action_is_utf8 output.action, tt)),
  outputs_sound others has.1,
)

outputs_read : (all : List PlannedOutput) (located : Members) → (ms : Members) × (of_members (members_outline (output_members all)) located ≡ Some ms)
outputs_read [] located = (located, refl)
outputs_read (output ∷ others) located =
    let one : Data = object (member (codes "action") (string (output_word output.action)) (member (codes "sensitive") (boolean output.sensitive) no_members)) in
    let rest = outputs_read others (put output.name one located) in
    (rest.0, rest.1)

outputs_depth : (all : List PlannedOutput) → tree.members_depth (members_outline (output_members all)) ≤ 1
outputs_depth [] = omega arith
outputs_depth (output ∷ others) = let rest = outputs_depth others in omega arith

outputs_message_read : (all : List PlannedOutput) (text moment : List ℕ) → IsReadAs outputs (message_object (codes "info") text moment (typed (codes "outputs") (object (output_members all)) (codes "outputs")))
unfolding message_object tree_message typed_message
outputs_message_read all text moment = let read = outputs_read all no_members in let deep = outputs_depth all in (rw read.1 refl, omega arith)

outputs_line : (all : List PlannedOutput) (seconds : ℕ) → AllByRecursion (λ (output : PlannedOutput). IsUtf8 output.name) all → IsReadBackAs (message_line seconds (plan_outputs_message all)) outputs
outputs_line all seconds has =
    let message = plan_outputs_message all in
    let read = outputs_message_read all message.text (precise_timestamp_text seconds) in
    line_reads (object_at (precise_timestamp_text seconds) message) outputs
    (message_sound (codes "info") message.text (precise_timestamp_text seconds) (codes "outputs") (codes "outputs") (object (output_members all)) (IsUtf8-are_ascii (codes "info") refl)
    (two (codes "Outputs: ") (decimal (length all)) (IsUtf8-are_ascii (codes "Outputs: ") refl) (decimal_utf8 (length all)))
    (fine_utf8 seconds) (IsUtf8-are_ascii (codes "outputs") refl) (outputs_sound all has) (IsUtf8-are_ascii (codes "outputs") refl))
    read.1 read.0

-- ---- all lines

module _ (inputs : HeadInputs) (has : HasHeadTexts inputs) where
  change_texts : (number : ℕ) → IfSome (slice_get inputs.plan.changes number) HasChangeTexts
  change_texts number = found (slice_get inputs.plan.changes number) refl
    where
      found : (o : Option ResourceChange) → slice_get inputs.plan.changes number ≡ o → IfSome o HasChangeTexts
      found None is = tt
      found (Some change) is = has.changes number change is

  a_line : (which : HeadLine) → IsSmallLine which → AreReadBackAs (line_text inputs which ∷ []) (line_read_back inputs which)
  a_line line.Version small = one_line _ _ (version_line_read_back inputs.plan inputs.start has.version)
  a_line (line.Planning event) small = event_line inputs.start event small (slice_get inputs.told event.change) (held_at HasToldTexts inputs.told event.change has.told)
  a_line (line.Drift number) small = found_drift (inputs.start + inputs.took) (slice_get inputs.drifts number) (held_at HasDriftTexts inputs.drifts number has.drifts)
  a_line (line.Planned number) small =
      found_planned (inputs.start + inputs.took) (slice_get inputs.plan.changes number) (slice_get inputs.details number) (change_texts number) (held_at HasDetailTexts inputs.details number has.details)
  a_line line.Summary small = one_line _ _ (summary_line inputs.totals (inputs.start + inputs.took) has.totals)
  a_line line.Outputs small = one_line _ _ (outputs_line inputs.outputs (inputs.start + inputs.took) has.outputs)

  pub head_lines_read_back : (lines : List HeadLine) → AllByRecursion IsSmallLine lines → AreReadBackAs (map (line_text inputs) lines) (head_read_back inputs lines)
  head_lines_read_back [] small = refl
  head_lines_read_back (which ∷ lines) small =
      all_read_back_both (line_text inputs which ∷ []) (map (line_text inputs) lines) (line_read_back inputs which) (head_read_back inputs lines) (a_line which small.0) (head_lines_read_back lines small.1)
