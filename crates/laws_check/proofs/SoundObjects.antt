-- The objects of a stream are sound if the texts of its plan and its script are UTF-8 and its
-- numbers fit 64 bits.
use Rattle.std.proofs.Common.{◌≡◌, ℕ, ◌+◌, ◌<◌, ◌^◌, List, [], ◌∷◌, ◌++◌, codes, cond, decimal, filter, flat_map, length, IsUtf8, Bool, true, false, not, Option, Some, None, refl, slice_get}
use Rattle.std.specs.Prelude.{IfSome}
use Rattle.std.specs.List.{AllByRecursion, enumerate_from}
use Rattle.std.specs.Option.{option_map_or}
use Rattle.json.proofs.Printed.Utf8.{IsUtf8-are_ascii}
use Rattle.serde_json.specs.Data.{Data}
use Rattle.apply_model.specs.declared.plan.step_kind.StepKind.{StepKind}
use Rattle.apply_model.specs.declared.plan.step_kind.StepKind.TheVariants.{Create, Update, Delete, Read}
use Rattle.apply_model.specs.declared.script.diag.Diag.{Diag}
use Rattle.apply_model.specs.declared.script.outcome.Outcome.{Outcome}
use Rattle.apply_plan.specs.Plan.ResourceChange.{ResourceChange}
use Rattle.apply_plan.specs.Plan.SavedPlan.{SavedPlan}
use Rattle.apply_plan.specs.Script.OutcomeMap.{OutcomeMap, outcome_of}
use Rattle.apply_hooks.specs.declared.phase.Phase.{Phase}
use Rattle.apply_events.specs.declared.counts.Counts.{Counts}
use Rattle.apply_events.specs.declared.event.Event.{Event}
use Rattle.apply_events.specs.declared.what.What.{What}
use Rattle.apply_events.specs.declared.what.What.TheVariants.{Start, Progress, Complete, Errored, ErrorNote, WarnNote, Halted, ProvisionStart, ProvisionOutput, ProvisionComplete, ProvisionErrored}
use Rattle.apply_events.specs.Diagnostics.{is_note}
use Rattle.apply_events.specs.Totals.{totals_of}
use Rattle.apply_text.specs.declared.operation.Operation.{Operation}
use Rattle.apply_text.specs.declared.operation.Operation.TheVariants.{Apply, Destroy}
use Rattle.apply_text.specs.Elapsed.{elapsed_of}
use Rattle.apply_text.specs.Latest.{latest_of}
use Rattle.apply_text.specs.Lines.{message_object, typed}
use Rattle.apply_text.specs.Message.{complete_message, diagnostic_message, end_id, event_message, halt_of, hook_message, id_suffix, name_of, output_of, provision_message, start_id, summary_message, failure_diag, totals_text, warning_of}
use Rattle.apply_text.specs.UtcTimestamp.{timestamp_text}
use Rattle.apply_text.specs.Objects.{changes_object, diagnostic_object, hook_object, provisioner_object}
use Rattle.apply_text.specs.Order.{as_written, hook_messages_of, notes_of}
use Rattle.apply_text.specs.Words.{action_word, noun_word, phase_words, start_word, still_word}
use Rattle.laws_check.specs.Objects.{object_of, objects_of, stream_objects, version_object}
use Rattle.laws_check.specs.Sound.{IsSound}
use Rattle.laws_check.specs.Texts.{AreSmall, FitBits, HasChangeTexts, HasDiagTexts, HasOutcomeTexts, HasTexts, IsSmall}
use Rattle.laws_check.proofs.Sounds.{elapsed_utf8, moment_utf8, number_utf8}
use Rattle.laws_check.proofs.SoundParts.{action_utf8, changes_sound, diagnostic_sound, hook_sound, note_utf8, noun_utf8, phase_utf8, provisioner_sound, start_utf8, still_utf8, three, two}

-- ---- messages

message_sound : (level text name type_name : List ℕ) (seconds : ℕ) (body : Data) → IsUtf8 level → IsUtf8 text → IsUtf8 name → IsSound body → IsUtf8 type_name
    → IsSound (message_object level text (timestamp_text seconds) (typed name body type_name))
unfolding message_object
message_sound level text name type_name seconds body how says named sound type_is = (
  IsUtf8-are_ascii (codes "@level") refl,
  how,
  (
    IsUtf8-are_ascii (codes "@message") refl,
    says,
    (
      IsUtf8-are_ascii (codes "@module") refl,
      IsUtf8-are_ascii (codes "terraform.ui") refl,
      (
        IsUtf8-are_ascii (codes "@timestamp") refl,
        moment_utf8 seconds,
        (named, sound, (IsUtf8-are_ascii (codes "type") refl, type_is, tt)),
      ),
    ),
  ),
)

module _ (change : ResourceChange) (has : HasChangeTexts change) (seconds : ℕ) where
  -- a text after the address
  addressed : (text : List ℕ) → IsUtf8 text → IsUtf8 (change.address ++ codes ": " ++ text)
  addressed text is = three change.address (codes ": ") text has.address (IsUtf8-are_ascii (codes ": ") refl) is

  hook_line : (kind : StepKind) (text : List ℕ) (elapsed : Option ℕ) (id : Option (List ℕ)) (type_name : List ℕ) → IsUtf8 text → IfSome elapsed (λ n. n < 2 ^ 64) → IfSome id IsUtf8 → IsUtf8 type_name
      → IsSound (object_of seconds (hook_message change kind text elapsed id type_name))
  hook_line kind text elapsed id type_name says small named type_is =
      message_sound (codes "info") (change.address ++ codes ": " ++ text) (codes "hook") type_name seconds (hook_object change kind elapsed id) (IsUtf8-are_ascii (codes "info") refl) (addressed text says)
      (IsUtf8-are_ascii (codes "hook") refl) (hook_sound change kind elapsed id has small named) type_is

  provision_line : (name text : List ℕ) (output : Option (List ℕ)) (type_name : List ℕ) → IsUtf8 name → IsUtf8 text → IfSome output IsUtf8 → IsUtf8 type_name
      → IsSound (object_of seconds (provision_message change name text output type_name))
  provision_line name text output type_name named says puts type_is =
      message_sound (codes "info") (change.address ++ codes ": " ++ text) (codes "hook") type_name seconds (provisioner_object change name output) (IsUtf8-are_ascii (codes "info") refl) (addressed text says)
      (IsUtf8-are_ascii (codes "hook") refl) (provisioner_sound change name output has named puts) type_is

  diagnostic_line : (level severity label : List ℕ) (diag : Diag) → IsUtf8 level → IsUtf8 severity → IsUtf8 label → HasDiagTexts diag
      → IsSound (object_of seconds (diagnostic_message change.address level severity label diag))
  diagnostic_line level severity label diag how is_so labelled texts =
      message_sound level (label ++ codes ": " ++ diag.summary) (codes "diagnostic") (codes "diagnostic") seconds (diagnostic_object change.address severity diag) how
      (three label (codes ": ") diag.summary labelled (IsUtf8-are_ascii (codes ": ") refl) texts.summary)
      (IsUtf8-are_ascii (codes "diagnostic") refl) (diagnostic_sound change.address severity diag has.address is_so texts) (IsUtf8-are_ascii (codes "diagnostic") refl)

  error_line : (diag : Diag) → HasDiagTexts diag → IsSound (object_of seconds (diagnostic_message change.address (codes "error") (codes "error") (codes "Error") diag))
  error_line diag texts = diagnostic_line (codes "error") (codes "error") (codes "Error") diag (IsUtf8-are_ascii (codes "error") refl) (IsUtf8-are_ascii (codes "error") refl) (IsUtf8-are_ascii (codes "Error") refl) texts

  id_at_start : (kind : StepKind) → IfSome (start_id kind change) IsUtf8
  id_at_start Create = tt
  id_at_start Update = has.prior_id
  id_at_start Delete = has.prior_id
  id_at_start Read = has.prior_id

  id_at_end : (kind : StepKind) (outcome : Outcome) → HasOutcomeTexts outcome → IfSome (end_id kind outcome.result) IsUtf8
  id_at_end Create outcome texts = texts.id
  id_at_end Update outcome texts = texts.id
  id_at_end Delete outcome texts = tt
  id_at_end Read outcome texts = texts.id

  pub halt_texts : (kind : StepKind) (phase : Phase) (hook : ℕ) → hook < 2 ^ 64 → HasDiagTexts (halt_of kind phase hook)
  halt_texts kind phase hook small = record {
    summary = IsUtf8-are_ascii (codes "execution halted") refl;
    detail = two (codes "Hook " ++ decimal hook ++ codes " answered Halt " ++ phase_words phase ++ codes " " ++ action_word kind) (codes ".")
        (three (codes "Hook " ++ decimal hook ++ codes " answered Halt " ++ phase_words phase) (codes " ") (action_word kind)
        (three (codes "Hook " ++ decimal hook) (codes " answered Halt ") (phase_words phase)
        (two (codes "Hook ") (decimal hook) (IsUtf8-are_ascii (codes "Hook ") refl) (number_utf8 hook small)) (IsUtf8-are_ascii (codes " answered Halt ") refl) (phase_utf8 phase))
        (IsUtf8-are_ascii (codes " ") refl) (action_utf8 kind))
        (IsUtf8-are_ascii (codes ".") refl);
  }

  -- a text with a name in it
  named_text : (before name after : List ℕ) → IsUtf8 before → IsUtf8 name → IsUtf8 after → IsUtf8 (before ++ name ++ after)
  named_text before name after first named last = three before name after first named last

  -- a completion with any id
  pub complete_sound : (kind : StepKind) (s : ℕ) (id : Option (List ℕ)) → s < 2 ^ 64 → IfSome id IsUtf8 → IsSound (object_of seconds (complete_message change kind s id))
  complete_sound kind s id small named =
      hook_line kind (noun_word kind ++ codes " complete after " ++ elapsed_of s ++ id_suffix id) (Some s) id (codes "apply_complete")
      (two (noun_word kind ++ codes " complete after " ++ elapsed_of s) (id_suffix id)
      (three (noun_word kind) (codes " complete after ") (elapsed_of s) (noun_utf8 kind) (IsUtf8-are_ascii (codes " complete after ") refl) (elapsed_utf8 s small))
      (note_utf8 id named))
      small named (IsUtf8-are_ascii (codes "apply_complete") refl)

  pub event_sound : (kind : StepKind) (outcome : Outcome) (what : What) → HasOutcomeTexts outcome → IsSmall what → IsSound (object_of seconds (event_message change kind outcome what))
  event_sound kind outcome Start texts small =
      hook_line kind (start_word kind ++ codes "..." ++ id_suffix (start_id kind change)) None (start_id kind change) (codes "apply_start")
      (three (start_word kind) (codes "...") (id_suffix (start_id kind change)) (start_utf8 kind) (IsUtf8-are_ascii (codes "...") refl) (note_utf8 (start_id kind change) (id_at_start kind)))
      tt (id_at_start kind) (IsUtf8-are_ascii (codes "apply_start") refl)
  event_sound kind outcome (Progress s) texts small =
      hook_line kind (codes "Still " ++ still_word kind ++ codes "... [" ++ elapsed_of s ++ codes " elapsed]") (Some s) None (codes "apply_progress")
      (three (codes "Still " ++ still_word kind ++ codes "... [") (elapsed_of s) (codes " elapsed]")
      (three (codes "Still ") (still_word kind) (codes "... [") (IsUtf8-are_ascii (codes "Still ") refl) (still_utf8 kind) (IsUtf8-are_ascii (codes "... [") refl))
      (elapsed_utf8 s small) (IsUtf8-are_ascii (codes " elapsed]") refl))
      small tt (IsUtf8-are_ascii (codes "apply_progress") refl)
  event_sound kind outcome (Complete s) texts small = complete_sound kind s (end_id kind outcome.result) small (id_at_end kind outcome texts)
  event_sound kind outcome (Errored s) texts small =
      hook_line kind (noun_word kind ++ codes " errored after " ++ elapsed_of s) (Some s) None (codes "apply_errored")
      (three (noun_word kind) (codes " errored after ") (elapsed_of s) (noun_utf8 kind) (IsUtf8-are_ascii (codes " errored after ") refl) (elapsed_utf8 s small))
      small tt (IsUtf8-are_ascii (codes "apply_errored") refl)
  event_sound kind outcome ErrorNote texts small = error_line (failure_diag outcome) texts.failure
  event_sound kind outcome WarnNote texts small =
      diagnostic_line (codes "warn") (codes "warning") (codes "Warning") (warning_of outcome.result) (IsUtf8-are_ascii (codes "warn") refl) (IsUtf8-are_ascii (codes "warning") refl) (IsUtf8-are_ascii (codes "Warning") refl) texts.warning
  event_sound kind outcome (Halted phase hook) texts small = error_line (halt_of kind phase hook) (halt_texts kind phase hook small)
  event_sound kind outcome (ProvisionStart i) texts small =
      provision_line (name_of outcome i) (codes "Provisioning with '" ++ name_of outcome i ++ codes "'...") None (codes "provision_start") (texts.names i)
      (three (codes "Provisioning with '") (name_of outcome i) (codes "'...") (IsUtf8-are_ascii (codes "Provisioning with '") refl) (texts.names i) (IsUtf8-are_ascii (codes "'...") refl))
      tt (IsUtf8-are_ascii (codes "provision_start") refl)
  event_sound kind outcome (ProvisionOutput i line) texts small =
      provision_line (name_of outcome i) (codes "(" ++ name_of outcome i ++ codes "): " ++ output_of outcome i line) (Some (output_of outcome i line)) (codes "provision_progress") (texts.names i)
      (two (codes "(" ++ name_of outcome i ++ codes "): ") (output_of outcome i line)
      (three (codes "(") (name_of outcome i) (codes "): ") (IsUtf8-are_ascii (codes "(") refl) (texts.names i) (IsUtf8-are_ascii (codes "): ") refl)) (texts.outputs i line))
      (texts.outputs i line) (IsUtf8-are_ascii (codes "provision_progress") refl)
  event_sound kind outcome (ProvisionComplete i) texts small =
      provision_line (name_of outcome i) (codes "(" ++ name_of outcome i ++ codes ") Provisioning complete") None (codes "provision_complete") (texts.names i)
      (three (codes "(") (name_of outcome i) (codes ") Provisioning complete") (IsUtf8-are_ascii (codes "(") refl) (texts.names i) (IsUtf8-are_ascii (codes ") Provisioning complete") refl))
      tt (IsUtf8-are_ascii (codes "provision_complete") refl)
  event_sound kind outcome (ProvisionErrored i) texts small =
      provision_line (name_of outcome i) (codes "(" ++ name_of outcome i ++ codes ") Provisioning errored") None (codes "provision_errored") (texts.names i)
      (three (codes "(") (name_of outcome i) (codes ") Provisioning errored") (IsUtf8-are_ascii (codes "(") refl) (texts.names i) (IsUtf8-are_ascii (codes ") Provisioning errored") refl))
      tt (IsUtf8-are_ascii (codes "provision_errored") refl)

-- ---- the first message and the last

version_sound : (plan : SavedPlan) (start : ℕ) → IsUtf8 plan.version → IsSound (version_object plan start)
unfolding message_object
version_sound plan start text = (
  IsUtf8-are_ascii (codes "@level") refl,
  IsUtf8-are_ascii (codes "info") refl,
  (
    IsUtf8-are_ascii (codes "@message") refl,
    two (codes "Terraform ") plan.version (IsUtf8-are_ascii (codes "Terraform ") refl) text,
    (
      IsUtf8-are_ascii (codes "@module") refl,
      IsUtf8-are_ascii (codes "terraform.ui") refl,
      (
        IsUtf8-are_ascii (codes "@timestamp") refl,
        moment_utf8 start,
        (
          IsUtf8-are_ascii (codes "terraform") refl,
          text,
          (IsUtf8-are_ascii (codes "type") refl, IsUtf8-are_ascii (codes "version") refl, (IsUtf8-are_ascii (codes "ui") refl, IsUtf8-are_ascii (codes "1.0") refl, tt)),
        ),
      ),
    ),
  ),
)

pub totals_utf8 : (operation : Operation) (counts : Counts) → AreSmall counts → IsUtf8 (totals_text operation counts)
totals_utf8 Apply counts small =
    three (codes "Apply complete! Resources: " ++ decimal counts.added ++ codes " added, " ++ decimal counts.changed ++ codes " changed, ") (decimal counts.removed) (codes " destroyed.")
    (three (codes "Apply complete! Resources: " ++ decimal counts.added ++ codes " added, ") (decimal counts.changed) (codes " changed, ")
    (three (codes "Apply complete! Resources: ") (decimal counts.added) (codes " added, ") (IsUtf8-are_ascii (codes "Apply complete! Resources: ") refl) (number_utf8 counts.added small.added) (IsUtf8-are_ascii (codes " added, ") refl))
    (number_utf8 counts.changed small.changed) (IsUtf8-are_ascii (codes " changed, ") refl))
    (number_utf8 counts.removed small.removed) (IsUtf8-are_ascii (codes " destroyed.") refl)
totals_utf8 Destroy counts small =
    three (codes "Destroy complete! Resources: ") (decimal counts.removed) (codes " destroyed.") (IsUtf8-are_ascii (codes "Destroy complete! Resources: ") refl) (number_utf8 counts.removed small.removed) (IsUtf8-are_ascii (codes " destroyed.") refl)

summary_sound : (operation : Operation) (counts : Counts) (seconds : ℕ) → AreSmall counts → IsSound (object_of seconds (summary_message operation counts))
summary_sound operation counts seconds small =
    message_sound (codes "info") (totals_text operation counts) (codes "changes") (codes "change_summary") seconds (changes_object operation counts) (IsUtf8-are_ascii (codes "info") refl) (totals_utf8 operation counts small)
    (IsUtf8-are_ascii (codes "changes") refl) (changes_sound operation counts small) (IsUtf8-are_ascii (codes "change_summary") refl)

-- ---- all objects

pub all_both : {X : Type 0} (P : X → Type 0) (xs ys : List X) → AllByRecursion P xs → AllByRecursion P ys → AllByRecursion P (xs ++ ys)
all_both P [] ys h g = g
all_both P (x ∷ xs) ys h g = (h.0, all_both P xs ys h.1 g)

pub all_filtered : {X : Type 0} (P : X → Type 0) (test : X → Bool) (xs : List X) → AllByRecursion P xs → AllByRecursion P (filter test xs)
all_filtered P test [] h = tt
all_filtered P test (x ∷ xs) h = either (test x) (all_filtered P test xs h.1)
  where
    either : (b : Bool) → AllByRecursion P (filter test xs) → AllByRecursion P (cond b (x ∷ filter test xs) (filter test xs))
    either true rest = (h.0, rest)
    either false rest = rest

module _ (plan : SavedPlan) (script : OutcomeMap) (has : HasTexts plan script) where
  one_sound : (seconds : ℕ) (e : Event) → IsSmall e.what → AllByRecursion IsSound (objects_of plan script seconds e)
  one_sound seconds e small = of_change (slice_get plan.changes e.change) refl
    where
      of_step : (change : ResourceChange) → HasChangeTexts change → (step : Option StepKind)
          → AllByRecursion IsSound (option_map_or (λ step. object_of seconds (event_message change step (outcome_of script e.change e.step) e.what) ∷ []) step [])
      of_step change texts None = tt
      of_step change texts (Some step) = (event_sound change texts seconds step (outcome_of script e.change e.step) e.what (has.outcomes e.change e.step) small, tt)

      of_change : (located : Option ResourceChange) → slice_get plan.changes e.change ≡ located
          → AllByRecursion IsSound (option_map_or (λ (change : ResourceChange). option_map_or (λ step. object_of seconds (event_message change step (outcome_of script e.change e.step) e.what) ∷ []) (slice_get change.steps e.step) []) located [])
      of_change None is = tt
      of_change (Some change) is = of_step change (has.changes e.change change is) (slice_get change.steps e.step)

  all_sound : (seconds : ℕ → ℕ) (n : ℕ) (es : List Event) → AllByRecursion (λ (e : Event). IsSmall e.what) es → AllByRecursion IsSound (flat_map (λ p. objects_of plan script (seconds p.0) p.1) (enumerate_from n es))
  all_sound seconds n [] small = tt
  all_sound seconds n (e ∷ es) small =
      all_both IsSound (objects_of plan script (seconds n) e) (flat_map (λ p. objects_of plan script (seconds p.0) p.1) (enumerate_from (n + 1) es)) (one_sound (seconds n) e small.0) (all_sound seconds (n + 1) es small.1)

  pub stream_sound : (start : ℕ) (operation : Operation) (taken : List Event) → FitBits plan taken → AllByRecursion IsSound (stream_objects plan script start operation taken)
  stream_sound start operation taken fits =
      let es = as_written taken in
      let small : AllByRecursion (λ (e : Event). IsSmall e.what) es =
      all_both (λ (e : Event). IsSmall e.what) (hook_messages_of taken) (notes_of taken) (all_filtered (λ (e : Event). IsSmall e.what) (λ e. not (is_note e.what)) taken fits.each) (all_filtered (λ (e : Event). IsSmall e.what) (λ e. is_note e.what) taken fits.each) in
      let last = object_of (start + latest_of es (length es)) (summary_message operation (totals_of plan taken)) in (
        version_sound plan start has.version,
        all_both IsSound (flat_map (λ p. objects_of plan script (start + latest_of es (p.0 + 1)) p.1) (enumerate_from 0 es)) (last ∷ [])
            (all_sound (λ i. start + latest_of es (i + 1)) 0 es small)
            (summary_sound operation (totals_of plan taken) (start + latest_of es (length es)) fits.totals, tt),
      )
