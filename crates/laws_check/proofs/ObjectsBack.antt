-- Sound objects of a stream have their members in the order in which they are read, and are not
-- deep.
use Rattle.std.proofs.Common.{◌≡◌, ℕ, ◌+◌, ◌≤◌, pos, negsuc, List, [], ◌∷◌, ◌++◌, codes, Option, Some, None, refl, sym, subst, append_assoc, length, arith, slice_get, flat_map}
use Rattle.std.specs.List.{AllByRecursion, enumerate_from}
use Rattle.std.specs.Option.{option_map_or}
use Rattle.json.specs.Tree as tree
use Rattle.serde_json.specs.Data.{Data}
use Rattle.serde_json.specs.Read.{of_json}
use Rattle.serde_json.specs.Written.{compact_text, outline}
use Rattle.serde_json.proofs.Numbers.{number_of-decimal, number_of-negative}
use Rattle.apply_model.specs.declared.plan.key.Key.{Key}
use Rattle.apply_model.specs.declared.plan.key.Key.TheVariants as key
use Rattle.apply_model.specs.declared.plan.step_kind.StepKind.{StepKind}
use Rattle.apply_model.specs.declared.script.diag.Diag.{Diag}
use Rattle.apply_model.specs.declared.script.outcome.Outcome.{Outcome}
use Rattle.apply_plan.specs.Plan.ResourceChange.{ResourceChange}
use Rattle.apply_plan.specs.Plan.SavedPlan.{SavedPlan}
use Rattle.apply_plan.specs.Script.OutcomeMap.{OutcomeMap, outcome_of}
use Rattle.apply_json.specs.Tree.{tree_of}
use Rattle.apply_events.specs.declared.counts.Counts.{Counts}
use Rattle.apply_events.specs.declared.event.Event.{Event}
use Rattle.apply_events.specs.Totals.{totals_of}
use Rattle.apply_events.specs.declared.what.What.{What}
use Rattle.apply_events.specs.declared.what.What.TheVariants.{Start, Progress, Complete, Errored, ErrorNote, WarnNote, Halted, ProvisionStart, ProvisionOutput, ProvisionComplete, ProvisionErrored}
use Rattle.apply_text.specs.declared.operation.Operation.{Operation}
use Rattle.apply_text.specs.Latest.{latest_of}
use Rattle.apply_text.specs.Lines.{message_object, typed}
use Rattle.apply_text.specs.Message.{end_id, event_message, hook_message, name_of, output_of, provision_message, start_id, summary_message}
use Rattle.apply_text.specs.Objects.{changes_object, diagnostic_object, hook_object, key_data, provisioner_object, resource_object}
use Rattle.apply_text.specs.Order.{as_written}
use Rattle.laws_check.specs.Objects.{object_of, objects_of, stream_objects, version_object}
use Rattle.laws_check.specs.Sound.{IsSound}
use Rattle.laws_check.proofs.ReadBack.{tree_is}

-- the value is read with its members in their order, and is at most so deep
abbrev pub IsInPlace : (deep : ℕ) → Data → Type 0
IsInPlace deep d = (of_json (outline d) ≡ Some d) × (tree.depth (outline d) ≤ deep)

pub key_back : (k : Key) → IsSound (key_data k) → IsInPlace 0 (key_data k)
key_back key.None h = (refl, omega arith)
key_back (key.Name s) h = (refl, omega arith)
key_back (key.Number (pos n)) h = (rw (number_of-decimal n h) refl, omega arith)
key_back (key.Number (negsuc n)) h = (rw (number_of-negative n h) refl, omega arith)

resource_back : (change : ResourceChange) → IsSound (resource_object change) → IsInPlace 1 (resource_object change)
unfolding resource_object
resource_back change h =
    let k = key_back change.key h.2.2.2.2.1 in
    (rw k.0 refl, omega (arith, k.1))

hook_back : (change : ResourceChange) (step : StepKind) (elapsed : Option ℕ) (id : Option (List ℕ)) → IsSound (hook_object change step elapsed id) → IsInPlace 2 (hook_object change step elapsed id)
unfolding hook_object
hook_back change step None None h = let r = resource_back change h.2.1 in (rw r.0 refl, omega (arith, r.1))
hook_back change step None (Some id) h = let r = resource_back change h.2.2.2.1 in (rw r.0 refl, omega (arith, r.1))
hook_back change step (Some seconds) None h = let r = resource_back change h.2.2.1 in (rw (number_of-decimal seconds h.2.1, r.0) refl, omega (arith, r.1))
hook_back change step (Some seconds) (Some id) h = let r = resource_back change h.2.2.2.2.1 in (rw (number_of-decimal seconds h.2.1, r.0) refl, omega (arith, r.1))

provisioner_back : (change : ResourceChange) (name : List ℕ) (output : Option (List ℕ)) → IsSound (provisioner_object change name output) → IsInPlace 2 (provisioner_object change name output)
unfolding provisioner_object
provisioner_back change name None h = let r = resource_back change h.2.1 in (rw r.0 refl, omega (arith, r.1))
provisioner_back change name (Some output) h = let r = resource_back change h.2.2.1 in (rw r.0 refl, omega (arith, r.1))

diagnostic_back : (address severity : List ℕ) (diag : Diag) → IsInPlace 1 (diagnostic_object address severity diag)
unfolding diagnostic_object
diagnostic_back address severity diag = (refl, omega arith)

changes_back : (operation : Operation) (counts : Counts) → IsSound (changes_object operation counts) → IsInPlace 1 (changes_object operation counts)
unfolding changes_object
changes_back operation counts h =
    (rw (number_of-decimal counts.added h.1, number_of-decimal counts.changed h.2.1, number_of-decimal counts.removed h.2.2.2.1) refl, omega arith)

-- ---- whole messages

-- the bodies of messages stand in place
hook_line : (level text moment type_name : List ℕ) (body : Data) → IsInPlace 2 body → IsInPlace 3 (message_object level text moment (typed (codes "hook") body type_name))
unfolding message_object
hook_line level text moment type_name body is = (rw is.0 refl, omega (arith, is.1))

diagnostic_line : (level text moment type_name : List ℕ) (body : Data) → IsInPlace 1 body → IsInPlace 3 (message_object level text moment (typed (codes "diagnostic") body type_name))
unfolding message_object
diagnostic_line level text moment type_name body is = (rw is.0 refl, omega (arith, is.1))

changes_line : (level text moment type_name : List ℕ) (body : Data) → IsInPlace 1 body → IsInPlace 3 (message_object level text moment (typed (codes "changes") body type_name))
unfolding message_object
changes_line level text moment type_name body is = (rw is.0 refl, omega (arith, is.1))

-- the body of a sound message is sound
body_sound : (level text moment name type_name : List ℕ) (body : Data) → IsSound (message_object level text moment (typed name body type_name)) → IsSound body
unfolding message_object
body_sound level text moment name type_name body h = h.2.2.2.2.1

hook_in_place : (change : ResourceChange) (kind : StepKind) (text : List ℕ) (elapsed : Option ℕ) (id : Option (List ℕ)) (type_name : List ℕ) (seconds : ℕ)
    → IsSound (object_of seconds (hook_message change kind text elapsed id type_name)) → IsInPlace 3 (object_of seconds (hook_message change kind text elapsed id type_name))
hook_in_place change kind text elapsed id type_name seconds h = hook_line _ _ _ type_name _ (hook_back change kind elapsed id (body_sound _ _ _ (codes "hook") type_name (hook_object change kind elapsed id) h))

provision_in_place : (change : ResourceChange) (name text : List ℕ) (output : Option (List ℕ)) (type_name : List ℕ) (seconds : ℕ)
    → IsSound (object_of seconds (provision_message change name text output type_name)) → IsInPlace 3 (object_of seconds (provision_message change name text output type_name))
provision_in_place change name text output type_name seconds h = hook_line _ _ _ type_name _ (provisioner_back change name output (body_sound _ _ _ (codes "hook") type_name (provisioner_object change name output) h))

event_in_place : (change : ResourceChange) (kind : StepKind) (outcome : Outcome) (what : What) (seconds : ℕ)
    → IsSound (object_of seconds (event_message change kind outcome what)) → IsInPlace 3 (object_of seconds (event_message change kind outcome what))
event_in_place change kind outcome Start seconds h = hook_in_place change kind _ None (start_id kind change) (codes "apply_start") seconds h
event_in_place change kind outcome (Progress s) seconds h = hook_in_place change kind _ (Some s) None (codes "apply_progress") seconds h
event_in_place change kind outcome (Complete s) seconds h = hook_in_place change kind _ (Some s) (end_id kind outcome.result) (codes "apply_complete") seconds h
event_in_place change kind outcome (Errored s) seconds h = hook_in_place change kind _ (Some s) None (codes "apply_errored") seconds h
event_in_place change kind outcome ErrorNote seconds h = diagnostic_line _ _ _ _ _ (diagnostic_back change.address _ _)
event_in_place change kind outcome WarnNote seconds h = diagnostic_line _ _ _ _ _ (diagnostic_back change.address _ _)
event_in_place change kind outcome (Halted phase hook) seconds h = diagnostic_line _ _ _ _ _ (diagnostic_back change.address _ _)
event_in_place change kind outcome (ProvisionStart i) seconds h = provision_in_place change (name_of outcome i) _ None (codes "provision_start") seconds h
event_in_place change kind outcome (ProvisionOutput i line) seconds h = provision_in_place change (name_of outcome i) _ (Some (output_of outcome i line)) (codes "provision_progress") seconds h
event_in_place change kind outcome (ProvisionComplete i) seconds h = provision_in_place change (name_of outcome i) _ None (codes "provision_complete") seconds h
event_in_place change kind outcome (ProvisionErrored i) seconds h = provision_in_place change (name_of outcome i) _ None (codes "provision_errored") seconds h

summary_in_place : (operation : Operation) (counts : Counts) (seconds : ℕ) → IsSound (object_of seconds (summary_message operation counts)) → IsInPlace 3 (object_of seconds (summary_message operation counts))
summary_in_place operation counts seconds h = changes_line _ _ _ _ _ (changes_back operation counts (body_sound _ _ _ (codes "changes") _ (changes_object operation counts) h))

version_in_place : (plan : SavedPlan) (start : ℕ) → IsInPlace 3 (version_object plan start)
unfolding message_object
version_in_place plan start = (refl, omega arith)

-- ---- all objects are read back from their texts

abbrev pub IsBack : Data → Type 0
IsBack d = tree_of (compact_text d) ≡ Some d

pub in_place_back : (d : Data) → IsSound d → IsInPlace 3 d → IsBack d
in_place_back d sound is = tree_is d sound is.0 (omega (arith, is.1))

-- the object of an event
pub event_back : (change : ResourceChange) (kind : StepKind) (outcome : Outcome) (what : What) (seconds : ℕ) → IsSound (object_of seconds (event_message change kind outcome what)) → IsBack (object_of seconds (event_message change kind outcome what))
event_back change kind outcome what seconds sound = in_place_back _ sound (event_in_place change kind outcome what seconds sound)

one_back : (script : OutcomeMap) (seconds : ℕ) (e : Event) (located : Option ResourceChange) (ds : List Data) → (AllByRecursion IsSound ds → AllByRecursion IsBack ds)
    → AllByRecursion IsSound (option_map_or (λ (change : ResourceChange). option_map_or (λ step. object_of seconds (event_message change step (outcome_of script e.change e.step) e.what) ∷ []) (slice_get change.steps e.step) []) located [] ++ ds)
    → AllByRecursion IsBack (option_map_or (λ (change : ResourceChange). option_map_or (λ step. object_of seconds (event_message change step (outcome_of script e.change e.step) e.what) ∷ []) (slice_get change.steps e.step) []) located [] ++ ds)
one_back script seconds e None ds rest sound = rest sound
one_back script seconds e (Some change) ds rest sound = at (slice_get change.steps e.step) sound
  where
    at : (step : Option StepKind) → AllByRecursion IsSound (option_map_or (λ step. object_of seconds (event_message change step (outcome_of script e.change e.step) e.what) ∷ []) step [] ++ ds)
        → AllByRecursion IsBack (option_map_or (λ step. object_of seconds (event_message change step (outcome_of script e.change e.step) e.what) ∷ []) step [] ++ ds)
    at None s = rest s
    at (Some step) s = (in_place_back _ s.0 (event_in_place change step (outcome_of script e.change e.step) e.what seconds s.0), rest s.1)

events_back : (plan : SavedPlan) (script : OutcomeMap) (seconds : ℕ → ℕ) (n : ℕ) (es : List Event) (ds : List Data) → (AllByRecursion IsSound ds → AllByRecursion IsBack ds)
    → AllByRecursion IsSound (flat_map (λ p. objects_of plan script (seconds p.0) p.1) (enumerate_from n es) ++ ds) → AllByRecursion IsBack (flat_map (λ p. objects_of plan script (seconds p.0) p.1) (enumerate_from n es) ++ ds)
events_back plan script seconds n [] ds rest sound = rest sound
events_back plan script seconds n (e ∷ es) ds rest sound =
    let more = flat_map (λ p. objects_of plan script (seconds p.0) p.1) (enumerate_from (n + 1) es) in
    let grouped = append_assoc (objects_of plan script (seconds n) e) more ds in
    subst (AllByRecursion IsBack) (sym grouped)
    (one_back script (seconds n) e (slice_get plan.changes e.change) (more ++ ds) (events_back plan script seconds (n + 1) es ds rest) (subst (AllByRecursion IsSound) grouped sound))

pub stream_back : (plan : SavedPlan) (script : OutcomeMap) (start : ℕ) (operation : Operation) (taken : List Event)
    → AllByRecursion IsSound (stream_objects plan script start operation taken) → AllByRecursion IsBack (stream_objects plan script start operation taken)
stream_back plan script start operation taken sound =
    let t = totals_of plan taken in
    let es = as_written taken in
    let last = object_of (start + latest_of es (length es)) (summary_message operation t) in (
      in_place_back (version_object plan start) sound.0 (version_in_place plan start),
      events_back plan script (λ i. start + latest_of es (i + 1)) 0 es (last ∷ []) (λ s. (in_place_back last s.0 (summary_in_place operation t (start + latest_of es (length es)) s.0), tt)) sound.1,
    )
