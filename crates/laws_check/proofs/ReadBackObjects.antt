-- What a checker reads back from the objects of a stream.
use Rattle.std.proofs.Common.{◌≡◌, ℕ, ◌+◌, Bool, List, [], ◌∷◌, ◌++◌, length, Option, Some, None, Result, Ok, Err, refl, sym, ap, ◌∙◌, append_assoc, slice_get, flat_map}
use Rattle.std.specs.List.{enumerate_from}
use Rattle.std.specs.Option.{option_map_or}
use Rattle.serde_json.specs.Data.{Data}
use Rattle.apply_model.specs.declared.plan.step_kind.StepKind.{StepKind}
use Rattle.apply_plan.specs.Plan.ResourceChange.{ResourceChange}
use Rattle.apply_plan.specs.Plan.SavedPlan.{SavedPlan}
use Rattle.apply_plan.specs.Script.OutcomeMap.{OutcomeMap, outcome_of}
use Rattle.stream_check.specs.declared.rules.fault.Fault.{Fault}
use Rattle.stream_check.specs.declared.rules.mode.Mode.{Mode}
use Rattle.stream_check.specs.Lines.{end_of, tree_message, next, read_tree}
use Rattle.stream_check.specs.Message.{Message, summary, summary_of, typed_message, version}
use Rattle.stream_check.specs.Results.{◌>>=◌}
use Rattle.apply_events.specs.declared.counts.Counts.{Counts}
use Rattle.apply_events.specs.declared.event.Event.{Event}
use Rattle.apply_events.specs.Totals.{totals_of}
use Rattle.apply_text.specs.declared.operation.Operation.{Operation}
use Rattle.apply_text.specs.declared.operation.Operation.TheVariants.{Apply, Destroy}
use Rattle.apply_text.specs.Latest.{latest_of}
use Rattle.apply_text.specs.Lines.{message_object}
use Rattle.apply_text.specs.Message.{event_message, summary_message}
use Rattle.apply_text.specs.Objects.{changes_object}
use Rattle.apply_text.specs.Order.{as_written}
use Rattle.laws_check.specs.Accepted.{stream_read_back, totals_of_counts}
use Rattle.laws_check.specs.Objects.{event_objects, object_of, objects_of, stream_objects, version_object}
use Rattle.laws_check.specs.Passing.{verdict_on, verdict_on_objects, with_all, with_objects}
use Rattle.laws_check.specs.ReadBack.{action_of, events_read_back, read_back, event_read_back}
use Rattle.laws_check.proofs.ReadBackEvents.{event_is_read_back}

version_is_read_back : (find : Bool) (plan : SavedPlan) (start : ℕ) → tree_message find (version_object plan start) ≡ Ok version
unfolding tree_message message_object typed_message
version_is_read_back find plan start = refl

summary_is_read_back : (find : Bool) (operation : Operation) (counts : Counts) (seconds : ℕ) → tree_message find (object_of seconds (summary_message operation counts)) ≡ Ok (summary (totals_of_counts counts))
unfolding tree_message message_object typed_message summary_of changes_object
summary_is_read_back find Apply counts seconds = refl
summary_is_read_back find Destroy counts seconds = refl

-- the object of a message is read back as the message
one_read : (find : Bool) (d : Data) (m : Message) → tree_message find d ≡ Ok m → (earlier : List Message) → read_tree find earlier d ≡ next earlier m
one_read find d m is earlier = ap (λ (r : Result Message Fault). r >>= next earlier) is

bind_same : (r : Result (List Message) Fault) (f g : List Message → Result (List Message) Fault) → ((later : List Message) → f later ≡ g later) → (r >>= f) ≡ (r >>= g)
bind_same (Ok later) f g same = same later
bind_same (Err fault) f g same = refl

-- the objects lead to the same answer as their messages
abbrev Same : (find : Bool) → List Data → List Message → Type 0
Same find ds ms = (earlier : List Message) → with_objects find earlier ds ≡ with_all earlier ms

both : (find : Bool) (d : Data) (m : Message) (ds : List Data) (ms : List Message) → tree_message find d ≡ Ok m → Same find ds ms → Same find (d ∷ ds) (m ∷ ms)
both find d m ds ms is rest earlier =
    ap (λ (r : Result (List Message) Fault). r >>= λ later. with_objects find later ds) (one_read find d m is earlier)
    ∙ bind_same (next earlier m) (λ later. with_objects find later ds) (λ later. with_all later ms) rest

one_event : (find : Bool) (script : OutcomeMap) (seconds : ℕ) (e : Event) (located : Option ResourceChange) (ds : List Data) (ms : List Message) → Same find ds ms
    → Same find
    (option_map_or (λ (change : ResourceChange). option_map_or (λ step. object_of seconds (event_message change step (outcome_of script e.change e.step) e.what) ∷ []) (slice_get change.steps e.step) []) located [] ++ ds)
    (option_map_or (λ step. read_back (option_map_or (λ (change : ResourceChange). change.address) located []) (action_of step) e.what ∷ []) (slice_get (option_map_or (λ (change : ResourceChange). change.steps) located []) e.step) [] ++ ms)
one_event find script seconds e None ds ms rest = rest
one_event find script seconds e (Some change) ds ms rest = at (slice_get change.steps e.step)
  where
    at : (step : Option StepKind) → Same find
        (option_map_or (λ step. object_of seconds (event_message change step (outcome_of script e.change e.step) e.what) ∷ []) step [] ++ ds)
        (option_map_or (λ step. read_back change.address (action_of step) e.what ∷ []) step [] ++ ms)
    at None = rest
    at (Some step) = both find _ _ ds ms (event_is_read_back find change step (outcome_of script e.change e.step) e.what seconds) rest

all_events : (find : Bool) (plan : SavedPlan) (script : OutcomeMap) (seconds : ℕ → ℕ) (n : ℕ) (es : List Event) (ds : List Data) (ms : List Message) → Same find ds ms
    → Same find (flat_map (λ p. objects_of plan script (seconds p.0) p.1) (enumerate_from n es) ++ ds) (events_read_back plan es ++ ms)
all_events find plan script seconds n [] ds ms rest = rest
all_events find plan script seconds n (e ∷ es) ds ms rest =
    let others = all_events find plan script seconds (n + 1) es ds ms rest in
    let more = flat_map (λ p. objects_of plan script (seconds p.0) p.1) (enumerate_from (n + 1) es) in
    let first = one_event find script (seconds n) e (slice_get plan.changes e.change) (more ++ ds) (events_read_back plan es ++ ms) others in
    λ earlier. ap (with_objects find earlier) (append_assoc (objects_of plan script (seconds n) e) more ds) ∙ first earlier ∙ ap (with_all earlier) (sym (append_assoc (event_read_back plan e) (events_read_back plan es) ms))

pub objects_are_read_back : (mode : Mode) (plan : SavedPlan) (script : OutcomeMap) (start : ℕ) (operation : Operation) (taken : List Event)
    → verdict_on_objects mode (stream_objects plan script start operation taken) ≡ verdict_on mode (stream_read_back plan taken)
objects_are_read_back mode plan script start operation taken =
    let find = mode.find in
    let t = totals_of plan taken in
    let es = as_written taken in
    let last = object_of (start + latest_of es (length es)) (summary_message operation t) in
    let ends : Same find (last ∷ []) (summary (totals_of_counts t) ∷ []) = both find last (summary (totals_of_counts t)) [] [] (summary_is_read_back find operation t (start + latest_of es (length es))) (λ earlier. refl) in
    let events : Same find (event_objects plan script start es ++ last ∷ []) (events_read_back plan es ++ summary (totals_of_counts t) ∷ []) = all_events find plan script (λ i. start + latest_of es (i + 1)) 0 es (last ∷ []) (summary (totals_of_counts t) ∷ []) ends in
    ap (λ (r : Result (List Message) Fault). r >>= end_of mode) (both find (version_object plan start) version _ _ (version_is_read_back find plan start) events [])
