-- A line appended to others.
use Rattle.std.proofs.Common.{◌≡◌, ℕ, ◌+◌, ◌<◌, length, List, [], ◌∷◌, ◌++◌, codes, Ok, Err, OnOk, IsOk, Some, Option, refl, sym, ap, ◌∙◌, subst, add-zero}
use Rattle.std.specs.Prelude.{Bool, true, false, if◌then◌else◌, Result, slice_get, get_or, unwrap_or}
use Rattle.std.specs.Option.{option_copied, option_map_or}
use Rattle.std.proofs.lemmas.Option.{slice_get-get_or}
use Rattle.std.specs.Str.{IsUtf8}
use Rattle.std.proofs.lemmas.Result.{on_ok_weaker}
use Rattle.std.proofs.lemmas.Str.{IsUtf8-append, IsUtf8-encode}
use Rattle.json.specs.Token.{Token}
use Rattle.json.specs.Print.{print}
use Rattle.serde_json.specs.Data.{Data}
use Rattle.serde_json.proofs.Texts.{print-outline}
use Rattle.apply_model.specs.declared.plan.step_kind.StepKind.{StepKind}
use Rattle.apply_model.specs.declared.plan.step_kind.StepKind.TheVariants.{Create}
use Rattle.apply_model.specs.declared.script.outcome.Outcome.{Outcome}
use Rattle.apply_model.specs.Plan.ResourceChange.{ResourceChange}
use Rattle.apply_model.specs.Plan.SavedPlan.{SavedPlan}
use Rattle.apply_model.specs.Script.Outcome.{default_outcome}
use Rattle.apply_model.specs.Script.OutcomeMap.{OutcomeMap, stated_outcome, outcome_of}
use Rattle.apply_events.specs.declared.event.Event.{Event}
use Rattle.apply_events.specs.Fits.{HasStep}
use Rattle.apply_text.specs.declared.applied_step.AppliedStep.{AppliedStep}
use Rattle.apply_text.specs.AppliedStep.{message_of}
use Rattle.apply_text.specs.Lines.{event_text, line_of, message_line, message_object, typed, version_members, version_text}
use Rattle.apply_text.specs.Message.{Message, event_message}
use Rattle.apply_text.specs.UtcTimestamp.{timestamp_text}
use Rattle.apply_text.specs.Sending.{data_tokens}

known : {E : Type 0} {P : Type 0} (w : Result (Unit {0}) E) → IsOk w → OnOk w P → P
known (Ok u) ok h = h
known (Err e) ok h = absurd cc

-- the tokens of an object, after other lines, are the object's line
pub line_added : {E F : Type 0} (r : Result (Unit {0}) E) (w : Result (Unit {0}) F) (old before new wanted : List ℕ) (start tokens : List Token) (d : Data)
    → before ≡ old
    → start ≡ []
    → OnOk w (tokens ≡ start ++ data_tokens d)
    → OnOk r (IsOk w × (new ≡ before ++ (print tokens ++ 10 ∷ [])))
    → line_of d ≡ wanted
    → OnOk r (new ≡ old ++ wanted)
line_added r w old before new wanted start tokens d same none sent ended is =
    on_ok_weaker r (λ h.
    let all : tokens ≡ data_tokens d = known w h.0 sent ∙ ap (λ s. s ++ data_tokens d) none in
    h.1 ∙ ap (λ b. b ++ (print tokens ++ 10 ∷ [])) same ∙ ap (λ text. old ++ (text ++ 10 ∷ [])) (ap print all ∙ print-outline d) ∙ ap (λ line. old ++ line) is) ended

-- bytes that may have grown by a line feed
pub still_utf8 : (grows : Bool) (bytes : List ℕ) → IsUtf8 bytes → IsUtf8 (if grows then bytes ++ 10 ∷ [] else bytes)
unfolding lib.Utf8.encode
still_utf8 true bytes text = IsUtf8-append bytes (10 ∷ []) text (IsUtf8-encode 10 refl)
still_utf8 false bytes text = text

-- ---- the written objects are the objects of the defined lines

-- the object of a message
abbrev object_of : (timestamp : List ℕ) → Message → Data
object_of timestamp message = message_object message.level message.text timestamp (typed message.name message.body message.type_name)

pub version_is : (plan : SavedPlan) (start : ℕ) (version timestamp : List ℕ) → version ≡ plan.version → timestamp ≡ timestamp_text (start + 0) → line_of (message_object (codes "info") (codes "Terraform " ++ version) timestamp (version_members version)) ≡ version_text plan start
version_is plan start version timestamp versions moments = rw (versions, moments, add-zero start) refl

pub message_is : (seconds : ℕ) (timestamp : List ℕ) (message : Message) → timestamp ≡ timestamp_text seconds → line_of (object_of timestamp message) ≡ message_line seconds message
message_is seconds timestamp message moments = ap (λ m. line_of (object_of m message)) moments

-- the line of an event, given its change, its kind of step and its outcome as the code looked them
-- up
pub event_is : (plan : SavedPlan) (script : OutcomeMap) (start clock : ℕ) (event : Event) (step : AppliedStep) (kinds : List StepKind) (timestamp : List ℕ)
    → Some step.change.now ≡ slice_get plan.changes event.change
    → kinds ≡ step.change.now.steps
    → step.kind ≡ get_or kinds event.step Create
    → option_copied step.outcome ≡ stated_outcome script event.change event.step
    → HasStep plan event.change event.step
    → timestamp ≡ timestamp_text (start + clock)
    → line_of (object_of timestamp (message_of step event.what)) ≡ event_text plan script start clock event
event_is plan script start clock event step kinds timestamp change steps kind outcome has moments =
    let few : event.step < length step.change.now.steps = subst (λ (o : Option ResourceChange). event.step < length (option_map_or (λ change. change.steps) o [])) (sym change) has in
    let found : slice_get step.change.now.steps event.step ≡ Some step.kind = slice_get-get_or step.change.now.steps event.step Create few ∙ ap (λ ks. Some (get_or ks event.step Create)) (sym steps) ∙ ap Some (sym kind) in
    message_is (start + clock) timestamp (message_of step event.what) moments
    ∙ ap (λ (o : Option Outcome). message_line (start + clock) (event_message step.change.now step.kind (unwrap_or o default_outcome) event.what)) outcome
    ∙ ap (λ (o : Option StepKind). option_map_or (λ kind. message_line (start + clock) (event_message step.change.now kind (outcome_of script event.change event.step) event.what)) o []) (sym found)
    ∙ ap (λ (o : Option ResourceChange). option_map_or (λ change. option_map_or (λ kind. message_line (start + clock) (event_message change kind (outcome_of script event.change event.step) event.what)) (slice_get change.steps event.step) []) o []) change
