-- A line has a message if and only if `check` reads one in it.
use Rattle.std.proofs.Common.{◌≡◌, ℕ, ◌≤◌, List, length, codes, Bool, true, false, not, nat_lt, Option, Some, None, is_some, Result, Ok, Err, option_map, refl, sym, ap, ◌∙◌, arith}
use Rattle.std.specs.Prelude.{if◌then◌else◌}
use Rattle.std.specs.Option.{option_and_then, option_map_or}
use Rattle.std.specs.Str.{bytes_eq}
use Rattle.serde_json.specs.Data.{Data}
use Rattle.serde_json.specs.Find.{as_object, as_str, get}
use Rattle.apply_json.specs.Tree.{tree_of}
use Rattle.apply_json.specs.Tree as options
use Rattle.apply_json_tree.specs.Trimmed.{trimmed}
use Rattle.stream_lines.specs.Limits.{max_bytes}
use Rattle.stream_message.specs.Located.{from_mark, through_brace}
use Rattle.stream_message.specs.Members.{type_of}
use Rattle.stream_message.specs.declared.stage.Stage.{Stage}
use Rattle.stream_message.specs.declared.stage.Stage.TheVariants as stage
use Rattle.stream_check.specs.declared.messages.path.Path.{Path}
use Rattle.stream_check.specs.declared.messages.path.Path.TheVariants as path
use Rattle.stream_check.specs.declared.messages.member_fault.MemberFault.{MemberFault}
use Rattle.stream_check.specs.declared.messages.member_fault.MemberFault.TheVariants.{Missing, NoObject, NoText, NoWholeNumber}
use Rattle.stream_check.specs.declared.messages.timed_stage.TimedStage.{TimedStage}
use Rattle.stream_check.specs.declared.messages.timed_stage.TimedStage.TheVariants.{Start, Progress, Complete, Errored}
use Rattle.stream_check.specs.declared.messages.totals.Totals.{Totals}
use Rattle.stream_check.specs.declared.rules.fault.Fault.{Fault}
use Rattle.stream_check.specs.declared.rules.fault.Fault.TheVariants.{Malformed, NotJson}
use Rattle.stream_check.specs.Lines.{line_message, located_message, text_message, tree_message, untyped_message}
use Rattle.stream_check.specs.Members.{as_container, count_at, object_at, text_at, there, whole_number}
use Rattle.stream_check.specs.Message.{Message, diagnostic_of, general_message, hook_address_of, planned_of, provision_of, refresh_of, start_of, step, step_or_other, stepless_message, subject_of, summary, summary_named, summary_of, plan_summary, other, timed_of, totals_in, typed_message}
use Rattle.stream_check.specs.Results.{◌>>=◌, or_refuse}
use Rattle.stream_check.specs.Tally.{is_foreign}
use Rattle.stream_check.specs.Words.{action_named}
use Rattle.stream_watch.specs.MessageLaws.{is_no_message}
use Rattle.stream_watch.specs.Reading.{if_typed, message_of, whole_message_of}
use Rattle.stream_watch.specs.Shape.{message_selection}
use Rattle.stream_watch.specs.declared.message.shape.MessageShape.TheVariants as shape

-- ---- a member that a message needs, whose fault is not that there is no message

abbrev IsNeeded : {A : Type 0} → Result A Fault → Type 0
IsNeeded {A} r = (f : A → Result Message Fault) → ((a : A) → is_no_message (f a) ≡ false) → is_no_message (r >>= f) ≡ false

refused : {A : Type 0} (member : Path) (why : MemberFault) (o : Option A) → IsNeeded (or_refuse (Malformed member why) o)
refused member why None f next = refl
refused member why (Some a) f next = next a

either_needed : {A : Type 0} (b : Bool) (x y : Result A Fault) → IsNeeded x → IsNeeded y → IsNeeded (if b then x else y)
either_needed true x y this that = this
either_needed false x y this that = that

after : {A B : Type 0} (r : Result A Fault) (g : A → Result B Fault) → IsNeeded r → ((a : A) → IsNeeded (g a)) → IsNeeded (r >>= g)
after (Ok a) g first second f next = second a f next
after (Err e) g first second f next = first (λ a. g a >>= f) (λ a. second a f next)

container : (within : Path) (d : Data) → IsNeeded (as_container within d)
container within d = either_needed (is_some (as_object d)) (Ok d) (Err (Malformed within NoObject)) (λ f next. next d) (λ f next. refl)

object : (member : Path) (name : List ℕ) (within : Path) (d : Data) → IsNeeded (object_at member name within d)
object member name within d = after (there member (get name d)) (as_container within) (refused member Missing (get name d)) (container within)

text : (member : Path) (name : List ℕ) (d : Data) → IsNeeded (text_at member name d)
text member name d = after (there member (get name d)) (λ found. or_refuse (Malformed member NoText) (as_str found)) (refused member Missing (get name d)) (λ found. refused member NoText (as_str found))

count : (member : Path) (name : List ℕ) (d : Data) → IsNeeded (count_at member name d)
count member name d =
    after (there member (get name d)) (λ found. or_refuse (Malformed member NoWholeNumber) (whole_number found)) (refused member Missing (get name d)) (λ found. refused member NoWholeNumber (whole_number found))

-- ---- messages of known types

step_kept : (subject : List ℕ × List ℕ) (stage : TimedStage) → is_foreign (step_or_other subject stage) ≡ false
step_kept subject stage = elim (action_named subject.1) as (λ o. is_foreign (option_map_or (λ action. step subject.0 action stage) o other) ≡ false) [ None ↦ refl | Some action ↦ refl ]

either_kept : (b : Bool) (x y : Message) → is_foreign x ≡ false → is_foreign y ≡ false → is_foreign (if b then x else y) ≡ false
either_kept true x y this that = this
either_kept false x y this that = that

subject : (hook : Data) → IsNeeded (subject_of hook)
subject hook =
    after (object_at path.Address (codes "resource") path.Resource hook) _ (object path.Address (codes "resource") path.Resource hook)
    (λ resource. after (text_at path.Address (codes "addr") resource) _ (text path.Address (codes "addr") resource)
    (λ address. after (text_at path.Action (codes "action") hook) _ (text path.Action (codes "action") hook) (λ word f next. next (address, word))))

address : (d : Data) → IsNeeded (hook_address_of d)
address d =
    after (object_at path.Address (codes "hook") path.Hook d) _ (object path.Address (codes "hook") path.Hook d)
    (λ hook. after (object_at path.Address (codes "resource") path.Resource hook) _ (object path.Address (codes "resource") path.Resource hook)
    (λ resource. text path.Address (codes "addr") resource))

starts : (d : Data) → is_no_message (start_of d) ≡ false
unfolding start_of
starts d = object path.Address (codes "hook") path.Hook d _ (λ hook. subject hook _ (λ subject. step_kept subject Start))

timed : (stage : ℕ → TimedStage) (d : Data) → is_no_message (timed_of stage d) ≡ false
unfolding timed_of
timed stage d =
    object path.Address (codes "hook") path.Hook d _ (λ hook. subject hook _ (λ subject. count path.Seconds (codes "elapsed_seconds") hook _ (λ seconds. step_kept subject (stage seconds))))

provisions : (stage : Stage) (d : Data) → is_no_message (provision_of stage d) ≡ false
unfolding provision_of
provisions stage d = address d _ (λ address. refl)

refreshes : (stage : TimedStage) (d : Data) → is_no_message (refresh_of stage d) ≡ false
unfolding refresh_of
refreshes stage d = address d _ (λ address. refl)

plans : (d : Data) → is_no_message (planned_of d) ≡ false
unfolding planned_of
plans d = object path.ChangeAction (codes "change") path.Change d _ (λ change. text path.ChangeAction (codes "action") change _ (λ word. refl))

totals : (changes : Data) → IsNeeded (totals_in changes)
totals changes =
    after (count_at path.Added (codes "add") changes) _ (count path.Added (codes "add") changes)
    (λ added. after (count_at path.Changed (codes "change") changes) _ (count path.Changed (codes "change") changes)
    (λ changed. after (count_at path.Removed (codes "remove") changes) _ (count path.Removed (codes "remove") changes)
    (λ removed f next. next (record { added = added; changed = changed; removed = removed }))))

summary_kept : (operation : List ℕ) (totals : Totals) → is_foreign (summary_named operation totals) ≡ false
summary_kept operation totals = either_kept _ (summary totals) _ refl (either_kept (bytes_eq operation (codes "plan")) (plan_summary totals) other refl refl)

sums_up : (d : Data) → is_no_message (summary_of d) ≡ false
unfolding summary_of
sums_up d =
    object path.Operation (codes "changes") path.Changes d _ (λ changes. text path.Operation (codes "operation") changes _ (λ operation. totals changes _ (λ totals. summary_kept operation totals)))

diagnoses : (d : Data) → is_no_message (diagnostic_of d) ≡ false
unfolding diagnostic_of
diagnoses d = object path.Severity (codes "diagnostic") path.Diagnostic d _ (λ members. text path.Severity (codes "severity") members _ (λ severity. refl))

either : (b : Bool) (x y : Result Message Fault) → is_no_message x ≡ false → is_no_message y ≡ false → is_no_message (if b then x else y) ≡ false
either true x y this that = this
either false x y this that = that

general : (name : List ℕ) (d : Data) → is_no_message (general_message name d) ≡ false
general name d =
    either (bytes_eq name (codes "planned_change")) _ _ (plans d)
    (either (bytes_eq name (codes "change_summary")) _ _ (sums_up d)
    (either (bytes_eq name (codes "diagnostic")) _ _ (diagnoses d) (either (bytes_eq name (codes "outputs")) _ _ refl refl)))

stepless : (name : List ℕ) (d : Data) → is_no_message (stepless_message name d) ≡ false
stepless name d =
    either (bytes_eq name (codes "refresh_start")) _ _ (refreshes Start d)
    (either (bytes_eq name (codes "refresh_complete")) _ _ (refreshes (Complete 0) d)
    (either (bytes_eq name (codes "provision_start")) _ _ (provisions stage.Start d)
    (either (bytes_eq name (codes "provision_progress")) _ _ (provisions stage.Progress d)
    (either (bytes_eq name (codes "provision_complete")) _ _ (provisions stage.Complete d)
    (either (bytes_eq name (codes "provision_errored")) _ _ (provisions stage.Errored d) (general name d))))))

typed : (name : List ℕ) (d : Data) → is_no_message (typed_message name d) ≡ false
unfolding typed_message
typed name d =
    either (bytes_eq name (codes "version")) _ _ refl
    (either (bytes_eq name (codes "apply_start")) _ _ (starts d)
    (either (bytes_eq name (codes "apply_progress")) _ _ (timed Progress d)
    (either (bytes_eq name (codes "apply_complete")) _ _ (timed Complete d) (either (bytes_eq name (codes "apply_errored")) _ _ (timed Errored d) (stepless name d)))))

-- ---- a tree, a text, a line

no_type : (find : Bool) → is_no_message (untyped_message find) ≡ true
no_type true = refl
no_type false = refl

by_type : (find : Bool) (d : Data) (o : Option (List ℕ)) → is_some (option_map (λ name. d) o) ≡ not (is_no_message (option_map_or (λ name. typed_message name d) o (untyped_message find)))
by_type find d None = ap not (sym (no_type find))
by_type find d (Some name) = ap not (sym (typed name d))

tree : (find : Bool) (d : Data) → is_some (if_typed d) ≡ not (is_no_message (tree_message find d))
unfolding tree_message
tree find d = by_type find d (type_of d)

by_tree : (find : Bool) (o : Option Data) → is_some (options.◌>>=◌ o if_typed) ≡ not (is_no_message (or_refuse NotJson o >>= tree_message find))
by_tree find None = refl
by_tree find (Some d) = tree find d

by_brace : (o : Option (List ℕ)) → is_some (options.◌>>=◌ (options.◌>>=◌ o tree_of) if_typed) ≡ not (is_no_message (or_refuse NotJson o >>= text_message true))
by_brace None = refl
by_brace (Some text) = by_tree true (tree_of text)

located : (o : Option (List ℕ)) → is_some (options.◌>>=◌ (options.◌>>=◌ (option_and_then through_brace o) tree_of) if_typed) ≡ not (is_no_message (located_message o))
located None = refl
located (Some text) = by_brace (through_brace text)

kept : {A B : Type 0} (f : A → B) (o : Option A) → is_some (option_map f o) ≡ is_some o
kept f None = refl
kept f (Some a) = refl

whole : (find : Bool) (line : List ℕ) → nat_lt max_bytes (length line) ≡ false → is_some (whole_message_of find line) ≡ not (is_no_message (line_message find line))
unfolding line_message
whole true line few = rw few (located (from_mark line))
whole false line few = rw few (by_tree false (tree_of line))

pub read_as_message : (find : Bool) (line : List ℕ) → length line ≤ max_bytes → is_some (message_of find line) ≡ not (is_no_message (line_message find line))
read_as_message find line few =
    let short : nat_lt max_bytes (length line) ≡ false = grind arith in
    kept (trimmed message_selection shape.Message) (whole_message_of find line) ∙ whole find line short
