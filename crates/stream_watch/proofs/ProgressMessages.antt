-- Of a message of progress nothing is told but what is under way.
use Rattle.std.proofs.Common.{◌≡◌, ℕ, ℤ, List, [], ◌∷◌, codes, Bool, true, false, not, Option, Some, None, Result, Ok, Err, is_some, option_map, unwrap_or, refl, sym, ap, ◌∙◌}
use Rattle.std.specs.Prelude.{IfOk, IfSome}
use Rattle.std.specs.declared.alloc.AllocError.{AllocError}
use Rattle.std.specs.Option.{option_and_then, option_map_or}
use Rattle.serde_json.specs.Data.{Data}
use Rattle.apply_json.specs.ShallowView.{members_in}
use Rattle.apply_json.specs.Tree.{◌>>=◌, is_empty, member_of, non_empty_text_of, text_of, tree_of, unless_empty}
use Rattle.apply_json_tree.specs.Trimmed.{trimmed}
use Rattle.apply_json_tree.proofs.Trimmed.Lookups.{behind_trimmed, text_trimmed}
use Rattle.stream_message.specs.Kinds.{kind_named}
use Rattle.stream_message.specs.Members.{address_of, hook_text, kind_of, message_time, time_of, type_of}
use Rattle.stream_message.specs.Slots.{HoldsLine}
use Rattle.stream_message.specs.SlotValues.{action_in, address_in, kind_in, time_in}
use Rattle.stream_message.specs.Timestamp.{instant_of}
use Rattle.stream_message.specs.declared.kind.Kind.{Kind}
use Rattle.stream_message.specs.declared.kind.Kind.TheVariants as kind
use Rattle.stream_message.specs.declared.line_slots.LineSlots.{LineSlots}
use Rattle.stream_message.specs.declared.selection.Selection.{Selection}
use Rattle.stream_message.specs.declared.stage.Stage.{Stage}
use Rattle.stream_message.specs.declared.stage.Stage.TheVariants as stage
use Rattle.stream_message.proofs.TreeMembers.{action_is, address_is, kind_is, time_is}
use Rattle.stream_watch.specs.Hooks.{Hook, hook_of}
use Rattle.stream_watch.specs.ProgressMessage.{HasProgress, IsProgress, is_named, is_progress_kind, is_progress_stage}
use Rattle.stream_watch.specs.Reading.{if_typed, message_of, text_in, whole_message_of}
use Rattle.stream_watch.specs.Shape.{message_selection}
use Rattle.stream_watch.specs.State.{State, Told, nothing, told_then}
use Rattle.stream_watch.specs.StepRows.{NamedStep, named_step, step_of, step_told, told_of_step}
use Rattle.stream_watch.specs.Telling.{TellsProgress, at_moment, kind_told, message_or_line_told, message_told, moment_of, other_told, progress_told, row_told, text_told, under_way_told_if}
use Rattle.stream_watch.specs.declared.looks.Looks.{Looks}
use Rattle.stream_watch.specs.declared.message.progress.ProgressMessage.{ProgressMessage}
use Rattle.stream_watch.specs.declared.message.shape.MessageShape.TheVariants as shape

abbrev read : Data → Data
read = trimmed message_selection shape.Message

then_then : {A B C : Type 0} (o : Option A) (f : A → Option B) (g : B → Option C) → ((o >>= f) >>= g) ≡ (o >>= λ x. (f x >>= g))
then_then None f g = refl
then_then (Some x) f g = refl

-- ---- what the members that are read say

read_address : (d : Data) → address_of (read d) ≡ address_of d
read_address d =
    then_then (member_of (codes "hook") (read d)) (member_of (codes "resource")) (text_of (codes "addr"))
    ∙ behind_trimmed message_selection shape.Message shape.Hook (codes "hook") _ (λ hook. (member_of (codes "resource") hook >>= text_of (codes "addr"))) d refl
    (λ hook. behind_trimmed message_selection shape.Hook shape.HookResource (codes "resource") _ (text_of (codes "addr")) hook refl
    (λ resource. text_trimmed message_selection shape.HookResource shape.Scalar (codes "addr") resource refl))
    ∙ back (member_of (codes "hook") d)
  where
    back : (o : Option Data) → (o >>= λ hook. (member_of (codes "resource") hook >>= text_of (codes "addr"))) ≡ ((o >>= member_of (codes "resource")) >>= text_of (codes "addr"))
    back None = refl
    back (Some hook) = refl

read_action : (d : Data) → hook_text (codes "action") (read d) ≡ hook_text (codes "action") d
read_action d =
    behind_trimmed message_selection shape.Message shape.Hook (codes "hook") (text_of (codes "action")) (text_of (codes "action")) d refl
    (λ hook. text_trimmed message_selection shape.Hook shape.Scalar (codes "action") hook refl)

-- ---- a step is named

action_there : (hook : Data) (address : List ℕ) (o : Option (List ℕ)) → is_some o ≡ true → is_some (option_map (named_step (record { hook = hook; address = address })) o) ≡ true
action_there hook address None acts = absurd cc
action_there hook address (Some action) acts = refl

abbrev step_in : Option Hook → Option NamedStep
step_in o = o >>= λ named. option_map (named_step named) (text_of (codes "action") named.hook)

address_there : (hook : Data) (o : Option (List ℕ)) → is_named o ≡ true → is_some (text_of (codes "action") hook) ≡ true
    → is_some (step_in (option_map (λ address. record { hook = hook; address = address }) (o >>= unless_empty))) ≡ true
address_there hook None named acts = absurd cc
address_there hook (Some []) named acts = absurd cc
address_there hook (Some (byte ∷ bytes)) named acts = action_there hook (byte ∷ bytes) (text_of (codes "action") hook) acts

resource_there : (hook : Data) (o : Option Data) → is_named (o >>= text_of (codes "addr")) ≡ true → is_some (text_of (codes "action") hook) ≡ true
    → is_some (step_in (o >>= λ resource. option_map (λ address. record { hook = hook; address = address }) (non_empty_text_of (codes "addr") resource))) ≡ true
resource_there hook None named acts = absurd cc
resource_there hook (Some resource) named acts = address_there hook (text_of (codes "addr") resource) named acts

hook_there : (o : Option Data) → is_named ((o >>= member_of (codes "resource")) >>= text_of (codes "addr")) ≡ true → is_some (o >>= text_of (codes "action")) ≡ true
    → is_some (step_in (o >>= λ hook. member_of (codes "resource") hook
    >>= λ resource. option_map (λ address. record { hook = hook; address = address }) (non_empty_text_of (codes "addr") resource))) ≡ true
hook_there None named acts = absurd cc
hook_there (Some hook) named acts = resource_there hook (member_of (codes "resource") hook) named acts

step_there : (d : Data) → is_named (address_of d) ≡ true → is_some (hook_text (codes "action") d) ≡ true → is_some (step_of d) ≡ true
step_there d named acts = hook_there (member_of (codes "hook") d) named acts

-- ---- the row

module _ (looks : Looks) (state : State) (find : Bool) (line : List ℕ) (tree : Data) (moment : ℤ) (there : is_some (step_of tree) ≡ true) where
  by_step : (o : Option NamedStep) → is_some o ≡ true → option_map (told_of_step looks state stage.Progress moment) o ≡ Some (nothing state)
  by_step None some = absurd cc
  by_step (Some step) some = refl

  by_stage : (s : Stage) → is_progress_stage s ≡ true → step_told looks state s tree moment ≡ Some (nothing state)
  by_stage stage.Start is = absurd cc
  by_stage stage.Progress is = by_step (step_of tree) there
  by_stage stage.Complete is = absurd cc
  by_stage stage.Errored is = absurd cc

  by_kind : (name : List ℕ) (k : Kind) → is_progress_kind k ≡ true → kind_told looks state find line name tree moment k ≡ Some (nothing state)
  by_kind name kind.Version is = absurd cc
  by_kind name (kind.Apply s) is = by_stage s is
  by_kind name (kind.Refresh s) is = absurd cc
  by_kind name (kind.Provision s) is = absurd cc
  by_kind name (kind.Ephemeral s) is = by_stage s is
  by_kind name kind.Planned is = absurd cc
  by_kind name kind.Summary is = absurd cc
  by_kind name kind.Diagnostic is = absurd cc
  by_kind name kind.Outputs is = absurd cc
  by_kind name kind.Other is = absurd cc

  by_type : (name : List ℕ) → text_of (codes "type") tree ≡ Some name → is_progress_kind (kind_named name) ≡ true → row_told looks state find line tree moment ≡ Some (nothing state)
  by_type name typed is =
      ap (option_and_then (λ name. kind_told looks state find line name tree moment (kind_named name))) typed ∙ by_kind name (kind_named name) is

-- ---- the message

type_there : (o : Option (List ℕ)) → option_map_or is_progress_kind (option_map kind_named o) false ≡ true
    → (name : List ℕ) × (o ≡ Some name) × (is_progress_kind (kind_named name) ≡ true)
type_there None is = absurd cc
type_there (Some name) is = (name, refl, is)

bound : {A B : Type 0} (f : A → Option B) (o : Option A) → option_and_then f o ≡ (o >>= f)
bound f None = refl
bound f (Some x) = refl

moment_read : (d : Data) (name : List ℕ) → type_of d ≡ Some name → moment_of (read d) ≡ message_time d
moment_read d name typed =
    ap (option_and_then instant_of) (text_trimmed message_selection shape.Message shape.Scalar (codes "@timestamp") d refl)
    ∙ bound instant_of (text_of (codes "@timestamp") d)
    ∙ ap (λ (o : Option (List ℕ)). o >>= λ name. time_of d) (sym typed)

message_is : (looks : Looks) (state : State) (find : Bool) (line : List ℕ) (d : Data) (moment : Option ℤ) → IsProgress d moment → message_told looks state find line (read d) ≡ progress_told looks moment state
message_is looks state find line d moment progress =
    let typed = type_there (type_of d) progress.kind in
    let there = step_there (read d) (ap is_named (read_address d) ∙ progress.address) (ap is_some (read_action d) ∙ progress.action) in
    let time : moment_of (read d) ≡ moment = moment_read d typed.0 typed.1 ∙ progress.time in
    let at : State = at_moment moment state in
    let row = by_type looks at find line (read d) (unwrap_or moment at.clock.now) there typed.0 (text_trimmed message_selection shape.Message shape.Scalar (codes "type") d refl ∙ typed.1) typed.2 in
    ap (λ (m : Option ℤ). told_then (unwrap_or (row_told looks (at_moment m state) find line (read d) (unwrap_or m (at_moment m state).clock.now)) (other_told looks line (read d) (at_moment m state))) (under_way_told_if (is_some m) looks)) time
    ∙ ap (λ (o : Option Told). told_then (unwrap_or o (other_told looks line (read d) at)) (under_way_told_if (is_some moment) looks)) row

-- ---- the line

whole_is : (find : Bool) (line text : List ℕ) (d : Data) (name : List ℕ) → text_in find line ≡ Some text → tree_of text ≡ Some d → type_of d ≡ Some name → whole_message_of find line ≡ Some d
whole_is find line text d name located parsed typed =
    ap (λ (o : Option (List ℕ)). (o >>= tree_of) >>= if_typed) located ∙ ap (λ (o : Option Data). o >>= if_typed) parsed
    ∙ ap (option_map (λ (name : List ℕ). d)) typed

pub tells_progress : (find : Bool) (line text : List ℕ) (moment : Option ℤ) → text_in find line ≡ Some text → HasProgress text moment → TellsProgress find line moment
unfolding text_told
tells_progress find line text moment located has looks state =
    let typed = type_there (type_of has.0) has.2.kind in
    ap (λ (o : Option Data). message_or_line_told looks state find line (option_map read o)) (whole_is find line text has.0 typed.0 located has.1 typed.1)
    ∙ message_is looks state find line has.0 moment has.2

-- ---- what was read of a line

pub progress_read : (line : LineSlots) (kind : Kind) (address action : List ℕ) (moment : Option ℤ) → kind_in line.head ≡ Some kind
    → address_in line.hook ≡ Some address → action_in line.hook ≡ Some action → is_progress_kind kind ≡ true → is_empty address ≡ false
    → time_in line.head ≡ moment → (selection : Selection) (tree : Data) → selection.hook ≡ true → HoldsLine selection line (members_in tree) → IsProgress tree moment
progress_read line kind address action moment kind_read address_read action_read is named time_read selection tree selected holds = record {
  kind = ap (λ (o : Option Kind). option_map_or is_progress_kind o false) (sym (kind_is line.head tree holds.head) ∙ kind_read) ∙ is;
  address = ap is_named (sym (address_is selection line tree holds selected) ∙ address_read) ∙ ap not named;
  action = ap is_some (sym (action_is selection line tree holds selected) ∙ action_read);
  time = sym (time_is line.head tree holds.head) ∙ time_read;
}

-- the text of the line has it
pub progress_found : (o : Option ProgressMessage) (line : LineSlots) (selection : Selection) (tree : Data) (text : List ℕ) → selection.hook ≡ true → tree_of text ≡ Some tree → HoldsLine selection line (members_in tree)
    → IfSome o (λ message. (selection : Selection) (tree : Data) → selection.hook ≡ true → HoldsLine selection line (members_in tree) → IsProgress tree message.moment)
    → IfSome o (λ message. HasProgress text message.moment)
progress_found None line selection tree text selected parsed holds found = tt
progress_found (Some message) line selection tree text selected parsed holds found = (tree, parsed, found selection tree selected holds)

pub line_progresses : (r : Result (Option ProgressMessage) AllocError) (find : Bool) (line text : List ℕ) → text_in find line ≡ Some text
    → IfOk r (λ found. IfSome found (λ message. HasProgress text message.moment)) → IfOk r (λ found. IfSome found (λ message. TellsProgress find line message.moment))
line_progresses (Ok None) find line text located has = tt
line_progresses (Ok (Some message)) find line text located has = tells_progress find line text message.moment located has
line_progresses (Err e) find line text located has = tt
