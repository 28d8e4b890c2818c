-- The message of the slots is the message of the line.
use Rattle.std.proofs.Common.{◌≡◌, ℕ, List, length, codes, Bool, false, Option, Some, None, Result, Ok, Err, refl, sym, ap, subst, ◌∙◌, arith}
use Rattle.std.specs.Prelude.{option_map}
use Rattle.std.specs.Option.{option_and_then, option_map_or}
use Rattle.serde_json.specs.Data.{Data, null, boolean, number, string, array, object, Members}
use Rattle.serde_json.specs.Find.{as_str, get_member}
use Rattle.apply_json.specs.declared.json_fault.JsonFault.{JsonFault}
use Rattle.apply_json.specs.declared.json_fault.JsonFault.TheVariants.{TooLarge, NotJson, Memory}
use Rattle.apply_json.specs.Parsed.{IsNoTree}
use Rattle.apply_json.specs.ShallowView.{ShallowView, members_in, shallow_view}
use Rattle.apply_json.specs.Tree as tree
use Rattle.apply_json.specs.Tree.{member_of, text_of, tree_of}
use Rattle.apply_json.proofs.Held.{get_in}
use Rattle.stream_message.specs.declared.changes_slots.ChangesSlots.{ChangesSlots}
use Rattle.stream_message.specs.declared.hook_slots.HookSlots.{HookSlots}
use Rattle.stream_message.specs.declared.inner_slot.InnerSlot.{InnerSlot}
use Rattle.stream_message.specs.declared.kind.Kind.{Kind}
use Rattle.stream_message.specs.declared.kind.Kind.TheVariants as kind
use Rattle.stream_message.specs.declared.line_slots.LineSlots.{LineSlots}
use Rattle.stream_message.specs.declared.presence.Presence.{Presence}
use Rattle.stream_message.specs.declared.stage.Stage.{Stage}
use Rattle.stream_message.specs.declared.stage.Stage.TheVariants as stage
use Rattle.stream_message.specs.Kinds.{kind_named}
use Rattle.stream_message.specs.Slots.{HoldsChanges, HoldsDiagnostic, HoldsHook, HoldsLine, inner_of, inner_view, inside, presence_of, shallow_value}
use Rattle.stream_message.specs.SlotValues.{provisioner_in}
use Rattle.stream_message.proofs.TreeMembers as slots
use Rattle.stream_message.proofs.TreeMembers.{slot_text, slots_address}
use Rattle.stream_check.specs.declared.messages.line.TheConstants.{SELECTION}
use Rattle.stream_check.specs.declared.messages.member_fault.MemberFault.TheVariants.{NoText, NoWholeNumber}
use Rattle.stream_check.specs.declared.messages.path.Path.{Path}
use Rattle.stream_check.specs.declared.messages.path.Path.TheVariants as path
use Rattle.stream_check.specs.declared.messages.timed_stage.TimedStage.{TimedStage}
use Rattle.stream_check.specs.declared.rules.fault.Fault.{Fault}
use Rattle.stream_check.specs.declared.rules.fault.Fault.TheVariants as fault
use Rattle.stream_check.specs.declared.rules.fault.Fault.TheVariants.{Malformed}
use Rattle.stream_check.specs.About.{about_line, about_message, about_tree, message_in, of_provisioner, provisioner_of}
use Rattle.stream_check.specs.SlotContents.{about_of_slots, about_result, address_of_slots, diagnostic_of_slots, kind_of_slots, message_of_slots, planned_of_slots, provision_of_slots, refresh_of_slots, required_count, required_inner_text, required_object, required_text, start_of_slots, step_of_slots, subject_of_slots, summary_of_slots, timed_of_slots, totals_of_slots}
use Rattle.stream_check.specs.Lines.{text_message, tree_message, untyped_message}
use Rattle.stream_check.specs.Members.{as_container, count_at, object_at, text_at, there, whole_number}
use Rattle.stream_check.specs.Message.{Message, version, step, provision, planned, plan_summary, summary, diagnostic, outputs, other, foreign, diagnostic_of, hook_address_of, planned_of, provision_of, refresh_of, start_of, subject_of, summary_of, timed_of, timed_stage_of, totals_in, typed_message}
use Rattle.stream_check.specs.Results.{Gives, ◌>>=◌, mapped, or_refuse}
use Rattle.stream_check.proofs.MessageKinds.{kind_is, kind_message, step_message}

-- one step after another
assoc : {A B C : Type 0} (r : Result A Fault) (f : A → Result B Fault) (g : B → Result C Fault) → ((r >>= f) >>= g) ≡ (r >>= λ x. f x >>= g)
assoc (Ok x) f g = refl
assoc (Err fault) f g = refl

-- ---- members

text_is : (member : Path) (k : List ℕ) (d : Data) (v : Option ShallowView) → v ≡ shallow_value (get_member k (members_in d)) → required_text member v ≡ text_at member k d
text_is member k d v is = rw (is, get_in k d) (each (get_member k (members_in d))) where
  each : (o : Option Data) → required_text member (shallow_value o) ≡ (there member o >>= λ value. or_refuse (Malformed member NoText) (as_str value))
  each None = refl
  each (Some null) = refl
  each (Some (boolean b)) = refl
  each (Some (number n)) = refl
  each (Some (string s)) = refl
  each (Some (array ds)) = refl
  each (Some (object ms)) = refl

count_is : (member : Path) (k : List ℕ) (d : Data) (v : Option ShallowView) → v ≡ shallow_value (get_member k (members_in d)) → required_count member v ≡ count_at member k d
count_is member k d v is = rw (is, get_in k d) (each (get_member k (members_in d))) where
  each : (o : Option Data) → required_count member (shallow_value o) ≡ (there member o >>= λ value. or_refuse (Malformed member NoWholeNumber) (whole_number value))
  each None = refl
  each (Some null) = refl
  each (Some (boolean b)) = refl
  each (Some (number n)) = refl
  each (Some (string s)) = refl
  each (Some (array ds)) = refl
  each (Some (object ms)) = refl

-- what is made of the members of an object
inside_is : {B : Type 0} (member : Path) (k : List ℕ) (container : Path) (d : Data) (is : Presence) (held : Result B Fault) (g : Data → Result B Fault) → is ≡ presence_of (get_member k (members_in d))
    → ((ms : Members) → get_member k (members_in d) ≡ Some (object ms) → held ≡ g (object ms)) → (required_object member container is >>= λ t. held) ≡ (object_at member k container d >>= g)
inside_is member k container d is held g known same = rw (known, get_in k d) (each (get_member k (members_in d)) refl) where
  each : (o : Option Data) → get_member k (members_in d) ≡ o → (required_object member container (presence_of o) >>= λ t. held) ≡ ((there member o >>= as_container container) >>= g)
  each None e = refl
  each (Some null) e = refl
  each (Some (boolean b)) e = refl
  each (Some (number n)) e = refl
  each (Some (string s)) e = refl
  each (Some (array ds)) e = refl
  each (Some (object ms)) e = same ms e

inner_text_is : (member container : Path) (k name : List ℕ) (d : Data) (slot : InnerSlot) → inner_view slot ≡ inner_of name (get_member k (members_in d))
    → required_inner_text member container slot ≡ (object_at member k container d >>= text_at member name)
inner_text_is member container k name d slot is =
    inside_is member k container d slot.is (required_text member (option_map shallow_view slot.value)) (text_at member name) (ap (λ (p : Presence × Option ShallowView). p.0) is)
    (λ ms e. text_is member name (object ms) _ (ap (λ (p : Presence × Option ShallowView). p.1) is ∙ ap (λ (o : Option Data). shallow_value (get_member name (inside o))) e))

-- ---- what the members of an object make

subject_is : (slots : HookSlots) (hook : Data) → HoldsHook slots (members_in hook) → subject_of_slots slots ≡ subject_of hook
subject_is slots hook holds =
    rw (text_is path.Action (codes "action") hook (option_map shallow_view slots.action) holds.action, inner_text_is path.Address path.Resource (codes "resource") (codes "addr") hook slots.resource holds.resource)
    (assoc (object_at path.Address (codes "resource") path.Resource hook) (text_at path.Address (codes "addr")) _)

totals_is : (slots : ChangesSlots) (changes : Data) → HoldsChanges slots (members_in changes) → totals_of_slots slots ≡ totals_in changes
totals_is slots changes holds =
    rw (count_is path.Added (codes "add") changes (option_map shallow_view slots.added) holds.added, count_is path.Changed (codes "change") changes (option_map shallow_view slots.changed) holds.changed, count_is path.Removed (codes "remove") changes (option_map shallow_view slots.removed) holds.removed)
    refl

module _ (line : LineSlots) (d : Data) (holds : HoldsLine SELECTION line (members_in d)) where
  start_is : start_of_slots line.hook ≡ start_of d
  unfolding start_of
  start_is =
      inside_is path.Address (codes "hook") path.Hook d line.hook.is _ _ (holds.hook refl).0
      (λ ms e. rw (subject_is line.hook (object ms) (subst (λ (o : Option Data). HoldsHook line.hook (inside o)) e (holds.hook refl).1)) refl)

  timed_is : (timed : ℕ → TimedStage) → timed_of_slots timed line.hook ≡ timed_of timed d
  unfolding timed_of
  timed_is timed =
      inside_is path.Address (codes "hook") path.Hook d line.hook.is _ _ (holds.hook refl).0
      (λ ms e.
      let held = subst (λ (o : Option Data). HoldsHook line.hook (inside o)) e (holds.hook refl).1 in
      rw (count_is path.Seconds (codes "elapsed_seconds") (object ms) (option_map shallow_view line.hook.seconds) held.seconds, subject_is line.hook (object ms) held) refl)

  address_is : address_of_slots line.hook ≡ hook_address_of d
  address_is =
      inside_is path.Address (codes "hook") path.Hook d line.hook.is _ _ (holds.hook refl).0
      (λ ms e. inner_text_is path.Address path.Resource (codes "resource") (codes "addr") (object ms) line.hook.resource (subst (λ (o : Option Data). HoldsHook line.hook (inside o)) e (holds.hook refl).1).resource)

  provision_is : (p : Stage) → provision_of_slots p line.hook ≡ provision_of p d
  unfolding provision_of
  provision_is p = rw address_is refl

  refresh_is : (s : TimedStage) → refresh_of_slots s line.hook ≡ refresh_of s d
  unfolding refresh_of
  refresh_is s = rw address_is refl

  planned_is : planned_of_slots line ≡ planned_of d
  unfolding planned_of
  planned_is =
      inside_is path.ChangeAction (codes "change") path.Change d line.change.is _ _ (holds.change refl).0
      (λ ms e.
      let held = subst (λ (o : Option Data). HoldsHook line.change (inside o)) e (holds.change refl).1 in
      rw (text_is path.ChangeAction (codes "action") (object ms) (option_map shallow_view line.change.action) held.action, slots_address line.change (Some (object ms)) held) refl)

  summary_is : summary_of_slots line.changes ≡ summary_of d
  unfolding summary_of
  summary_is =
      inside_is path.Operation (codes "changes") path.Changes d line.changes.is _ _ (holds.changes refl).0
      (λ ms e.
      let held = subst (λ (o : Option Data). HoldsChanges line.changes (inside o)) e (holds.changes refl).1 in
      rw (text_is path.Operation (codes "operation") (object ms) (option_map shallow_view line.changes.operation) held.operation, totals_is line.changes (object ms) held) refl)

  diagnostic_is : diagnostic_of_slots line.diagnostic ≡ diagnostic_of d
  unfolding diagnostic_of
  diagnostic_is =
      inside_is path.Severity (codes "diagnostic") path.Diagnostic d line.diagnostic.is _ _ (holds.diagnostic refl).0
      (λ ms e.
      let held = subst (λ (o : Option Data). HoldsDiagnostic false line.diagnostic (inside o)) e (holds.diagnostic refl).1 in
      rw (text_is path.Severity (codes "severity") (object ms) (option_map shallow_view line.diagnostic.severity) held.severity, slot_text (codes "address") (object ms) (option_map shallow_view line.diagnostic.address) held.address) refl)

  step_is : (given : Stage) → step_of_slots given line.hook ≡ step_message given d
  step_is stage.Start = start_is
  step_is stage.Progress = timed_is (timed_stage_of stage.Progress)
  step_is stage.Complete = timed_is (timed_stage_of stage.Complete)
  step_is stage.Errored = timed_is (timed_stage_of stage.Errored)

  kind_stated : (k : Kind) → kind_of_slots k line ≡ kind_message k d
  kind_stated kind.Version = refl
  kind_stated (kind.Apply given) = step_is given
  kind_stated (kind.Refresh given) = refresh_is (timed_stage_of given 0)
  kind_stated (kind.Provision given) = provision_is given
  kind_stated (kind.Ephemeral given) = refl
  kind_stated kind.Planned = planned_is
  kind_stated kind.Summary = summary_is
  kind_stated kind.Diagnostic = diagnostic_is
  kind_stated kind.Outputs = refl
  kind_stated kind.Other = refl

  message_is : (find : Bool) → message_of_slots find line ≡ tree_message find d
  unfolding tree_message
  message_is find = ap (λ (o : Option Kind). option_map_or (λ k. kind_of_slots k line) o (untyped_message find)) (slots.kind_is line.head d holds.head) ∙ each (text_of (codes "type") d) where
    each : (o : Option (List ℕ)) → option_map_or (λ k. kind_of_slots k line) (option_map kind_named o) (untyped_message find) ≡ option_map_or (λ name. typed_message name d) o (untyped_message find)
    each None = refl
    each (Some name) = kind_stated (kind_named name) ∙ kind_is d name

  -- ---- what the message is about

  provisioner_is : provisioner_in line.hook ≡ provisioner_of d
  provisioner_is = slots.provisioner_is SELECTION line d holds refl ∙ each (member_of (codes "hook") d) where
    each : (o : Option Data) → (tree.◌>>=◌ o (text_of (codes "provisioner"))) ≡ option_and_then (text_of (codes "provisioner")) o
    each None = refl
    each (Some hook) = refl

  about_same : (r : Result Message Fault) → about_result (provisioner_in line.hook) r ≡ about_message d r
  about_same (Ok (provision address stage)) = ap (λ (name : Option (List ℕ)). Some (of_provisioner name address)) provisioner_is
  about_same (Ok (step address action stage)) = refl
  about_same (Ok version) = refl
  about_same (Ok (planned intent address)) = refl
  about_same (Ok (plan_summary totals)) = refl
  about_same (Ok (summary totals)) = refl
  about_same (Ok (diagnostic is_error address)) = refl
  about_same (Ok outputs) = refl
  about_same (Ok other) = refl
  about_same (Ok foreign) = refl
  about_same (Err fault) = refl

  about_is : about_of_slots line ≡ about_tree d
  unfolding about_tree
  about_is = ap (option_and_then (λ k. about_result (provisioner_in line.hook) (kind_of_slots k line))) (slots.kind_is line.head d holds.head) ∙ each (text_of (codes "type") d) where
    each : (o : Option (List ℕ)) → option_and_then (λ k. about_result (provisioner_in line.hook) (kind_of_slots k line)) (option_map kind_named o) ≡ option_and_then (λ name. about_message d (typed_message name d)) o
    each None = refl
    each (Some name) = ap (about_result (provisioner_in line.hook)) (kind_stated (kind_named name) ∙ kind_is d name) ∙ about_same (typed_message name d)

-- ---- texts

-- the message of the slots is the message of the text
pub message_in_text : (find : Bool) (text : List ℕ) (line : LineSlots) → (d : Data) × (tree_of text ≡ Some d) × HoldsLine SELECTION line (members_in d) → text_message find text ≡ message_of_slots find line
message_in_text find text line read = rw read.1 (sym (message_is line read.0 read.2 find))

pub about_found : (find : Bool) (text piece : List ℕ) (line : LineSlots) → Some piece ≡ message_in find text → (d : Data) × (tree_of piece ≡ Some d) × HoldsLine SELECTION line (members_in d) → about_of_slots line ≡ about_line find text
about_found find text piece line value read = rw (← value, read.1) (about_is line read.0 read.2)

pub about_none : (find : Bool) (text piece : List ℕ) → Some piece ≡ message_in find text → tree_of piece ≡ None → None ≡ about_line find text
about_none find text piece value none = rw (← value, none) refl

pub no_json : (find : Bool) (text : List ℕ) → tree_of text ≡ None → text_message find text ≡ Err fault.NotJson
no_json find text none = rw none refl

-- no tree stands in a text of that length
pub no_tree_in : (why : JsonFault) (text : List ℕ) → (why ≡ Memory → ⊥) → IsNoTree (length text) why text → tree_of text ≡ None
no_tree_in TooLarge text never is = absurd (omega (arith, is))
no_tree_in NotJson text never is = is.1
no_tree_in Memory text never is = absurd (never refl)

-- the answer is what is defined
pub given : {X Y : Type 0} (view : X → Y) (r : Result X Fault) (defined held : Result Y Fault) → mapped view r ≡ held → defined ≡ held → Gives fault.Memory view r defined
given view (Ok x) defined held is e = e ∙ sym is
given view (Err why) defined held is e = λ memory. e ∙ sym is
