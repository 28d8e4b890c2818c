-- A message states the same by the tree of its members that are read.
use Rattle.std.proofs.Common.{◌≡◌, ℕ, List, codes, Option, Some, None, option_map, refl, sym, ap, ◌∙◌}
use Rattle.serde_json.specs.Data.{Data}
use Rattle.serde_json.specs.Find.{as_number, as_u64}
use Rattle.apply_json.specs.Tree.{◌>>=◌, member_of, non_empty_text_of, text_of}
use Rattle.apply_json_tree.specs.Trimmed.{IsTrimmedTree, trimmed}
use Rattle.apply_json_tree.proofs.Trimmed.Lookups.{as_number_trimmed, behind_trimmed, non_empty_text_trimmed, text_trimmed}
use Rattle.stream_message.specs.Kinds.{kind_named}
use Rattle.stream_message.specs.Members.{address_of, changes_text, count_of, diagnostic_text, hook_count, hook_text, kind_of}
use Rattle.stream_message.specs.declared.kind.Kind.{Kind}
use Rattle.stream_message.specs.declared.kind.Kind.TheVariants as kind
use Rattle.stream_message.specs.declared.stage.Stage.{Stage}
use Rattle.stream_message.specs.declared.stage.Stage.TheVariants as stage
use Rattle.stream_record_lines.specs.Lines.{message_in}
use Rattle.stream_record_lines.specs.Messages.{completed_after, diagnostic_of, event_of, message_of, provisioner_of, second_of, seconds_of, step_of}
use Rattle.stream_record_lines.specs.Shape.{member_shape, message_selection}
use Rattle.stream_record_lines.specs.declared.shape.MessageShape.{MessageShape}
use Rattle.stream_record_lines.specs.declared.shape.MessageShape.TheVariants.{Changes, Diagnostic, Hook, Message, Resource, Scalar}
use Rattle.stream_record_lines.specs.declared.stated_message.StatedMessage.{StatedMessage}

abbrev read : Data → Data
read d = trimmed message_selection Message d

-- ---- members

text : (name : List ℕ) (d : Data) → member_shape Message name ≡ Some Scalar → text_of name (read d) ≡ text_of name d
text name d known = text_trimmed message_selection Message Scalar name d known

count : (shape : MessageShape) (name : List ℕ) (d : Data) → member_shape shape name ≡ Some Scalar → count_of name (trimmed message_selection shape d) ≡ count_of name d
count shape name d known =
    ap (λ o. o >>= as_u64) (behind_trimmed message_selection shape Scalar name as_number as_number d known (as_number_trimmed message_selection Scalar))

in_hook : {B : Type 0} (f : Data → Option B) (d : Data) → ((hook : Data) → f (trimmed message_selection Hook hook) ≡ f hook)
    → (member_of (codes "hook") (read d) >>= f) ≡ (member_of (codes "hook") d >>= f)
in_hook f d same = behind_trimmed message_selection Message Hook (codes "hook") f f d refl same

in_diagnostic : {B : Type 0} (f : Data → Option B) (d : Data) → ((inner : Data) → f (trimmed message_selection Diagnostic inner) ≡ f inner)
    → (member_of (codes "diagnostic") (read d) >>= f) ≡ (member_of (codes "diagnostic") d >>= f)
in_diagnostic f d same = behind_trimmed message_selection Message Diagnostic (codes "diagnostic") f f d refl same

of_hook : (name : List ℕ) (d : Data) → member_shape Hook name ≡ Some Scalar → hook_text name (read d) ≡ hook_text name d
of_hook name d known = in_hook (text_of name) d (λ hook. text_trimmed message_selection Hook Scalar name hook known)

seconds : (d : Data) → hook_count (codes "elapsed_seconds") (read d) ≡ hook_count (codes "elapsed_seconds") d
seconds d = in_hook (count_of (codes "elapsed_seconds")) d (λ hook. count Hook (codes "elapsed_seconds") hook refl)

name : (d : Data) → (member_of (codes "hook") (read d) >>= non_empty_text_of (codes "provisioner"))
    ≡ (member_of (codes "hook") d >>= non_empty_text_of (codes "provisioner"))
name d = in_hook (non_empty_text_of (codes "provisioner")) d (λ hook. non_empty_text_trimmed message_selection Hook Scalar (codes "provisioner") hook refl)

operation : (d : Data) → changes_text (codes "operation") (read d) ≡ changes_text (codes "operation") d
operation d =
    behind_trimmed message_selection Message Changes (codes "changes") (text_of (codes "operation")) (text_of (codes "operation")) d refl
    (λ changes. text_trimmed message_selection Changes Scalar (codes "operation") changes refl)

of_diagnostic : (name : List ℕ) (d : Data) → member_shape Diagnostic name ≡ Some Scalar → diagnostic_text name (read d) ≡ diagnostic_text name d
of_diagnostic name d known = in_diagnostic (text_of name) d (λ inner. text_trimmed message_selection Diagnostic Scalar name inner known)

about : (d : Data) → (member_of (codes "diagnostic") (read d) >>= non_empty_text_of (codes "address"))
    ≡ (member_of (codes "diagnostic") d >>= non_empty_text_of (codes "address"))
about d = in_diagnostic (non_empty_text_of (codes "address")) d (λ inner. non_empty_text_trimmed message_selection Diagnostic Scalar (codes "address") inner refl)

associated : {A B C : Type 0} (f : A → Option B) (g : B → Option C) (o : Option A) → ((o >>= f) >>= g) ≡ (o >>= (λ a. f a >>= g))
associated f g None = refl
associated f g (Some a) = refl

address_in : (hook : Data) → (member_of (codes "resource") (trimmed message_selection Hook hook) >>= text_of (codes "addr"))
    ≡ (member_of (codes "resource") hook >>= text_of (codes "addr"))
address_in hook =
    behind_trimmed message_selection Hook Resource (codes "resource") (text_of (codes "addr")) (text_of (codes "addr")) hook refl
    (λ resource. text_trimmed message_selection Resource Scalar (codes "addr") resource refl)

address : (d : Data) → address_of (read d) ≡ address_of d
address d =
    associated (member_of (codes "resource")) (text_of (codes "addr")) (member_of (codes "hook") (read d))
    ∙ in_hook (λ hook. member_of (codes "resource") hook >>= text_of (codes "addr")) d address_in
    ∙ sym (associated (member_of (codes "resource")) (text_of (codes "addr")) (member_of (codes "hook") d))

-- ---- events

completed : (d : Data) (o : Option ℕ) → option_map (completed_after (read d)) o ≡ option_map (completed_after d) o
completed d None = refl
completed d (Some n) = rw (of_hook (codes "id_key") d refl) (rw (of_hook (codes "id_value") d refl) refl)

steps : (stage : Stage) (d : Data) → step_of stage (read d) ≡ step_of stage d
steps stage.Start d = rw (address d) (rw (of_hook (codes "action") d refl) (rw (of_hook (codes "id_value") d refl) refl))
steps stage.Progress d = rw (address d) (rw (of_hook (codes "action") d refl) (rw (seconds d) refl))
steps stage.Complete d = rw (address d) (rw (of_hook (codes "action") d refl) (rw (seconds d) (rw (completed d (seconds_of d)) refl)))
steps stage.Errored d = rw (address d) (rw (of_hook (codes "action") d refl) (rw (seconds d) refl))

provisioners : (stage : Stage) (d : Data) → provisioner_of stage (read d) ≡ provisioner_of stage d
provisioners stage.Start d = rw (address d) (rw (name d) refl)
provisioners stage.Progress d = rw (address d) (rw (name d) (rw (of_hook (codes "output") d refl) refl))
provisioners stage.Complete d = rw (address d) (rw (name d) refl)
provisioners stage.Errored d = rw (address d) (rw (name d) refl)

diagnostics : (t : List ℕ) (d : Data) → diagnostic_of t (read d) ≡ diagnostic_of t d
diagnostics t d =
    rw (of_diagnostic (codes "severity") d refl) (rw (of_diagnostic (codes "summary") d refl)
    (rw (of_diagnostic (codes "detail") d refl) (rw (about d) refl)))

events : (t : List ℕ) (d : Data) (k : Kind) → event_of t (read d) k ≡ event_of t d k
events t d kind.Version = rw (text (codes "ui") d refl) refl
events t d (kind.Apply stage) = rw (steps stage d) refl
events t d (kind.Refresh stage) = refl
events t d (kind.Provision stage) = rw (provisioners stage d) refl
events t d (kind.Ephemeral stage) = refl
events t d kind.Planned = refl
events t d kind.Summary = rw (operation d) refl
events t d kind.Diagnostic = rw (diagnostics t d) refl
events t d kind.Outputs = refl
events t d kind.Other = refl

-- ---- the message

kinds : (d : Data) → kind_of (read d) ≡ kind_of d
kinds d = ap (option_map kind_named) (text (codes "type") d refl)

moments : (d : Data) → second_of (read d) ≡ second_of d
moments d = rw (text (codes "@timestamp") d refl) refl

messages_at : (t : List ℕ) (d : Data) (o : Option Kind)
    → option_map {U = StatedMessage} (λ k. record { second = second_of (read d); event = event_of t (read d) k }) o
    ≡ option_map {U = StatedMessage} (λ k. record { second = second_of d; event = event_of t d k }) o
messages_at t d None = refl
messages_at t d (Some k) = rw (moments d) (rw (events t d k) refl)

messages : (t : List ℕ) (d : Data) → message_of t (read d) ≡ message_of t d
messages t d = rw (kinds d) (messages_at t d (kind_of d))

-- the message of a text whose tree was read
pub message_is : (t : List ℕ) (tree : Data) → IsTrimmedTree message_selection Message t tree → message_of t tree ≡ message_in t
message_is t tree whole = ap (message_of t) whole.2 ∙ messages t whole.0 ∙ ap (λ o. o >>= message_of t) (sym whole.1)
